use Rattle.std.proofs.Common.{◌++◌, length, refl, sym, ap, ◌∙◌, subst, append-nil, arith}
use Rattle.relative_path.specs.Components.{step_of, text_left}
use Rattle.relative_path.specs.NormalForm.{form_steps, Reduces}
use Rattle.relative_path.specs.Spans.{source_text}
use Rattle.relative_path.specs.Steps.{components}
use Rattle.relative_path.proofs.SlicesLemmas.{IsSuffix-from, IsSuffix-drop, IsSuffix-trans}
use Rattle.relative_path.proofs.NormalFormLemmas.{Reduces-refl, Reduces-step}
use Rattle.relative_path.proofs.SpansLemmas.{Cuts-first}
use Rattle.relative_path.proofs.normal_form.NormalForm.follow_all.Goals as goal

pub loop-component-init : goal.loop-component-init
loop-component-init c =
    let trim = c.without_leading_slashes.ensures in
    let start = c.new-left.ensures in
    let same = ap components start ∙ trim.same in
    record {
      sources = refl;
      suffix = rw start trim.suffix;
      no_slash = rw start trim.start;
      steps = rw same (Reduces-refl _);
      len = omega (arith, ap length same);
      room = refl;
    }

pub follow-requires-clause-cuts : goal.follow-requires-clause-cuts
follow-requires-clause-cuts c =
    let loop = c.loop-component in
    let text = c.text-text.result.now in
    let left = text_left loop.left in
    let component = step_of c.in-Some.component in
    let source = c.text-text.ensures ∙ ap (λ sources. source_text sources c.args.source) (sym loop.invariant.sources) in
    let cuts = Cuts-first loop.self.sources c.args.source text left component _ source loop.invariant.suffix
    (rw c.as_str.ensures at c.as_str.utf8) loop.invariant.no_slash c.in-Some.ensures.steps.0 in
    rw (c.as_str.ensures, c.as_str-in-loop-component.ensures) cuts

pub follow-requires-clause-room : goal.follow-requires-clause-room
follow-requires-clause-room c =
    let before = c.loop-component.invariant in
    let source = ap (λ x. length (components x)) c.text-text.ensures in
    omega (arith, c.requires.room, ap length c.in-Some.ensures.steps.0, source, before.len, before.room)

pub loop-component-preserved : goal.loop-component-preserved
loop-component-preserved c =
    let before = c.loop-component.invariant in
    let first = c.in-Some.ensures.steps.0 in
    let rest = c.in-Some.ensures.steps.1 in
    record {
      sources = c.follow.ensures.sources ∙ before.sources;
      suffix = IsSuffix-drop (IsSuffix-trans (IsSuffix-from before.suffix) (IsSuffix-from rest.suffix));
      no_slash = rest.no_leading_slash;
      steps = Reduces-step _ _ _ _ _ _ before.steps first c.follow.ensures.steps;
      len = omega (arith, c.follow.ensures.len, before.len, ap length first);
      room = c.follow.ensures.room ∙ before.room;
    }

pub returns-in_default-clause-steps : goal.returns-in_default-clause-steps
returns-in_default-clause-steps c =
    let text = c.text-text.result.now in
    let none = c.in_default.ensures.steps.0 in
    let self = form_steps c.loop-component.self in
    let whole = ap (λ cs. self ++ cs) none ∙ append-nil self in
    let steps = c.loop-component.invariant.steps in
    rw (← c.text-text.ensures) (subst (Reduces (form_steps c.args.self ++ components text)) whole steps)
