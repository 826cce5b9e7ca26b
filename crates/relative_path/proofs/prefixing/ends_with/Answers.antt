use Rattle.std.proofs.Common.{true≢false, sym, ◌∙◌}
use Rattle.relative_path.specs.Components.{components_left}
use Rattle.relative_path.proofs.PrefixingLemmas.{AgreesBack-taken, EndsWith-other}
use Rattle.relative_path.proofs.prefixing.ends_with.Goals as goal

pub returns-then-ne : goal.returns-then-ne
returns-then-ne c =
    let front = components_left c.next_back.new.self in
    let left = c.next_back-in-Some.ensures.steps in
    let last = c.in-Some.ensures.steps.0 in
    let other = sym c.ne.ensures ∙ c.if-ne.true in
    let not_found = EndsWith-other c.loop-component.invariant c.in-Some.component front _ left last other in
    (λ e. absurd (true≢false (sym e)), λ ends. absurd (not_found ends))

pub loop-component-preserved : goal.loop-component-preserved
loop-component-preserved c =
    let front = components_left c.next_back.new.self in
    let left = c.next_back-in-Some.ensures.steps in
    let last = c.in-Some.ensures.steps.0 in
    let same = sym c.ne.ensures ∙ c.if-ne.false in
    AgreesBack-taken c.loop-component.invariant c.in-Some.component front _ left last same
