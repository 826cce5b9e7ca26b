use Rattle.std.proofs.Common.{true≢false, refl, sym, ◌∙◌}
use Rattle.relative_path.specs.Components.{text_left}
use Rattle.relative_path.specs.Steps.{components}
use Rattle.relative_path.proofs.PrefixingLemmas.{Agrees-taken, Agrees-all, StartsWith-other}
use Rattle.relative_path.proofs.prefixing.text_after.Goals as goal

pub returns-then-ne-clause-found : goal.returns-then-ne-clause-found
returns-then-ne-clause-found c =
    let left = c.next-in-loop-component.ensures.steps in
    let first = c.in-Some.ensures.steps.0 in
    let other = sym c.ne.ensures ∙ c.if-ne.true in
    let not_found = StartsWith-other c.loop-component.invariant c.in-Some.component _ left first other in
    (λ e. absurd (true≢false (sym e)), λ starts. absurd (not_found starts))

pub loop-component-preserved : goal.loop-component-preserved
loop-component-preserved c =
    let left = c.next-in-loop-component.ensures.steps in
    let first = c.in-Some.ensures.steps.0 in
    let same = sym c.ne.ensures ∙ c.if-ne.false in
    Agrees-taken c.loop-component.invariant c.in-Some.component _ left first same

pub returns-clause-found : goal.returns-clause-found
returns-clause-found c =
    let all = Agrees-all c.loop-component.invariant c.in-None.ensures.steps.0 in
    (λ _. (components (text_left c.loop-component.left), all.0), λ _. refl)

pub returns-clause-text : goal.returns-clause-text
returns-clause-text c = rw c.as_str.ensures (Agrees-all c.loop-component.invariant c.in-None.ensures.steps.0).1

pub returns-clause-components : goal.returns-clause-components
returns-clause-components c = rw c.as_str.ensures (Agrees-all c.loop-component.invariant c.in-None.ensures.steps.0).0
