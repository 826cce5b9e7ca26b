-- Each turn takes the last component off the reference.
use Rattle.std.proofs.Common.{◌≡◌, ◌≢◌, subst, ◌∷◌, [], ◌++◌, ◌∙◌, sym, ap, length, length-append, arith}
use Rattle.relative_path.specs.Components.{components_left, step_of}
use Rattle.relative_path_moves.proofs.LeadingLemmas.{IsBack-cur, IsBack-up, IsBack-name_up, IsBack-name, IsBack-other, last-same, last-other}
use Rattle.relative_path_moves.proofs.leading.before_reference.Goals as goal

pub loop-component-preserved-in-CurDir : goal.loop-component-preserved-in-CurDir
loop-component-preserved-in-CurDir c =
    let last = rw c.in-CurDir.is at c.in-Some.ensures.steps.0 in
    let count = ap length last ∙ length-append (components_left c.next_back.new.self) _ in
    record {
      back = IsBack-cur _ _ _ _ _ _ c.loop-component.invariant.back last;
      fits = omega (arith, count, c.loop-component.invariant.fits);
    }

pub loop-component-preserved-in-ParentDir : goal.loop-component-preserved-in-ParentDir
loop-component-preserved-in-ParentDir c =
    let last = rw c.in-ParentDir.is at c.in-Some.ensures.steps.0 in
    let count = ap length last ∙ length-append (components_left c.next_back.new.self) _ in
    record {
      back = IsBack-up _ _ _ _ _ _ _ c.loop-component.invariant.back last (omega arith);
      fits = omega (arith, count, c.loop-component.invariant.fits);
    }

pub loop-component-preserved-then-climb-gt0 : goal.loop-component-preserved-then-climb-gt0
loop-component-preserved-then-climb-gt0 c =
    let last = rw c.in-Normal.is at c.in-Some.ensures.steps.0 in
    let count = ap length last ∙ length-append (components_left c.next_back.new.self) _ in
    record {
      back = IsBack-name_up _ _ _ _ _ _ _ _ c.loop-component.invariant.back last (omega (arith, c.if-climb-gt0.true));
      fits = omega (arith, count, c.loop-component.invariant.fits);
    }

pub returns-then-ne-clause-none : goal.returns-then-ne-clause-none
returns-then-ne-clause-none c =
    let step = ap step_of c.in-Normal-2.is in
    let last = subst (λ s. components_left c.loop-component.reference_left ≡ components_left c.next_back.new.self ++ s ∷ [])
    step c.in-Some.ensures.steps.0 in
    let other =
    last-other c.next_back-in-Normal-2.result c.in-Some.component _ _ c.next_back-in-Normal-2.ensures.steps
    (sym c.ne.ensures ∙ c.if-ne.true) in
    IsBack-other _ _ _ _ _ _ _ c.loop-component.invariant.back last (omega (arith, c.if-climb-gt0.false))
    (λ less. subst (λ s. components_left c.loop-component.left ≢ less ++ s ∷ []) step (other less))

pub loop-component-preserved : goal.loop-component-preserved
loop-component-preserved c =
    let step = ap step_of c.in-Normal-2.is in
    let last = subst (λ s. components_left c.loop-component.reference_left ≡ components_left c.next_back.new.self ++ s ∷ [])
    step c.in-Some.ensures.steps.0 in
    let target_last =
    subst (λ s. components_left c.loop-component.left ≡ components_left c.next_back-in-Normal-2.new.self ++ s ∷ []) step
    (last-same c.next_back-in-Normal-2.result c.in-Some.component _ _ c.next_back-in-Normal-2.ensures.steps
    (sym c.ne.ensures ∙ c.if-ne.false)) in
    let count = ap length last ∙ length-append (components_left c.next_back.new.self) _ in
    record {
      back = IsBack-name _ _ _ _ _ _ _ _ c.loop-component.invariant.back last (omega (arith, c.if-climb-gt0.false))
          target_last;
      fits = omega (arith, count, c.loop-component.invariant.fits);
    }
