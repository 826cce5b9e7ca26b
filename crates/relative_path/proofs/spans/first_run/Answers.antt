use Rattle.std.proofs.Common.{All, subst, sym, refl, List}
use Rattle.relative_path.specs.Spans.{CutsName, IsFirstRun}
use Rattle.relative_path.specs.declared.spans.Span.{Span}
use Rattle.relative_path.proofs.SpansLemmas.{IsFirstRun-one, IsFirstRun-through}
use Rattle.relative_path.proofs.spans.first_run.Goals as goal

pub loop-name-init : goal.loop-name-init
loop-name-init c sources cut =
    let first = c.in_ok-first.first.now in
    let rest = c.in_ok-first.rest.now in
    let joined = c.in_ok-first.ensures.cases.0 in
    subst (λ (names : List Span). IsFirstRun sources names first rest) (sym joined)
    (IsFirstRun-one sources first rest (subst (All (CutsName sources)) joined cut))

pub loop-name-preserved : goal.loop-name-preserved
loop-name-preserved c sources cut =
    let run = c.loop-name.run in
    let name = c.in-Some.name.now in
    let rest = c.in-Some.rest.now in
    let meets = c.if-is_followed_by.ensures.0 refl in
    IsFirstRun-through sources c.args.names.now run name rest
    (subst (λ (left : List Span). IsFirstRun sources c.args.names.now run left) c.in-Some.ensures.cases.0
    (c.loop-name.invariant sources cut))
    meets.0 meets.1
