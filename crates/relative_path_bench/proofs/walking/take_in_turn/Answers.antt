use Rattle.std.proofs.Common.{get_or, subst, take_all}
use Rattle.std.proofs.lemmas.List.{take_more}
use Rattle.relative_path.specs.RelativePath.{path_text}
use Rattle.relative_path.specs.Components.{text_left}
use Rattle.relative_path_bench.specs.declared.walking.End.TheVariants.{Front}
use Rattle.relative_path_bench.specs.Walking.{TakesAt, TakesInTurn}
use Rattle.relative_path_bench.proofs.WalkingLemmas.{TakesInTurn-push, IsTakenInTurn-from}
use Rattle.relative_path_bench.proofs.walking.take_in_turn.Goals as goal
use Rattle.relative_path_bench.proofs.walking.take_in_turn.Goals.{in-Front, in-Back}

pub loop-end-preserved : goal.loop-end-preserved
loop-end-preserved c =
    let end = get_or c.args.ends.now c.loop-end.end-index Front in
    let takes : TakesAt end (text_left c.loop-end.walk) c.match-end.component (text_left c.match-end.walk) =
    elim c.match-end.branch [
      | in-Front w ↦ rw (w.in-Front.is, w.component-is, w.walk-is) w.next-component.ensures.steps
      | in-Back w ↦ rw (w.in-Back.is, w.component-is, w.walk-is) w.next_back-component.ensures.steps
    ] in
    let inside = c.loop-end-test.true in
    let more = take_more c.args.ends.now c.loop-end.end-index Front inside in
    rw (more, c.in_ok-push.ensures.items) (TakesInTurn-push _ _ _ _ _ _ _ c.loop-end.invariant takes)

pub returns : goal.returns
returns c =
    let whole = take_all c.loop-end.end-index c.args.ends.now c.loop-end-test.false in
    let turns =
    subst (λ es. TakesInTurn
    (path_text c.args.path) es c.loop-end.components.items
    (text_left c.loop-end.walk)) whole c.loop-end.invariant in
    rw c.as_relative_path-left.ensures (IsTakenInTurn-from _ _ _ _ turns)
