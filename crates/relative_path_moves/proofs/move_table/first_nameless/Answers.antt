-- A move lacks a file name if `file_name` of one of its paths is `None`.
use Rattle.std.proofs.Common.{inl, inr}
use Rattle.relative_path_moves.proofs.MovesLemmas.{nameless, named, named-next, IsFirstNameless-here}
use Rattle.relative_path_moves.proofs.move_table.first_nameless.Goals.{then-is_none-via-then-is_none, then-is_none-via-else-is_none+then-is_none-2}
use Rattle.relative_path_moves.proofs.move_table.first_nameless.Goals as goal

pub loop-k-preserved : goal.loop-k-preserved
loop-k-preserved c =
    let old = named _ _ _ c.file_name.ensures.text c.is_none.ensures c.if-is_none.false in
    let new = named _ _ _ c.file_name-else-is_none.ensures.text c.is_none-else-is_none.ensures c.if-is_none-2.false in
    named-next c.args.moves.now _ c.loop-k.k c.loop-k-test.true c.loop-k.invariant old new

pub returns-then-is_none : goal.returns-then-is_none
returns-then-is_none c = IsFirstNameless-here c.args.moves.now _ c.loop-k.k c.loop-k-test.true c.loop-k.invariant
    (elim c.then-is_none.branch [
      | then-is_none-via-then-is_none w ↦
          inl (nameless _ _ _ c.file_name.ensures.text c.is_none.ensures w.if-is_none.true)
      | then-is_none-via-else-is_none+then-is_none-2 w ↦
          inr (nameless _ _ _ w.file_name-else-is_none.ensures.text w.is_none-else-is_none.ensures w.if-is_none-2.true)
    ])
