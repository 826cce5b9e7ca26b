-- Each move adds the directories above its old path. Those that are left are turned round.
use Rattle.std.proofs.Common.{◌<◌, Global, List, ap, arith, length, map, string_bytes, subst}
use Rattle.std.proofs.lemmas.Result.{IfOk-weaker}
use Rattle.relative_path.specs.Steps.{Step}
use Rattle.relative_path_moves.specs.Moves.{move_at, written_moves}
use Rattle.relmove_checks.proofs.ForCallers.{length-written, move_at-written}
use Rattle.relmove_steps.specs.Directories.{HasLeftBehind, IsDirectoryAbove, IsLeftBehindByMove}
use Rattle.relmove_steps.proofs.DirectoriesLemmas.{All-reverse, AreAllLeftBehind-reverse, HasLeftBehind-more}
use borrow.Author.Count.{below_more}
use Rattle.relmove_steps.proofs.directories.directories_emptied.Goals as goal

pub loop-a-preserved : goal.loop-a-preserved
loop-a-preserved c =
    let moves = written_moves c.args.moves.now in
    let k = c.loop-a.a-index in
    let before = map (string_bytes {Z = Global}) c.loop-a.left.keys in
    let now = map (string_bytes {Z = Global}) c.add_left.new.left.keys in
    let here = ap (λ move. move.old) (move_at-written c.args.moves.now k c.a-item.result c.loop-a-test.true c.a-item.is) in
    record {
      left = c.in_ok-add_left.ensures.left moves k (rw (length-written c.args.moves.now) c.loop-a-test.true) here
          c.loop-a.invariant.left;
      all = below_more (λ j. (directory : List Step) → IsDirectoryAbove (move_at moves j).old directory
          → HasLeftBehind c.args.table.now now directory) k
          (λ j l directory above.
          HasLeftBehind-more c.args.table.now before now directory c.in_ok-add_left.ensures.kept
          (c.loop-a.invariant.all j l directory above))
          (λ directory above.
          c.in_ok-add_left.ensures.all directory (subst (λ cs. IsDirectoryAbove cs directory) here above));
    }

pub returns-clause-left : goal.returns-clause-left
returns-clause-left c =
    let moves = written_moves c.args.moves.now in
    IfOk-weaker c.from_last.result _ _
    (λ texts is. rw is (All-reverse (λ text. IsLeftBehindByMove c.args.table.now moves (string_bytes text))
    c.loop-a.left.keys c.loop-a.invariant.left)) c.from_last.ensures.reversed

pub returns-clause-all : goal.returns-clause-all
returns-clause-all c =
    let table = c.args.table.now in
    let moves = written_moves c.args.moves.now in
    let last = c.loop-a-test.false in
    IfOk-weaker c.from_last.result _ _
    (λ texts is. rw is
    (AreAllLeftBehind-reverse table moves c.loop-a.left.keys
    (λ k l directory above.
    let within : k < length c.args.moves.now = rw length-written at l in
    c.loop-a.invariant.all k (omega (arith, within, last)) directory above))) c.from_last.ensures.reversed
