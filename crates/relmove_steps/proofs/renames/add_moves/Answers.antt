-- Each turn does the next move.
use Rattle.std.proofs.Common.{◌<◌, ◌+◌, [], Global, get_or, length, map, take, string_bytes, subst, sym, ◌∙◌, arith}
use Rattle.std.proofs.lemmas.List.{length-map}
use Rattle.relative_path_moves.specs.Moves.{Move, written_moves, move_at}
use Rattle.relmove_checks.proofs.ForCallers.{EachMove-next, length-written, move_at-written}
use Rattle.relmove_steps.specs.NewFiles.{StaysThere}
use Rattle.relmove_steps.specs.Actions.{DoesMove, staged_names, rename_texts}
use Rattle.relmove_steps.proofs.CarryLemmas.{DoesMove-among}
use Rattle.relmove_steps.proofs.NamesLemmas.{staged_names-all, staged_names-next}
use Rattle.relmove_steps.proofs.OnceLemmas.{OnlyTheseLeave-more_moves, StaysThere-move, count_more, move_at-take_more}
use Rattle.relmove_steps.specs.Directories.{LeavesTo}
use Rattle.relmove_steps.proofs.DirectoriesLemmas.{LeavesTo-among, LeavesTo-here}
use borrow.Author.Count.{below_more}
use Rattle.relmove_steps.proofs.renames.add_moves.Goals as goal

pub loop-number-preserved : goal.loop-number-preserved
loop-number-preserved c =
    let actions = rename_texts c.loop-number.renames in
    let more = rename_texts c.add_move.new.renames in
    let moves = c.args.moves.now in
    let staging = c.args.staging.now in
    let within : c.loop-number.number < length c.args.staging.now = rw c.requires.count c.loop-number-test.true in
    let all = written_moves moves in
    let k = c.loop-number.number in
    let item = c.index-moves-number.result in
    let is = c.index-moves-number.is in
    let here = move_at-written moves k item c.loop-number-test.true is in
    let within_all : k < length all = rw (length-written moves) c.loop-number-test.true in
    record {
      kept = c.in_ok-add_move.ensures.kept;
      moved = λ paths has.
          EachMove-next (DoesMove paths more) moves k item c.loop-number-test.true is
          (λ j l. DoesMove-among actions more c.in_ok-add_move.ensures.among paths (move_at (written_moves moves) j)
          (c.loop-number.invariant.moved paths has j l))
          (c.in_ok-add_move.ensures.moved paths has);
      only = λ paths only.
          c.in_ok-add_move.ensures.only (written_moves moves) paths c.loop-number.number
          (rw (length-written moves) c.loop-number-test.true)
          (move_at-written moves k item c.loop-number-test.true is)
          (c.loop-number.invariant.only paths only);
      left = staged_names-next (staged_names (rename_texts c.args.renames.now)) (staged_names actions) (staged_names more)
          c.args.staging.now c.loop-number.number c.index-staging-number.result c.deref.result.now within
          c.index-staging-number.is c.deref.ensures c.loop-number.invariant.left c.in_ok-add_move.ensures.left;
      texts = c.in_ok-add_move.ensures.texts ∙ c.loop-number.invariant.texts;
      so_far = λ none.
          let long = count_more all k within_all in
          c.in_ok-add_move.ensures.only (take (k + 1) all) [] k (omega (arith, long))
          (move_at-take_more all k within_all ∙ here)
          (OnlyTheseLeave-more_moves all k within_all [] actions (c.loop-number.invariant.so_far none));
      once = λ apart none.
          c.in_ok-add_move.ensures.once
          (subst (λ (move : Move). StaysThere move.old actions) here
          (StaysThere-move all k within_all actions apart (c.loop-number.invariant.texts ∙ none.texts)
          (c.loop-number.invariant.so_far none)))
          (c.loop-number.invariant.once apart none);
      named = below_more (λ j. LeavesTo more (move_at (written_moves moves) j).old (get_or (map string_bytes staging) j []))
          c.loop-number.number
          (λ j l. LeavesTo-among actions more c.in_ok-add_move.ensures.among (move_at (written_moves moves) j).old
          (get_or (map string_bytes staging) j []) (c.loop-number.invariant.named j l))
          (LeavesTo-here more moves item staging k c.index-staging-number.result c.deref.result.now
          c.loop-number-test.true is within c.index-staging-number.is c.deref.ensures c.in_ok-add_move.ensures.named);
    }

pub returns-clause-left : goal.returns-clause-left
returns-clause-left c =
    let count = c.requires.count in
    let last = c.loop-number-test.false in
    staged_names-all (staged_names (rename_texts c.args.renames.now)) (staged_names (rename_texts c.loop-number.renames))
    c.args.staging.now c.loop-number.number (omega (arith, count, last)) c.loop-number.invariant.left

pub returns-clause-named : goal.returns-clause-named
returns-clause-named c =
    let moves = c.args.moves.now in
    let last = c.loop-number-test.false in
    record {
      count = length-map c.args.staging.now (string_bytes {Z = Global}) ∙ c.requires.count ∙ sym (length-written moves);
      each = λ k l.
          let within : k < length moves = rw length-written at l in
          c.loop-number.invariant.named k (omega (arith, within, last));
    }
