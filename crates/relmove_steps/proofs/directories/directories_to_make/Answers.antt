-- Each move adds the directories above its new path. Each of them is made where the moves take it.
use Rattle.std.proofs.Common.{◌≡◌, ◌<◌, ◌++◌, [], ◌∷◌, List, Global, map, length, string_bytes, sym, ap, subst, ◌∙◌, append_assoc, append-nil, arith}
use Rattle.std.specs.List.{AllZip}
use Rattle.std.specs.Map.Iter.{deref}
use Rattle.std.proofs.lemmas.Map.Iter.{rest_all, rest_more}
use Rattle.relative_path.specs.Normalizing.{IsNormalTextOf}
use Rattle.relative_path.specs.Steps.{Step}
use Rattle.relative_path_moves.specs.Moves.{move_at, written_moves}
use Rattle.relative_path_places.specs.PlaceIndex.{IsNoneAt}
use Rattle.relmove_checks.proofs.ForCallers.{length-written, move_at-written}
use Rattle.relmove_steps.specs.Directories.{HaveTextOf, IsDirectoryAbove, IsTextTakenTo}
use Rattle.relmove_steps.proofs.DirectoriesLemmas.{AllZip-IsTextTakenTo-next, AreMissing-ordered, HasDirectory-normal, HaveTextOf-more, IsTextTakenTo-here}
use borrow.Author.Count.{below_more}
use Rattle.relmove_steps.proofs.directories.directories_to_make.Goals as goal

pub loop-a-preserved : goal.loop-a-preserved
loop-a-preserved c =
    let moves = written_moves c.args.moves.now in
    let k = c.loop-a.a-index in
    let within : k < length moves = rw (length-written c.args.moves.now) c.loop-a-test.true in
    let text = c.normal-new.result.now in
    let here = ap (λ move. move.new)
    (move_at-written c.args.moves.now k c.a-item.result c.loop-a-test.true c.a-item.is) in
    let is : IsNormalTextOf (move_at moves k).new text = rw here c.normal-new.ensures in
    let seen = c.view.ensures.text in
    let before = map (string_bytes {Z = Global}) c.loop-a.missing.keys in
    let now = map (string_bytes {Z = Global}) c.add_missing.new.missing.keys in
    record {
      sound = λ paths has.
          c.in_ok-add_missing.ensures.sound moves paths k has within (rw seen is) (c.loop-a.invariant.sound paths has);
      complete = λ paths has.
          below_more (λ j. (directory : List Step) → IsDirectoryAbove (move_at moves j).new directory → IsNoneAt paths directory
          → HaveTextOf now directory) k
          (λ j l directory above none.
          HaveTextOf-more before now directory c.in_ok-add_missing.ensures.kept
          (c.loop-a.invariant.complete paths has j l directory above none))
          (λ directory above none.
          c.in_ok-add_missing.ensures.complete paths directory has
          (rw seen (HasDirectory-normal (move_at moves k).new directory text is above)) none);
    }

pub loop-directory-preserved : goal.loop-directory-preserved
loop-directory-preserved c =
    let before = c.loop-directory.invariant in
    let left = c.loop-directory.directory-iterator in
    let rest = c.next.new.self in
    let directory = c.in-Some.directory.now in
    let next = rest_more deref left rest c.next.result c.in-Some.directory c.in-Some.is c.next.ensures.steps in
    let seen = c.new.ensures ∙ c.deref.ensures in
    let text = c.into_string.ensures.text ∙ c.into_relative_path_buf.ensures.text in
    record {
      taken = before.taken ++ directory ∷ [];
      split = append_assoc before.taken (directory ∷ []) rest ∙ ap (λ more. before.taken ++ more) (sym next) ∙ before.split;
      are = rw c.in_ok-push.ensures.items
          (AllZip-IsTextTakenTo-next c.args.news.now before.taken c.loop-directory.made.items directory c.into_string.result
          before.are
          (IsTextTakenTo-here c.args.news.now (string_bytes directory) _ c.in_ok-path.path (string_bytes c.into_string.result) seen text
          c.in_ok-path.ensures));
    }

pub returns : goal.returns
returns c = λ paths has.
    let moves = written_moves c.args.moves.now in
    let keys = c.loop-a.missing.keys in
    let so_far = c.loop-directory.invariant in
    let none = rest_all deref c.loop-directory.directory-iterator c.next.new.self c.next.result c.in-None.is c.next.ensures.steps in
    let all : so_far.taken ≡ keys =
    sym (append-nil so_far.taken) ∙ ap (λ rest. so_far.taken ++ rest) (sym none) ∙ so_far.split
    ∙ c.into_iter-directory-iterator.ensures.into_iter_gives.0 in
    let last = c.loop-a-test.false in
    record {
      missing = map (string_bytes {Z = Global}) keys;
      are_missing = AreMissing-ordered moves paths keys c.len.ensures.ordered (c.loop-a.invariant.sound paths has)
          (λ k l. let within : k < length c.args.moves.now = rw length-written at l in
          c.loop-a.invariant.complete paths has k (omega (arith, within, last)));
      taken = subst (λ taken. AllZip (IsTextTakenTo c.args.news.now) (map (string_bytes {Z = Global}) taken)
          (map (string_bytes {Z = Global}) c.loop-directory.made.items)) all so_far.are;
    }
