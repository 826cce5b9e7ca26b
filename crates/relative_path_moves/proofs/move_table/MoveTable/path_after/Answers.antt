-- The index has the number of the move whose old path leads where the file's path leads, if there is such a move.
use Rattle.std.proofs.Common.{ap, ◌∙◌}
use Rattle.relative_path_moves.specs.MoveTable.{olds_of}
use Rattle.relative_path_moves.specs.Moves.{moves_of, new_text}
use Rattle.relative_path_moves.proofs.MoveTableLemmas.{IsUnmoved-found, IsUnmoved-kept, IsPathAfter-found, IsPathAfter-kept, IsPathAfter-is, MovesFrom-found}
use Rattle.relative_path_moves.proofs.MovesLemmas.{one_move}
use Rattle.relative_path_moves.proofs.move_table.MoveTable.path_after.Goals as goal

pub returns-in-Some-clause-path : goal.returns-in-Some-clause-path
returns-in-Some-clause-path c = λ target.
    let table = rw c.self.view_is at c.self.invariant in
    let first = c.in-Some.ensures.found (olds_of (moves_of c.args.self.now)) _ table.olds c.in_ok-place.ensures.same in
    rw c.paths.ensures.new
    (IsPathAfter-is (moves_of c.args.self.now) _ _ target table.apart (IsPathAfter-found (moves_of c.args.self.now) _ c.in-Some.j first))

pub returns-in-Some-clause-kept : goal.returns-in-Some-clause-kept
returns-in-Some-clause-kept c = λ unmoved.
    let table = rw c.self.view_is at c.self.invariant in
    let first = c.in-Some.ensures.found (olds_of (moves_of c.args.self.now)) _ table.olds c.in_ok-place.ensures.same in
    absurd (IsUnmoved-found (moves_of c.args.self.now) _ c.in-Some.j first unmoved)

pub returns-in-Some-clause-text : goal.returns-in-Some-clause-text
returns-in-Some-clause-text c = λ j from.
    let moves = moves_of c.args.self.now in
    let table = rw c.self.view_is at c.self.invariant in
    let first = c.in-Some.ensures.found (olds_of moves) _ table.olds c.in_ok-place.ensures.same in
    let same = one_move moves _ c.in-Some.j j table.apart (MovesFrom-found moves _ c.in-Some.j first) from in
    c.paths.ensures.text ∙ ap (new_text c.args.self.now) same

pub returns-clause-text : goal.returns-clause-text
returns-clause-text c = λ j from.
    let moves = moves_of c.args.self.now in
    let table = rw c.self.view_is at c.self.invariant in
    let none = c.in-None.ensures.found (olds_of moves) _ table.olds c.in_ok-place.ensures.same in
    absurd (IsUnmoved-kept moves _ none j from)

pub returns-clause-path : goal.returns-clause-path
returns-clause-path c = λ target.
    let table = rw c.self.view_is at c.self.invariant in
    let none = c.in-None.ensures.found (olds_of (moves_of c.args.self.now)) _ table.olds c.in_ok-place.ensures.same in
    IsPathAfter-is (moves_of c.args.self.now) _ _ target table.apart (IsPathAfter-kept (moves_of c.args.self.now) _ none)
