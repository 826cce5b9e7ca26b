-- Theorems that a caller's proof may cite: on moves by their number, on components, and on lists.
use Rattle.std.proofs.Common.{◌≡◌, ◌≢◌, ℕ, ◌<◌, ◌≤◌, ◌+◌, List, [], ◌++◌, length, get_or, Result, IfErr, IsErrAnd}
use Rattle.std.specs.List.{AllZip}
use Rattle.relative_path.specs.RelativePath.{path_components}
use Rattle.relative_path.specs.Steps.{Step, components}
use Rattle.relative_path_moves.specs.declared.moves.Move as declared
use Rattle.relative_path_moves.specs.Moves.{Move, written_moves, move_at}
use Rattle.relmove_checks.specs.Moves.{move_of}
use Rattle.relmove_checks.proofs.AboveLemmas as above
use Rattle.relmove_checks.proofs.MovesLemmas as moves

-- ---- moves by their number

-- a move has the components of its paths
pub move_at-written : (moves : List declared.Move) (k : ℕ) (move : declared.Move) → k < length moves
    → move ≡ get_or moves k move
    → move_at (written_moves moves) k ≡ move_of (path_components move.old) (path_components move.new)
move_at-written = moves.move_at-written

-- and there are as many of the one as of the other
pub length-written : (moves : List declared.Move) → length (written_moves moves) ≡ length moves
length-written = moves.length-written

-- if the moves up to one are fine, and this one is too, the moves up to the next are fine
pub EachMove-next : (Fine : Move → Type 0) (moves : List declared.Move) (k : ℕ) (move : declared.Move) → k < length moves
    → move ≡ get_or moves k move → ((j : ℕ) → j < k → Fine (move_at (written_moves moves) j))
    → Fine (move_of (path_components move.old) (path_components move.new))
    → (j : ℕ) → j < k + 1 → Fine (move_at (written_moves moves) j)
EachMove-next = moves.EachMove-next

-- ---- components

-- the empty text has no component
pub components-nil : components [] ≡ []
components-nil = above.components-nil

-- equally long fronts of a list are equal
pub same_front : (front other rest more : List Step) → front ++ rest ≡ other ++ more → length front ≡ length other
    → front ≡ other
same_front = above.same_front

-- ---- lists and results

-- a list that isn't empty has an element
pub some_long : {X : Type 0} (xs : List X) → xs ≢ [] → 1 ≤ length xs
some_long = above.some_long

-- R holds of the elements at each place
pub AllZip-at : {A B : Type 0} (R : A → B → Type 0) (xs : List A) (ys : List B) (k : ℕ) (x : A) (y : B) → AllZip R xs ys
    → k < length xs → R (get_or xs k x) (get_or ys k y)
AllZip-at = above.AllZip-at

-- what holds of an error holds of a result that fails with it
pub IfErr-error : {T E : Type 0} (result : Result T E) (error : E) (P : E → Type 0) → IsErrAnd result (λ other. other ≡ error)
    → P error → IfErr result P
IfErr-error = moves.IfErr-error
