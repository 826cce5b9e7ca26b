-- Moves with their written paths, one after another.
use Rattle.std.proofs.Common.{◌≡◌, ℕ, ◌<◌, ◌≤◌, ◌+◌, List, length, get_or, Result, Ok, Err, IfErr, IsErrAnd, sym, ap, ◌∙◌, arith}
use Rattle.std.proofs.lemmas.List.{get_or-map, length-map}
use Rattle.relative_path.specs.RelativePath.{path_components}
use Rattle.relative_path_moves.specs.declared.moves.Move as declared
use Rattle.relative_path_moves.specs.Moves.{Move, written_moves, move_at}
use Rattle.relmove_checks.specs.declared.refusal.Refusal.{Refusal}
use Rattle.relmove_checks.specs.Moves.{move_of, EachMove}
use Rattle.relmove_checks.specs.Refusals.{IsOfFirst}
use borrow.Author.Count.{below_more}

-- a move by its number
pub move_at-written : (moves : List declared.Move) (k : ℕ) (move : declared.Move) → k < length moves
    → move ≡ get_or moves k move
    → move_at (written_moves moves) k ≡ move_of (path_components move.old) (path_components move.new)
move_at-written moves k move within is =
    get_or-map _ moves k move _ within
    ∙ ap (λ (move : declared.Move). move_of (path_components move.old) (path_components move.new)) (sym is)

pub length-written : (moves : List declared.Move) → length (written_moves moves) ≡ length moves
length-written moves = length-map moves _

module _ (Fine : Move → Type 0) (moves : List declared.Move) (k : ℕ) (move : declared.Move) (within : k < length moves)
    (is : move ≡ get_or moves k move) (before : (j : ℕ) → j < k → Fine (move_at (written_moves moves) j))
  where
    -- the moves up to the next are fine
    pub EachMove-next : Fine (move_of (path_components move.old) (path_components move.new))
        → (j : ℕ) → j < k + 1 → Fine (move_at (written_moves moves) j)
    EachMove-next here =
        below_more (λ j. Fine (move_at (written_moves moves) j)) k before (rw (move_at-written moves k move within is) here)

    -- the next move is the first that isn't
    pub IsOfFirst-here : (Refused : ℕ → Move → Refusal → Type 0) (refusal : Refusal)
        → Refused k (move_of (path_components move.old) (path_components move.new)) refusal
        → IsOfFirst Fine Refused (written_moves moves) refusal
    IsOfFirst-here Refused refusal here = record {
      number = k;
      within = rw (length-written moves) within;
      before = before;
      here = rw (move_at-written moves k move within is) here;
    }

-- all moves are fine
pub EachMove-all : (Fine : Move → Type 0) (paths : List declared.Move) (k : ℕ) → length paths ≤ k
    → ((j : ℕ) → j < k → Fine (move_at (written_moves paths) j)) → EachMove Fine (written_moves paths)
EachMove-all Fine paths k all each = λ j l. each j (let l_2 : j < length paths = rw length-written at l in omega arith)

-- what holds of an error holds of a result that fails with it
pub IfErr-error : {T E : Type 0} (result : Result T E) (error : E) (P : E → Type 0) → IsErrAnd result (λ other. other ≡ error)
    → P error → IfErr result P
IfErr-error (Ok x) error P is holds = tt
IfErr-error (Err other) error P is holds = rw is holds
