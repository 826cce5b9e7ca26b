-- The first two moves with the same old path, found one move after another.
use Rattle.std.proofs.Common.{◌≡◌, ℕ, ◌<◌, ◌≤◌, ◌+◌, ◌⊎◌, List, length, take, Option, Some, None, MatchOption, IfSome, inl, inr, [], ◌∙◌, arith}
use Rattle.std.proofs.lemmas.Bool.{cases_lt}
use Rattle.std.proofs.lemmas.List.{get_or-take}
use Rattle.relative_path.proofs.ForCallers.{IsSame-sym}
use Rattle.relative_path_moves.specs.Moves.{Move, move_at, HaveSameOld, AreApart, IsFirstPair}
use Rattle.relative_path_places.specs.PlaceIndex.{path_at, IsFirstAt}
use Rattle.relative_path_moves.specs.MoveTable.{olds_of}
use Rattle.relative_path_moves.proofs.MovesLemmas.{old_at}

-- no two of the first n moves have the same old path, or the pair is the first two that have
abbrev pub HasPair : List Move → ℕ → Option (ℕ × ℕ) → Type 0
HasPair moves n None = (a b : ℕ) → b < n → ¬ HaveSameOld moves a b
HasPair moves n (Some pair) = (pair.1 < n) × HaveSameOld moves pair.0 pair.1
    × ((a b : ℕ) → b < n → HaveSameOld moves a b → (pair.0 < a) ⊎ (pair.0 ≡ a) × (pair.1 ≤ b))

-- no pair ends at the next move
HasPair-kept : (moves : List Move) (n : ℕ) (pair : Option (ℕ × ℕ)) → ((a : ℕ) → ¬ HaveSameOld moves a n)
    → HasPair moves n pair → HasPair moves (n + 1) pair
HasPair-kept moves n None none has = λ a b l same. elim (cases_lt b n) [
  | inl before ↦ has a b before same
  | inr last ↦ let is_n : b ≡ n = omega arith in none a (rw is_n at same)
]
HasPair-kept moves n (Some (j, k)) none (l, pair, least) = (
  omega arith,
  pair,
  λ a b below same. elim (cases_lt b n) [
    | inl before ↦ least a b before same
    | inr last ↦ let is_n : b ≡ n = omega arith in absurd (none a (rw is_n at same))
  ],
)

-- the first pair comes before those that end at the next move
HasPair-earlier : (moves : List Move) (n first j k : ℕ) → ((a : ℕ) → HaveSameOld moves a n → first ≤ a) → j ≤ first
    → HasPair moves n (Some (j, k)) → HasPair moves (n + 1) (Some (j, k))
HasPair-earlier moves n first j k from le (l, pair, least) = (
  omega arith,
  pair,
  λ a b below same. elim (cases_lt b n) [
    | inl before ↦ least a b before same
    | inr last ↦ let is_n : b ≡ n = omega arith in
        let after = from a (rw is_n at same) in elim (cases_lt j a) [
          | inl less ↦ inl less
          | inr no_less ↦ inr (omega (arith, after), omega arith)
        ]
  ],
)

-- the first pair ends at the next move
HasPair-later : (moves : List Move) (n first : ℕ) (pair : Option (ℕ × ℕ)) → HaveSameOld moves first n
    → ((a : ℕ) → HaveSameOld moves a n → first ≤ a) → IfSome pair (λ later. first < later.0) → HasPair moves n pair
    → HasPair moves (n + 1) (Some (first, n))
HasPair-later moves n first pair here from later has = (
  omega arith,
  here,
  λ a b below same. elim (cases_lt b n) [
    | inl before ↦ inl (comes pair later has a b before same)
    | inr last ↦ let is_n : b ≡ n = omega arith in
        let after = from a (rw is_n at same) in elim (cases_lt first a) [
          | inl less ↦ inl less
          | inr no_less ↦ inr (omega (arith, after), omega arith)
        ]
  ],
) where
  comes : (pair : Option (ℕ × ℕ)) → IfSome pair (λ later. first < later.0) → HasPair moves n pair
      → (a b : ℕ) → b < n → HaveSameOld moves a b → first < a
  comes None later has a b before same = absurd (has a b before same)
  comes (Some (j, k)) later (l, held, least) a b before same = elim (least a b before same) [
    | inl above ↦ omega (arith, later, above)
    | inr at ↦ omega (arith, later, at.0)
  ]

-- the first pair with one more move, whose old path has this move first
pub HasPair-next : (moves : List Move) (n first : ℕ) (pair next : Option (ℕ × ℕ)) → n < length moves
    → IsFirstAt (take (n + 1) (olds_of moves)) (move_at moves n).old first → HasPair moves n pair
    → (n ≤ first → next ≡ pair) → IfSome pair (λ earlier. earlier.0 ≤ first → next ≡ pair)
    → MatchOption pair (first < n → next ≡ Some (first, n))
    (λ later. first < n → first < later.0 → next ≡ Some (first, n))
    → HasPair moves (n + 1) next
HasPair-next moves n first pair next within is has one earlier later =
    tell pair has one earlier later (cases_lt first n) where
      -- the old path of a move up to the next
      old : (j : ℕ) → j < n + 1 → path_at (take (n + 1) (olds_of moves)) j ≡ (move_at moves j).old
      old j l = get_or-take (n + 1) (olds_of moves) j [] l ∙ old_at moves j (omega (arith, within, l))

      from : (a : ℕ) → HaveSameOld moves a n → first ≤ a
      from a pair = elim (cases_lt a first) [
        | inl less ↦ absurd (is.first a less (rw (old a (omega (arith, pair.before)))
            (IsSame-sym pair.same)))
        | inr le ↦ le
      ]

      here : first < n → HaveSameOld moves first n
      here l =
          let same = rw (old first (omega (arith, l))) at is.same in
          record { before = l; within = within; same = IsSame-sym same }

      none : n ≤ first → (a : ℕ) → ¬ HaveSameOld moves a n
      none le a pair = omega (arith, le, from a pair, pair.before)

      tell : (pair : Option (ℕ × ℕ)) → HasPair moves n pair → (n ≤ first → next ≡ pair)
          → IfSome pair (λ earlier. earlier.0 ≤ first → next ≡ pair)
          → MatchOption pair (first < n → next ≡ Some (first, n))
          (λ later. first < n → first < later.0 → next ≡ Some (first, n))
          → (first < n) ⊎ (n ≤ first) → HasPair moves (n + 1) next
      tell pair has one earlier later (inr le) = rw (one le) (HasPair-kept moves n pair (none le) has)
      tell None has one earlier later (inl l) = rw (later l) (HasPair-later moves n first None (here l) from tt has)
      tell (Some (j, k)) has one earlier later (inl l) = elim (cases_lt first j) [
        | inl less ↦ rw (later l less) (HasPair-later moves n first (Some (j, k)) (here l) from less has)
        | inr no_less ↦ rw (earlier no_less) (HasPair-earlier moves n first j k from no_less has)
      ]

-- the first pair of all moves
pub HasPair-all : (moves : List Move) (n : ℕ) (pair : Option (ℕ × ℕ)) → length moves ≤ n → HasPair moves n pair
    → MatchOption pair (AreApart moves) (λ pair. IsFirstPair moves pair.0 pair.1)
HasPair-all moves n None all has = λ a b same. has a b (omega (arith, all, same.within)) same
HasPair-all moves n (Some pair) all has = record {
  pair = has.1;
  first = λ a b same. has.2 a b (omega (arith, all, same.within)) same;
}
