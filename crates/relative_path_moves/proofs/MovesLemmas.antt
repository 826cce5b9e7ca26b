-- The one target of a place, moves made of other values, and the first move without a file name.
use Rattle.std.proofs.Common.{◌≡◌, ◌≢◌, ℕ, ◌<◌, ◌+◌, ◌⊎◌, List, [], ◌∷◌, ◌++◌, length, map, take, get_or, not, is_some, Bool, true, false, Bor, true≢false, Option, Some, None, inl, inr, refl, sym, ap, ap₂, subst, ◌∙◌, arith}
use Rattle.std.proofs.lemmas.Bool.{cases_lt, cases_order}
use Rattle.std.proofs.lemmas.List.{get_or-map, length-map, map_push, take_more}
use Rattle.std.proofs.lemmas.Option.{none-some}
use Rattle.std.specs.Option.{option_copied}
use Rattle.relative_path.specs.Steps.{Step}
use Rattle.relative_path.specs.Naming.{file_name_of}
use Rattle.relative_path.specs.RelativePath.{path_text, path_components}
use Rattle.relative_path.specs.declared.path.RelativePath.{RelativePath}
use Rattle.relative_path.proofs.ForCallers.{IsSame-sym, IsSame-trans}
use Rattle.relative_path_moves.specs.declared.moves.Move as declared
use Rattle.relative_path_moves.specs.Moves.{Move, LacksFileName, IsFirstNameless, moves_of, paths_of, written_moves, move_at, AreApart, MovesFrom, IsPathAfter}
use Rattle.relative_path_places.specs.PlaceIndex.{path_at}
use Rattle.relative_path_moves.specs.MoveTable.{olds_of}

-- ---- one target of a place

-- if no two moves have the same old path, at most one move has a place as its old path
pub one_move : (moves : List Move) (place : List Step) (j k : ℕ) → AreApart moves → MovesFrom moves place j
    → MovesFrom moves place k → j ≡ k
one_move moves place j k apart first second = elim (cases_order j k) [
  | inl same ↦ same
  | inr (inl less) ↦ absurd (apart j k
      (record { before = less; within = second.within; same = IsSame-trans (IsSame-sym first.same) second.same }))
  | inr (inr more) ↦ absurd (apart k j
      (record { before = more; within = first.within; same = IsSame-trans (IsSame-sym second.same) first.same }))
]

-- then a place has one target
pub IsPathAfter-only : (moves : List Move) (place one other : List Step) → AreApart moves → IsPathAfter moves place one
    → IsPathAfter moves place other → other ≡ one
IsPathAfter-only moves place one other apart (inl (j, from, e)) (inl (k, from_2, f)) =
    f ∙ ap (λ k. (move_at moves k).new) (one_move moves place k j apart from_2 from) ∙ sym e
IsPathAfter-only moves place one other apart (inl (j, from, e)) (inr (none, f)) = absurd (none j from)
IsPathAfter-only moves place one other apart (inr (none, e)) (inl (k, from, f)) = absurd (none k from)
IsPathAfter-only moves place one other apart (inr (none, e)) (inr (none_2, f)) = f ∙ sym e

-- ---- moves made of other values

-- a move by its number
pub move_at-map : {A : Type 0} (f : A → Move) (xs : List A) (none : A) (k : ℕ) → k < length xs
    → move_at (map f xs) k ≡ f (get_or xs k none)
move_at-map f xs none k l = get_or-map f xs k none _ l

pub length-olds_of : {A : Type 0} (f : A → Move) (xs : List A) → length (olds_of (map f xs)) ≡ length xs
length-olds_of f xs = length-map (map f xs) _ ∙ length-map xs f

-- an old path by its number
pub old_at : (moves : List Move) (k : ℕ) → k < length moves → path_at (olds_of moves) k ≡ (move_at moves k).old
old_at moves k l = get_or-map (λ move. move.old) moves k _ [] l

-- the old paths up to the next
take_more-olds_of : {A : Type 0} (f : A → Move) (xs : List A) (none : A) (k : ℕ) → k < length xs
    → take (k + 1) (olds_of (map f xs)) ≡ take k (olds_of (map f xs)) ++ (f (get_or xs k none)).old ∷ []
take_more-olds_of f xs none k l =
    take_more (olds_of (map f xs)) k [] (rw (length-olds_of f xs) l)
    ∙ ap (λ path. take k (olds_of (map f xs)) ++ path ∷ [])
    (old_at (map f xs) k (rw (length-map xs f) l) ∙ ap (λ move. move.old) (move_at-map f xs none k l))

-- what is known of the old paths before a move and of that move's old path is known of the old paths up to it
pub olds_of-next : {A : Type 0} (P : List (List Step) → List Step → Type 0) (f : A → Move) (xs : List A) (none : A)
    (k : ℕ) → k < length xs
    → P (take k (olds_of (map f xs)) ++ (f (get_or xs k none)).old ∷ []) (f (get_or xs k none)).old
    → P (take (k + 1) (olds_of (map f xs))) (move_at (map f xs) k).old
olds_of-next P f xs none k l holds = rw (take_more-olds_of f xs none k l, move_at-map f xs none k l) holds

-- the same for the value with that number
pub olds_of-here : {A : Type 0} (P : List (List Step) → List Step → Type 0) (f : A → Move) (xs : List A) (x : A)
    (k : ℕ) → k < length xs → x ≡ get_or xs k x → P (take k (olds_of (map f xs)) ++ (f x).old ∷ []) (f x).old
    → P (take (k + 1) (olds_of (map f xs))) (move_at (map f xs) k).old
olds_of-here P f xs x k l is holds =
    olds_of-next P f xs x k l (subst (λ y. P (take k (olds_of (map f xs)) ++ (f y).old ∷ []) (f y).old) is holds)

-- the move from the first path of a pair to the second
abbrev pub move_of_pair : RelativePath × RelativePath → Move
move_of_pair pair = record { old = path_components pair.0; new = path_components pair.1 }

-- the paths of moves, up to the next
pub paths_of-next : (pairs : List (RelativePath × RelativePath)) (none : RelativePath × RelativePath) (k : ℕ)
    (moves : List declared.Move) (move : declared.Move) → k < length pairs → map paths_of moves ≡ take k pairs
    → move.old ≡ (get_or pairs k none).0 → move.new ≡ (get_or pairs k none).1
    → map paths_of (moves ++ move ∷ []) ≡ take (k + 1) pairs
paths_of-next pairs none k moves move within before old new =
    map_push paths_of moves move ∙ ap (λ paths. paths ++ paths_of move ∷ []) before
    ∙ ap (λ paths. take k pairs ++ paths ∷ []) (ap₂ pair_of old new) ∙ sym (take_more pairs k none within)
  where
    pair_of : RelativePath → RelativePath → RelativePath × RelativePath
    pair_of old new = (old, new)

-- the moves that have these paths
pub written_moves-paths : (moves : List declared.Move) → written_moves moves ≡ moves_of (map paths_of moves)
written_moves-paths [] = refl
written_moves-paths (move ∷ moves) = ap (λ rest. move_of_pair (paths_of move) ∷ rest) (written_moves-paths moves)

-- if `file_name` returns `None`, the path has no file name
pub nameless : (found : Option (Bor (List ℕ))) (lacks : Bool) (name : Option (List ℕ)) → option_copied found ≡ name
    → is_some found ≡ not lacks → lacks ≡ true → name ≡ None
nameless None lacks name e is lacking = sym e
nameless (Some n) lacks name e is lacking = absurd (true≢false (is ∙ ap not lacking))

-- if `file_name` returns a name, the path has that file name
pub named : (found : Option (Bor (List ℕ))) (lacks : Bool) (name : Option (List ℕ)) → option_copied found ≡ name
    → is_some found ≡ not lacks → lacks ≡ false → name ≢ None
named None lacks name e is has = λ none. absurd (true≢false (sym (ap not has) ∙ sym is))
named (Some n) lacks name e is has = λ none. none-some n.now (sym none ∙ sym e)

-- if a move has its file names and so have all before it, all up to it have
pub named-next : (paths : List (RelativePath × RelativePath)) (none : RelativePath × RelativePath) (k : ℕ)
    → k < length paths → ((j : ℕ) → j < k → ¬ LacksFileName (move_at (moves_of paths) j))
    → file_name_of (path_text (get_or paths k none).0) ≢ None → file_name_of (path_text (get_or paths k none).1) ≢ None
    → (j : ℕ) → j < k + 1 → ¬ LacksFileName (move_at (moves_of paths) j)
named-next paths none k within before old new j l lacks = elim (cases_lt j k) [
  | inl less ↦ before j less lacks
  | inr no_less ↦
      let is_k : j ≡ k = omega arith in
      let here = rw (is_k, move_at-map _ paths none k within) at lacks in
      elim here [
        | inl lacks_old ↦ old lacks_old
        | inr lacks_new ↦ new lacks_new
      ]
]

-- the first move without a file name
pub IsFirstNameless-here : (paths : List (RelativePath × RelativePath)) (none : RelativePath × RelativePath) (k : ℕ)
    → k < length paths → ((j : ℕ) → j < k → ¬ LacksFileName (move_at (moves_of paths) j))
    → (file_name_of (path_text (get_or paths k none).0) ≡ None)
    ⊎ (file_name_of (path_text (get_or paths k none).1) ≡ None)
    → IsFirstNameless (moves_of paths) k
IsFirstNameless-here paths none k within before lacks = record {
  within = rw (length-map paths _) within;
  lacks = rw (move_at-map _ paths none k within) lacks;
  first = before;
}
