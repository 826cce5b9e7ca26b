-- The nearest move above a place, found from the place upwards, and where it takes a file.
use Rattle.std.proofs.Common.{◌≡◌, ◌≢◌, ℕ, ◌<◌, ◌≤◌, ◌+◌, List, [], ◌∷◌, ◌++◌, length, map, get_or, take, drop, Option, Some, None, unwrap_or, IsSome, inl, inr, refl, sym, ap, ◌∙◌, subst, arith, append_assoc, append-nil, take_at, take-append-drop, true≢false, option_and_then, IfSome, Result, Ok, Err, IfOk}
use Rattle.std.proofs.lemmas.Bool.{cases_lt, cases_order}
use Rattle.std.proofs.lemmas.List.{append_cancel_left, length-map, length-append, length-take-le, map-append, take-map}
use Rattle.relative_path.specs.Steps.{Step, name, components}
use Rattle.relative_path.specs.Walk.{IsSame, walk, place_of}
use Rattle.relative_path.specs.Relating.{IsReachable}
use Rattle.relative_path.specs.Naming.{last_name}
use Rattle.relative_path.specs.Normalizing.{AreNames, IsNormalText, IsNormalTextOf}
use Rattle.relative_path.proofs.ForCallers.{IsSame-refl, IsSame-trans, IsSame-append_right, IsSame-last_name, last_name-name, kept-name, walk-append, walk-names, components-place, IsSame-sym, IsSame-place}
use Rattle.relative_path_places.specs.Places.{directory}
use Rattle.relative_path_places.specs.PlaceIndex.{path_at, IsFirstAt, IsNoneAt}
use Rattle.relative_path.specs.RelativePath.{path_components}
use Rattle.std.proofs.lemmas.Simd.{map-map}
use Rattle.relative_path_moves.specs.declared.moves.Move as declared
use Rattle.relative_path_moves.specs.declared.tree_moves.Side.{Side}
use Rattle.relative_path_moves.specs.declared.tree_moves.Side.TheVariants.{Old, New}
use Rattle.relative_path_moves.specs.Moves.{Move, move_at, written_moves, AreNamed, AreApart}
use Rattle.relative_path_moves.specs.MoveTable.{olds_of}
use Rattle.relative_path_moves.specs.TreeMoves.{TakesAlong, IsNearest, IsTakenTo, IsLeftInPlace, IsTreePath, AtTreePath, NearestUpTo, by_side, path_on}
use Rattle.relative_path_moves.proofs.MovesLemmas.{old_at, move_at-map}
use Rattle.relative_path_places.proofs.ForCallers.{IsNormalTextOf-same}
use Rattle.relative_path_moves.proofs.LeadingLemmas.{last_name_of, last_name_same, some_of}

-- ---- the walk up from a place

-- the front begins the list, and no old path leads to a longer front
pub record IsAbove (olds : List (List Step)) (cs front : List Step) : Type 0 where
  pub under : List Step
  pub split : front ++ under ≡ cs
  pub none : (m : ℕ) → length front < m → m ≤ length cs → IsNoneAt olds (take m cs)

-- the front, by how many components it has
front_of : (olds : List (List Step)) (cs front : List Step) (above : IsAbove olds cs front) (m : ℕ)
    → length front ≡ m → take m cs ≡ front
front_of olds cs front above m count =
    ap (take m) (sym above.split) ∙ take_at front above.under m count

-- the first old path that is found is the nearest
pub NearestUpTo-found : (olds : List (List Step)) (cs front : List Step) (j : ℕ) → IsAbove olds cs front
    → IsFirstAt olds front j → NearestUpTo olds cs (length cs) (Some j)
NearestUpTo-found olds cs front j above first = (
  length front,
  omega (arith, ap length above.split, length-append front above.under),
  subst (λ ds. IsFirstAt olds ds j) (sym (front_of olds cs front above (length front) refl)) first,
  above.none,
)

-- the text is the normal text of the old path that is found
pub IsNormalTextOf-found : (moves : List Move) (text : List ℕ) (j : ℕ) → IsNormalText text
    → IsFirstAt (olds_of moves) (components text) j → IsNormalTextOf (move_at moves j).old text
IsNormalTextOf-found moves text j normal first =
    let within : j < length moves = omega (arith, first.within, length-map moves (λ move. move.old)) in
    IsNormalTextOf-same (move_at moves j).old text normal (IsSame-sym (rw (old_at moves j within) at first.same))

-- ---- the nearest move of a place

-- the first names of a place
take-names : (place : List (List ℕ)) (n : ℕ) → take n (map name place) ≡ map name (take n place)
take-names place n = take-map name n place

-- the old path of a move that takes a place along leads where the first names of the place lead
IsSame-top : (moves : List Move) (place : List (List ℕ)) (j : ℕ) (below : List (List ℕ))
    (takes : TakesAlong moves place j below) → IsSame (take (length takes.top) (map name place)) (path_at (olds_of moves) j)
IsSame-top moves place j below takes =
    let top : take (length takes.top) (map name place) ≡ map name takes.top =
    take-names place (length takes.top)
    ∙ ap (map name) (ap (take (length takes.top)) takes.down ∙ take_at takes.top below (length takes.top) refl) in
    rw (top, old_at moves j takes.within) (IsSame-sym (IsSame-place takes.old))

-- how many names a place has
count-names : (moves : List Move) (place : List (List ℕ)) (j : ℕ) (below : List (List ℕ))
    (takes : TakesAlong moves place j below) → length place ≡ length takes.top + length below
count-names moves place j below takes = ap length takes.down ∙ length-append takes.top below

-- if no old path leads to a front of the place, no move takes the place along
not_taken : (moves : List Move) (place : List (List ℕ))
    → NearestUpTo (olds_of moves) (map name place) (length (map name place)) None → (j : ℕ) (below : List (List ℕ))
    → ¬ TakesAlong moves place j below
not_taken moves place none j below takes =
    let count = count-names moves place j below takes in
    none (length takes.top) (omega (arith, count, length-map place name)) j
    (omega (arith, takes.within, length-map moves (λ move. move.old))) (IsSame-top moves place j below takes)

-- the nearest of the old paths is that of the nearest move
pub IsNearest-found : (moves : List Move) (place : List (List ℕ)) (j : ℕ)
    → NearestUpTo (olds_of moves) (map name place) (length (map name place)) (Some j)
    → (below : List (List ℕ)) × IsNearest moves place j below
IsNearest-found moves place j (m, within, first, longer) =
    (drop m place, record { takes = takes; nearest = nearest }) where
      j_within : j < length moves
      j_within = omega (arith, first.within, length-map moves (λ move. move.old))

      old : place_of (move_at moves j).old ≡ Some (take m place)
      old =
          let same = rw (old_at moves j j_within) at first.same in
          sym (same.everywhere []) ∙ ap place_of (take-names place m) ∙ walk-names [] (take m place)

      takes : TakesAlong moves place j (drop m place)
      takes = record { within = j_within; top = take m place; old = old; down = sym (take-append-drop m place) }

      nearest : (k : ℕ) (others : List (List ℕ)) → TakesAlong moves place k others → length (drop m place) ≤ length others
      nearest k others other = elim (cases_lt (length others) (length (drop m place))) [
        | inl less ↦
            let count = count-names moves place k others other in
            let here = count-names moves place j (drop m place) takes in
            let most = length-take-le m place (omega (arith, within, length-map place name)) in
            absurd (longer (length other.top) (omega (arith, less, count, here, most))
            (omega (arith, count, length-map place name)) k
            (omega (arith, other.within, length-map moves (λ move. move.old))) (IsSame-top moves place k others other))
        | inr no_less ↦ no_less
      ]

-- no list leads from above the top to a place
pub unreachable-place : (f t : List Step) → place_of f ≡ None → place_of t ≢ None → IsReachable f t → ⊥
unreachable-place f t none some (r, leads) =
    some (sym (leads.everywhere []) ∙ walk-append [] f r ∙ ap (option_and_then (λ place. walk place r)) none)

-- ---- the target of a file

-- no move takes the file along
pub IsLeftInPlace-kept : (moves : List Move) (file : List Step) (text : List ℕ) → IsNormalTextOf file text
    → NearestUpTo (olds_of moves) (components text) (length (components text)) None → IsLeftInPlace moves file
IsLeftInPlace-kept moves file text normal none place j below leads takes =
    not_taken moves place (rw (components-place normal leads) at none) j below takes

-- the move takes the file along; below the old path the names lead on
pub record IsTaken (moves : List Move) (file : List Step) (text top : List ℕ) (j : ℕ) : Type 0 where
  pub below : List (List ℕ)
  pub split : components text ≡ components top ++ map name below
  pub taken : IsTakenTo moves file ((move_at moves j).new ++ map name below)

pub IsTaken-found : (moves : List Move) (file : List Step) (text top : List ℕ) (j : ℕ) → IsNormalTextOf file text
    → IsSome (place_of (components text)) → IsNormalTextOf (move_at moves j).old top
    → NearestUpTo (olds_of moves) (components text) (length (components text)) (Some j) → IsTaken moves file text top j
IsTaken-found moves file text top j normal some normal_top nearest =
    tell (place_of file) refl (rw (normal.same.everywhere []) some) where
      tell : (found : Option (List (List ℕ))) → place_of file ≡ found → IsSome found → IsTaken moves file text top j
      tell None leads some = absurd (true≢false (sym some))
      tell (Some place) leads some =
          let names = components-place normal leads in
          let (below, is) = IsNearest-found moves place j (rw names at nearest) in
          record {
            below = below;
            split = names ∙ ap (map name) is.takes.down ∙ map-append name is.takes.top below
                ∙ ap (λ ds. ds ++ map name below) (sym (components-place normal_top is.takes.old));
            taken = record { place = place; leads = leads; move = j; below = below; nearest = is; new = refl };
          }

-- what holds of a value follows for what holds of the value of a result
pub IfOk-all : {T E : Type 0} {P Q : T → Type 0} (result : Result T E) → ((x : T) → P x → Q x) → IfOk result P
    → IfOk result Q
IfOk-all (Ok x) all holds = all x holds
IfOk-all (Err e) all holds = tt

-- the names below the old path
pub IsTaken-rest : (moves : List Move) (file : List Step) (text top : List ℕ) (j : ℕ) (rest : List Step)
    → (taken : IsTaken moves file text top j) → components text ≡ components top ++ rest → rest ≡ map name taken.below
IsTaken-rest moves file text top j rest taken split =
    append_cancel_left (components top) rest (map name taken.below) (sym split ∙ taken.split)

-- names are names
pub AreNames-map : (ns : List (List ℕ)) → AreNames (map name ns)
AreNames-map [] = tt
AreNames-map (n ∷ ns) = AreNames-map ns

-- the number of the nearest move is that of a move
pub within-nearest : (moves : List Move) (cs : List Step) (j : ℕ) → NearestUpTo (olds_of moves) cs (length cs) (Some j)
    → j < length moves
within-nearest moves cs j (m, within, first, longer) = omega (arith, first.within, length-map moves (λ move. move.old))

-- the path of the file after the moves
pub taken-path : (moves : List Move) (file : List Step) (text top new now : List ℕ) (j : ℕ) (rest : List Step)
    → IsTaken moves file text top j → components text ≡ components top ++ rest → IsNormalTextOf (move_at moves j).new new
    → IsNormalTextOf (components new ++ rest) now
    → (target : List Step) × IsTakenTo moves file target × IsNormalTextOf target now
taken-path moves file text top new now j rest taken split is_new normal =
    let names = IsTaken-rest moves file text top j rest taken split in
    let there = IsSame-trans (IsSame-append_right (map name taken.below) is_new.same) (rw names at normal.same) in (
      (move_at moves j).new ++ map name taken.below,
      taken.taken,
      IsNormalTextOf-same ((move_at moves j).new ++ map name taken.below) now normal.normal_text there,
    )

-- a file that is taken along has a file name after the moves
named_path : (moves : List Move) (file target : List Step) → AreNamed moves → IsTakenTo moves file target
    → (n : List ℕ) × (last_name target ≡ Some n)
named_path moves file target named taken = elim (last_name_of taken.below) [
  | inl empty ↦
      let (n, is) =
      some_of (last_name (move_at moves taken.move).new)
      (λ none. named taken.move taken.nearest.takes.within (inr none)) in (
        n,
        ap last_name (taken.new ∙ ap (λ ns. (move_at moves taken.move).new ++ map name ns) empty
            ∙ append-nil (move_at moves taken.move).new) ∙ is,
      )
  | inr (ms, n, joined) ↦ (
    n,
    ap last_name
        (taken.new ∙ ap (λ ns. (move_at moves taken.move).new ++ ns) (ap (map name) joined ∙ map-append name ms (n ∷ []))
        ∙ sym (append_assoc (move_at moves taken.move).new (map name ms) (name n ∷ [])))
        ∙ last_name-name ((move_at moves taken.move).new ++ map name ms) n,
  )
]

-- the directory of its normal path is its directory
pub directory-path : (moves : List Move) (file target : List Step) (now after : List ℕ) → AreNamed moves
    → IsTakenTo moves file target → IsNormalTextOf target now → IsNormalTextOf (directory (components now)) after
    → IsNormalTextOf (directory target) after
directory-path moves file target now after named taken normal is =
    let (n, has) = named_path moves file target named taken in
    let (ds, ends, same) =
    last_name_same (directory target) (components now) n normal.normal_text.normal
    (IsSame-trans (IsSame-sym (IsSame-last_name target n has)) normal.same) in
    let kept_now : directory (components now) ≡ ds = ap directory ends ∙ kept-name ds n in
    IsNormalTextOf-same (directory target) after is.normal_text (IsSame-trans same (rw kept_now at is.same))

-- a file has one place
one_place : (file : List Step) (one other : List (List ℕ)) → place_of file ≡ Some one → place_of file ≡ Some other
    → one ≡ other
one_place file one other is is_other = ap (λ found. unwrap_or found []) (sym is ∙ is_other)

-- two lists of names that lead on to one place, and are equally long, are equal, and so are the fronts before them
same_fronts : (tops others below more : List (List ℕ)) → tops ++ below ≡ others ++ more → length below ≡ length more
    → (tops ≡ others) × (below ≡ more)
same_fronts tops others below more is equal =
    let count : length tops ≡ length others =
    omega (arith, ap length is, length-append tops below, length-append others more, equal) in
    let front = sym (take_at tops below (length others) count) ∙ ap (take (length others)) is
    ∙ take_at others more (length others) refl in
    (front, append_cancel_left others below more (subst (λ top. top ++ below ≡ others ++ more) front is))

-- two moves that take one place along, with equally many names below their old paths, are one move
one_taken : (moves : List Move) (place : List (List ℕ)) (j k : ℕ) (below more : List (List ℕ)) → AreApart moves
    → TakesAlong moves place j below → TakesAlong moves place k more → length below ≡ length more
    → (j ≡ k) × (below ≡ more)
one_taken moves place j k below more apart one other equal =
    let (tops, names) = same_fronts one.top other.top below more (sym one.down ∙ other.down) equal in
    let same : IsSame (move_at moves j).old (move_at moves k).old =
    IsSame-trans (IsSame-place one.old) (rw tops (IsSame-sym (IsSame-place other.old))) in (
      elim (cases_order j k) [
        | inl is ↦ is
        | inr (inl less) ↦ absurd (apart j k (record { before = less; within = other.within; same = same }))
        | inr (inr more) ↦ absurd (apart k j (record { before = more; within = one.within; same = IsSame-sym same }))
      ],
      names,
    )

-- if no two moves have the same old path, a file has one target
pub IsTreePath-only : (moves : List Move) (file one other : List Step) → AreApart moves → IsTreePath moves file one
    → IsTreePath moves file other → other ≡ one
IsTreePath-only moves file one other apart (inl is) (inl is_other) =
    let places = one_place file is_other.place is.place is_other.leads is.leads in
    let takes = subst (λ place. TakesAlong moves place is_other.move is_other.below) places is_other.nearest.takes in
    let least = is.nearest.nearest is_other.move is_other.below takes in
    let least_other =
    is_other.nearest.nearest is.move is.below
    (subst (λ place. TakesAlong moves place is.move is.below) (sym places) is.nearest.takes) in
    let (move, names) =
    one_taken moves is.place is_other.move is.move is_other.below is.below apart takes is.nearest.takes
    (omega (arith, least, least_other)) in
    is_other.new ∙ ap (λ k. (move_at moves k).new ++ map name is_other.below) move
    ∙ ap (λ ns. (move_at moves is.move).new ++ map name ns) names ∙ sym is.new
IsTreePath-only moves file one other apart (inl is) (inr (left, e)) =
    absurd (left is.place is.move is.below is.leads is.nearest.takes)
IsTreePath-only moves file one other apart (inr (left, e)) (inl is) =
    absurd (left is.place is.move is.below is.leads is.nearest.takes)
IsTreePath-only moves file one other apart (inr (left, e)) (inr (left_other, f)) = f ∙ sym e

-- what holds of the target of a list, and of each list that leads to the same, holds of the target of such a list
pub AtTreePath-same : (moves : List Move) (f g : List Step) (P Q : List Step → Type 0) → IsSame f g
    → ((t u : List Step) → IsSame t u → P t → Q u) → AtTreePath moves f P → AtTreePath moves g Q
AtTreePath-same moves f g P Q same goes_over (target, inl taken, holds) = (
  target,
  inl (record {
    place = taken.place;
    leads = sym (same.everywhere []) ∙ taken.leads;
    move = taken.move;
    below = taken.below;
    nearest = taken.nearest;
    new = taken.new;
  }),
  goes_over target target (IsSame-refl target) holds,
)
AtTreePath-same moves f g P Q same goes_over (target, inr (left, is), holds) = (
  g,
  inr (λ place j below leads takes. left place j below (same.everywhere [] ∙ leads) takes, refl),
  goes_over f g same (subst P is holds),
)

-- what holds of every list that leads where the normal text of the target leads holds of the target
pub AtTreePath-text : (moves : List Move) (file : List Step) (text : List ℕ) {P : List Step → Type 0}
    → AtTreePath moves file (λ target. IsNormalTextOf target text)
    → ((target : List Step) → IsSame target (components text) → P target) → AtTreePath moves file P
AtTreePath-text moves file text (target, is, normal) all = (target, is, all target normal.same)

pub IfSome-all : {T : Type 0} {P Q : T → Type 0} (found : Option T) → ((x : T) → P x → Q x) → IfSome found P
    → IfSome found Q
IfSome-all (Some x) all holds = all x holds
IfSome-all None all holds = tt

-- ---- moves by their old or by their new paths

-- the other path of a move
abbrev other : Side → Side
other Old = New
other New = Old

-- the move that begins with this path
abbrev pub move_by : Side → declared.Move → Move
move_by side move = record {
  old = path_components (path_on side move);
  new = path_components (path_on (other side) move);
}

pub by_side-map : (side : Side) (moves : List declared.Move) → map (move_by side) moves ≡ by_side side (written_moves moves)
by_side-map Old moves = refl
by_side-map New moves = sym (map-map _ _ moves)

-- the new path of a move of a table
pub written_move-new : (table : List Move) (moves : List declared.Move) (j : ℕ) (none : declared.Move)
    (move : declared.Move) → written_moves moves ≡ table → j < length table → move ≡ get_or moves j none
    → path_components move.new ≡ (move_at table j).new
written_move-new table moves j none move is within here =
    ap (λ (move : declared.Move). path_components move.new) here
    ∙ sym (ap (λ (move : Move). move.new) (move_at-map _ moves none j (rw (sym is, length-map moves _) at within)))
    ∙ ap (λ table. (move_at table j).new) is
