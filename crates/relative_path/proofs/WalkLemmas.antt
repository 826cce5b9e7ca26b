-- Where joined lists of steps lead, and which lists lead to the same places.
use Rattle.std.proofs.Common.{◌≡◌, ℕ, List, [], ◌∷◌, ◌++◌, length, map, take, Option, Some, None, option_and_then, option_map, IsSome, ◌↔◌, refl, sym, ap, ◌∙◌, arith, ◌+◌, zero, suc, replicate, length-take-le}
use Rattle.std.proofs.lemmas.List.{append_assoc, append-nil, length-append, length_push, take_at}
use Rattle.std.proofs.lemmas.Option.{none-some}
use Rattle.std.proofs.Math.Seq.{take-append-add}
use Rattle.relative_path.specs.Steps.{Step, cur, up, name}
use Rattle.relative_path.specs.Walk.{above, walk, IsSame, LeadsBelow, LeadsInTurn, StaysBelow}
use Rattle.relative_path.proofs.ListsLemmas.{IsSome-value}

-- the place where steps lead from a place, if there is one
abbrev walk_from : List Step → Option (List (List ℕ)) → Option (List (List ℕ))
walk_from cs = option_and_then (λ place. walk place cs)

pub walk-append : (base : List (List ℕ)) (cs ds : List Step)
    → walk base (cs ++ ds) ≡ option_and_then (λ place. walk place ds) (walk base cs)
walk-append base [] ds = refl
walk-append base (cur ∷ cs) ds = walk-append base cs ds
walk-append [] (up ∷ cs) ds = refl
walk-append (n ∷ ns) (up ∷ cs) ds = walk-append (take (length ns) (n ∷ ns)) cs ds
walk-append base (name n ∷ cs) ds = walk-append (base ++ n ∷ []) cs ds

-- if two lists in turn lead to a place, the first list does
pub IsSome-walk_front : (base : List (List ℕ)) (cs ds : List Step) → IsSome (walk base (cs ++ ds)) → IsSome (walk base cs)
IsSome-walk_front base cs ds some = front (walk base cs) (rw (walk-append base cs ds) at some)
  where
    front : (found : Option (List (List ℕ))) → IsSome (walk_from ds found) → IsSome found
    front None some = some
    front (Some place) some = refl

-- a name leads on from each place
pub IsSome-walk_name : (base : List (List ℕ)) (cs : List Step) (n : List ℕ)
    → IsSome (walk base cs) ↔ IsSome (walk base (cs ++ name n ∷ []))
IsSome-walk_name base cs n =
    (λ some. rw (walk-append base cs (name n ∷ [])) (onward (walk base cs) some), IsSome-walk_front base cs (name n ∷ []))
  where
    onward : (found : Option (List (List ℕ))) → IsSome found → IsSome (walk_from (name n ∷ []) found)
    onward None some = some
    onward (Some place) some = refl

-- names lead from a base down to the names below it
pub walk-names : (base ns : List (List ℕ)) → walk base (map name ns) ≡ Some (base ++ ns)
walk-names base [] = ap Some (sym (append-nil base))
walk-names base (n ∷ ns) = walk-names (base ++ n ∷ []) ns ∙ ap Some (append_assoc base (n ∷ []) ns)

-- the place above a name is the place where that name was entered
pub above-push : (base : List (List ℕ)) (n : List ℕ) → above (base ++ n ∷ []) ≡ Some base
above-push [] n = refl
above-push (m ∷ ms) n = ap Some (take_at (m ∷ ms) (n ∷ []) (length (ms ++ n ∷ [])) (omega (arith, length_push ms n)))

-- a place other than the top is the place above it and one name
pub above_name : (n : List ℕ) (ns : List (List ℕ))
    → (last : List ℕ) × (n ∷ ns ≡ take (length ns) (n ∷ ns) ++ last ∷ [])
above_name n [] = (n, refl)
above_name n (m ∷ ms) = let rest = above_name m ms in (rest.0, ap (λ x. n ∷ x) rest.1)

pub IsSame-refl : (cs : List Step) → IsSame cs cs
IsSame-refl cs = record { everywhere = λ base. refl }

pub IsSame-sym : (cs ds : List Step) → IsSame cs ds → IsSame ds cs
IsSame-sym cs ds same = record { everywhere = λ base. sym (same.everywhere base) }

pub IsSame-trans : (cs ds es : List Step) → IsSame cs ds → IsSame ds es → IsSame cs es
IsSame-trans cs ds es first second = record { everywhere = λ base. first.everywhere base ∙ second.everywhere base }

-- lists that lead to the same places do so from a place that may be missing
walk_from_same : (cs ds : List Step) → IsSame cs ds → (o : Option (List (List ℕ))) → walk_from cs o ≡ walk_from ds o
walk_from_same cs ds same None = refl
walk_from_same cs ds same (Some place) = same.everywhere place

pub IsSame-append_left : (bs cs ds : List Step) → IsSame cs ds → IsSame (bs ++ cs) (bs ++ ds)
IsSame-append_left bs cs ds same =
    record { everywhere = λ base. walk-append base bs cs ∙ walk_from_same cs ds same (walk base bs) ∙ sym (walk-append base bs ds) }

pub IsSame-append_right : (cs ds es : List Step) → IsSame cs ds → IsSame (cs ++ es) (ds ++ es)
IsSame-append_right cs ds es same =
    record { everywhere = λ base. walk-append base cs es ∙ ap (walk_from es) (same.everywhere base) ∙ sym (walk-append base ds es) }

-- a `.` changes nothing
pub IsSame-cur : (cs ds : List Step) → IsSame (cs ++ cur ∷ ds) (cs ++ ds)
IsSame-cur cs ds = IsSame-append_left cs (cur ∷ ds) ds (record { everywhere = λ base. refl })

-- a name and a `..` after it change nothing
pub IsSame-name_up : (cs ds : List Step) (n : List ℕ) → IsSame (cs ++ name n ∷ up ∷ ds) (cs ++ ds)
IsSame-name_up cs ds n =
    IsSame-append_left cs (name n ∷ up ∷ ds) ds (record { everywhere = λ base. ap (walk_from ds) (above-push base n) })

-- a list that leads where two joined lists lead also leads where the two lead in turn
pub LeadsInTurn-same : (cs ds es : List Step) → IsSame (cs ++ ds) es → LeadsInTurn cs ds es
LeadsInTurn-same cs ds es same = record { everywhere = λ base. sym (same.everywhere base) ∙ walk-append base cs ds }

-- the place above a place that is below another
above-below : (top : List (List ℕ)) (n : List ℕ) (ns : List (List ℕ))
    → above (top ++ n ∷ ns) ≡ Some (top ++ take (length ns) (n ∷ ns))
above-below [] n ns = refl
above-below (m ∷ ms) n ns =
    let len : length (ms ++ n ∷ ns) ≡ length (m ∷ ms) + length ns = omega (arith, length-append ms (n ∷ ns)) in
    ap (λ k. Some (take k ((m ∷ ms) ++ n ∷ ns))) len ∙ ap Some (take-append-add (m ∷ ms) (n ∷ ns) (length ns))

-- a list that leads from a base to a place leads to the same place below any other place
pub walk-below : (top base : List (List ℕ)) (cs : List Step) (place : List (List ℕ)) → walk base cs ≡ Some place
    → walk (top ++ base) cs ≡ Some (top ++ place)
walk-below top base [] place e = ap (option_map (λ names. top ++ names)) e
walk-below top base (cur ∷ cs) place e = walk-below top base cs place e
walk-below top [] (up ∷ cs) place e = absurd (none-some place e)
walk-below top (n ∷ ns) (up ∷ cs) place e =
    ap (walk_from cs) (above-below top n ns) ∙ walk-below top (take (length ns) (n ∷ ns)) cs place e
walk-below top base (name n ∷ cs) place e =
    ap (λ place. walk place cs) (append_assoc top base (n ∷ [])) ∙ walk-below top (base ++ n ∷ []) cs place e

-- as many `..` as a place has names lead from there back to the base
pub walk-replicate : (base : List (List ℕ)) (n : ℕ) (place : List (List ℕ)) → length place ≡ n
    → walk (base ++ place) (replicate n up) ≡ Some base
walk-replicate base zero [] count = ap Some (append-nil base)
walk-replicate base zero (p ∷ ps) count = absurd (omega (arith, count))
walk-replicate base (suc n) [] count = absurd (omega (arith, count))
walk-replicate base (suc n) (p ∷ ps) count =
    let one = walk-below base (p ∷ ps) (up ∷ []) (take (length ps) (p ∷ ps)) refl in
    let len = length-take-le (length ps) (p ∷ ps) (omega arith) in
    walk-append (base ++ p ∷ ps) (up ∷ []) (replicate n up) ∙ ap (option_and_then (λ q. walk q (replicate n up))) one
    ∙ walk-replicate base n (take (length ps) (p ∷ ps)) (omega (arith, len, count))

-- es leads to a place below cs, if it leads where cs and then ds lead, and ds has that place from the top
pub LeadsBelow-in_turn : (cs ds es : List Step) (place : List (List ℕ)) → LeadsInTurn cs ds es
    → walk [] ds ≡ Some place → LeadsBelow cs place es
LeadsBelow-in_turn cs ds es place turn is = record {
  everywhere = λ base. turn.everywhere base ∙ onward (walk base cs);
} where
  onward : (found : Option (List (List ℕ))) → walk_from ds found ≡ option_map (λ top. top ++ place) found
  onward None = refl
  onward (Some top) = ap (λ base. walk base ds) (sym (append-nil top)) ∙ walk-below top [] ds place is

-- es stays below cs, if it leads where cs and then ds lead, and ds has a place from the top
pub StaysBelow-in_turn : (cs ds es : List Step) → LeadsInTurn cs ds es → IsSome (walk [] ds) → StaysBelow cs es
StaysBelow-in_turn cs ds es turn some =
    let (place, is) = IsSome-value (walk [] ds) some in
    record { place = place; below = LeadsBelow-in_turn cs ds es place turn is }

-- ds leads where cs and then the names of the place lead, if ds leads to that place below cs
pub IsSame-below : (cs ds : List Step) (place : List (List ℕ)) → LeadsBelow cs place ds → IsSame ds (cs ++ map name place)
IsSame-below cs ds place below = record {
  everywhere = λ base. below.everywhere base ∙ onward (walk base cs) ∙ sym (walk-append base cs (map name place));
} where
  onward : (found : Option (List (List ℕ))) → option_map (λ top. top ++ place) found ≡ walk_from (map name place) found
  onward None = refl
  onward (Some top) = sym (walk-names top place)
