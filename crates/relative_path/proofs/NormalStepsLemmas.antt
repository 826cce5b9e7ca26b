-- Normal lists of steps: their parts, where they lead, and that no two of them lead to the same places.
use Rattle.std.proofs.Common.{◌≡◌, ℕ, zero, suc, ◌-◌, ◌<◌, ◌≤◌, Bool, true, false, List, [], ◌∷◌, ◌++◌, length, take, map, replicate, Some, None, refl, sym, ap, ◌∙◌, append-nil, arith, length-take-le, take_all, take_at, take-take, ◌≢◌, subst, inl, inr}
use Rattle.std.proofs.lemmas.List.{append_cancel_left, length-replicate}
use Rattle.relative_path.specs.Steps.{Step, cur, up, name}
use Rattle.relative_path.specs.Walk.{walk, IsSame}
use Rattle.relative_path.specs.Normalizing.{AreNames, IsNormal, climb}
use Rattle.relative_path.proofs.WalkLemmas.{IsSame-sym, walk-names}
use Rattle.relative_path.proofs.ListsLemmas.{last_view}

-- ---- the parts of a normal list

-- the names of a list, without its other steps
abbrev pub names_of : List Step → List (List ℕ)
names_of [] = []
names_of (cur ∷ cs) = names_of cs
names_of (up ∷ cs) = names_of cs
names_of (name n ∷ cs) = n ∷ names_of cs

pub AreNames-push_name : (cs : List Step) (n : List ℕ) → AreNames cs → AreNames (cs ++ name n ∷ [])
AreNames-push_name [] n names = tt
AreNames-push_name (cur ∷ cs) n names = absurd names
AreNames-push_name (up ∷ cs) n names = absurd names
AreNames-push_name (name m ∷ cs) n names = AreNames-push_name cs n names

pub AreNames-map : (names : List (List ℕ)) → AreNames (map name names)
AreNames-map [] = tt
AreNames-map (n ∷ ns) = AreNames-map ns

pub IsNormal-push_name : (cs : List Step) (n : List ℕ) → IsNormal cs → IsNormal (cs ++ name n ∷ [])
IsNormal-push_name [] n normal = tt
IsNormal-push_name (cur ∷ cs) n normal = absurd normal
IsNormal-push_name (up ∷ cs) n normal = IsNormal-push_name cs n normal
IsNormal-push_name (name m ∷ cs) n normal = AreNames-push_name cs n normal

-- a list of names doesn't end in `..`
pub AreNames-not_up : (cs : List Step) → AreNames (cs ++ up ∷ []) → ⊥
AreNames-not_up [] names = names
AreNames-not_up (cur ∷ cs) names = names
AreNames-not_up (up ∷ cs) names = names
AreNames-not_up (name n ∷ cs) names = AreNames-not_up cs names

pub IsNormal-push_up_after_up : (cs : List Step) → IsNormal (cs ++ up ∷ []) → IsNormal ((cs ++ up ∷ []) ++ up ∷ [])
IsNormal-push_up_after_up [] normal = tt
IsNormal-push_up_after_up (cur ∷ cs) normal = absurd normal
IsNormal-push_up_after_up (up ∷ cs) normal = IsNormal-push_up_after_up cs normal
IsNormal-push_up_after_up (name n ∷ cs) normal = absurd (AreNames-not_up cs normal)

pub AreNames-take : (k : ℕ) (cs : List Step) → AreNames cs → AreNames (take k cs)
AreNames-take zero cs names = tt
AreNames-take (suc k) [] names = tt
AreNames-take (suc k) (cur ∷ cs) names = names
AreNames-take (suc k) (up ∷ cs) names = names
AreNames-take (suc k) (name n ∷ cs) names = AreNames-take k cs names

-- a prefix of a normal list is normal
pub IsNormal-take : (k : ℕ) (cs : List Step) → IsNormal cs → IsNormal (take k cs)
IsNormal-take zero cs normal = tt
IsNormal-take (suc k) [] normal = tt
IsNormal-take (suc k) (cur ∷ cs) normal = normal
IsNormal-take (suc k) (up ∷ cs) normal = IsNormal-take k cs normal
IsNormal-take (suc k) (name n ∷ cs) normal = AreNames-take k cs normal

pub IsNormal-append_left : (cs ds : List Step) → IsNormal (cs ++ ds) → IsNormal cs
IsNormal-append_left cs ds normal = rw (← take_at cs ds (length cs) refl) (IsNormal-take (length cs) (cs ++ ds) normal)

-- a normal list without its last step is normal
pub IsNormal-front : (cs : List Step) (c : Step) → IsNormal (cs ++ c ∷ []) → IsNormal cs
IsNormal-front cs c normal = IsNormal-append_left cs (c ∷ []) normal

AreNames-not_cur : (cs : List Step) → AreNames (cs ++ cur ∷ []) → ⊥
AreNames-not_cur [] names = names
AreNames-not_cur (cur ∷ cs) names = names
AreNames-not_cur (up ∷ cs) names = names
AreNames-not_cur (name n ∷ cs) names = AreNames-not_cur cs names

-- a normal list doesn't end in `.`
pub IsNormal-not_cur : (cs : List Step) → IsNormal (cs ++ cur ∷ []) → ⊥
IsNormal-not_cur [] normal = normal
IsNormal-not_cur (cur ∷ cs) normal = normal
IsNormal-not_cur (up ∷ cs) normal = IsNormal-not_cur cs normal
IsNormal-not_cur (name n ∷ cs) normal = AreNames-not_cur cs normal

-- a normal list that doesn't end in a name stays normal with one more `..`
pub IsNormal-push_up : (cs : List Step) → IsNormal cs → ((ds : List Step) (n : List ℕ) → cs ≢ ds ++ name n ∷ [])
    → IsNormal (cs ++ up ∷ [])
IsNormal-push_up cs normal other = elim (last_view cs) [
  | inl none ↦ rw none tt
  | inr (ds, c, joined) ↦
      rw joined (push_up ds c (subst IsNormal joined normal) (λ n e. other ds n (joined ∙ ap (λ d. ds ++ d ∷ []) e)))
]
  where
    push_up : (ds : List Step) (c : Step) → IsNormal (ds ++ c ∷ []) → ((n : List ℕ) → c ≢ name n)
        → IsNormal ((ds ++ c ∷ []) ++ up ∷ [])
    push_up ds cur h none = absurd (IsNormal-not_cur ds h)
    push_up ds up h none = IsNormal-push_up_after_up ds h
    push_up ds (name n) h none = absurd (none n refl)

AreNames-parts : (cs : List Step) → AreNames cs → cs ≡ map name (names_of cs)
AreNames-parts [] names = refl
AreNames-parts (cur ∷ cs) names = absurd names
AreNames-parts (up ∷ cs) names = absurd names
AreNames-parts (name n ∷ cs) names = ap (λ x. name n ∷ x) (AreNames-parts cs names)

-- a normal list is its climb followed by its names
pub IsNormal-parts : (cs : List Step) → IsNormal cs → cs ≡ replicate (climb cs) up ++ map name (names_of cs)
IsNormal-parts [] normal = refl
IsNormal-parts (cur ∷ cs) normal = absurd normal
IsNormal-parts (up ∷ cs) normal = ap (λ x. up ∷ x) (IsNormal-parts cs normal)
IsNormal-parts (name n ∷ cs) normal = ap (λ x. name n ∷ x) (AreNames-parts cs normal)

-- ---- where a normal list leads

-- from a base that is shorter than the climb, a normal list leads to no place
pub walk-normal_none : (base : List (List ℕ)) (cs : List Step) → IsNormal cs → length base < climb cs
    → walk base cs ≡ None
walk-normal_none base [] normal short = absurd (omega arith)
walk-normal_none base (cur ∷ cs) normal short = absurd normal
walk-normal_none [] (up ∷ cs) normal short = refl
walk-normal_none (n ∷ ns) (up ∷ cs) normal short =
    let len = length-take-le (length ns) (n ∷ ns) (omega arith) in
    walk-normal_none (take (length ns) (n ∷ ns)) cs normal (omega arith)
walk-normal_none base (name n ∷ cs) normal short = absurd (omega arith)

-- from any other base it leads up by its climb, and then down its names
pub walk-normal : (base : List (List ℕ)) (cs : List Step) → IsNormal cs → climb cs ≤ length base
    → walk base cs ≡ Some (take (length base - climb cs) base ++ names_of cs)
walk-normal base [] normal long = ap Some (sym (append-nil _ ∙ take_all _ base (omega arith)))
walk-normal base (cur ∷ cs) normal long = absurd normal
walk-normal [] (up ∷ cs) normal long = absurd (omega arith)
walk-normal (n ∷ ns) (up ∷ cs) normal long =
    let place = take (length ns) (n ∷ ns) in
    let len = length-take-le (length ns) (n ∷ ns) (omega arith) in
    let kept : length place - climb cs ≡ suc (length ns) - suc (climb cs) = omega arith in
    walk-normal place cs normal (omega arith) ∙ ap (λ k. Some (take k place ++ names_of cs)) kept
    ∙ ap (λ x. Some (x ++ names_of cs))
    (take-take (suc (length ns) - suc (climb cs)) (length ns) (n ∷ ns) (omega arith))
walk-normal base (name n ∷ cs) normal long =
    ap (λ ns. walk base (name n ∷ ns)) (AreNames-parts cs normal) ∙ walk-names base (n ∷ names_of cs)
    ∙ ap (λ x. Some (x ++ n ∷ names_of cs)) (sym (take_all _ base (omega arith)))

-- from a base as long as the lower climb, the list with the higher climb leads to no place
climb_not_less : (cs ds : List Step) → IsNormal cs → IsNormal ds → IsSame cs ds → climb cs < climb ds → ⊥
climb_not_less cs ds normal_cs normal_ds same less =
    let base : List (List ℕ) = replicate (climb cs) [] in
    let len = length-replicate {A = List ℕ} (climb cs) [] in
    let some = walk-normal base cs normal_cs (omega arith) in
    let none = walk-normal_none base ds normal_ds (omega arith) in
    let at_base = same.everywhere base in
    cc

-- normal lists that lead to the same places climb equally high
pub climb_same : (cs ds : List Step) → IsNormal cs → IsNormal ds → IsSame cs ds → climb cs ≡ climb ds
climb_same cs ds normal_cs normal_ds same =
    let not_less = climb_not_less cs ds normal_cs normal_ds same in
    let not_more = climb_not_less ds cs normal_ds normal_cs (IsSame-sym cs ds same) in
    omega arith

-- normal lists that lead to the same places have the same names
pub names_of_same : (cs ds : List Step) → IsNormal cs → IsNormal ds → IsSame cs ds → names_of cs ≡ names_of ds
names_of_same cs ds normal_cs normal_ds same =
    let base : List (List ℕ) = replicate (climb cs) [] in
    let len = length-replicate {A = List ℕ} (climb cs) [] in
    let climbs = climb_same cs ds normal_cs normal_ds same in
    let from_cs = walk-normal base cs normal_cs (omega arith) in
    let from_ds = walk-normal base ds normal_ds (omega arith) in
    let at_base = same.everywhere base in
    let place : take (length base - climb cs) base ++ names_of cs ≡ take (length base - climb cs) base ++ names_of ds =
    cc in
    append_cancel_left _ _ _ place

-- normal lists that lead to the same places are equal
pub normal_unique : (cs ds : List Step) → IsNormal cs → IsNormal ds → IsSame cs ds → cs ≡ ds
normal_unique cs ds normal_cs normal_ds same =
    let climbs = climb_same cs ds normal_cs normal_ds same in
    let names = names_of_same cs ds normal_cs normal_ds same in
    let parts_cs = IsNormal-parts cs normal_cs in
    let parts_ds = IsNormal-parts ds normal_ds in
    cc

-- ---- a test of a normal list

-- after a name only names are normal
abbrev pub IsNormalAfter : Bool → List Step → Type 0
IsNormalAfter false cs = IsNormal cs
IsNormalAfter true cs = AreNames cs
