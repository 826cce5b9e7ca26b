-- How many names a base needs for a list of steps to lead to a place from it.
use Rattle.std.proofs.Common.{◌≡◌, ◌↔◌, ℕ, zero, suc, ◌+◌, ◌≤◌, List, [], ◌∷◌, ◌++◌, length, take, replicate, Option, Some, None, IsSome, refl, arith}
use Rattle.std.proofs.lemmas.List.{length_push, length-replicate, length-take-le}
use Rattle.relative_path.specs.Steps.{Step, cur, up, name}
use Rattle.relative_path.specs.Walk.{walk, IsSame, LeadsBelow}
use Rattle.relative_path.specs.Normalizing.{AreNames, IsNormal, IsNormalForm, climb}
use Rattle.relative_path.proofs.WalkLemmas.{IsSame-refl, IsSame-sym, LeadsBelow-in_turn, LeadsInTurn-same}

-- the climb of a walk that has climbed so far, and can leave this many names again by `..`
abbrev pub climb_after : ℕ → ℕ → List Step → ℕ
climb_after climbed names [] = climbed
climb_after climbed names (cur ∷ cs) = climb_after climbed names cs
climb_after climbed zero (up ∷ cs) = climb_after (suc climbed) zero cs
climb_after climbed (suc names) (up ∷ cs) = climb_after climbed names cs
climb_after climbed names (name n ∷ cs) = climb_after climbed (suc names) cs

climb_after_ge : (climbed names : ℕ) (cs : List Step) → climbed ≤ climb_after climbed names cs
climb_after_ge climbed names [] = omega arith
climb_after_ge climbed names (cur ∷ cs) = climb_after_ge climbed names cs
climb_after_ge climbed zero (up ∷ cs) = omega (arith, climb_after_ge (suc climbed) zero cs)
climb_after_ge climbed (suc names) (up ∷ cs) = climb_after_ge climbed names cs
climb_after_ge climbed names (name n ∷ cs) = climb_after_ge climbed (suc names) cs

-- if no steps are left, the climb so far is the whole climb
pub climb_after-nil : (names : ℕ) {climbed n : ℕ} {cs : List Step} → cs ≡ [] → climb_after climbed names cs ≡ n
    → climbed ≡ n
climb_after-nil names none comes_to = rw none at comes_to

-- steps lead to a place from there exactly if the base has at least as many names as they climb
IsSome-walk_after : (base : ℕ) (place : List (List ℕ)) (climbed names : ℕ) (cs : List Step)
    → length place + climbed ≡ base + names → climbed ≤ base
    → IsSome (walk place cs) ↔ (climb_after climbed names cs ≤ base)
IsSome-walk_after base place climbed names [] at few = (λ _. few, λ _. refl)
IsSome-walk_after base place climbed names (cur ∷ cs) at few = IsSome-walk_after base place climbed names cs at few
IsSome-walk_after base [] climbed zero (up ∷ cs) at few =
    (λ some. absurd (cc), λ within. absurd (omega (arith, at, within, climb_after_ge (suc climbed) zero cs)))
IsSome-walk_after base (n ∷ ns) climbed zero (up ∷ cs) at few =
    let len = length-take-le (length ns) (n ∷ ns) (omega arith) in
    IsSome-walk_after base (take (length ns) (n ∷ ns)) (suc climbed) zero cs (omega (arith, at, len)) (omega (arith, at))
IsSome-walk_after base [] climbed (suc names) (up ∷ cs) at few = absurd (omega (arith, at, few))
IsSome-walk_after base (n ∷ ns) climbed (suc names) (up ∷ cs) at few =
    let len = length-take-le (length ns) (n ∷ ns) (omega arith) in
    IsSome-walk_after base (take (length ns) (n ∷ ns)) climbed names cs (omega (arith, at, len)) few
IsSome-walk_after base place climbed names (name n ∷ cs) at few =
    IsSome-walk_after base (place ++ n ∷ []) climbed (suc names) cs (omega (arith, at, length_push place n)) few

pub IsSome-walk : (cs : List Step) (base : List (List ℕ)) → IsSome (walk base cs) ↔ (climb_after 0 0 cs ≤ length base)
IsSome-walk cs base = IsSome-walk_after (length base) base 0 0 cs (omega arith) (omega arith)

-- lists that lead to the same places climb equally high
climb_after_le : (cs ds : List Step) → IsSame cs ds → climb_after 0 0 cs ≤ climb_after 0 0 ds
climb_after_le cs ds same =
    let base : List (List ℕ) = replicate (climb_after 0 0 ds) [] in
    let level = length-replicate {A = List ℕ} (climb_after 0 0 ds) [] in
    let some = (IsSome-walk ds base).1 (omega (arith, level)) in
    let within = (IsSome-walk cs base).0 (rw (same.everywhere base) some) in
    omega (arith, within, level)

climb_after-names : (climbed names : ℕ) (cs : List Step) → AreNames cs → climb_after climbed names cs ≡ climbed
climb_after-names climbed names [] are = refl
climb_after-names climbed names (cur ∷ cs) are = absurd are
climb_after-names climbed names (up ∷ cs) are = absurd are
climb_after-names climbed names (name n ∷ cs) are = climb_after-names climbed (suc names) cs are

climb_after-normal : (climbed : ℕ) (cs : List Step) → IsNormal cs → climb_after climbed 0 cs ≡ climbed + climb cs
climb_after-normal climbed [] normal = omega arith
climb_after-normal climbed (cur ∷ cs) normal = absurd normal
climb_after-normal climbed (up ∷ cs) normal = omega (arith, climb_after-normal (suc climbed) cs normal)
climb_after-normal climbed (name n ∷ cs) normal = omega (arith, climb_after-names climbed 1 cs normal)

pub climb_after-normal_form : (cs ds : List Step) → IsNormalForm cs ds → climb_after 0 0 cs ≡ climb ds
climb_after-normal_form cs ds form =
    let back = IsSame-sym cs ds form.same in
    omega (arith, climb_after_le cs ds form.same, climb_after_le ds cs back, climb_after-normal 0 ds form.normal)

-- steps that don't climb lead to the same place below every base
pub LeadsBelow-level : (cs : List Step) → climb_after 0 0 cs ≡ 0 → (place : List (List ℕ)) × LeadsBelow [] place cs
LeadsBelow-level cs level = found (walk [] cs) refl ((IsSome-walk cs []).1 (omega (arith, level)))
  where
    found : (o : Option (List (List ℕ))) → walk [] cs ≡ o → IsSome o → (place : List (List ℕ)) × LeadsBelow [] place cs
    found None is some = absurd (cc)
    found (Some place) is some = (place, LeadsBelow-in_turn [] cs cs place (LeadsInTurn-same [] cs cs (IsSame-refl cs)) is)
