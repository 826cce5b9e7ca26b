-- The lists that lead from one path to another, the shortest of them, and the bases from which two paths lead apart.
use Rattle.std.specs.Prelude.{◌≡◌, ◌≢◌, ◌<◌, ◌⊎◌, ℕ, List, [], ◌++◌, length}
use Rattle.relative_path.specs.Steps.{Step, components, spell}
use Rattle.relative_path.specs.Walk.{walk, IsSame}

-- r leads from f to t: from every base, f and then r lead where t leads
abbrev pub Leads : List Step → List Step → List Step → Type 0
Leads f r t = IsSame (f ++ r) t

-- some list leads from f to t
abbrev pub IsReachable : List Step → List Step → Type 0
IsReachable f t = (r : List Step) × Leads f r t

-- r leads from f to t, and every other list that leads from f to t is longer
pub record IsShortest (f r t : List Step) : Type 0 where
  pub leads : Leads f r t
  pub shortest : (s : List Step) → Leads f s t → (length r < length s) ⊎ (s ≡ r)

-- the text spells the shortest list that leads from f to t
pub record IsShortestText (f t : List Step) (text : List ℕ) : Type 0 where
  pub spelled : text ≡ spell (components text)
  pub shortest : IsShortest f (components text) t

-- the text spells the shortest list that leads from f to t; if no list does, the text is empty
pub record IsWayText (f t : List Step) (text : List ℕ) : Type 0 where
  pub shortest : IsReachable f t → IsShortestText f t text
  pub unreachable : ¬ IsReachable f t → text ≡ []

-- from every base of n names the two lead to different places, or only one of them to a place; from every base of fewer
-- names they lead to the same place, or neither leads to a place
pub record LeadsApart (cs ds : List Step) (n : ℕ) : Type 0 where
  pub apart : (base : List (List ℕ)) → length base ≡ n → walk base cs ≢ walk base ds
  pub together : (base : List (List ℕ)) → length base < n → walk base cs ≡ walk base ds
