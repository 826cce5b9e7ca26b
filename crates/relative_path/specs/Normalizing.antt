-- Normal forms: `..` components first, then names only.
use Rattle.std.specs.Prelude.{◌≡◌, ℕ, zero, suc, List, [], ◌∷◌, ⊤}
use Rattle.relative_path.specs.Steps.{Step, cur, up, name, components, spell}
use Rattle.relative_path.specs.Walk.{IsSame}

-- each component is a name
abbrev pub AreNames : List Step → Type 0
AreNames [] = ⊤
AreNames (cur ∷ cs) = ⊥
AreNames (up ∷ cs) = ⊥
AreNames (name n ∷ cs) = AreNames cs

-- each component is `..` or a name, and no `..` comes after a name
abbrev pub IsNormal : List Step → Type 0
IsNormal [] = ⊤
IsNormal (cur ∷ cs) = ⊥
IsNormal (up ∷ cs) = IsNormal cs
IsNormal (name n ∷ cs) = AreNames cs

-- how many `..` come first
abbrev pub climb : List Step → ℕ
climb [] = zero
climb (cur ∷ cs) = zero
climb (up ∷ cs) = suc (climb cs)
climb (name n ∷ cs) = zero

-- ds is normal, and leads where cs leads from every base
pub record IsNormalForm (cs ds : List Step) : Type 0 where
  pub normal : IsNormal ds
  pub same : IsSame cs ds

-- the text spells its components, and they are normal
pub record IsNormalText (text : List ℕ) : Type 0 where
  pub spelled : text ≡ spell (components text)
  pub normal : IsNormal (components text)

-- the text is normal, leads where the components lead from every base, and is the only normal text that does
pub record IsNormalTextOf (cs : List Step) (text : List ℕ) : Type 0 where
  pub normal_text : IsNormalText text
  pub same : IsSame cs (components text)
  pub only : (other : List ℕ) → IsNormalText other → IsSame cs (components other) → other ≡ text
