-- A place or a list of components has one normal list, and so one normal text.
use Rattle.std.proofs.Common.{◌≡◌, ◌↔◌, ℕ, List, [], ◌∷◌, ◌++◌, map, Some, unwrap_or, refl, sym, ap, ◌∙◌}
use Rattle.std.proofs.lemmas.Option.{none-some}
use Rattle.relative_path.specs.Steps.{Step, cur, up, name, components, spell}
use Rattle.relative_path.specs.Walk.{IsSame, place_of}
use Rattle.relative_path.specs.Normalizing.{AreNames, IsNormal, IsNormalText, IsNormalTextOf}
use Rattle.relative_path.proofs.ForCallers.{walk-names, IsSame-refl, IsSame-sym, IsSame-trans, IsSame-append_left, IsSame-append_right, IsSame-name_up}

-- ---- lists

-- a list of names is normal
pub AreNames-normal : (cs : List Step) → AreNames cs → IsNormal cs
AreNames-normal [] names = tt
AreNames-normal (cur ∷ cs) names = absurd names
AreNames-normal (up ∷ cs) names = absurd names
AreNames-normal (name n ∷ cs) names = names

-- the end of a list of names is one too
pub AreNames-end : (cs ds : List Step) → AreNames (cs ++ ds) → AreNames ds
AreNames-end [] ds names = names
AreNames-end (cur ∷ cs) ds names = absurd names
AreNames-end (up ∷ cs) ds names = absurd names
AreNames-end (name n ∷ cs) ds names = AreNames-end cs ds names

-- the end of a normal list is normal
pub IsNormal-end : (cs ds : List Step) → IsNormal (cs ++ ds) → IsNormal ds
IsNormal-end [] ds normal = normal
IsNormal-end (cur ∷ cs) ds normal = absurd normal
IsNormal-end (up ∷ cs) ds normal = IsNormal-end cs ds normal
IsNormal-end (name n ∷ cs) ds normal = AreNames-normal ds (AreNames-end cs ds normal)

-- a list of names is made from the names
pub AreNames-names : (cs : List Step) → AreNames cs → (ns : List (List ℕ)) × (cs ≡ map name ns)
AreNames-names [] names = ([], refl)
AreNames-names (cur ∷ cs) names = absurd names
AreNames-names (up ∷ cs) names = absurd names
AreNames-names (name n ∷ cs) names =
    let (ns, is) = AreNames-names cs names in (n ∷ ns, ap (λ ds. name n ∷ ds) is)

-- a list of names that begins with a name leads to them from the top
place_of-names : (n : List ℕ) (cs : List Step) → AreNames cs
    → (ns : List (List ℕ)) × (name n ∷ cs ≡ map name (n ∷ ns)) × (place_of (name n ∷ cs) ≡ Some (n ∷ ns))
place_of-names n cs names =
    let (ns, is) = AreNames-names cs names in
    (ns, ap (λ ds. name n ∷ ds) is, ap (λ ds. place_of (name n ∷ ds)) is ∙ walk-names [] (n ∷ ns))

-- a normal list that leads to a place from the top is the names of that place
pub names_of-place : (cs : List Step) (place : List (List ℕ)) → IsNormal cs → place_of cs ≡ Some place
    → cs ≡ map name place
names_of-place [] place normal is = ap (λ found. map name (unwrap_or found [])) is
names_of-place (cur ∷ cs) place normal is = absurd normal
names_of-place (up ∷ cs) place normal is = absurd (none-some place is)
names_of-place (name n ∷ cs) place normal is =
    let (ns, names, there) = place_of-names n cs normal in
    names ∙ ap (λ found. map name (unwrap_or found [])) (sym there ∙ is)

-- lists that lead to the same after a `..` lead to the same
IsSame-after_up : (cs ds : List Step) → IsSame (up ∷ cs) (up ∷ ds) → IsSame cs ds
IsSame-after_up cs ds same = IsSame-trans (IsSame-sym (entered cs))
    (IsSame-trans (IsSame-append_left (name [] ∷ []) same) (entered ds)) where
      entered : (es : List Step) → IsSame (name [] ∷ up ∷ es) es
      entered es = IsSame-append_right es (IsSame-name_up [] [])

-- normal lists that lead to the same are equal
pub normal_unique : (cs ds : List Step) → IsNormal cs → IsNormal ds → IsSame cs ds → cs ≡ ds
normal_unique [] ds normal_cs normal_ds same = sym (names_of-place ds [] normal_ds (sym (same.everywhere [])))
normal_unique (cur ∷ cs) ds normal_cs normal_ds same = absurd normal_cs
normal_unique (name n ∷ cs) ds normal_cs normal_ds same =
    let (ns, names, there) = place_of-names n cs normal_cs in
    names ∙ sym (names_of-place ds (n ∷ ns) normal_ds (sym (same.everywhere []) ∙ there))
normal_unique (up ∷ cs) [] normal_cs normal_ds same = absurd (none-some [] (same.everywhere []))
normal_unique (up ∷ cs) (cur ∷ ds) normal_cs normal_ds same = absurd normal_ds
normal_unique (up ∷ cs) (up ∷ ds) normal_cs normal_ds same =
    ap (λ es. up ∷ es) (normal_unique cs ds normal_cs normal_ds (IsSame-after_up cs ds same))
normal_unique (up ∷ cs) (name n ∷ ds) normal_cs normal_ds same =
    let (ns, names, there) = place_of-names n ds normal_ds in
    absurd (none-some (n ∷ ns) (same.everywhere [] ∙ there))

-- ---- texts

-- normal texts that lead to the same are equal
pub normal_text_unique : (text other : List ℕ) → IsNormalText text → IsNormalText other
    → IsSame (components text) (components other) → text ≡ other
normal_text_unique text other normal normal_other same =
    normal.spelled ∙ ap spell (normal_unique (components text) (components other) normal.normal normal_other.normal same)
    ∙ sym normal_other.spelled

-- a normal text that leads where the components lead is their only normal text
pub IsNormalTextOf-same : (cs : List Step) (text : List ℕ) → IsNormalText text → IsSame cs (components text)
    → IsNormalTextOf cs text
IsNormalTextOf-same cs text normal same = record {
  normal_text = normal;
  same = same;
  only = λ other normal_other same_other.
      normal_text_unique other text normal_other normal (IsSame-trans (IsSame-sym same_other) same);
}

-- so normal texts are equal exactly if they lead to the same
pub normal_text_same : (text other : List ℕ) → IsNormalText text → IsNormalText other
    → (text ≡ other) ↔ IsSame (components text) (components other)
normal_text_same text other normal normal_other = (
  λ is. rw is (IsSame-refl (components other)),
  normal_text_unique text other normal normal_other,
)
