-- A text normalised one component at a time.
use Rattle.std.proofs.Common.{◌≡◌, ℕ, ◌≤◌, List, [], ◌∷◌, ◌++◌, length, take, inl, inr, sym, refl, ap, ap₂, ◌∙◌, subst, append_assoc, append-nil, arith, take_at}
use Rattle.std.specs.Prelude.{IsSome, is_some}
use Rattle.relative_path.specs.Steps.{Step, cur, up, name, step_text, components, spell, SpellThemselves, SpellsItself}
use Rattle.relative_path.specs.Walk.{IsSame}
use Rattle.relative_path.specs.Normalizing.{IsNormal, IsNormalForm, IsNormalText, IsNormalTextOf}
use Rattle.relative_path.specs.Slices.{IsShortestPrefix}
use Rattle.relative_path.specs.Editing.{pushed, kept_len, kept, IsPopped}
use Rattle.relative_path.specs.Naming.{last_name, file_name_of}
use Rattle.relative_path.proofs.StepsLemmas.{components-nil, SpellThemselves-components, SpellThemselves-append_left}
use Rattle.relative_path.proofs.SlicesLemmas.{IsPrefix, IsShortestPrefix-from, IsShortestPrefix-unique}
use Rattle.relative_path.proofs.EditingLemmas.{components-pushed, kept_len-push, spell-pushed}
use Rattle.relative_path.proofs.WalkLemmas.{IsSame-refl, IsSame-sym, IsSame-trans, IsSame-append_right, IsSame-cur, IsSame-name_up}
use Rattle.relative_path.proofs.NormalStepsLemmas.{IsNormal-front, IsNormal-not_cur, IsNormal-push_name, IsNormal-push_up_after_up, normal_unique}
use Rattle.relative_path.proofs.ListsLemmas.{IsSome-value, last_view}
use Rattle.relative_path.proofs.NamingExtensionLemmas.{last_name-name}
use Rattle.relative_path.proofs.NamingEditsLemmas.{IsSame-last_name, last_name-append}
use Rattle.relative_path.proofs.SpellingLemmas.{components-spell, spell_end, IsPrefix-spell, length-spell-append_le, length-spell-drop_one, length-spell-components}

-- ---- one component at a time

-- the text is normal; with the components that are left it leads where the source leads, and it fits with them
pub record Normalizes (source : List Step) (limit : ℕ) (text : List ℕ) (left : List Step) : Type 0 where
  pub normal_text : IsNormalText text
  pub same : IsSame source (components text ++ left)
  pub fits : length (spell (components text ++ left)) ≤ limit

IsNormalText-nil : IsNormalText []
IsNormalText-nil = record { spelled = sym (ap spell components-nil); normal = rw components-nil tt }

pub Normalizes-start : (text : List ℕ) → Normalizes (components text) (length text) [] (components text)
Normalizes-start text =
    let whole : components [] ++ components text ≡ components text = ap (λ cs. cs ++ components text) components-nil in
    record {
      normal_text = IsNormalText-nil;
      same = rw whole (IsSame-refl (components text));
      fits = rw whole (length-spell-components text);
    }

Normalizes-cur : (source : List Step) (limit : ℕ) (text : List ℕ) (left : List Step)
    → Normalizes source limit text (cur ∷ left) → Normalizes source limit text left
Normalizes-cur source limit text left h = record {
  normal_text = h.normal_text;
  same = IsSame-trans _ _ _ h.same (IsSame-cur (components text) left);
  fits = let shorter = length-spell-drop_one (components text) left cur in let fits = h.fits in omega arith;
}

Normalizes-push : (source : List Step) (limit : ℕ) (text : List ℕ) (c : Step) (left : List Step)
    → Normalizes source limit text (c ∷ left) → SpellsItself c → IsNormal (components text ++ c ∷ [])
    → Normalizes source limit (pushed text (step_text c)) left
Normalizes-push source limit text c left h proper normal =
    let pushes : components (pushed text (step_text c)) ≡ components text ++ c ∷ [] =
    components-pushed text (step_text c) ∙ ap (λ cs. components text ++ cs) proper in
    let joined : components text ++ c ∷ left ≡ components (pushed text (step_text c)) ++ left =
    sym (append_assoc (components text) (c ∷ []) left) ∙ ap (λ cs. cs ++ left) (sym pushes) in
    record {
      normal_text =
          record {
            spelled = spell-pushed text c h.normal_text.spelled proper ∙ ap spell (sym pushes);
            normal = rw pushes normal;
          };
      same = rw (← joined) h.same;
      fits = rw (← joined) h.fits;
    }

pub pushed_fits : (source : List Step) (limit : ℕ) (text : List ℕ) (c : Step) (left : List Step)
    → Normalizes source limit text (c ∷ left) → SpellsItself c → length (pushed text (step_text c)) ≤ limit
pushed_fits source limit text c left h proper =
    let spelled = ap length (spell-pushed text c h.normal_text.spelled proper) in
    let joined : length (spell ((components text ++ c ∷ []) ++ left)) ≡ length (spell (components text ++ c ∷ left)) =
    ap (λ cs. length (spell cs)) (append_assoc (components text) (c ∷ []) left) in
    let longer = length-spell-append_le (components text ++ c ∷ []) left in
    let fits = h.fits in
    omega arith

Normalizes-pop : (source : List Step) (limit : ℕ) (text popped : List ℕ) (cs : List Step) (n : List ℕ) (left : List Step)
    → Normalizes source limit text (up ∷ left) → components text ≡ cs ++ name n ∷ [] → IsPopped text popped
    → Normalizes source limit popped left
Normalizes-pop source limit text popped cs n left h last pops =
    let propers : SpellThemselves (cs ++ name n ∷ []) = subst SpellThemselves last (SpellThemselves-components text) in
    let proper = SpellThemselves-append_left cs (name n ∷ []) propers in
    let firsts =
    ap₂ take (ap kept_len last ∙ kept_len-push cs (name n) refl) last ∙ take_at cs (name n ∷ []) (length cs) refl in
    let cut : IsShortestPrefix text cs popped = subst (λ ds. IsShortestPrefix text ds popped) firsts pops in
    let front =
    subst (λ x. IsPrefix x (spell cs)) (sym (h.normal_text.spelled ∙ ap spell last)) (IsPrefix-spell cs (name n)) in
    let spelled =
    IsShortestPrefix-unique cut (IsShortestPrefix-from front (components-spell cs proper) (spell_end cs proper)) in
    let left_over : components text ++ up ∷ left ≡ cs ++ name n ∷ up ∷ left =
    ap (λ ds. ds ++ up ∷ left) last ∙ append_assoc cs (name n ∷ []) (up ∷ left) in
    record {
      normal_text =
          record {
            spelled = spelled ∙ ap spell (sym cut.same_components);
            normal = rw cut.same_components (IsNormal-front cs (name n) (subst IsNormal last h.normal_text.normal));
          };
      same =
          rw cut.same_components
          (IsSame-trans _ _ _ (subst (IsSame source) left_over h.same) (IsSame-name_up cs left n));
      fits =
          let fits = ap (λ ds. length (spell ds)) left_over in
          let first = length-spell-drop_one cs (up ∷ left) (name n) in
          let second = length-spell-drop_one cs left up in
          let whole = h.fits in
          rw cut.same_components (omega arith);
    }

-- ---- the next normal text

-- the new text is normal, leads where the old text and the component lead, and is no longer, whatever components are
-- left
pub record Follows (text : List ℕ) (c : Step) (new : List ℕ) : Type 0 where
  pub normal_text : IsNormalText new
  pub same : IsSame (components text ++ c ∷ []) (components new)
  pub no_longer : (left : List Step)
      → length (spell (components new ++ left)) ≤ length (spell (components text ++ c ∷ left))

-- a normal text normalizes its own components and those that are left
module _ (text : List ℕ) (normal : IsNormalText text) where
  here : (left : List Step) → Normalizes (components text ++ left) (length (spell (components text ++ left))) text left
  here left = record { normal_text = normal; same = IsSame-refl (components text ++ left); fits = omega arith }

  Follows-from : (c : Step) (new : List ℕ)
      → ((left : List Step) → Normalizes (components text ++ c ∷ left) (length (spell (components text ++ c ∷ left))) new left)
      → Follows text c new
  Follows-from c new h = record {
    normal_text = (h []).normal_text;
    same = subst (IsSame (components text ++ c ∷ [])) (append-nil (components new)) (h []).same;
    no_longer = λ left. (h left).fits;
  }

  pub Follows-cur : Follows text cur text
  Follows-cur = Follows-from cur text (λ left. Normalizes-cur _ _ text left (here (cur ∷ left)))

  pub Follows-push : (c : Step) → SpellsItself c → IsNormal (components text ++ c ∷ [])
      → Follows text c (pushed text (step_text c))
  Follows-push c proper ends =
      Follows-from c (pushed text (step_text c)) (λ left. Normalizes-push _ _ text c left (here (c ∷ left)) proper ends)

  pub Follows-pop : (cs : List Step) (n popped : List ℕ) → components text ≡ cs ++ name n ∷ [] → IsPopped text popped
      → Follows text up popped
  Follows-pop cs n popped last pops =
      Follows-from up popped (λ left. Normalizes-pop _ _ text popped cs n left (here (up ∷ left)) last pops)

-- the next text with the components that are left after it
pub Normalizes-follow : (source : List Step) (limit : ℕ) (text : List ℕ) (c : Step) (new : List ℕ) (left : List Step)
    → Normalizes source limit text (c ∷ left) → Follows text c new → Normalizes source limit new left
Normalizes-follow source limit text c new left h f =
    let joined = append_assoc (components text) (c ∷ []) left in
    let longer = f.no_longer left in
    let fits = h.fits in
    record {
      normal_text = f.normal_text;
      same = IsSame-trans _ _ _ h.same (subst (λ cs. IsSame cs (components new ++ left)) joined
          (IsSame-append_right (components text ++ c ∷ []) (components new) left f.same));
      fits = omega arith;
    }

-- once no component is left, the text is the only normal text that leads where the source leads
pub Normalizes-end : (source : List Step) (limit : ℕ) (text : List ℕ) (left : List Step)
    → Normalizes source limit text left → left ≡ [] → IsNormalTextOf source text × (length text ≤ limit)
Normalizes-end source limit text left h none =
    let whole : components text ++ left ≡ components text =
    ap (λ cs. components text ++ cs) none ∙ append-nil (components text) in
    let same = subst (IsSame source) whole h.same in
    let fits = subst (λ cs. length (spell cs) ≤ limit) whole h.fits in (
      record {
        normal_text = h.normal_text;
        same = same;
        only = λ other normal leads.
            normal.spelled
            ∙ ap spell
            (normal_unique (components other) (components text) normal.normal h.normal_text.normal
            (IsSame-trans _ _ _ (IsSame-sym _ _ leads) same))
            ∙ sym h.normal_text.spelled;
      },
      let e = ap length h.normal_text.spelled in omega arith,
    )

-- ---- when a `..` stays

-- a normal list is the components of its normal text
pub components-IsNormalTextOf : (cs : List Step) (text : List ℕ) → IsNormalTextOf cs text → IsNormal cs
    → components text ≡ cs
components-IsNormalTextOf cs text of normal =
    sym (normal_unique cs (components text) normal of.normal_text.normal of.same)

-- ---- the normal form of a list

-- a normal list with one more step at its end has a normal form
normal_push : (ds : List Step) (c : Step) → IsNormal ds
    → (es : List Step) × IsNormal es × ((rest : List Step) → IsSame (ds ++ c ∷ rest) (es ++ rest))
normal_push ds cur normal = (ds, normal, IsSame-cur ds)
normal_push ds (name n) normal = (
  ds ++ name n ∷ [],
  IsNormal-push_name ds n normal,
  λ rest. rw (append_assoc ds (name n ∷ []) rest) (IsSame-refl (ds ++ name n ∷ rest)),
)
normal_push ds up normal = elim (last_view ds) [
  | inl none ↦ rw none (up ∷ [], tt, λ rest. IsSame-refl (up ∷ rest))
  | inr (fs, c, joined) ↦ rw joined (last fs c (subst IsNormal joined normal))
]
  where
    last : (fs : List Step) (c : Step) → IsNormal (fs ++ c ∷ [])
        → (es : List Step) × IsNormal es × ((rest : List Step) → IsSame ((fs ++ c ∷ []) ++ up ∷ rest) (es ++ rest))
    last fs cur normal = absurd (IsNormal-not_cur fs normal)
    last fs up normal = (
      (fs ++ up ∷ []) ++ up ∷ [],
      IsNormal-push_up_after_up fs normal,
      λ rest. rw (append_assoc (fs ++ up ∷ []) (up ∷ []) rest) (IsSame-refl ((fs ++ up ∷ []) ++ up ∷ rest)),
    )
    last fs (name n) normal = (
      fs,
      IsNormal-front fs (name n) normal,
      λ rest. rw (append_assoc fs (name n ∷ []) (up ∷ rest)) (IsSame-name_up fs rest n),
    )

normal_after : (ds cs : List Step) → IsNormal ds → (es : List Step) × IsNormal es × IsSame (ds ++ cs) es
normal_after ds [] normal = (ds, normal, rw (append-nil ds) (IsSame-refl ds))
normal_after ds (c ∷ cs) normal =
    let (es, is, same) = normal_push ds c normal in
    let (fs, is_last, same_last) = normal_after es cs is in
    (fs, is_last, IsSame-trans _ _ _ (same cs) same_last)

-- each list has a normal form
pub IsNormalForm-some : (cs : List Step) → (ds : List Step) × IsNormalForm cs ds
IsNormalForm-some cs =
    let (ds, normal, same) = normal_after [] cs tt in (ds, record { normal = normal; same = same })

-- ---- the file name of a normal form

-- the normal text of a list with a file name has this file name
pub last_name-IsNormalTextOf : (cs : List Step) (text : List ℕ) → IsNormalTextOf cs text → IsSome (last_name cs)
    → file_name_of text ≡ last_name cs
last_name-IsNormalTextOf cs text normal found =
    let (n, named) = IsSome-value (last_name cs) found in
    let (front, form) = IsNormalForm-some (kept cs) in
    let same = IsSame-trans cs (kept cs ++ name n ∷ []) (front ++ name n ∷ []) (IsSame-last_name cs n named)
    (IsSame-append_right (kept cs) front (name n ∷ []) form.same) in
    let last : components text ≡ front ++ name n ∷ [] =
    normal_unique (components text) (front ++ name n ∷ []) normal.normal_text.normal
    (IsNormal-push_name front n form.normal)
    (IsSame-trans (components text) cs (front ++ name n ∷ []) (IsSame-sym cs (components text) normal.same) same) in
    ap last_name last ∙ last_name-name front n ∙ sym named

-- so does the normal text of two lists, if the second has a file name
pub last_name-IsNormalTextOf_append : (cs ds : List Step) (text : List ℕ) → IsNormalTextOf (cs ++ ds) text
    → IsSome (last_name ds) → file_name_of text ≡ last_name ds
last_name-IsNormalTextOf_append cs ds text normal found =
    let (n, named) = IsSome-value (last_name ds) found in
    let both = last_name-append cs ds n named in
    last_name-IsNormalTextOf (cs ++ ds) text normal (ap is_some both) ∙ both ∙ sym named
