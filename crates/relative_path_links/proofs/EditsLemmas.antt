-- Edits of a page of which new texts are given up.
use Rattle.std.proofs.Common.{◌≡◌, ◌≢◌, ◌⊎◌, ◌<◌, ◌≤◌, ℕ, zero, suc, false, List, [], ◌∷◌, ◌++◌, length, get_or, set, drop, take, inl, inr, refl, sym, ap, ap₂, ◌∙◌, subst, arith, append_assoc, append-nil, take-append-drop, true≢false}
use Rattle.std.proofs.lemmas.Bool.{or_parts}
use Rattle.std.proofs.lemmas.List.{drop-append-le, drop_all, length-take-le, take_all}
use Rattle.std.proofs.lemmas.Slice.{between_is}
use Rattle.std.specs.List.{AllByRecursion, AllZip, list_any, between}
use Rattle.relative_path_links.specs.declared.edit.Change.{Change}
use Rattle.relative_path_links.specs.declared.edit.Change.TheVariants.{Kept, New, Left}
use Rattle.relative_path_links.specs.declared.edit.Edit.{Edit}
use Rattle.relative_path_links.specs.declared.target.Target.{Target}
use Rattle.relative_path_links.specs.Targets.{target_text, HasTargets}
use Rattle.relative_path_links.specs.Edits.{targets_of, targets_after, change_text, edit_text, with_edits, is_new, IsSettled}
use Rattle.relative_path_links.specs.Reading.{HasCause, ReadsOtherwise}

-- ---- lists side by side

AllZip-refl : {X : Type 0} (R : X → X → Type 0) → ((x : X) → R x x) → (xs : List X) → AllZip R xs xs
AllZip-refl R same [] = tt
AllZip-refl R same (x ∷ xs) = (same x, AllZip-refl R same xs)

AllZip-trans : {X : Type 0} (R : X → X → Type 0) → ((x y z : X) → R x y → R y z → R x z) → (xs ys zs : List X)
    → AllZip R xs ys → AllZip R ys zs → AllZip R xs zs
AllZip-trans R trans [] [] zs first second = second
AllZip-trans R trans [] (y ∷ ys) zs first second = absurd first
AllZip-trans R trans (x ∷ xs) [] zs first second = absurd first
AllZip-trans R trans (x ∷ xs) (y ∷ ys) [] first second = absurd second
AllZip-trans R trans (x ∷ xs) (y ∷ ys) (z ∷ zs) (is, all) (is_2, all_2) =
    (trans x y z is is_2, AllZip-trans R trans xs ys zs all all_2)

AllZip-set : {X : Type 0} (R : X → X → Type 0) → ((x : X) → R x x) → (xs : List X) (i : ℕ) (d y : X)
    → R (get_or xs i d) y → AllZip R xs (set xs i y)
AllZip-set R same [] i d y is = tt
AllZip-set R same (x ∷ xs) zero d y is = (is, AllZip-refl R same xs)
AllZip-set R same (x ∷ xs) (suc i) d y is = (same x, AllZip-set R same xs i d y is)

-- a list that is written in place of another one of its length
pub written_back : {X : Type 0} (xs ys : List X) (n : ℕ) → n ≡ length xs → length xs ≡ length ys
    → take n (ys ++ drop (length ys) xs) ≡ ys
written_back xs ys n is long =
    ap (λ rest. take n (ys ++ rest)) (drop_all (length ys) xs (omega (arith, long)))
    ∙ ap (take n) (append-nil ys)
    ∙ take_all n ys (omega (arith, is, long))

-- ---- settled edits

IsSettled-refl : (edit : Edit) → IsSettled edit edit
IsSettled-refl edit = inl refl

IsSettled-trans : (a b c : Edit) → IsSettled a b → IsSettled b c → IsSettled a c
IsSettled-trans a b c (inl same) second = subst (λ edit. IsSettled edit c) same second
IsSettled-trans a b c (inr (new, is)) (inl same) = inr (new, same ∙ is)
IsSettled-trans a b c (inr (new, is)) (inr (again, _)) =
    absurd (true≢false (sym again ∙ ap (λ (edit : Edit). is_new edit.change) is))

pub AllZip-settled_refl : (edits : List Edit) → AllZip IsSettled edits edits
AllZip-settled_refl = AllZip-refl IsSettled IsSettled-refl

pub AllZip-settled_trans : (xs ys zs : List Edit) → AllZip IsSettled xs ys → AllZip IsSettled ys zs → AllZip IsSettled xs zs
AllZip-settled_trans = AllZip-trans IsSettled IsSettled-trans

pub AllZip-settled_set : (edits : List Edit) (i : ℕ) (d edit : Edit) → IsSettled (get_or edits i d) edit
    → AllZip IsSettled edits (set edits i edit)
AllZip-settled_set = AllZip-set IsSettled IsSettled-refl

-- the targets stay
pub targets_of-settled : (edits settled : List Edit) → AllZip IsSettled edits settled → targets_of settled ≡ targets_of edits
targets_of-settled [] [] are = refl
targets_of-settled [] (new ∷ settled) are = absurd are
targets_of-settled (edit ∷ edits) [] are = absurd are
targets_of-settled (edit ∷ edits) (new ∷ settled) (is, are) =
    ap₂ (λ target targets. target ∷ targets) (target-settled is) (targets_of-settled edits settled are) where
      target-settled : IsSettled edit new → new.target ≡ edit.target
      target-settled (inl same) = ap (λ (edit : Edit). edit.target) same
      target-settled (inr (_, given_up)) = ap (λ (edit : Edit). edit.target) given_up

-- ---- why new texts are given up

-- none of the edits is given up before the first try, and each later one had a cause
abbrev pub HadCause : (List ℕ → List Target → Type 0) → List ℕ → List Edit → List Edit → ℕ → Type 0
HadCause finds page edits settled tries = (tries ≡ 0) × (settled ≡ edits) ⊎ ReadsOtherwise finds page edits

pub HasCause-had : (finds : List ℕ → List Target → Type 0) (page : List ℕ) (edits settled : List Edit) (tries : ℕ)
    → HadCause finds page edits settled tries → HasCause finds page edits settled
HasCause-had finds page edits settled tries (inl (none, same)) = inl same
HasCause-had finds page edits settled tries (inr cause) = inr cause

pub HasCause-tried : (finds : List ℕ → List Target → Type 0) (page : List ℕ) (edits settled next : List Edit) (tries : ℕ)
    → 0 < tries → HadCause finds page edits settled tries → HasCause finds page edits next
HasCause-tried finds page edits settled next tries some (inl (none, same)) = absurd (omega (arith, some, none))
HasCause-tried finds page edits settled next tries some (inr cause) = inr cause

-- once the page reads otherwise, new texts are given up with cause
pub HadCause-next : (finds : List ℕ → List Target → Type 0) (page : List ℕ) (edits settled next : List Edit)
    (tries more : ℕ) (text : List ℕ) (found : List Target) → HadCause finds page edits settled tries → finds text found
    → text ≡ with_edits page 0 settled → found ≢ targets_after page 0 0 settled → HadCause finds page edits next more
HadCause-next finds page edits settled next tries more text found (inl (none, same)) finds_them is other =
    inr (subst (ReadsOtherwise finds page) same (found, subst (λ text. finds text found) is finds_them, other))
HadCause-next finds page edits settled next tries more text found (inr cause) finds_them is other = inr cause

-- ---- a page with its edits

-- a part of a text, and what comes after it
between-rest : (text : List ℕ) (i j : ℕ) → i ≤ j → j ≤ length text → between i j text ++ drop j text ≡ drop i text
between-rest text i j order within =
    ap (λ front. front ++ drop j text) (between_is text i j)
    ∙ sym (drop-append-le i (take j text) (drop j text) (omega (arith, order, length-take-le j text within)))
    ∙ ap (drop i) (take-append-drop j text)

-- two neighbouring parts of a text, and what comes after them
between-two : (text : List ℕ) (i j k : ℕ) → i ≤ j → j ≤ k → k ≤ length text
    → between i j text ++ between j k text ++ drop k text ≡ drop i text
between-two text i j k first second within =
    append_assoc (between i j text) (between j k text) (drop k text)
    ∙ ap (λ rest. between i j text ++ rest) (between-rest text j k second within)
    ∙ between-rest text i j first (omega (arith, second, within))

-- a page whose targets stay stays
pub with_edits-same : (page : List ℕ) (at : ℕ) (edits : List Edit) → HasTargets page at (targets_of edits)
    → AllByRecursion (λ edit. edit_text page edit ≡ target_text page edit.target) edits
    → with_edits page at edits ≡ drop at page
with_edits-same page at [] has same = refl
with_edits-same page at (edit ∷ edits) (after, is, rest) (stays, same) =
    ap (λ text. between at edit.target.start page ++ text ++ with_edits page edit.target.end edits) stays
    ∙ ap (λ text. between at edit.target.start page ++ target_text page edit.target ++ text)
    (with_edits-same page edit.target.end edits rest same)
    ∙ between-two page at edit.target.start edit.target.end after is.order is.within

-- without a new text a target stays
change_text-kept : (page : List ℕ) (target : Target) (change : Change) → is_new change ≡ false
    → change_text page target change ≡ target_text page target
change_text-kept page target Kept kept = refl
change_text-kept page target (New text) kept = absurd (true≢false kept)
change_text-kept page target (Left why) kept = refl

-- so a page without new texts stays
pub with_edits-kept : (page : List ℕ) (edits : List Edit) → HasTargets page 0 (targets_of edits)
    → list_any (λ edit. is_new edit.change) edits ≡ false → with_edits page 0 edits ≡ page
with_edits-kept page edits has none = with_edits-same page 0 edits has (all edits none) where
  all : (edits : List Edit) → list_any (λ edit. is_new edit.change) edits ≡ false
      → AllByRecursion (λ edit. edit_text page edit ≡ target_text page edit.target) edits
  all [] none = tt
  all (edit ∷ edits) none =
      let (first, rest) = or_parts (is_new edit.change) (list_any (λ edit. is_new edit.change) edits) none in
      (change_text-kept page edit.target edit.change first, all edits rest)
