-- The position of the file name among the components, its stem and extension, and the components of an extended text.
use Rattle.std.proofs.Common.{◌≡◌, ◌≢◌, ◌⊎◌, ℕ, zero, suc, ◌-◌, ◌<◌, true, false, not, true≢false, List, [], ◌∷◌, ◌++◌, All, length, get_or, take, drop, replicate, reverse, Option, Some, None, inl, inr, sym, refl, ap, ap₂, ◌∙◌, subst, arith, append_assoc, append-nil, length-append, eqb-true, take-append-drop, take_at}
use Rattle.std.proofs.Math.Seq.{drop-cons}
use Rattle.std.proofs.lemmas.Bool.{cond_both, and_parts, and_from, not-false, not-true, eqb-false}
use Rattle.std.proofs.lemmas.List.{length-take-le, get_or-reverse, length-reverse, take_more, append_cancel_right}
use Rattle.std.proofs.lemmas.List.Sums.{prefix_len_stops}
use Rattle.std.proofs.lemmas.List.Elements.{All-from_recursion}
use Rattle.std.proofs.lemmas.Option.{slice_get_within, get_or_from_slice_get}
use Rattle.std.specs.List.{AllByRecursion, list_all, suffix_len, before_last, after_last}
use Rattle.std.specs.Option.{option_and_then, option_map}
use Rattle.std.specs.Prelude.{slice_get, IsSome, IsTrue}
use Rattle.relative_path.specs.Steps.{slash, dot, is_slash, is_not_empty, Step, cur, up, name, step_text, classed, components, SpellsItself, SpellThemselves}
use Rattle.relative_path.specs.Editing.{is_cur, kept_len, kept}
use Rattle.relative_path.specs.Naming.{name_of, last_name, file_name_of, is_dot, has_stem, stem_of, extension_of, is_plain_byte, is_plain_extension, is_extension, dotted, IsExtended}
use Rattle.relative_path.proofs.StepsLemmas.{HasNoSlash, HasNoSlash-append, components-nil, components-append, components-trailing_slash, components_whole, step_text-classed, SpellThemselves-components, HasNoSlash-proper, nonempty_proper, HasNoSlash-append_left}
use Rattle.relative_path.proofs.EditingLemmas.{kept_len-curs, kept_len-push, without_cur_dirs-curs}
use Rattle.relative_path.proofs.NamingLemmas.{no_dot, IsExtendedAt, IsSplit, IsSplit-dot, last_other-at}
use Rattle.relative_path.proofs.ListsLemmas.{IsSome-value, last_same, slice_get-at}
use Rattle.relative_path.proofs.SlashesLemmas.{last_slash}

-- ---- the position of the file name

-- the last component other than `.`, and the `.` components after it
record EndsIn (cs : List Step) : Type 0 where
  front : List Step
  last : Step
  curs : ℕ
  other : is_cur last ≡ false
  joined : cs ≡ front ++ last ∷ replicate curs cur

ends_in : (cs : List Step) → ((k : ℕ) × (cs ≡ replicate k cur)) ⊎ EndsIn cs
ends_in [] = inl (0, refl)
ends_in (c ∷ cs) = elim (ends_in cs) [
  | inl (k, alone) ↦ first c k alone
  | inr e ↦
      let joined = ap (λ ds. c ∷ ds) e.joined in
      inr (record { front = c ∷ e.front; last = e.last; curs = e.curs; other = e.other; joined = joined })
]
  where
    first : (c : Step) (k : ℕ) → cs ≡ replicate k cur → ((j : ℕ) × (c ∷ cs ≡ replicate j cur)) ⊎ EndsIn (c ∷ cs)
    first cur k alone = inl (suc k, ap (λ ds. cur ∷ ds) alone)
    first up k alone = inr
        (record { front = []; last = up; curs = k; other = refl; joined = ap (λ ds. up ∷ ds) alone })
    first (name n) k alone = inr
        (record { front = []; last = name n; curs = k; other = refl; joined = ap (λ ds. name n ∷ ds) alone })

named_step : (c : Step) (n : List ℕ) → name_of c ≡ Some n → c ≡ name n
named_step cur n is = absurd (cc)
named_step up n is = absurd (cc)
named_step (name m) n is = cc

-- after the file name come only `.` components
pub last_name-split : (cs : List Step) (n : List ℕ) → last_name cs ≡ Some n
    → (k : ℕ) × (cs ≡ kept cs ++ name n ∷ replicate k cur)
last_name-split cs n named = elim (ends_in cs) [
  | inl (k, alone) ↦
      let none = ap last_name alone
      ∙ ap (λ ds. option_and_then name_of (slice_get ds (length ds - 1))) (without_cur_dirs-curs k) in
      absurd (cc)
  | inr e ↦
      let last = ap last_name e.joined ∙ ap (option_and_then name_of) (last_other-at e.front e.last e.curs e.other) in
      let is : e.last ≡ name n = named_step e.last n (sym last ∙ named) in
      let whole : cs ≡ (e.front ++ e.last ∷ []) ++ replicate e.curs cur = e.joined
      ∙ sym (append_assoc e.front (e.last ∷ []) (replicate e.curs cur)) in
      let count : kept_len cs ≡ length e.front =
      ap kept_len whole ∙ kept_len-curs (e.front ++ e.last ∷ []) e.curs ∙ kept_len-push e.front e.last e.other in
      let firsts : kept cs ≡ e.front =
      ap (λ k. take k cs) count ∙ ap (take (length e.front)) e.joined
      ∙ take_at e.front (e.last ∷ replicate e.curs cur) (length e.front) refl in
      (e.curs, e.joined ∙ ap₂ (λ front c. front ++ c ∷ replicate e.curs cur) (sym firsts) is)
]

-- the file name is the component after those that a parent keeps
pub slice_get-last_name : (cs : List Step) (n : List ℕ) → last_name cs ≡ Some n
    → slice_get cs (kept_len cs) ≡ Some (name n)
slice_get-last_name cs n named =
    let (k, joined) = last_name-split cs n named in
    let count : length (kept cs) ≡ kept_len cs = length-take-le (kept_len cs) cs (omega arith) in
    ap (slice_get cs) (sym count) ∙ ap (λ ds. slice_get ds (length (kept cs))) joined
    ∙ slice_get-at (kept cs) (name n) (replicate k cur)

-- ---- the stem and the extension of a name

-- the byte before the dotless end of a name is a dot
last_is_dot : (n : List ℕ) → suffix_len no_dot n < length n → get_or n (length n - suffix_len no_dot n - 1) 0 ≡ dot
last_is_dot n less =
    let count = length-reverse n in
    let index : length n - 1 - suffix_len no_dot n ≡ length n - suffix_len no_dot n - 1 = omega arith in
    let there = get_or-reverse n (suffix_len no_dot n) 0 less ∙ ap (λ i. get_or n i 0) index in
    let stops = prefix_len_stops no_dot (reverse n) 0 (omega arith) in
    eqb-true _ dot (not-false _ (ap no_dot (sym there) ∙ stops))

parts_at_dot : (n : List ℕ) → has_stem n ≡ true → n ≡ before_last is_dot n ++ dot ∷ after_last is_dot n
parts_at_dot n stem =
    let k = length n - suffix_len no_dot n - 1 in
    let short : 0 < k = stem_len k stem in
    let less : suffix_len no_dot n < length n = omega arith in
    let after : suc k ≡ length n - suffix_len no_dot n = omega arith in
    let rest : drop k n ≡ dot ∷ after_last is_dot n = drop-cons n k 0 (omega arith)
    ∙ ap (λ b. b ∷ drop (suc k) n) (last_is_dot n less) ∙ ap (λ i. dot ∷ drop i n) after in
    sym (take-append-drop k n) ∙ ap (λ bs. take k n ++ bs) rest
  where
    stem_len : (k : ℕ) → is_not_empty (take k n) ≡ true → 0 < k
    stem_len zero stem = absurd (true≢false (sym stem))
    stem_len (suc k) stem = omega arith

-- ---- a new extension

no_dot-plain : (e : List ℕ) → list_all is_plain_byte e ≡ true → All (λ b. b ≢ dot) e
no_dot-plain e plain = All-from_recursion (λ b. b ≢ dot) e (each e plain)
  where
    each : (bs : List ℕ) → list_all is_plain_byte bs ≡ true → AllByRecursion (λ b. b ≢ dot) bs
    each [] plain = tt
    each (b ∷ bs) plain =
        let both = and_parts _ _ plain in
        (eqb-false b dot (not-true _ (and_parts _ _ both.0).0), each bs both.1)

-- the text before the last component is empty or ends in a slash
head_ends : (head n : List ℕ) (cs : List Step) → components (head ++ n) ≡ cs ++ name n ∷ [] → 0 < length n
    → HasNoSlash n
    → (head ≡ []) ⊎ ((xs : List ℕ) × (head ≡ xs ++ slash ∷ []))
head_ends head n cs last nonempty none = elim (last_slash head) [
  | inl whole ↦
      let one = components_whole (head ++ n) (omega (arith, length-append head n))
      (HasNoSlash-append head n whole none) in
      inl (alone head (last_same cs [] (name n) (classed (head ++ n)) (sym last ∙ one)))
  | inr (xs, ys, joined, whole) ↦
      let one = components_whole (ys ++ n) (omega (arith, length-append ys n)) (HasNoSlash-append ys n whole none) in
      let parts = ap (λ x. components (x ++ n)) joined ∙ ap components (append_assoc xs (slash ∷ ys) n)
      ∙ components-append xs (ys ++ n) ∙ ap (λ ds. components xs ++ ds) one in
      let empty = alone ys (last_same cs (components xs) (name n) (classed (ys ++ n)) (sym last ∙ parts)) in
      inr (xs, joined ∙ ap (λ bs. xs ++ slash ∷ bs) empty)
]
  where
    alone : (bs : List ℕ) → name n ≡ classed (bs ++ n) → bs ≡ []
    alone [] same = refl
    alone (b ∷ bs) same =
        let text = ap length (ap step_text same ∙ step_text-classed ((b ∷ bs) ++ n)) in
        absurd (omega (arith, text, length-append (b ∷ bs) n))

-- another last component in place of the old one
components-replaced : (head n m : List ℕ) (cs : List Step) → components (head ++ n) ≡ cs ++ name n ∷ [] → 0 < length n
    → HasNoSlash n
    → 0 < length m → HasNoSlash m → components (head ++ m) ≡ cs ++ classed m ∷ []
components-replaced head n m cs last nonempty none nonempty' none' =
    let before = placed n nonempty none in
    let same = last_same cs (components head) (name n) (classed n) (sym last ∙ before) in
    let front : components head ≡ cs =
    append_cancel_right (components head) cs (name n ∷ []) (ap (λ c. components head ++ c ∷ []) same ∙ sym before ∙ last) in
    placed m nonempty' none' ∙ ap (λ ds. ds ++ classed m ∷ []) front
  where
    -- a piece after the head is one more component
    placed : (p : List ℕ) → 0 < length p → HasNoSlash p → components (head ++ p) ≡ components head ++ classed p ∷ []
    placed p nonempty' none' = elim (head_ends head n cs last nonempty none) [
      | inl empty ↦ ap (λ x. components (x ++ p)) empty ∙ components_whole p nonempty' none'
          ∙ ap (λ ds. ds ++ classed p ∷ []) (sym components-nil) ∙ ap (λ x. components x ++ classed p ∷ []) (sym empty)
      | inr (xs, ends) ↦
          ap (λ x. components (x ++ p)) ends ∙ ap components (append_assoc xs (slash ∷ []) p) ∙ components-append xs p
          ∙ ap (λ ds. components xs ++ ds) (components_whole p nonempty' none')
          ∙ ap (λ ds. ds ++ classed p ∷ []) (sym (components-trailing_slash xs) ∙ ap components (sym ends))
    ]

-- a piece of three bytes or more is a name
name-classed : (m : List ℕ) → 2 < length m → classed m ≡ name m
name-classed m long = named (classed m) (step_text-classed m)
  where
    named : (c : Step) → step_text c ≡ m → c ≡ name m
    named cur text = absurd (omega (arith, ap length text))
    named up text = absurd (omega (arith, ap length text))
    named (name k) text = ap name text

stem_nonempty : (n : List ℕ) → 0 < length n → 0 < length (stem_of n)
stem_nonempty n nonempty =
    cond_both (has_stem n) (before_last is_dot n) n (λ x. 0 < length x) (λ stem. long (before_last is_dot n) stem)
    (λ _. nonempty)
  where
    long : (x : List ℕ) → is_not_empty x ≡ true → 0 < length x
    long [] stem = absurd (true≢false (sym stem))
    long (b ∷ bs) stem = omega arith

-- the stem of a name has no slash
HasNoSlash-stem : (n : List ℕ) → HasNoSlash n → HasNoSlash (stem_of n)
HasNoSlash-stem n none =
    let parts = λ (stem : has_stem n ≡ true). subst HasNoSlash (parts_at_dot n stem) none in
    cond_both (has_stem n) (before_last is_dot n) n HasNoSlash
    (λ stem. HasNoSlash-append_left (before_last is_dot n) (dot ∷ after_last is_dot n) (parts stem)) (λ _. none)

SpellThemselves-last : (cs : List Step) (c : Step) → SpellThemselves (cs ++ c ∷ []) → SpellsItself c
SpellThemselves-last [] c proper = proper.0
SpellThemselves-last (d ∷ cs) c proper = SpellThemselves-last cs c proper.1

-- a plain extension can come after a dot
pub is_extension-plain : (e : List ℕ) → IsTrue (is_plain_extension e) → IsTrue (is_extension e)
is_extension-plain e plain =
    let both = and_parts _ _ plain in
    and_from _ _ both.0 (no_slashes e both.1)
  where
    no_slashes : (bs : List ℕ) → list_all is_plain_byte bs ≡ true → list_all (λ b. not (is_slash b)) bs ≡ true
    no_slashes [] plain = refl
    no_slashes (b ∷ bs) plain =
        let both = and_parts _ _ plain in
        and_from _ _ (and_parts _ _ both.0).1 (no_slashes bs both.1)

HasNoSlash-extension : (e : List ℕ) → list_all (λ b. not (is_slash b)) e ≡ true → HasNoSlash e
HasNoSlash-extension [] none = tt
HasNoSlash-extension (b ∷ bs) none =
    let both = and_parts _ _ none in
    (not-true _ both.0, HasNoSlash-extension bs both.1)

-- the components where the last of them, which is a name, is cut to its stem and gets an extension
module _ (head n : List ℕ) (cs : List Step) (last : components (head ++ n) ≡ cs ++ name n ∷ []) where
  proper : SpellsItself (name n)
  proper = SpellThemselves-last cs (name n) (subst SpellThemselves last (SpellThemselves-components (head ++ n)))

  components-stem : components (head ++ stem_of n) ≡ cs ++ classed (stem_of n) ∷ []
  components-stem =
      let none = HasNoSlash-proper (name n) proper in
      let nonempty = nonempty_proper (name n) proper in
      components-replaced head n (stem_of n) cs last nonempty none (stem_nonempty n nonempty) (HasNoSlash-stem n none)

  components-stem_dotted : (e : List ℕ) → is_extension e ≡ true
      → components (head ++ stem_of n ++ dotted e) ≡ cs ++ name (stem_of n ++ dot ∷ e) ∷ []
  components-stem_dotted [] plain = absurd (true≢false (sym plain))
  components-stem_dotted (b ∷ bs) plain =
      let m = stem_of n ++ dot ∷ b ∷ bs in
      let none = HasNoSlash-proper (name n) proper in
      let nonempty = nonempty_proper (name n) proper in
      let stem = stem_nonempty n nonempty in
      let len = length-append (stem_of n) (dot ∷ b ∷ bs) in
      let none' = HasNoSlash-append (stem_of n) (dot ∷ b ∷ bs) (HasNoSlash-stem n none)
      (refl, HasNoSlash-extension (b ∷ bs) plain) in
      ap components (append_assoc head (stem_of n) (dot ∷ b ∷ bs))
      ∙ components-replaced head n m cs last nonempty none (omega arith) none'
      ∙ ap (λ c. cs ++ c ∷ []) (name-classed m (omega arith))

  -- a plain extension is the extension of the new name, and the stem stays
  IsSplit-stem_dotted : (e : List ℕ) → is_plain_extension e ≡ true
      → IsSplit (stem_of n ++ dot ∷ e) (stem_of n) (Some e)
  IsSplit-stem_dotted e plain =
      IsSplit-dot (stem_of n ++ dot ∷ e) (stem_of n) e (refl, no_dot-plain e (and_parts _ _ plain).1)
      (λ empty. omega (arith, empty, stem_nonempty n (nonempty_proper (name n) proper)))

-- what is known of the components of an extended text, where there is a file name
module _ (text e extended n : List ℕ) (named : file_name_of text ≡ Some n) (is : IsExtended text e extended) where
  -- the text's front up to its file name
  head : (head : List ℕ) × (components (head ++ n) ≡ kept (components text) ++ name n ∷ [])
      × (extended ≡ head ++ stem_of n ++ dotted e)
  head =
      let (head, cut, joined) = subst (IsExtendedAt text e extended) named is in
      let cs = components text in
      let placed = slice_get-last_name cs n named in
      let inside = slice_get_within cs (kept_len cs) (name n) placed in
      let last = cut.same_components ∙ take_more cs (kept_len cs) cur inside
      ∙ ap (λ c. kept cs ++ c ∷ []) (get_or_from_slice_get cs (kept_len cs) (name n) cur placed) in
      (head, last, joined)

  pub components-IsExtended : IsTrue (is_extension e)
      → components extended ≡ kept (components text) ++ name (stem_of n ++ dot ∷ e) ∷ []
  components-IsExtended plain =
      let (head, last, joined) = head in
      ap components joined ∙ components-stem_dotted head n (kept (components text)) last e plain

  pub components-IsExtended_empty : e ≡ [] → components extended ≡ kept (components text) ++ classed (stem_of n) ∷ []
  components-IsExtended_empty none =
      let (head, last, joined) = head in
      ap components (joined ∙ ap (λ e. head ++ stem_of n ++ dotted e) none ∙ append-nil (head ++ stem_of n))
      ∙ components-stem head n (kept (components text)) last

  pub file_name-IsExtended : IsTrue (is_extension e) → file_name_of extended ≡ Some (stem_of n ++ dot ∷ e)
  file_name-IsExtended plain =
      ap last_name (components-IsExtended plain)
      ∙ ap (option_and_then name_of) (last_other-at (kept (components text)) (name (stem_of n ++ dot ∷ e)) 0 refl)

  pub IsSplit-IsExtended : IsTrue (is_plain_extension e) → IsSplit (stem_of n ++ dot ∷ e) (stem_of n) (Some e)
  IsSplit-IsExtended plain =
      let (head, last, joined) = head in
      IsSplit-stem_dotted head n (kept (components text)) last e plain

-- a text without a file name stays
pub IsExtended-unnamed : (text e extended : List ℕ) → file_name_of text ≡ None → IsExtended text e extended
    → extended ≡ text
IsExtended-unnamed text e extended none is = subst (IsExtendedAt text e extended) none is

-- a plain extension that was set is the extension of the file name
pub extension-IsExtended : (text e extended : List ℕ) → IsTrue (is_plain_extension e) → IsSome (file_name_of text)
    → IsExtended text e extended
    → option_and_then extension_of (file_name_of extended) ≡ Some e
extension-IsExtended text e extended plain found is =
    let (n, named) = IsSome-value (file_name_of text) found in
    ap (option_and_then extension_of) (file_name-IsExtended text e extended n named is (is_extension-plain e plain))
    ∙ (IsSplit-IsExtended text e extended n named is plain).extension_is

-- and the stem stays
pub stem-IsExtended : (text e extended : List ℕ) → IsTrue (is_plain_extension e) → IsExtended text e extended
    → option_map stem_of (file_name_of extended) ≡ option_map stem_of (file_name_of text)
stem-IsExtended text e extended plain is = at (file_name_of text) refl
  where
    at : (o : Option (List ℕ)) → file_name_of text ≡ o
        → option_map stem_of (file_name_of extended) ≡ option_map stem_of o
    at None none = ap (λ t. option_map stem_of (file_name_of t)) (IsExtended-unnamed text e extended none is)
        ∙ ap (option_map stem_of) none
    at (Some n) named =
        ap (option_map stem_of) (file_name-IsExtended text e extended n named is (is_extension-plain e plain))
        ∙ ap Some (IsSplit-IsExtended text e extended n named is plain).stem_is

-- ---- what stays when a name is replaced

-- the components before a name at the end are those that a parent keeps
pub kept-name : (cs : List Step) (n : List ℕ) → kept (cs ++ name n ∷ []) ≡ cs
kept-name cs n =
    ap (λ k. take k (cs ++ name n ∷ [])) (kept_len-push cs (name n) refl) ∙ take_at cs (name n ∷ []) (length cs) refl

-- and the name is the file name
pub last_name-name : (cs : List Step) (n : List ℕ) → last_name (cs ++ name n ∷ []) ≡ Some n
last_name-name cs n = ap (option_and_then name_of) (last_other-at cs (name n) 0 refl)
