-- What the code asks of a name has the answer of the definition.
use Rattle.std.proofs.Common.{rules, ◌≡◌, ◌≢◌, ◌↔◌, ◌<◌, ◌≤◌, ◌+◌, ◌-◌, ℕ, Bool, true, false, cond, ◌||◌, inl, inr, List, [], ◌∷◌, map, length, take, get_or, codes, Option, None, Some, refl, sym, ap, ◌∙◌, subst, arith, true≢false}
use Rattle.std.specs.List.{All, list_any, slice_split, suffix_len, count_by, filter}
use Rattle.std.specs.Str.{bytes_eq}
use Rattle.std.proofs.Math.Seq.{take-length}
use Rattle.std.proofs.lemmas.Bool.{or_parts, or_from, cases_Bool, cond-false, both_ways, false_from_ne_true, eqb-true}
use Rattle.std.proofs.lemmas.List.{length-map, length-take-le}
use Rattle.std.proofs.lemmas.List.Elements.{All-nil, All-cons, All-head, All-tail}
use Rattle.std.proofs.lemmas.List.Splits.{slice_split_none, length-slice_split}
use Rattle.std.proofs.lemmas.List.Sums.{sum_by-cons, suffix_len-take_yes, suffix_len-take_no, suffix_len-le-length}
use Rattle.std.proofs.lemmas.Option.{same_Some, none-some}
use Rattle.std.proofs.lemmas.Slice.Eq.{bytes_eq-Decides}
use Rattle.relative_path.specs.Steps.{Step, cur, up, name, is_slash, is_not_empty, classed, components}
use Rattle.relative_path.proofs.OnLiterals.{relative_path_on_literals}
use Rattle.relative_path_files.specs.FromTop.{SpellsPlace}
use Rattle.relative_path_files.specs.Win32.{is_cut, is_reserved, is_trimmed, trimmed, win32_names}
use Rattle.relative_path_files.specs.Names.{is_nul, is_delete, unix_names, names_device, is_one_of, forks, IfName, IsPlainName}
use Rattle.relative_path_files.specs.NameTests.{is_foreign, holds_foreign, ends_in_dot_or_space, is_empty, is_unportable, is_unportable_step}

-- ---- no element passes a test

-- where failing the test is P, no element passes exactly if P holds of each
pub All-none : {X : Type 0} (p : X → Bool) (P : X → Type 0) → ((x : X) → p x ≡ false → P x) → (xs : List X)
    → list_any p xs ≡ false → All P xs
All-none p P each [] none = All-nil P
All-none p P each (x ∷ xs) none =
    let (here, rest) = or_parts (p x) (list_any p xs) none in
    All-cons P x xs (each x here) (All-none p P each xs rest)

pub none-All : {X : Type 0} (p : X → Bool) (P : X → Type 0) → ((x : X) → P x → p x ≡ false) → (xs : List X) → All P xs
    → list_any p xs ≡ false
none-All p P each [] all = refl
none-All p P each (x ∷ xs) all =
    or_from (p x) (list_any p xs) (each x (All-head P x xs all)) (none-All p P each xs (All-tail P x xs all))

-- no element passes a test that implies one that none passes
none-weaker : (p q : ℕ → Bool) → ((x : ℕ) → p x ≡ false → q x ≡ false) → (xs : List ℕ) → list_any p xs ≡ false
    → list_any q xs ≡ false
none-weaker p q each [] none = refl
none-weaker p q each (x ∷ xs) none =
    let (here, rest) = or_parts (p x) (list_any p xs) none in
    or_from (q x) (list_any q xs) (each x here) (none-weaker p q each xs rest)

-- a count of 0
none-count : (p : ℕ → Bool) (xs : List ℕ) → count_by p xs ≡ 0 → list_any p xs ≡ false
none-count p [] none = refl
none-count p (x ∷ xs) none = tell (p x) refl (none-count p xs) where
  tell : (b : Bool) → p x ≡ b → (count_by p xs ≡ 0 → list_any p xs ≡ false) → (p x || list_any p xs) ≡ false
  tell true is later = absurd (let counts = sum_by-cons (λ y. cond (p y) 1 0) x xs in
      let here : ◌≡◌ {A = ℕ} (cond (p x) 1 0) 1 = ap (λ b. cond b 1 0) is in omega (arith, none, counts, here))
  tell false is later =
      let counts = sum_by-cons (λ y. cond (p y) 1 0) x xs in
      let here : ◌≡◌ {A = ℕ} (cond (p x) 1 0) 0 = ap (λ b. cond b 1 0) is in
      or_from (p x) (list_any p xs) is (later (omega (arith, none, counts, here)))

-- ---- the end of a name

trimmed-same : (text : List ℕ) → ends_in_dot_or_space text ≡ false → trimmed text ≡ text
trimmed-same [] ends = refl
trimmed-same (b ∷ bs) ends =
    let text = b ∷ bs in
    let zero : suffix_len is_trimmed text ≡ 0 =
    rw (take-length text) at (suffix_len-take_no is_trimmed text (length text) 0 (omega arith) (omega arith) ends) in
    let whole : length text - suffix_len is_trimmed text ≡ length text = omega (arith, zero) in
    ap (λ n. take n text) whole ∙ take-length text

same-trimmed : (text : List ℕ) → trimmed text ≡ text → ends_in_dot_or_space text ≡ false
same-trimmed [] same = refl
same-trimmed (b ∷ bs) same = elim (cases_Bool (ends_in_dot_or_space (b ∷ bs))) [
  | inl ends ↦
      let text = b ∷ bs in
      let some = rw (take-length text) at (suffix_len-take_yes is_trimmed text (length text) 0 (omega arith) (omega arith) ends) in
      let short = length-take-le (length text - suffix_len is_trimmed text) text (omega arith) in
      let whole = ap length same in absurd (omega (arith, some, short, whole))
  | inr none ↦ none
]

-- ---- one piece

one_piece : (p : ℕ → Bool) (text : List ℕ) → list_any p text ≡ false → slice_split p text ≡ text ∷ []
one_piece p text none = slice_split_none p text (All-none p (λ b. p b ≡ false) (λ b is. is) text none)

-- a text that isn't empty, `.` or `..`, and has no slash, is one name
components-name : (text : List ℕ) → text ≢ [] → text ≢ codes "." → text ≢ codes ".." → list_any is_slash text ≡ false
    → components text ≡ name text ∷ []
unfolding relative_path_on_literals
components-name [] some not_here not_above no_slash = absurd (some refl)
components-name (b ∷ bs) some not_here not_above no_slash =
    ap (λ pieces. map classed (filter is_not_empty pieces)) (one_piece is_slash (b ∷ bs) no_slash)
    ∙ ap (λ c. c ∷ []) (is_name_of (bytes_eq (b ∷ bs) (codes ".")) (bytes_eq (b ∷ bs) (codes "..")) refl refl) where
      is_name_of : (here above : Bool) → bytes_eq (b ∷ bs) (codes ".") ≡ here → bytes_eq (b ∷ bs) (codes "..") ≡ above
          → cond here cur (cond above up (name (b ∷ bs))) ≡ name (b ∷ bs)
      is_name_of true above here is = absurd (not_here ((bytes_eq-Decides (b ∷ bs) (codes ".")).0 here))
      is_name_of false true here is = absurd (not_above ((bytes_eq-Decides (b ∷ bs) (codes "..")).0 is))
      is_name_of false false here is = refl

-- the empty text has no component
components-empty : components [] ≡ []
unfolding relative_path_on_literals
components-empty = refl

-- ---- a plain name

-- a byte that is in a plain name isn't reserved, doesn't cut and isn't 127
foreign-parts : (b : ℕ) → is_foreign b ≡ false
    → (is_reserved b ≡ false) × (is_cut b ≡ false) × (is_delete b ≡ false)
foreign-parts b none =
    let (front, no_delete) = or_parts (is_reserved b || is_cut b) (is_delete b) none in
    let (no_reserved, no_cut) = or_parts (is_reserved b) (is_cut b) front in
    (no_reserved, no_cut, no_delete)

foreign-from : (b : ℕ) → (is_reserved b ≡ false) × (is_cut b ≡ false) × (is_delete b ≡ false) → is_foreign b ≡ false
foreign-from b (no_reserved, no_cut, no_delete) =
    or_from (is_reserved b || is_cut b) (is_delete b) (or_from (is_reserved b) (is_cut b) no_reserved no_cut) no_delete

-- it isn't a NUL
nul-reserved : (b : ℕ) → is_reserved b ≡ false → is_nul b ≡ false
nul-reserved b is =
    false_from_ne_true (is_nul b) (λ e. true≢false (subst (λ n. is_reserved n ≡ false) (eqb-true b 0 e) is))

-- it isn't a slash
slash-cut : (b : ℕ) → is_cut b ≡ false → is_slash b ≡ false
slash-cut b is = (or_parts _ _ (or_parts _ _ is).0).1

-- a name that passes the tests is plain
pub IsPlainName-tests : (text : List ℕ) → is_unportable text ≡ false → IsPlainName text
IsPlainName-tests text none =
    let (rest4, no_fork) = or_parts _ _ none in
    let (rest3, no_device) = or_parts _ _ rest4 in
    let (rest2, ends) = or_parts _ _ rest3 in
    let (some, foreign) = or_parts _ _ rest2 in
    let no_reserved = none-weaker is_foreign is_reserved (λ b is. (foreign-parts b is).0) text foreign in
    let no_cut = none-weaker is_foreign is_cut (λ b is. (foreign-parts b is).1) text foreign in
    let no_nul = none-weaker is_reserved is_nul nul-reserved text no_reserved in
    let no_slash = none-weaker is_cut is_slash slash-cut text no_cut in
    record {
      windows = cond-false (list_any is_reserved text) None (Some (map trimmed (slice_split is_cut text))) no_reserved
          ∙ ap (λ pieces. Some (map trimmed pieces)) (one_piece is_cut text no_cut)
          ∙ ap (λ t. Some (t ∷ [])) (trimmed-same text ends);
      unix = cond-false (list_any is_nul text) None (Some (components text)) no_nul
          ∙ ap Some (components-name text (λ e. both_ways (is_empty text) some (ap is_empty e))
          (λ e. both_ways (ends_in_dot_or_space text) ends (ap ends_in_dot_or_space e))
          (λ e. both_ways (ends_in_dot_or_space text) ends (ap ends_in_dot_or_space e)) no_slash);
      no_delete = none-weaker is_foreign is_delete (λ b is. (foreign-parts b is).2) text foreign;
      no_device = no_device;
      no_fork = no_fork;
    }

-- what is read if no byte is reserved
read-some : {X : Type 0} (b : Bool) (x y : X) → cond b None (Some x) ≡ Some y → (b ≡ false) × (x ≡ y)
read-some true x y is = absurd (none-some y is)
read-some false x y is = (refl, same_Some x y is)

-- a name of one component isn't empty
is_empty-name : (text n : List ℕ) → components text ≡ name n ∷ [] → is_empty text ≡ false
is_empty-name [] n is = absurd (let none = sym components-empty ∙ is in cc)
is_empty-name (b ∷ bs) n is = refl

-- a plain name passes the tests
pub tests-IsPlainName : (text : List ℕ) → IsPlainName text → is_unportable text ≡ false
tests-IsPlainName text plain =
    let (no_reserved, pieces) = read-some (list_any is_reserved text) (map trimmed (slice_split is_cut text)) (text ∷ []) plain.windows in
    let count : length (slice_split is_cut text) ≡ 1 =
    sym (length-map (slice_split is_cut text) trimmed) ∙ ap length pieces in
    let no_cut = none-count is_cut text (omega (arith, count, length-slice_split is_cut text)) in
    let same : trimmed text ≡ text =
    ap (λ names. get_or names 0 []) (sym (ap (map trimmed) (one_piece is_cut text no_cut)) ∙ pieces) in
    let (_, one) = read-some (list_any is_nul text) (components text) (name text ∷ []) plain.unix in
    let foreign = none-All is_foreign (λ b. is_foreign b ≡ false) (λ b is. is) text
    (λ k d within. foreign-from (get_or text k d) (
      All-none is_reserved (λ b. is_reserved b ≡ false) (λ b is. is) text no_reserved k d within,
      All-none is_cut (λ b. is_cut b ≡ false) (λ b is. is) text no_cut k d within,
      All-none is_delete (λ b. is_delete b ≡ false) (λ b is. is) text plain.no_delete k d within,
    )) in
    or_from _ _ (or_from _ _ (or_from _ _ (or_from _ _ (is_empty-name text text one) foreign)
    (same-trimmed text same)) plain.no_device) plain.no_fork

-- ---- the names of a list of components

step-tests : (c : Step) → is_unportable_step c ≡ false → IfName IsPlainName c
step-tests cur is = tt
step-tests up is = tt
step-tests (name n) is = IsPlainName-tests n is

tests-step : (c : Step) → IfName IsPlainName c → is_unportable_step c ≡ false
tests-step cur is = refl
tests-step up is = refl
tests-step (name n) is = tests-IsPlainName n is

pub All-IsPlainName : (cs : List Step) → list_any is_unportable_step cs ≡ false → All (IfName IsPlainName) cs
All-IsPlainName cs none = All-none is_unportable_step (IfName IsPlainName) step-tests cs none

pub none-IsPlainName : (cs : List Step) → All (IfName IsPlainName) cs → list_any is_unportable_step cs ≡ false
none-IsPlainName cs all = none-All is_unportable_step (IfName IsPlainName) tests-step cs all

-- P holds of each name of a place exactly if it does of each component that is a name
names-All : (P : List ℕ → Type 0) (place : List (List ℕ)) → All (IfName P) (map name place) → All P place
names-All P [] all = All-nil P
names-All P (n ∷ place) all =
    All-cons P n place (All-head (IfName P) (name n) (map name place) all)
    (names-All P place (All-tail (IfName P) (name n) (map name place) all))

All-names : (P : List ℕ → Type 0) (place : List (List ℕ)) → All P place → All (IfName P) (map name place)
All-names P [] all = All-nil (IfName P)
All-names P (n ∷ place) all =
    All-cons (IfName P) (name n) (map name place) (All-head P n place all)
    (All-names P place (All-tail P n place all))

pub place-All : (P : List ℕ → Type 0) (cs : List Step) (text : List ℕ) (spells : SpellsPlace cs text)
    → All (IfName P) (components text) → All P spells.place
place-All P cs text spells all = names-All P spells.place (rw spells.names at all)

pub All-place : (P : List ℕ → Type 0) (cs : List Step) (text : List ℕ) (spells : SpellsPlace cs text)
    → All P spells.place → All (IfName P) (components text)
All-place P cs text spells all = rw spells.names (All-names P spells.place all)
