-- New files: each one's name has a number of its own, and each is next to its page.
use Rattle.std.proofs.Common.{false, ◌≡◌, ◌≢◌, ℕ, zero, suc, ◌<◌, ◌≤◌, ◌+◌, List, [], ◌∷◌, ◌++◌, Some, inl, inr, All, AllPairs, IsPermutation, codes, length, map, take, drop, get_or, refl, sym, ap, subst, ◌∙◌, append_assoc, append-nil, take-append-drop, arith}
use Rattle.std.specs.Int.Digits.{digits_of}
use Rattle.std.specs.List.{AllZip, filter}
use Rattle.std.proofs.lemmas.Bool.{cases_Bool, eqb-true}
use Rattle.std.proofs.lemmas.List.Elements.{All-append, All-cons, All-from_recursion, All-nil, All-push, All-take, All-weaker, recursion_from_All}
use Rattle.std.proofs.lemmas.List.Quantifiers.{all_pairs_push}
use Rattle.std.proofs.lemmas.List.Sorted.{All-permutation, IsPermutation-map}
use Rattle.std.proofs.lemmas.List.Splits.{slice_split_none}
use Rattle.std.proofs.lemmas.List.{take_more}
use Rattle.std.proofs.lemmas.Slice.Zip.{all_zipped_more}
use Rattle.std.proofs.lemmas.Option.{same_Some}
use Rattle.relative_path.specs.Editing.{kept_len, pushed}
use Rattle.relative_path.specs.Naming.{file_name_of, last_name}
use Rattle.relative_path.specs.Normalizing.{IsNormal, IsNormalText, IsNormalTextOf}
use Rattle.relative_path.specs.Steps.{Step, cur, up, name, is_slash, is_not_empty, step_text, classed, components, spell, SpellsItself, SpellThemselves}
use Rattle.relative_path.specs.Walk.{IsSame}
use Rattle.relative_path.proofs.ForCallers.{IsNormal-append_left, IsNormal-push_name, IsSame-refl, SpellThemselves-components, components-pushed, last_name-name, spell-pushed}
use Rattle.relative_path.proofs.OnLiterals.{relative_path_on_literals}
use Rattle.relative_path_places.specs.Places.{directory}
use Rattle.relative_path_places.specs.PlaceIndex.{Indexes, IsNoneAt, path_at}
use Rattle.relative_path_places.specs.declared.place_index.PlaceIndex.{PlaceIndex}
use Rattle.relmove_checks.proofs.ForCallers.{components-nil}
use Rattle.relmove_steps.specs.declared.staging.FreeNames.{FreeNames}
use Rattle.relmove_steps.specs.Numbers.{numeral}
use Rattle.relmove_steps.specs.StagingNames.{numbered_name, IsNumbered, AreDrawn, AreFreeNames, IsDrawn, IsDrawnIn}
use Rattle.relmove_steps.specs.NewFiles.{IsOneOf, IsNextTo, HaveOwnFiles, EndsUpTo, AreFilesDrawn}
use Rattle.relmove_steps.specs.Actions.{ActionTexts, WritesPage, WritesPages, with_text, staged_names, pages_written}
use Rattle.relmove_steps.proofs.NamesLemmas.{bytes_eq-false, numbered_name-other}

-- ---- a numbered name is one component

is_slash-digit : (d : ℕ) → is_slash (48 + d) ≡ false
is_slash-digit d = elim (cases_Bool (is_slash (48 + d))) [
  | inl is ↦ let same = eqb-true (48 + d) 47 is in absurd (omega (arith, same))
  | inr differs ↦ differs
]

no_slash-digits : (digits : List ℕ) → All (λ b. is_slash b ≡ false) (map (λ d. 48 + d) digits)
no_slash-digits [] = All-nil (λ b. is_slash b ≡ false)
no_slash-digits (d ∷ digits) =
    All-cons (λ b. is_slash b ≡ false) (48 + d) (map (λ d. 48 + d) digits) (is_slash-digit d) (no_slash-digits digits)

no_slash-numeral : (n : ℕ) → All (λ b. is_slash b ≡ false) (numeral n)
no_slash-numeral zero = All-cons (λ b. is_slash b ≡ false) 48 [] refl (All-nil (λ b. is_slash b ≡ false))
no_slash-numeral (suc n) = no_slash-digits (digits_of 10 (suc n))

no_slash-numbered_name : (n : ℕ) → All (λ b. is_slash b ≡ false) (numbered_name n)
no_slash-numbered_name n =
    All-append (λ b. is_slash b ≡ false) (codes ".relmove-") (numeral n)
    (All-from_recursion (λ b. is_slash b ≡ false) (codes ".relmove-")
    (refl, (refl, (refl, (refl, (refl, (refl, (refl, (refl, (refl, tt))))))))))
    (no_slash-numeral n)

-- a text of at least two bytes, the second one not a dot
classed-name : (a b : ℕ) (bs : List ℕ) → b ≢ 46 → classed (a ∷ b ∷ bs) ≡ name (a ∷ b ∷ bs)
classed-name a b bs other =
    let not_here = bytes_eq-false (a ∷ b ∷ bs) (step_text cur) (λ same. absurd (cc)) in
    let not_above = bytes_eq-false (a ∷ b ∷ bs) (step_text up)
    (λ same. let second : b ≡ 46 = cc in other second) in
    rw (not_here, not_above) refl

pub components-numbered_name : (n : ℕ) → components (numbered_name n) ≡ name (numbered_name n) ∷ []
unfolding relative_path_on_literals
components-numbered_name n =
    ap (λ pieces. map classed (filter is_not_empty pieces))
    (slice_split_none is_slash (numbered_name n) (no_slash-numbered_name n))
    ∙ ap (λ c. c ∷ []) (classed-name 46 114 (codes "elmove-" ++ numeral n) (λ same. absurd (omega (arith, same))))

-- new texts of the pages up to the next are written
pub WritesPages-next : (paths : List (List Step)) (k : ℕ) (cs : List Step) (actions more : ActionTexts) → k < length paths
    → path_at paths k ≡ cs → WritesPage cs actions more → WritesPages (take k paths) actions
    → WritesPages (take (k + 1) paths) more
WritesPages-next paths k cs actions more within here (page, is, written) so_far =
    subst (AllZip IsNormalTextOf (take (k + 1) paths)) (sym written)
    (subst (λ all. AllZip IsNormalTextOf all (pages_written actions ++ page ∷ [])) (sym (take_more paths k [] within))
    (all_zipped_more IsNormalTextOf (take k paths) (pages_written actions) (path_at paths k) page so_far
    (subst (λ ds. IsNormalTextOf ds page) (sym here) is)))

-- staging names are one component each
pub components-free : (paths : List (List Step)) (names : List (List ℕ)) → AreFreeNames paths names
    → All (λ staging. components staging ≡ name staging ∷ []) names
components-free paths names free = λ k d l.
    let (number, is) = free.numbered k d l in
    subst (λ staging. components staging ≡ name staging ∷ []) (sym is) (components-numbered_name number)

-- ---- the text that spells components

pub spelled_from : (text : List ℕ) (cs : List Step) → text ≡ spell (components text) → SpellThemselves cs
    → (all : List ℕ) × (components all ≡ components text ++ cs) × (all ≡ spell (components all))
spelled_from text [] is proper = (text, sym (append-nil (components text)), is)
spelled_from text (c ∷ cs) is proper =
    let next_is : components (pushed text (step_text c)) ≡ components text ++ c ∷ [] =
    components-pushed text (step_text c) ∙ ap (λ last. components text ++ last) proper.0 in
    let (all, here, spelled) =
    spelled_from (pushed text (step_text c)) cs (spell-pushed text c is proper.0 ∙ ap spell (sym next_is)) proper.1 in
    (all, here ∙ ap (λ front. front ++ cs) next_is ∙ append_assoc (components text) (c ∷ []) cs, spelled)

-- normal components are those of their normal text
components-normal : (cs : List Step) (text : List ℕ) → SpellThemselves cs → IsNormal cs → IsNormalTextOf cs text
    → components text ≡ cs
components-normal cs text proper normal is =
    let (other, here, spelled) = spelled_from [] cs (ap spell (sym components-nil)) proper in
    let here_is : components other ≡ cs = here ∙ ap (λ front. front ++ cs) components-nil in
    let same : other ≡ text =
    is.only other (record { spelled = spelled; normal = subst IsNormal (sym here_is) normal })
    (subst (IsSame cs) (sym here_is) (IsSame-refl cs)) in
    ap components (sym same) ∙ here_is

-- the components of a directory, and then a numbered name
pub SpellThemselves-numbered : (cs : List Step) (number : ℕ) → All SpellsItself cs
    → SpellThemselves (cs ++ name (numbered_name number) ∷ [])
SpellThemselves-numbered cs number proper =
    recursion_from_All SpellsItself (cs ++ name (numbered_name number) ∷ [])
    (All-push SpellsItself cs (name (numbered_name number)) proper (components-numbered_name number))

pub components-below : (cs : List Step) (file : List ℕ) (number : ℕ) → All SpellsItself cs → IsNormal cs
    → IsNormalTextOf (cs ++ components (numbered_name number)) file
    → components file ≡ cs ++ name (numbered_name number) ∷ []
components-below cs file number proper normal is =
    components-normal (cs ++ name (numbered_name number) ∷ []) file (SpellThemselves-numbered cs number proper)
    (IsNormal-push_name cs (numbered_name number) normal)
    (subst (λ more. IsNormalTextOf (cs ++ more) file) (components-numbered_name number) is)

pub components-next_to : (page file : List ℕ) (number : ℕ) → IsNormalText page
    → IsNormalTextOf (directory (components page) ++ components (numbered_name number)) file
    → components file ≡ directory (components page) ++ name (numbered_name number) ∷ []
components-next_to page file number normal is =
    let cs = components page in
    let k = kept_len cs in
    components-below (take k cs) file number
    (All-take SpellsItself k cs (All-from_recursion SpellsItself cs (SpellThemselves-components page)))
    (IsNormal-append_left (take k cs) (drop k cs) (subst IsNormal (sym (take-append-drop k cs)) normal.normal)) is

-- ---- texts with another number have another name

pub EndsUpTo-other_name : (one other : List ℕ) (last number : ℕ) → EndsUpTo last one → last < number
    → (above : List Step) → components other ≡ above ++ name (numbered_name number) ∷ []
    → file_name_of one ≢ file_name_of other
EndsUpTo-other_name one other last number is late above ends same =
    let within = is.within in
    let names : Some (numbered_name is.number) ≡ Some (numbered_name number) =
    sym (ap last_name is.ends ∙ last_name-name is.above (numbered_name is.number)) ∙ same
    ∙ ap last_name ends ∙ last_name-name above (numbered_name number) in
    numbered_name-other is.number number (omega (arith, within, late)) (same_Some _ _ names)

-- so they are other texts
pub EndsUpTo-other : (one other : List ℕ) (last number : ℕ) → EndsUpTo last one → last < number
    → (above : List Step) → components other ≡ above ++ name (numbered_name number) ∷ [] → one ≢ other
EndsUpTo-other one other last number is late above ends same =
    EndsUpTo-other_name one other last number is late above ends (ap file_name_of same)

EndsUpTo-later : (before after : ℕ) (text : List ℕ) → before ≤ after → EndsUpTo before text → EndsUpTo after text
EndsUpTo-later before after text later is =
    let within = is.within in
    record { number = is.number; within = omega (arith, within, later); above = is.above; ends = is.ends }

EndsUpTo-IsNumbered : (last : ℕ) (text : List ℕ) → IsNumbered last text → EndsUpTo last text
EndsUpTo-IsNumbered last text is = record {
  number = is.number;
  within = is.within;
  above = [];
  ends = ap components is.name_is ∙ components-numbered_name is.number;
}

-- ---- drawing new files

-- the new files have different names
abbrev HaveOtherNames : List ℕ × List ℕ × List ℕ → List ℕ × List ℕ × List ℕ → Type 0
HaveOtherNames one other = file_name_of one.1 ≢ file_name_of other.1

-- the new file has none of these names
abbrev HasNoneOf : List (List ℕ) → List ℕ × List ℕ × List ℕ → Type 0
HasNoneOf names new = All (λ staging. file_name_of new.1 ≢ file_name_of staging) names

pub AreFilesDrawn-none : (index : PlaceIndex) (pages : List (List Step)) (free : FreeNames) (actions : ActionTexts)
    → actions.texts ≡ [] → AreFilesDrawn index pages free actions
AreFilesDrawn-none index pages free actions none = record {
  numbered = none_of (λ new. EndsUpTo free.last new.1);
  own = λ entries has. record {
    of_pages = none_of (λ new. IsOneOf pages new.0);
    next_to = none_of (λ new. IsNextTo new.0 new.1);
    unused = none_of (λ new. IsNoneAt entries (components new.1));
    different = subst (AllPairs HaveOtherNames) (sym none)
        (λ i j d l within. absurd (let w : j < 0 = within in omega (arith, w)));
    no_name = none_of (HasNoneOf (staged_names actions));
  };
}
  where
    none_of : (P : List ℕ × List ℕ × List ℕ → Type 0) → All P actions.texts
    none_of P = subst (All P) (sym none) (All-nil P)

-- one new file more
pub AreFilesDrawn-file : (index : PlaceIndex) (pages : List (List Step)) (before after : FreeNames) (actions : ActionTexts)
    (page file text : List ℕ) → IsDrawnIn (directory (components page)) before after file → IsNormalText page
    → IsOneOf pages page → AreDrawn index before (staged_names actions) → AreFilesDrawn index pages before actions
    → AreFilesDrawn index pages after (with_text actions page file text)
AreFilesDrawn-file index pages before after actions page file text next normal one drawn files =
    let new : List ℕ × List ℕ × List ℕ = (page, file, text) in
    let late = next.late in
    let last_is = next.last in
    let ends = components-next_to page file next.number normal next.file_of in
    record {
      numbered = All-push (λ (new : List ℕ × List ℕ × List ℕ). EndsUpTo after.last new.1) actions.texts new
          (All-weaker (λ (new : List ℕ × List ℕ × List ℕ). EndsUpTo before.last new.1)
          (λ (new : List ℕ × List ℕ × List ℕ). EndsUpTo after.last new.1)
          (λ new. EndsUpTo-later before.last after.last new.1 (omega (arith, late, last_is))) actions.texts files.numbered)
          (record {
            number = next.number;
            within = omega (arith, last_is);
            above = directory (components page);
            ends = ends;
          });
      own = λ entries has.
          let so_far = files.own entries has in
          record {
            of_pages = All-push (λ (new : List ℕ × List ℕ × List ℕ). IsOneOf pages new.0) actions.texts new so_far.of_pages
                one;
            next_to = All-push (λ (new : List ℕ × List ℕ × List ℕ). IsNextTo new.0 new.1) actions.texts new so_far.next_to
                (record { number = next.number; next = ends; spelled = next.file_of.normal_text.spelled });
            unused = All-push (λ (new : List ℕ × List ℕ × List ℕ). IsNoneAt entries (components new.1)) actions.texts new
                so_far.unused
                (next.unused entries (subst (Indexes entries) (sym drawn.entries) has));
            different = all_pairs_push HaveOtherNames actions.texts new so_far.different
                (λ k d l. EndsUpTo-other_name (get_or actions.texts k d).1 file before.last next.number (files.numbered k d l)
                next.late (directory (components page)) ends);
            no_name = All-push (HasNoneOf (staged_names actions)) actions.texts new so_far.no_name
                (All-weaker (IsNumbered before.last) (λ staging. file_name_of file ≢ file_name_of staging)
                (λ staging is same. EndsUpTo-other_name staging file before.last next.number
                (EndsUpTo-IsNumbered before.last staging is) next.late (directory (components page)) ends
                (sym same)) (staged_names actions) drawn.numbered);
          };
    }

-- one staging name more
pub AreFilesDrawn-name : (index : PlaceIndex) (pages : List (List Step)) (before after : FreeNames) (actions more : ActionTexts)
    (staging : List ℕ) → IsDrawn before after staging → more.texts ≡ actions.texts
    → staged_names more ≡ staged_names actions ++ staging ∷ [] → AreFilesDrawn index pages before actions
    → AreFilesDrawn index pages after more
AreFilesDrawn-name index pages before after actions more staging next texts left files =
    let late = next.late in
    let last_is = next.last in
    let ends : components staging ≡ [] ++ name (numbered_name next.number) ∷ [] =
    ap components next.name_is ∙ components-numbered_name next.number in
    record {
      numbered = same_texts (λ new. EndsUpTo after.last new.1)
          (All-weaker (λ (new : List ℕ × List ℕ × List ℕ). EndsUpTo before.last new.1)
          (λ (new : List ℕ × List ℕ × List ℕ). EndsUpTo after.last new.1)
          (λ new. EndsUpTo-later before.last after.last new.1 (omega (arith, late, last_is))) actions.texts files.numbered);
      own = λ entries has.
          let so_far = files.own entries has in
          record {
            of_pages = same_texts (λ new. IsOneOf pages new.0) so_far.of_pages;
            next_to = same_texts (λ new. IsNextTo new.0 new.1) so_far.next_to;
            unused = same_texts (λ new. IsNoneAt entries (components new.1)) so_far.unused;
            different = subst (AllPairs HaveOtherNames) (sym texts) so_far.different;
            no_name = same_texts (HasNoneOf (staged_names more))
                (λ k d l. subst (λ names. HasNoneOf names (get_or actions.texts k d)) (sym left)
                (All-push (λ staging. file_name_of (get_or actions.texts k d).1 ≢ file_name_of staging) (staged_names actions)
                staging (so_far.no_name k d l)
                (EndsUpTo-other_name (get_or actions.texts k d).1 staging before.last next.number (files.numbered k d l)
                next.late [] ends)));
          };
    }
  where
    same_texts : (P : List ℕ × List ℕ × List ℕ → Type 0) → All P actions.texts → All P more.texts
    same_texts P = subst (All P) (sym texts)

-- the same in another order
pub HaveOwnFiles-reordered : (entries pages : List (List Step)) (actions more : ActionTexts)
    → IsPermutation actions.staged more.staged → more.texts ≡ actions.texts → HaveOwnFiles entries pages actions
    → HaveOwnFiles entries pages more
HaveOwnFiles-reordered entries pages actions more moved texts own = record {
  of_pages = same_texts (λ new. IsOneOf pages new.0) own.of_pages;
  next_to = same_texts (λ new. IsNextTo new.0 new.1) own.next_to;
  unused = same_texts (λ new. IsNoneAt entries (components new.1)) own.unused;
  different = subst (AllPairs HaveOtherNames) (sym texts) own.different;
  no_name = same_texts (HasNoneOf (staged_names more))
      (All-weaker (HasNoneOf (staged_names actions)) (HasNoneOf (staged_names more))
      (λ new. All-permutation (λ staging. file_name_of new.1 ≢ file_name_of staging) (staged_names actions)
      (staged_names more) (IsPermutation-map (λ (step : List ℕ × List ℕ). step.1) actions.staged more.staged moved))
      actions.texts own.no_name);
}
  where
    same_texts : (P : List ℕ × List ℕ × List ℕ → Type 0) → All P actions.texts → All P more.texts
    same_texts P = subst (All P) (sym texts)
