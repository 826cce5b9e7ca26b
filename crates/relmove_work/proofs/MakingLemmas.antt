-- The loops that make the work of a plan's actions.
use Rattle.std.proofs.Common.{◌≡◌, ◌⊎◌, ◌<◌, ◌+◌, ℕ, suc, zero, Bool, true, false, not, drop, List, [], ◌∷◌, ◌++◌, take, length, map, filter, Option, Some, None, cond, inl, inr, refl, sym, ap, ap₂, subst, ◌∙◌, arith, true≢false, string_bytes, if◌then◌else◌}
use Rattle.std.specs.BTreeMap.{is_at}
use Rattle.std.specs.Cmp.Lexicographic.{slice_cmp}
use Rattle.std.specs.List.{AllZip, Contains}
use Rattle.std.specs.Map.{lookup, update}
use Rattle.std.specs.Option.{MatchOption}
use Rattle.std.specs.Ordering.{is_eq, nat_cmp}
use Rattle.std.specs.Str.{bytes_eq}
use Rattle.std.proofs.Math.ListN.{get_or, set}
use Rattle.std.proofs.lemmas.List.{map-append, map_more}
use Rattle.std.proofs.lemmas.List.Elements.{Contains-append_cases, Contains-append_left, Contains-append_right, Contains-push, Contains-push_cases, filter-append}
use Rattle.std.proofs.lemmas.Map.Text.{is_eq-slice_cmp}
use Rattle.std.proofs.lemmas.Option.{same_Some}
use Rattle.std.proofs.lemmas.Slice.Eq.{bytes_eq-Decides}
use denote.Ref.{Bor}
use Rattle.relmove_actions.specs.declared.actions.Rename.{Rename}
use Rattle.relmove_journal.specs.declared.work.Leftover.{Leftover}
use Rattle.relmove_journal.specs.declared.work.Leftover.TheVariants.{Text}
use Rattle.relmove_journal.specs.declared.work.TextFile.{TextFile}
use Rattle.relmove_work.proofs.PathsLemmas.{not-true}
use Rattle.relmove_work.specs.Pages.{HasFiles, HasOldPaths, IsLeftText, IsOldTextAt, LacksLeftText, LacksTextAt, Texts, page_texts, text_at}
use Rattle.relmove_work.specs.StagingPaths.{is_text_file, staging_path, text_path}
use Rattle.relmove_work.specs.Works.{IsOldTextOf, IsPathOfLabel, IsStagedAs, IsThingOf, LacksOldText, PlanTexts, rename_text, thing_renames}

-- ---- lists

-- one more item of each list
pub AllZip-more : {A B : Type 0} (R : A → B → Type 0) (xs : List A) (ys : List B) (x : A) (y : B) → AllZip R xs ys → R x y
    → AllZip R (xs ++ x ∷ []) (ys ++ y ∷ [])
AllZip-more R [] [] x y all is = (is, tt)
AllZip-more R [] (b ∷ ys) x y all is = absurd all
AllZip-more R (a ∷ xs) [] x y all is = absurd all
AllZip-more R (a ∷ xs) (b ∷ ys) x y (one, all) is = (one, AllZip-more R xs ys x y all is)

-- the items so far, one further
pub map-next : {X A : Type 0} (f : X → A) (xs : List X) (i : ℕ) (x : X) → i < length xs → x ≡ get_or xs i x
    → map f (take (i + 1) xs) ≡ map f (take i xs) ++ f x ∷ []
map-next f xs i x less is = map_more f xs i x less ∙ ap (λ z. map f (take i xs) ++ f z ∷ []) (sym is)

-- a loop over a slice, one item further
pub AllZip-next : {X A B : Type 0} (R : A → B → Type 0) (f : X → A) (xs : List X) (i : ℕ) (x : X) (ys : List B) (y : B)
    → i < length xs → x ≡ get_or xs i x → AllZip R (map f (take i xs)) ys → R (f x) y
    → AllZip R (map f (take (i + 1) xs)) (ys ++ y ∷ [])
AllZip-next R f xs i x ys y less is all holds =
    subst (λ zs. AllZip R zs (ys ++ y ∷ [])) (sym (map-next f xs i x less is)) (AllZip-more R (map f (take i xs)) ys (f x) y all holds)

-- a loop over the items themselves, one item further
pub AllZip-yield : {X A B : Type 0} (R : A → B → Type 0) (f : X → A) (xs : List X) (x : X) (ys : List B) (y : B)
    → AllZip R (map f xs) ys → R (f x) y → AllZip R (map f (xs ++ x ∷ [])) (ys ++ y ∷ [])
AllZip-yield R f xs x ys y all holds =
    subst (λ zs. AllZip R zs (ys ++ y ∷ [])) (sym (map-append f xs (x ∷ []))) (AllZip-more R (map f xs) ys (f x) y all holds)

first : {X : Type 0} (x : X) (xs : List X) → Contains (x ∷ xs) x
first x xs = Contains-append_left (x ∷ []) xs x (Contains-push [] x)

rest : {X : Type 0} (x : X) (xs : List X) (y : X) → Contains xs y → Contains (x ∷ xs) y
rest x xs y has = Contains-append_right (x ∷ []) xs y has

none-in : {X : Type 0} (x : X) → Contains {X = X} [] x → ⊥
none-in x (k, within, is) = absurd (omega (arith, within))

first_or_rest : {X : Type 0} (y : X) (ys : List X) (x : X) → Contains (y ∷ ys) x → (y ≡ x) ⊎ Contains ys x
first_or_rest y ys x has = elim (Contains-append_cases (y ∷ []) ys x has) [
  | inl one ↦ elim (Contains-push_cases [] y x one) [
    | inl none ↦ absurd (none-in x none)
    | inr is ↦ inl is
  ]
  | inr later ↦ inr later
]

Contains-filtered : {X : Type 0} (test : X → Bool) (xs : List X) (x : X) → Contains (filter test xs) x
    → Contains xs x × (test x ≡ true)
Contains-filtered test [] x has = absurd (none-in x has)
Contains-filtered test (y ∷ ys) x has = by (test y) refl has (Contains-filtered test ys x)
  where
    by : (b : Bool) → test y ≡ b → Contains (if b then y ∷ filter test ys else filter test ys) x
        → (Contains (filter test ys) x → Contains ys x × (test x ≡ true)) → Contains (y ∷ ys) x × (test x ≡ true)
    by true passed has again = elim (first_or_rest y (filter test ys) x has) [
      | inl is ↦ (subst (λ z. Contains (y ∷ ys) z) is (first y ys), ap test (sym is) ∙ passed)
      | inr later ↦ let (there, passes) = again later in (rest y ys x there, passes)
    ]
    by false no_2 has again = let (there, passes) = again has in (rest y ys x there, passes)

-- ---- maps

-- what a map has after an insertion
abbrev pub IsInserted : Texts → Texts → List ℕ → Bor (List ℕ) → Type 0
IsInserted old new key value = (q : List ℕ) → text_at new q ≡ update bytes_eq (text_at old) key (Some value) q

MatchOption-map : {X : Type 0} (o : Option X) (N N_2 : Type 0) (S S_2 : X → Type 0) → (N → N_2) → ((x : X) → S x → S_2 x)
    → MatchOption o N S → MatchOption o N_2 S_2
MatchOption-map None N N_2 S S_2 none some is = none is
MatchOption-map (Some x) N N_2 S S_2 none some is = some x is

not-here : (label q : List ℕ) → bytes_eq label q ≡ false → label ≡ q → ⊥
not-here label q differ same = absurd (true≢false (sym ((bytes_eq-Decides label q).1 same) ∙ differ))

-- a new text's rename adds its file
pub HasFiles-text : (staged : List (List ℕ × List ℕ)) (old new : Texts) (file label : List ℕ) (value : Bor (List ℕ))
    → HasFiles staged old → IsInserted old new label value → value.now ≡ file → is_text_file file ≡ true
    → HasFiles (staged ++ (file, label) ∷ []) new
HasFiles-text staged old new file label value has inserted is text = λ q. by q (bytes_eq label q) refl
  where
    more : List (List ℕ × List ℕ)
    more = staged ++ (file, label) ∷ []

    IsThere : List ℕ → Option (Bor (List ℕ)) → Type 0
    IsThere q there = MatchOption there ((f : List ℕ) → Contains more (f, q) → is_text_file f ≡ false)
        (λ f. Contains more (f.now, q) × (is_text_file f.now ≡ true))

    by : (q : List ℕ) (b : Bool) → bytes_eq label q ≡ b → IsThere q (text_at new q)
    by q true same =
        let e : label ≡ q = (bytes_eq-Decides label q).0 same in
        subst (IsThere q) (sym (inserted q ∙ ap (λ b. cond b (Some value) (text_at old q)) same)) (
          subst (λ z. Contains more (z, q)) (sym is) (subst (λ z. Contains more (file, z)) e (Contains-push staged (file, label))),
          ap is_text_file is ∙ text,
        )
    by q false differ =
        subst (IsThere q) (sym (inserted q ∙ ap (λ b. cond b (Some value) (text_at old q)) differ))
        (MatchOption-map (text_at old q) _ _ _ _ (λ none f there. elim (Contains-push_cases staged (file, label) (f, q) there) [
          | inl before ↦ none f before
          | inr same ↦ absurd (not-here label q differ (ap (λ (p : List ℕ × List ℕ). p.1) same))
        ]) (λ f there. (Contains-append_left staged ((file, label) ∷ []) (f.now, q) there.0, there.1)) (has q))

-- a thing's rename adds none
pub HasFiles-thing : (staged : List (List ℕ × List ℕ)) (files : Texts) (file label : List ℕ) → HasFiles staged files
    → is_text_file file ≡ false → HasFiles (staged ++ (file, label) ∷ []) files
HasFiles-thing staged files file label has thing = λ q.
    MatchOption-map (text_at files q) _ _ _ _ (λ none f there. elim (Contains-push_cases staged (file, label) (f, q) there) [
      | inl before ↦ none f before
      | inr same ↦ ap is_text_file (sym (ap (λ (p : List ℕ × List ℕ). p.0) same)) ∙ thing
    ]) (λ f there. (Contains-append_left staged ((file, label) ∷ []) (f.now, q) there.0, there.1)) (has q)

-- a rename adds its old path
pub HasOldPaths-more : (renames : List (List ℕ × List ℕ)) (old new : Texts) (from to : List ℕ) (value : Bor (List ℕ))
    → HasOldPaths renames old → IsInserted old new to value → value.now ≡ from → HasOldPaths (renames ++ (from, to) ∷ []) new
HasOldPaths-more renames old new from to value has inserted is = λ q. by q (bytes_eq to q) refl
  where
    more : List (List ℕ × List ℕ)
    more = renames ++ (from, to) ∷ []

    IsThere : List ℕ → Option (Bor (List ℕ)) → Type 0
    IsThere q there = MatchOption there ((f : List ℕ) → Contains more (f, q) → ⊥) (λ f. Contains more (f.now, q))

    by : (q : List ℕ) (b : Bool) → bytes_eq to q ≡ b → IsThere q (text_at new q)
    by q true same =
        let e : to ≡ q = (bytes_eq-Decides to q).0 same in
        subst (IsThere q) (sym (inserted q ∙ ap (λ b. cond b (Some value) (text_at old q)) same))
        (subst (λ z. Contains more (z, q)) (sym is) (subst (λ z. Contains more (from, z)) e (Contains-push renames (from, to))))
    by q false differ =
        subst (IsThere q) (sym (inserted q ∙ ap (λ b. cond b (Some value) (text_at old q)) differ))
        (MatchOption-map (text_at old q) _ _ _ _ (λ none f there. elim (Contains-push_cases renames (from, to) (f, q) there) [
          | inl before ↦ none f before
          | inr same ↦ absurd (not-here to q differ (ap (λ (p : List ℕ × List ℕ). p.1) same))
        ]) (λ f there. Contains-append_left renames ((from, to) ∷ []) (f.now, q) there) (has q))

abbrev Entry : Type 0
Entry = Bor (List ℕ) × Bor (List ℕ)

abbrev pairs : List Entry → List (List ℕ × List ℕ)
pairs entries = map (λ entry. (entry.0.now, entry.1.now)) entries

abbrev found : List ℕ → List Entry → Option (Bor (List ℕ))
found page entries = lookup (is_at (λ (k : Bor (List ℕ)). slice_cmp nat_cmp page k.now)) entries

abbrev HasPair : List Entry → List ℕ → List ℕ → Type 0
HasPair entries key value = Contains {X = List ℕ × List ℕ} (pairs entries) (key, value)

found-has : (page : List ℕ) (text : Bor (List ℕ)) (entries : List Entry) → found page entries ≡ Some text
    → HasPair entries page text.now
found-has page text [] at = absurd (cc at)
found-has page text (e ∷ es) at = by (is_eq (slice_cmp nat_cmp page e.0.now)) refl at (found-has page text es)
  where
    by : (b : Bool) → is_eq (slice_cmp nat_cmp page e.0.now) ≡ b → cond b (Some e.1) (found page es) ≡ Some text
        → (found page es ≡ Some text → HasPair es page text.now) → HasPair (e ∷ es) page text.now
    by true same at again =
        let key : page ≡ e.0.now = (bytes_eq-Decides page e.0.now).0 (sym (is_eq-slice_cmp page e.0.now) ∙ same) in
        let value : e.1 ≡ text = same_Some e.1 text at in
        subst (λ z. HasPair (e ∷ es) z text.now) (sym key)
        (subst (λ (z : Bor (List ℕ)). HasPair (e ∷ es) e.0.now z.now) value
        (first {X = List ℕ × List ℕ} (e.0.now, e.1.now) (pairs es)))
    by false differ at again = rest {X = List ℕ × List ℕ} (e.0.now, e.1.now) (pairs es) (page, text.now) (again at)

-- what a look-up finds is an entry
pub page_texts-has : (pages : Texts) (page : List ℕ) (text : Bor (List ℕ)) → text_at pages page ≡ Some text
    → Contains {X = List ℕ × List ℕ} (page_texts pages) (page, text.now)
page_texts-has pages page text at = found-has page text pages.entries at

found-none : (page text : List ℕ) (entries : List Entry) → found page entries ≡ None → HasPair entries page text → ⊥
found-none page text [] at has = none-in {X = List ℕ × List ℕ} (page, text) has
found-none page text (e ∷ es) at has = by (is_eq (slice_cmp nat_cmp page e.0.now)) refl at (found-none page text es)
  where
    by : (b : Bool) → is_eq (slice_cmp nat_cmp page e.0.now) ≡ b → cond b (Some e.1) (found page es) ≡ None
        → (found page es ≡ None → HasPair es page text → ⊥) → ⊥
    by true same at again = absurd (cc at)
    by false differ at again = elim (first_or_rest {X = List ℕ × List ℕ} (e.0.now, e.1.now) (pairs es) (page, text) has) [
      | inl is ↦
          not-here page e.0.now (sym (is_eq-slice_cmp page e.0.now) ∙ differ) (sym (ap (λ (p : List ℕ × List ℕ). p.0) is))
      | inr later ↦ again at later
    ]

-- what no look-up finds is in no entry
page_texts-none : (pages : Texts) (page text : List ℕ) → text_at pages page ≡ None
    → Contains {X = List ℕ × List ℕ} (page_texts pages) (page, text) → ⊥
page_texts-none pages page text at has = found-none page text pages.entries at has

-- ---- renames

-- the run's path for a label, as the map says it
pub IsPathOfLabel-text : (staged : List (List ℕ × List ℕ)) (files : Texts) (label path : List ℕ) (file : Bor (List ℕ))
    → HasFiles staged files → text_at files label ≡ Some file → path ≡ text_path file.now → IsPathOfLabel staged label path
IsPathOfLabel-text staged files label path file has at is =
    let there = subst (λ (o : Option (Bor (List ℕ))). MatchOption o ((f : List ℕ) → Contains staged (f, label)
    → is_text_file f ≡ false) (λ f. Contains staged (f.now, label) × (is_text_file f.now ≡ true))) at (has label) in
    inl (file.now, there.0, there.1, is)

pub IsPathOfLabel-thing : (staged : List (List ℕ × List ℕ)) (files : Texts) (label path : List ℕ)
    → HasFiles staged files → text_at files label ≡ None → path ≡ staging_path label → IsPathOfLabel staged label path
IsPathOfLabel-thing staged files label path has at is =
    inr (
      subst (λ (o : Option (Bor (List ℕ))). MatchOption o ((f : List ℕ) → Contains staged (f, label) → is_text_file f ≡ false)
          (λ f. Contains staged (f.now, label) × (is_text_file f.now ≡ true))) at (has label),
      is,
    )

-- the things among the renames, with one more that is a thing, or one that isn't
pub thing_renames-thing : (renames : List (List ℕ × List ℕ)) (rename : List ℕ × List ℕ) → is_text_file rename.0 ≡ false
    → thing_renames (renames ++ rename ∷ []) ≡ thing_renames renames ++ rename ∷ []
thing_renames-thing renames rename thing =
    filter-append (λ (r : List ℕ × List ℕ). not (is_text_file r.0)) renames (rename ∷ [])
    ∙ ap (λ b. thing_renames renames ++ (if not b then rename ∷ [] else [])) thing

-- ---- old texts

-- a rename of the run is that of a thing
staged-has : (things : List (List ℕ × List ℕ)) (renames : List Rename) (page path : List ℕ) → AllZip IsStagedAs things renames
    → Contains (map rename_text renames) (page, path) → (own : List ℕ) × Contains things (page, own) × (path ≡ staging_path own)
staged-has [] [] page path all has = absurd (none-in (page, path) has)
staged-has [] (r ∷ renames) page path all has = absurd all
staged-has (t ∷ things) [] page path all has = absurd all
staged-has (t ∷ things) (r ∷ renames) page path (one, all) has =
    elim (first_or_rest (rename_text r) (map rename_text renames) (page, path) has) [
      | inl is ↦
          let from : t.0 ≡ page = sym one.0 ∙ ap (λ (p : List ℕ × List ℕ). p.0) is in (
            t.1,
            subst (λ z. Contains (t ∷ things) (z, t.1)) from (first t things),
            sym (ap (λ (p : List ℕ × List ℕ). p.1) is) ∙ one.1,
          )
      | inr later ↦
          let (own, there, same) = staged-has things renames page path all later in
          (own, rest t things (page, own) there, same)
    ]

-- the files of old texts that are left
pub left-files : (staged pages : List (List ℕ × List ℕ)) (renames : List Rename) → AllZip IsStagedAs (thing_renames staged) renames
    → (labels : List (List ℕ)) (left : List Leftover) → AllZip (IsLeftText (map rename_text renames) pages) labels left
    → (files : List TextFile) × (left ≡ map Text files) × AllZip (IsOldTextOf staged pages) labels files
left-files staged pages renames are [] [] all = ([], refl, tt)
left-files staged pages renames are [] (l ∷ left) all = absurd all
left-files staged pages renames are (label ∷ labels) [] all = absurd all
left-files staged pages renames are (label ∷ labels) (l ∷ left) (one, all) =
    let (files, same, olds) = left-files staged pages renames are labels left all in
    let (own, there, path) =
    staged-has (thing_renames staged) renames one.old.page (staging_path label) are one.old.leaves in
    let (leaves, thing) =
    Contains-filtered (λ (r : List ℕ × List ℕ). not (is_text_file r.0)) staged (one.old.page, own) there in (
      one.file ∷ files,
      ap₂ ◌∷◌ one.is same,
      (
        record {
          path = one.path;
          page = one.old.page;
          text = one.text;
          own = own;
          leaves = leaves;
          thing = not-true (is_text_file one.old.page) thing;
          same = sym path;
          has = one.old.has;
          digest = one.digest;
        },
        olds,
      ),
    )

-- ---- a text written in place

set-next : {X : Type 0} (R : X → X → Type 0) (xs ys : List X) (i : ℕ) (d y : X) → i < length ys → d ≡ get_or ys i d
    → AllZip R (take i xs) (take i ys) → drop i ys ≡ drop i xs → R d y
    → AllZip R (take (suc i) xs) (take (suc i) (set ys i y)) × (drop (suc i) (set ys i y) ≡ drop (suc i) xs)
set-next R xs [] i d y less is there left holds = absurd (omega (arith, less))
set-next R [] (b ∷ ys) zero d y less is there left holds = absurd (cc left)
set-next R (x ∷ xs) (b ∷ ys) zero d y less is there left holds =
    let same : b ≡ x = cc left in
    let others : ys ≡ xs = cc left in
    ((subst (λ z. R z y) (is ∙ same) holds, tt), others)
set-next R [] (b ∷ ys) (suc i) d y less is there left holds = absurd there
set-next R (x ∷ xs) (b ∷ ys) (suc i) d y less is (one, there) left holds =
    let (all, others) = set-next R xs ys i d y (omega (arith, less)) is there left holds in ((one, all), others)

pub AllZip-set_next : {X : Type 0} (R : X → X → Type 0) (xs ys : List X) (i : ℕ) (d y : X) → i < length ys → d ≡ get_or ys i d
    → AllZip R (take i xs) (take i ys) → drop i ys ≡ drop i xs → R d y
    → AllZip R (take (i + 1) xs) (take (i + 1) (set ys i y)) × (drop (i + 1) (set ys i y) ≡ drop (i + 1) xs)
AllZip-set_next R xs ys i d y less is there left holds =
    subst (λ n. AllZip R (take n xs) (take n (set ys i y)) × (drop n (set ys i y) ≡ drop n xs))
    (let e : suc i ≡ i + 1 = omega arith in e) (set-next R xs ys i d y less is there left holds)

-- ---- a page's text

abbrev IsOldPath : List (List ℕ × List ℕ) → List ℕ → Option (Bor (List ℕ)) → Type 0
IsOldPath renames path old =
    MatchOption old ((f : List ℕ) → Contains renames (f, path) → ⊥) (λ f. Contains renames (f.now, path))

-- the outcome of both look-ups
abbrev pub IsFound : List (List ℕ × List ℕ) → Texts → List ℕ → Option (Bor (List ℕ)) → Type 0
IsFound renames pages path text =
    MatchOption text (LacksTextAt renames (page_texts pages) path) (λ text. IsOldTextAt renames (page_texts pages) path text.now)

pub text-found : (renames : List (List ℕ × List ℕ)) (olds pages : Texts) (path : List ℕ) (page : Bor (List ℕ))
    (text : Option (Bor (List ℕ))) → HasOldPaths renames olds → text_at olds path ≡ Some page → text ≡ text_at pages page.now
    → IsFound renames pages path text
text-found renames olds pages path page None has at is =
    inr (page.now, subst (IsOldPath renames path) at (has path), λ text there. page_texts-none pages page.now text (sym is) there)
text-found renames olds pages path page (Some text) has at is = record {
  page = page.now;
  leaves = subst (IsOldPath renames path) at (has path);
  has = page_texts-has pages page.now text (sym is);
}

pub text-not_found : (renames : List (List ℕ × List ℕ)) (olds pages : Texts) (path : List ℕ)
    → HasOldPaths renames olds → text_at olds path ≡ None → LacksTextAt renames (page_texts pages) path
text-not_found renames olds pages path has at = inl (subst (IsOldPath renames path) at (has path))

-- ---- what lacks a text

staged-has_not : (things : List (List ℕ × List ℕ)) (renames : List Rename) (page own : List ℕ) → AllZip IsStagedAs things renames
    → Contains things (page, own) → Contains (map rename_text renames) (page, staging_path own)
staged-has_not [] [] page own all has = absurd (none-in (page, own) has)
staged-has_not [] (r ∷ renames) page own all has = absurd all
staged-has_not (t ∷ things) [] page own all has = absurd all
staged-has_not (t ∷ things) (r ∷ renames) page own (one, all) has =
    elim (first_or_rest t things (page, own) has) [
      | inl is ↦
          let from : string_bytes r.from ≡ page = one.0 ∙ ap (λ (p : List ℕ × List ℕ). p.0) is in
          let to : string_bytes r.to ≡ staging_path own = one.1 ∙ ap (λ (p : List ℕ × List ℕ). staging_path p.1) is in
          subst (λ z. Contains (map rename_text (r ∷ renames)) (z, staging_path own)) from
          (subst (λ z. Contains (map rename_text (r ∷ renames)) (string_bytes r.from, z)) to
          (first (rename_text r) (map rename_text renames)))
      | inr later ↦
          rest (rename_text r) (map rename_text renames) (page, staging_path own)
          (staged-has_not things renames page own all later)
    ]

filtered-Contains : {X : Type 0} (test : X → Bool) (xs : List X) (x : X) → Contains xs x → test x ≡ true
    → Contains (filter test xs) x
filtered-Contains test [] x has passes = absurd (none-in x has)
filtered-Contains test (y ∷ ys) x has passes = by (test y) refl (λ later. filtered-Contains test ys x later passes)
  where
    by : (b : Bool) → test y ≡ b → (Contains ys x → Contains (filter test ys) x)
        → Contains (if b then y ∷ filter test ys else filter test ys) x
    by true passed again = elim (first_or_rest y ys x has) [
      | inl is ↦ subst (λ z. Contains (y ∷ filter test ys) z) is (first y (filter test ys))
      | inr later ↦ rest y (filter test ys) x (again later)
    ]
    by false failed again = elim (first_or_rest y ys x has) [
      | inl is ↦ absurd (true≢false (sym passes ∙ ap test (sym is) ∙ failed))
      | inr later ↦ again later
    ]

pub lacks : (plan : PlanTexts) (pages : List (List ℕ × List ℕ)) (renames : List Rename)
    → AllZip IsStagedAs (thing_renames plan.staged) renames → LacksLeftText (map rename_text renames) pages plan.removed
    → LacksOldText plan pages
lacks plan pages renames are (label, among, why) = (label, among, by why)
  where
    by : LacksTextAt (map rename_text renames) pages (staging_path label)
        → ((path : List ℕ) → IsThingOf plan.staged label path → ⊥)
        ⊎ ((path : List ℕ) × IsThingOf plan.staged label path × ((text : List ℕ) → Contains pages (path, text) → ⊥))
    by (inl none) =
        inl (λ path (own, there, thing, same).
        none path (subst (λ z. Contains (map rename_text renames) (path, z)) same
        (staged-has_not (thing_renames plan.staged) renames path own are
        (filtered-Contains (λ (r : List ℕ × List ℕ). not (is_text_file r.0)) plan.staged (path, own) there (ap not thing)))))
    by (inr (page, leaves, none)) =
        let (own, there, path) = staged-has (thing_renames plan.staged) renames page (staging_path label) are leaves in
        let (in_plan, thing) =
        Contains-filtered (λ (r : List ℕ × List ℕ). not (is_text_file r.0)) plan.staged (page, own) there in
        inr (page, (own, in_plan, not-true (is_text_file page) thing, sym path), none)

-- an item of a slice is among its items
pub map-Contains : {X A : Type 0} (f : X → A) (xs : List X) (i : ℕ) (x : X) → i < length xs → x ≡ get_or xs i x
    → Contains (map f xs) (f x)
map-Contains f [] i x less is = absurd (omega (arith, less))
map-Contains f (y ∷ ys) zero x less is = subst (λ z. Contains (f y ∷ map f ys) (f z)) (sym is) (first (f y) (map f ys))
map-Contains f (y ∷ ys) (suc i) x less is =
    rest (f y) (map f ys) (f x) (map-Contains f ys i x (omega (arith, less)) is)
