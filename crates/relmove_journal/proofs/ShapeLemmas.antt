-- Lemmas on the names and paths of a run's work.
use Rattle.std.proofs.Common.{◌≡◌, ◌≢◌, ℕ, ◌<◌, Bool, true, false, not, ◌&&◌, ◌==◌, List, [], ◌∷◌, ◌++◌, All, Option, Some, None, Bor, length, take, drop, nat_eq, refl, sym, take-append-drop, ap, ap₂, subst, ◌∙◌, true≢false, lit<}
use Rattle.std.specs.Prelude.{codes}
use Rattle.std.specs.Bool.{MatchBool}
use Rattle.std.specs.Option.{MatchOption}
use Rattle.std.specs.List.{list_all, list_any}
use Rattle.std.specs.Str.Pattern.{FindsChar, FindsTextPrefix, HasMatch, RFindsChar, SplitsAroundMatch, StripsPrefix}
use Rattle.std.proofs.lemmas.Bool.{and_right, eqb-true, eq-eqb, ne_eqb}
use Rattle.std.proofs.lemmas.List.{get_or_default}
use Rattle.std.proofs.lemmas.List.Elements.{All-from_get_or, All-weaker}
use Rattle.std.proofs.lemmas.List.Folds.{Any-from_list_any, list_any_at}
use Rattle.std.proofs.lemmas.List.Splits.{slice_split_first, slice_split_none}
use Rattle.std.proofs.lemmas.Str.Pattern.{IsSplitOnceResult, NoCharPasses-char, contains_char, drop_at_char, split_once_first, split_parts, starts_text}
use Rattle.relmove_journal.specs.Shape.{begins_with, below_run_directory, is_directory_name, is_in_run_directory, is_name, is_nameless, is_not_empty, is_number, is_slash, leads_from_number, leads_to, names}

-- two tests that are true in the same cases are equal
same_test : (a b : Bool) → (a ≡ true → b ≡ true) → (b ≡ true → a ≡ true) → a ≡ b
same_test true b there back = sym (there refl)
same_test false true there back = back refl
same_test false false there back = refl

-- `contains` at a character of ASCII is a test of the bytes
pub list_any-contains : (c : ℕ) (text : List ℕ) (r : Bool)
    → MatchBool r (HasMatch (FindsChar c) text) (FindsChar c text None) → c < 128 → r ≡ list_any (λ b. nat_eq b c) text
list_any-contains c text r found ascii =
    let facts = contains_char c text r found ascii in
    same_test r (list_any (λ b. nat_eq b c) text)
    (λ there. let (k, inside, is) = facts.0 there in list_any_at (λ b. nat_eq b c) text k 0 inside (eq-eqb _ _ is))
    (λ there. let (k, b, inside, at, is) = Any-from_list_any (λ b. nat_eq b c) text there in
    facts.1 k inside (get_or_default text k 0 b inside ∙ at ∙ eqb-true b c is))

-- a text is a name by three tests
pub is_name-tested : (text : List ℕ) (nul : Bool) → is_nameless text ≡ false → begins_with (codes ".relmove") text ≡ false
    → nul ≡ list_any (λ b. nat_eq b 0) text → not nul ≡ is_name text
is_name-tested text nul named foreign is = rw (named, foreign, is)

-- ---- ways

and-assoc : (a b c : Bool) → (a && (b && c)) ≡ ((a && b) && c)
and-assoc true b c = refl
and-assoc false b c = refl

-- a way to one name more leads through all directories before it
pub leads_to-append : (test : List ℕ → Bool) (way : List (List ℕ)) (last : List ℕ)
    → leads_to test (way ++ last ∷ []) ≡ (list_all is_directory_name way && test last)
leads_to-append test [] last = refl
leads_to-append test (directory ∷ []) last = and-assoc (is_directory_name directory) true (test last)
leads_to-append test (directory ∷ next ∷ way) last =
    ap (λ b. is_directory_name directory && b) (leads_to-append test (next ∷ way) last)
    ∙ and-assoc (is_directory_name directory) (list_all is_directory_name (next ∷ way)) (test last)

-- a way to a directory leads through directories alone
pub leads_to-directory : (first : List ℕ) (way : List (List ℕ))
    → leads_to is_directory_name (first ∷ way) ≡ list_all is_directory_name (first ∷ way)
leads_to-directory first [] = and_true (is_directory_name first)
  where
    and_true : (b : Bool) → b ≡ (b && true)
    and_true true = refl
    and_true false = refl
leads_to-directory first (next ∷ way) = ap (λ b. is_directory_name first && b) (leads_to-directory next way)

-- ---- names between slashes

-- the names of a path are a first one and others
record Names (path : List ℕ) : Type 0 where
  first : List ℕ
  way : List (List ℕ)
  are : names path ≡ first ∷ way

names-not_empty : (path : List ℕ) → Names path
names-not_empty [] = record { first = []; way = []; are = refl }
names-not_empty (b ∷ bs) =
    step (is_slash b) refl (names-not_empty bs)
  where
    step : (slash : Bool) → is_slash b ≡ slash → Names bs → Names (b ∷ bs)
    step true is more = record { first = []; way = names bs; are = rw is }
    step false is more = record { first = b ∷ more.first; way = more.way; are = rw (is, more.are) }

-- the names of a path to a directory are all those of directories
pub list_all-names : (path : List ℕ) → list_all is_directory_name (names path) ≡ leads_to is_directory_name (names path)
list_all-names path =
    let some = names-not_empty path in
    rw some.are (sym (leads_to-directory some.first some.way))

-- a path without a slash is one name
pub names-one : (path : List ℕ) → All (λ b. b ≢ 47) path → names path ≡ path ∷ []
names-one path none =
    slice_split_none is_slash path (All-weaker (λ b. b ≢ 47) (λ b. is_slash b ≡ false) (λ b. ne_eqb b 47) path none)

-- the names of two paths with a slash between them are those of both
names-slash : (front back : List ℕ) → names (front ++ 47 ∷ back) ≡ names front ++ names back
names-slash [] back = refl
names-slash (b ∷ bs) back =
    step (is_slash b) refl (names-not_empty bs) (names-slash bs back)
  where
    step : (slash : Bool) → is_slash b ≡ slash → Names bs → names (bs ++ 47 ∷ back) ≡ names bs ++ names back
        → names ((b ∷ bs) ++ 47 ∷ back) ≡ names (b ∷ bs) ++ names back
    step true is some more = rw is (ap (λ l. [] ∷ l) more)
    step false is some more = rw (is, more, some.are)

-- what `rsplit_once` returns at a slash: the text before the last slash, and a name without one
pub rsplit-parts : (text : List ℕ) (r : Option (Bor (List ℕ) × Bor (List ℕ)))
    → MatchOption r (RFindsChar 47 text None) (λ x. SplitsAroundMatch (RFindsChar 47) text x.0.now x.1.now)
    → MatchOption r (All (λ b. b ≢ 47) text) (λ x. (text ≡ x.0.now ++ 47 ∷ x.1.now) × All (λ b. b ≢ 47) x.1.now)
rsplit-parts text None found =
    All-from_get_or (λ b. b ≢ 47) text 0 (λ i h. NoCharPasses-char 47 text i found (lit< tt) h)
rsplit-parts text (Some parts) (i, j, found, front, back, _, _, _) = (
  sym (take-append-drop i text)
      ∙ ap (λ x. take i text ++ x) (drop_at_char 47 text i j found.1 (lit< tt))
      ∙ ap₂ (λ x y. x ++ 47 ∷ y) (sym front) (sym back),
  subst (All (λ b. b ≢ 47)) (sym back)
      (All-from_get_or (λ b. b ≢ 47) (drop j text) 0 (λ k h. NoCharPasses-char 47 (drop j text) k found.0 (lit< tt) h)),
)

-- the same: where a way leads that is cut before the last name
pub leads_to-rsplit : (test : List ℕ → Bool) (text : List ℕ) (r : Option (Bor (List ℕ) × Bor (List ℕ)))
    → MatchOption r (RFindsChar 47 text None) (λ x. SplitsAroundMatch (RFindsChar 47) text x.0.now x.1.now)
    → MatchOption r (leads_to test (names text) ≡ test text)
    (λ x. leads_to test (names text) ≡ (leads_to is_directory_name (names x.0.now) && test x.1.now))
leads_to-rsplit test text None found = rw (names-one text (rsplit-parts text None found))
leads_to-rsplit test text (Some parts) found =
    let (joined, none) = rsplit-parts text (Some parts) found in
    ap (λ x. leads_to test (names x)) joined
    ∙ ap (leads_to test)
    (names-slash parts.0.now parts.1.now ∙ ap (λ x. names parts.0.now ++ x) (names-one parts.1.now none))
    ∙ leads_to-append test (names parts.0.now) parts.1.now
    ∙ ap (λ b. b && test parts.1.now) (list_all-names parts.0.now)

-- where a way leads is tested at its last name, if its directories were tested
pub leads_to-tested : (whole first last r : Bool) → whole ≡ (first && last) → r ≡ first → r ≡ true → last ≡ whole
leads_to-tested whole first last r parts is passed = sym (parts ∙ ap (λ b. b && last) (sym is ∙ passed))

-- and isn't, if they failed
pub leads_to-refused : (whole first last r : Bool) → whole ≡ (first && last) → r ≡ first → r ≡ false → r ≡ whole
leads_to-refused whole first last r parts is failed = failed ∙ sym (parts ∙ ap (λ b. b && last) (sym is ∙ failed))

-- what `split_once` returns at a slash: the first name, and the path after it
pub names-split : (text : List ℕ) (r : Option (Bor (List ℕ) × Bor (List ℕ))) → IsSplitOnceResult 47 text r
    → MatchOption r (names text ≡ text ∷ []) (λ x. names text ≡ x.0.now ∷ names x.1.now)
names-split text None found =
    names-one text (All-from_get_or (λ b. b ≢ 47) text 0 (split_parts 47 text None found (lit< tt)))
names-split text (Some parts) found =
    let (inside, before, after) = split_once_first 47 text (Some parts) found (lit< tt) in
    slice_split_first is_slash text 0 inside ∙ ap₂ (λ x y. x ∷ names y) (sym before) (sym after)

-- ---- staging names

-- what `strip_prefix` returns
pub run_directory-strip : (text : List ℕ) (r : Option (Bor (List ℕ)))
    → MatchOption r (FindsTextPrefix (codes ".relmove-run/") text None)
    (λ x. StripsPrefix (FindsTextPrefix (codes ".relmove-run/")) text x.now)
    → MatchOption r (is_in_run_directory text ≡ false)
    (λ x. (is_in_run_directory text ≡ true) × (x.now ≡ below_run_directory text))
run_directory-strip text None found = sym (starts_text false (codes ".relmove-run/") text found)
run_directory-strip text (Some x) (n, (long, split, boundary), rest, _) =
    let starts = starts_text true (codes ".relmove-run/") text (13, (refl, rw long at split, boundary), boundary) in
    (sym starts, rw (rest, long))

-- a path without a slash doesn't lead on from a number
pub leads_from_number-one : (text : List ℕ) → names text ≡ text ∷ [] → leads_from_number (names text) ≡ false
leads_from_number-one text are = rw are (and_right (is_number text) false refl)

-- a text with a length isn't empty
pub is_not_empty-length : (text : List ℕ) → (length text == 0) ≡ false → is_not_empty text ≡ true
is_not_empty-length [] some = absurd (true≢false some)
is_not_empty-length (b ∷ bs) some = refl
