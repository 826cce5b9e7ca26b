-- The names of the paths of a run.
use Rattle.std.proofs.Common.{All, ◌≡◌, ◌≢◌, ◌⊎◌, ◌<◌, ℕ, Bool, true, false, not, ◌&&◌, ◌||◌, ◌==◌, List, [], ◌∷◌, ◌++◌, codes, drop, filter, length, map, inl, inr, refl, sym, ap, subst, ◌∙◌, arith, true≢false, if◌then◌else◌}
use Rattle.std.specs.List.{join_with_byte, list_all, list_any, onto_first, slice_split}
use Rattle.std.specs.Char.{is_ascii_digit}
use Rattle.std.specs.Str.{bytes_eq}
use Rattle.std.proofs.lemmas.Bool.Decides.{Decides-eqb}
use Rattle.std.proofs.lemmas.Slice.Eq.{bytes_eq-Decides, starts_is}
use Rattle.std.proofs.lemmas.Bool.{cases_Bool, eqb-true, ne_eqb}
use Rattle.std.proofs.lemmas.List.Elements.{All-append, All-cons, All-from_recursion, All-nil, All-weaker}
use Rattle.std.proofs.lemmas.List.{length-append}
use Rattle.std.proofs.lemmas.List.Splits.{length-slice_split, slice_split-cons_no, slice_split-cons_yes, slice_split_at, slice_split_none}
use Rattle.relative_path.specs.Steps as steps
use Rattle.relative_path.specs.Steps.{classed, components, pieces, slash, step_text}
use Rattle.relative_path.proofs.OnLiterals.{relative_path_on_literals}
use Rattle.relmove_journal.specs.Paths.{IsNameOf}
use Rattle.relmove_journal.specs.Shape.{begins_with, is_directory_name, is_directory_path, is_name, is_nameless, is_number, is_path, is_slash, leads_to, names}
use Rattle.relmove_trees.specs.FileTrees.{Place, names_of}
use Rattle.relmove_work.specs.StagingPaths.{begins_as_label, last_name, last_of, staging_path}

pub and-true : (a b : Bool) → a && b ≡ true → (a ≡ true) × (b ≡ true)
and-true true b is = (refl, is)
and-true false b is = absurd (true≢false (sym is))

pub or-false : (a b : Bool) → a || b ≡ false → (a ≡ false) × (b ≡ false)
or-false true b is = absurd (true≢false is)
or-false false b is = (refl, is)

pub not-true : (a : Bool) → not a ≡ true → a ≡ false
not-true true is = absurd (true≢false (sym is))
not-true false is = refl

-- ---- paths of names

-- each of the texts is a name
abbrev pub AreNamed : List (List ℕ) → Type 0
AreNamed [] = Unit {0}
AreNamed (n ∷ ns) = (is_nameless n ≡ false) × AreNamed ns

-- a name is one component of its own
kept : (n : List ℕ) → is_nameless n ≡ false → (steps.is_not_empty n ≡ true) × (step_text (classed n) ≡ n)
kept n named =
    let (empty, rest) = or-false (bytes_eq n []) (bytes_eq n (codes ".") || bytes_eq n (codes "..")) (assoc n named) in
    let (dot, dots) = or-false (bytes_eq n (codes ".")) (bytes_eq n (codes "..")) rest in
    (some n empty, rw (dot, dots) refl)
  where
    assoc : (n : List ℕ) → is_nameless n ≡ false → bytes_eq n [] || (bytes_eq n (codes ".") || bytes_eq n (codes "..")) ≡ false
    assoc n is = by (bytes_eq n []) is
      where
        by : (a : Bool) → (a || bytes_eq n (codes ".")) || bytes_eq n (codes "..") ≡ false
            → a || (bytes_eq n (codes ".") || bytes_eq n (codes "..")) ≡ false
        by true is = is
        by false is = is

    some : (n : List ℕ) → bytes_eq n [] ≡ false → steps.is_not_empty n ≡ true
    some [] is = absurd (true≢false is)
    some (b ∷ n) is = refl

kept-all : (ns : List (List ℕ)) → AreNamed ns → map step_text (map classed (filter steps.is_not_empty ns)) ≡ ns
kept-all [] named = refl
kept-all (n ∷ ns) (here, named) = rw ((kept n here).0) (by (kept-all ns named))
  where
    by : map step_text (map classed (filter steps.is_not_empty ns)) ≡ ns
        → step_text (classed n) ∷ map step_text (map classed (filter steps.is_not_empty ns)) ≡ n ∷ ns
    by is = ap (λ m. m ∷ map step_text (map classed (filter steps.is_not_empty ns))) (kept n here).1 ∙ ap (λ ms. n ∷ ms) is

-- the names of a path are what its slashes separate
pub names_of-named : (path : List ℕ) → AreNamed (names path) → names_of path ≡ names path
unfolding relative_path_on_literals
names_of-named path named = kept-all (names path) named

-- the first name of a path, and the names after it
pub names_of-first : (n more : List ℕ) → is_nameless n ≡ false → All (λ b. is_slash b ≡ false) n
    → names_of (n ++ slash ∷ more) ≡ n ∷ names_of more
unfolding relative_path_on_literals
names_of-first n more named plain =
    ap (λ ns. map step_text (map classed (filter steps.is_not_empty ns))) (slice_split_at is_slash n slash more plain refl)
    ∙ rw ((kept n named).0) (ap (λ m. m ∷ names_of more) (kept n named).1)

-- a path without a slash
pub names_of-one : (n : List ℕ) → is_nameless n ≡ false → All (λ b. is_slash b ≡ false) n → names_of n ≡ n ∷ []
names_of-one n named plain =
    names_of-named n (subst AreNamed (sym (slice_split_none is_slash n plain)) (named, tt)) ∙ slice_split_none is_slash n plain

-- ---- paths that aren't a run's own

-- none of the texts begins as a name of a run's own
abbrev pub AreForeign : List (List ℕ) → Type 0
AreForeign [] = Unit {0}
AreForeign (n ∷ ns) = (begins_with (codes ".relmove") n ≡ false) × AreForeign ns

-- a place that isn't the top, none of whose names begins as one of a run's own
pub record IsForeign (place : Place) : Type 0 where
  pub first : List ℕ
  pub rest : Place
  pub split : place ≡ first ∷ rest
  pub foreign : AreForeign place

name-is : (n : List ℕ) → is_name n ≡ true → (is_nameless n ≡ false) × (begins_with (codes ".relmove") n ≡ false)
name-is n is =
    let (one, two) = and-true (not (is_nameless n) && not (begins_with (codes ".relmove") n)) (not (list_any (λ b. b == 0) n)) is in
    let (named, foreign) = and-true (not (is_nameless n)) (not (begins_with (codes ".relmove") n)) one in
    (not-true (is_nameless n) named, not-true (begins_with (codes ".relmove") n) foreign)

way-is : (test : List ℕ → Bool) → ((n : List ℕ) → test n ≡ true → is_name n ≡ true) → (way : List (List ℕ))
    → leads_to test way ≡ true
    → AreNamed way × AreForeign way × ((first : List ℕ) × (rest : List (List ℕ)) × (way ≡ first ∷ rest))
way-is test more [] is = absurd (true≢false (sym is))
way-is test more (last ∷ []) is =
    let (named, foreign) = name-is last (more last is) in ((named, tt), (foreign, tt), (last, [], refl))
way-is test more (first ∷ next ∷ way) is =
    let (one, two) = and-true (is_directory_name first) (leads_to test (next ∷ way)) is in
    let (plain, other) = and-true (is_name first) _ one in
    let (named, foreign) = name-is first plain in
    let later = way-is test more (next ∷ way) two in
    ((named, later.0), (foreign, later.1), (first, next ∷ way, refl))

foreign-way : (test : List ℕ → Bool) → ((n : List ℕ) → test n ≡ true → is_name n ≡ true) → (path : List ℕ)
    → leads_to test (names path) ≡ true → IsForeign (names_of path)
foreign-way test more path is =
    let way = way-is test more (names path) is in
    let same = names_of-named path way.0 in
    record {
      first = way.2.0;
      rest = way.2.1;
      split = same ∙ way.2.2;
      foreign = subst AreForeign (sym same) way.1;
    }

pub is_path-foreign : (path : List ℕ) → is_path path ≡ true → IsForeign (names_of path)
is_path-foreign path is = foreign-way is_name (λ n is. is) path is

pub is_directory_path-foreign : (path : List ℕ) → is_directory_path path ≡ true → IsForeign (names_of path)
is_directory_path-foreign path is =
    foreign-way is_directory_name (λ n is. (and-true (is_name n) _ is).0) path is

-- ---- numbers, labels and staging names

-- a number is a name without a slash
digits-plain : (x : List ℕ) → list_all is_ascii_digit x ≡ true → All (λ b. is_slash b ≡ false) x
digits-plain [] is = All-nil (λ b. is_slash b ≡ false)
digits-plain (d ∷ ds) is =
    let (digit, rest) = and-true (is_ascii_digit d) (list_all is_ascii_digit ds) is in
    All-cons (λ b. is_slash b ≡ false) d ds (plain d digit) (digits-plain ds rest)
  where
    plain : (d : ℕ) → is_ascii_digit d ≡ true → is_slash d ≡ false
    plain d digit = elim (cases_Bool (is_slash d)) [
      | inl is ↦
          let same : d ≡ 47 = eqb-true d 47 is in
          absurd (true≢false (sym digit ∙ ap is_ascii_digit same))
      | inr differs ↦ differs
    ]

pub number-plain : (x : List ℕ) → is_number x ≡ true → (is_nameless x ≡ false) × All (λ b. is_slash b ≡ false) x
number-plain [] is = absurd (true≢false (sym is))
number-plain (d ∷ ds) is = (named (cases_Bool (is_nameless (d ∷ ds))), digits-plain (d ∷ ds) is)
  where
    not_text : (text : List ℕ) → list_all is_ascii_digit text ≡ false → bytes_eq (d ∷ ds) text ≡ true → ⊥
    not_text text none same =
        let e : d ∷ ds ≡ text = (bytes_eq-Decides (d ∷ ds) text).0 same in
        true≢false (sym is ∙ ap (list_all is_ascii_digit) e ∙ none)

    named : (is_nameless (d ∷ ds) ≡ true) ⊎ (is_nameless (d ∷ ds) ≡ false) → is_nameless (d ∷ ds) ≡ false
    named (inr is) = is
    named (inl is) = by (bytes_eq (d ∷ ds) (codes ".")) refl (bytes_eq (d ∷ ds) (codes "..")) refl
      where
        by : (a : Bool) → bytes_eq (d ∷ ds) (codes ".") ≡ a → (b : Bool) → bytes_eq (d ∷ ds) (codes "..") ≡ b
            → is_nameless (d ∷ ds) ≡ false
        by true dot b dots = absurd (not_text (codes ".") refl dot)
        by false dot true dots = absurd (not_text (codes "..") refl dots)
        by false dot false dots = rw (dot, dots) refl

-- the label with this number
abbrev pub label_of : List ℕ → List ℕ
label_of x = codes ".relmove-" ++ x

-- the staging name with this number
abbrev pub staging_of : List ℕ → List ℕ
staging_of x = codes ".relmove-run" ++ slash ∷ x

-- and its place
abbrev pub staging_place : List ℕ → Place
staging_place x = codes ".relmove-run" ∷ x ∷ []

-- neither the run's directory nor a label has a slash
pub run-plain : All (λ b. is_slash b ≡ false) (codes ".relmove-run")
run-plain =
    All-from_recursion (λ b. is_slash b ≡ false) (codes ".relmove-run")
    (refl, (refl, (refl, (refl, (refl, (refl, (refl, (refl, (refl, (refl, (refl, (refl, tt))))))))))))

pub label-plain : (x : List ℕ) → is_number x ≡ true → All (λ b. is_slash b ≡ false) (label_of x)
label-plain x is =
    All-append (λ b. is_slash b ≡ false) (codes ".relmove-") x (All-from_recursion (λ b. is_slash b ≡ false) (codes ".relmove-")
    (refl, (refl, (refl, (refl, (refl, (refl, (refl, (refl, (refl, tt)))))))))) (number-plain x is).1

pub names_of-staging : (x : List ℕ) → is_number x ≡ true → names_of (staging_of x) ≡ staging_place x
names_of-staging x is =
    let (named, plain) = number-plain x is in
    names_of-first (codes ".relmove-run") x refl run-plain
    ∙ ap (λ ns. codes ".relmove-run" ∷ ns) (names_of-one x named plain)

pub names_of-label : (x : List ℕ) → is_number x ≡ true → names_of (label_of x) ≡ label_of x ∷ []
names_of-label x is =
    let (named, plain) = number-plain x is in
    names_of-one (label_of x) refl (label-plain x is)

-- the run's path for a label
pub staging_path-label : (x : List ℕ) → is_number x ≡ true → staging_path (label_of x) ≡ staging_of x
staging_path-label [] is = absurd (true≢false (sym is))
staging_path-label (d ∷ ds) is = refl

-- two labels with different numbers
pub label-number : (x y : List ℕ) → label_of x ≡ label_of y → x ≡ y
label-number x y same = ap (drop 9) same

-- ---- the last name of a path

-- the names of a path are what its slashes separate, but for what is empty
names_of-pieces : (path : List ℕ) → names_of path ≡ filter steps.is_not_empty (names path)
unfolding relative_path_on_literals
names_of-pieces path = texts (filter steps.is_not_empty (names path))
  where
    text : (p : List ℕ) → step_text (classed p) ≡ p
    text p = by (bytes_eq p (codes ".")) refl (bytes_eq p (codes "..")) refl
      where
        by : (a : Bool) → bytes_eq p (codes ".") ≡ a → (b : Bool) → bytes_eq p (codes "..") ≡ b → step_text (classed p) ≡ p
        by true dot b dots = rw (dot) (sym ((bytes_eq-Decides p (codes ".")).0 dot))
        by false dot true dots = rw (dot, dots) (sym ((bytes_eq-Decides p (codes "..")).0 dots))
        by false dot false dots = rw (dot, dots) refl

    texts : (ps : List (List ℕ)) → map step_text (map classed ps) ≡ ps
    texts [] = refl
    texts (p ∷ ps) = ap (λ q. q ∷ map step_text (map classed ps)) (text p) ∙ ap (λ qs. p ∷ qs) (texts ps)

-- the last of the texts that aren't empty is the last one, if that isn't empty
last-kept : (ns : List (List ℕ)) → steps.is_not_empty (last_of ns) ≡ true
    → last_of (filter steps.is_not_empty ns) ≡ last_of ns
last-kept [] some = refl
last-kept (n ∷ []) some = rw (some) refl
last-kept (n ∷ m ∷ ns) some = by (steps.is_not_empty n) (filter steps.is_not_empty (m ∷ ns)) refl (last-kept (m ∷ ns) some)
  where
    by : (b : Bool) (rest : List (List ℕ)) → filter steps.is_not_empty (m ∷ ns) ≡ rest
        → last_of (filter steps.is_not_empty (m ∷ ns)) ≡ last_of (m ∷ ns)
        → last_of (if b then n ∷ filter steps.is_not_empty (m ∷ ns) else filter steps.is_not_empty (m ∷ ns)) ≡ last_of (m ∷ ns)
    by false rest is same = same
    by true [] is same =
        let none : last_of (m ∷ ns) ≡ [] = sym same ∙ ap last_of is in
        absurd (true≢false (sym some ∙ ap steps.is_not_empty none))
    by true (r ∷ rest) is same = ap (λ rs. last_of (n ∷ rs)) is ∙ ap last_of (sym is) ∙ same

-- the last of a path's names is the name at its end, if that begins as a label
pub last-label : (path : List ℕ) → begins_as_label (last_name path) ≡ true → last_of (names_of path) ≡ last_name path
last-label path begins =
    ap last_of (names_of-pieces path) ∙ last-kept (names path) (some (last_name path) begins)
  where
    some : (n : List ℕ) → begins_as_label n ≡ true → steps.is_not_empty n ≡ true
    some [] is = absurd (true≢false (sym is))
    some (b ∷ n) is = refl

-- what a text has after a slash is cut as that alone is, after other parts
split-after : (xs ys : List ℕ) → (first : List ℕ) × (rest : List (List ℕ)) × (slice_split is_slash (xs ++ slash ∷ ys) ≡ first ∷ rest)
    × ((n : List ℕ) × (ns : List (List ℕ)) × (rest ≡ n ∷ ns)) × (last_of rest ≡ last_of (slice_split is_slash ys))
split-after [] ys =
    ([], slice_split is_slash ys, slice_split-cons_yes is_slash slash ys refl, some (slice_split is_slash ys) (split-some ys), refl)
  where
    some : (ns : List (List ℕ)) → 0 < length ns → (n : List ℕ) × (rest : List (List ℕ)) × (ns ≡ n ∷ rest)
    some [] less = absurd (omega (arith, less))
    some (n ∷ ns) less = (n, ns, refl)

    split-some : (bs : List ℕ) → 0 < length (slice_split is_slash bs)
    split-some bs = let long = length-slice_split is_slash bs in omega (arith, long)
split-after (x ∷ xs) ys = by (cases_Bool (is_slash x)) (split-after xs ys)
  where
    by : (is_slash x ≡ true) ⊎ (is_slash x ≡ false)
        → (first : List ℕ) × (rest : List (List ℕ)) × (slice_split is_slash (xs ++ slash ∷ ys) ≡ first ∷ rest)
        × ((n : List ℕ) × (ns : List (List ℕ)) × (rest ≡ n ∷ ns)) × (last_of rest ≡ last_of (slice_split is_slash ys))
        → (first : List ℕ) × (rest : List (List ℕ)) × (slice_split is_slash ((x ∷ xs) ++ slash ∷ ys) ≡ first ∷ rest)
        × ((n : List ℕ) × (ns : List (List ℕ)) × (rest ≡ n ∷ ns)) × (last_of rest ≡ last_of (slice_split is_slash ys))
    by (inl cuts) (first, rest, is, (n, ns, some), last) = (
      [],
      first ∷ rest,
      slice_split-cons_yes is_slash x (xs ++ slash ∷ ys) cuts ∙ ap (λ ps. [] ∷ ps) is,
      (first, rest, refl),
      ap (λ r. last_of (first ∷ r)) some ∙ ap last_of (sym some) ∙ last,
    )
    by (inr other) (first, rest, is, (n, ns, some), last) = (
      x ∷ first,
      rest,
      slice_split-cons_no is_slash x (xs ++ slash ∷ ys) other ∙ ap (onto_first x) is,
      (n, ns, some),
      last,
    )

-- the name at the end of a path that spells its names
pub last_name-joined : (front : List (List ℕ)) (n : List ℕ) → All (λ b. is_slash b ≡ false) n
    → last_name (join_with_byte slash (front ++ n ∷ [])) ≡ n
last_name-joined [] n plain = ap last_of (slice_split_none is_slash n plain)
last_name-joined (m ∷ front) n plain = by (front ++ n ∷ []) refl (last_name-joined front n plain)
  where
    by : (rest : List (List ℕ)) → front ++ n ∷ [] ≡ rest → last_name (join_with_byte slash (front ++ n ∷ [])) ≡ n
        → last_name (join_with_byte slash (m ∷ (front ++ n ∷ []))) ≡ n
    by [] none same = absurd (let count = ap length none in let long = length-append front (n ∷ []) in omega (arith, count, long))
    by (r ∷ rest) is same =
        let (first, parts, cut, (p, ps, some), last) = split-after m (join_with_byte slash (r ∷ rest)) in
        ap (λ ns. last_name (join_with_byte slash (m ∷ ns))) is ∙ ap last_of cut
        ∙ ap (λ q. last_of (first ∷ q)) some ∙ ap last_of (sym some) ∙ last
        ∙ ap (λ ns. last_name (join_with_byte slash ns)) (sym is) ∙ same

-- a path that begins as a label has a name of a run's own
pub label-not_foreign : (path : List ℕ) → begins_as_label path ≡ true → AreForeign (names_of path) → ⊥
label-not_foreign path begins fine =
    let split = (starts_is Decides-eqb path (codes ".relmove-") (begins_as_label path) refl).0 begins in
    first (drop 9 path) (slice_split is_slash (drop 9 path)) refl
    (subst AreForeign (names_of-pieces path ∙ ap (λ p. filter steps.is_not_empty (names p)) split) fine)
  where
    first : (rest : List ℕ) (parts : List (List ℕ)) → slice_split is_slash rest ≡ parts
        → AreForeign (filter steps.is_not_empty (names (codes ".relmove-" ++ rest))) → ⊥
    first rest [] is fine = absurd (let long = length-slice_split is_slash rest in let none = ap length is in omega (arith, long, none))
    first rest (part ∷ parts) is fine =
        let cut : names (codes ".relmove-" ++ rest) ≡ (codes ".relmove-" ++ part) ∷ parts =
        ap (λ ps. onto_first 46 (onto_first 114 (onto_first 101 (onto_first 108 (onto_first 109 (onto_first 111 (onto_first 118
        (onto_first 101
        (onto_first 45 ps))))))))) is in
        true≢false (subst AreForeign (ap (filter steps.is_not_empty) cut) fine).0

-- what comes after the last slash of a path, or all of it, is the name at its end
pub last_name-of : (path n : List ℕ) → IsNameOf n path → last_name path ≡ n
last_name-of path n (none, way) = by way
  where
    plain : All (λ b. is_slash b ≡ false) n
    plain = All-weaker (λ b. b ≢ 47) (λ b. is_slash b ≡ false) (λ b. ne_eqb b 47) n none

    by : (path ≡ n) ⊎ ((directory : List ℕ) × (path ≡ directory ++ 47 ∷ n)) → last_name path ≡ n
    by (inl is) = ap last_name is ∙ ap last_of (slice_split_none is_slash n plain)
    by (inr (directory, is)) =
        let (first, parts, cut, (p, ps, some), last) = split-after directory n in
        ap last_name is ∙ ap last_of cut ∙ ap (λ q. last_of (first ∷ q)) some ∙ ap last_of (sym some) ∙ last
        ∙ ap last_of (slice_split_none is_slash n plain)
