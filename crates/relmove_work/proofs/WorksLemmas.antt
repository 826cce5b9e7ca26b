-- The work of a plan's actions can be carried out where the actions can be done, and leads to where they lead.
use Rattle.std.proofs.Common.{◌≡◌, ◌≢◌, ◌⊎◌, ◌<◌, ◌+◌, ℕ, zero, suc, Bool, true, false, not, ◌&&◌, ◌||◌, true≢false, List, [], ◌∷◌, ◌++◌, Some, None, IsTrue, String, Contains, codes, drop, filter, get_or, length, map, string_bytes, inl, inr, refl, sym, ap, subst, ◌∙◌, append-nil, append_assoc, arith, if◌then◌else◌}
use Rattle.std.specs.List.{AllZip, list_all, slice_get}
use Rattle.std.proofs.lemmas.List.{append_cancel_left}
use Rattle.std.proofs.lemmas.Option.{slice_get_within}
use Rattle.std.proofs.lemmas.Bool.Decides.{Decides-eqb}
use Rattle.std.proofs.lemmas.Slice.Eq.{starts_is}
use Rattle.relmove_journal.specs.Paths.{path_below}
use Rattle.std.specs.declared.alloc.Global.{Global}
use Rattle.relative_path.specs.Steps.{slash}
use Rattle.relmove_actions.specs.declared.actions.Rename.{Rename as RunRename}
use Rattle.relmove_journal.specs.Shape.{IsOfRun, begins_with, has_paths_of_run, is_directory_path, is_leftover, is_made_below, is_made_path, is_number, is_path, is_placing, is_staging, is_staging_name, is_written}
use Rattle.relmove_journal.specs.declared.work.Leftover.TheVariants as leftovers
use Rattle.relmove_journal.specs.declared.work.TextFile.{TextFile}
use Rattle.relmove_journal.specs.declared.work.Work.{Work}
use Rattle.relmove_trees.specs.FileTrees.{Directory, File, IsUnder, IsWholeTree, Place, Tree, names_of}
use Rattle.relmove_trees.specs.TreeActions.{LeadTo}
use Rattle.relmove_trees.proofs.FileTreesLemmas.{last_view, push_front}
use Rattle.relmove_stages.specs.StageActions.{place_of}
use Rattle.relmove_work.specs.StagingPaths.{begins_as_label, is_text_file, last_name, staging_path, text_path}
use Rattle.relmove_work.specs.Works.{IsMadeAt, IsOldTextOf, IsPathOfLabel, IsPlacedAs, IsStagedAs, IsWorkOf, IsWrittenAt, PlanTexts}
use Rattle.relmove_work.specs.Leading.{LeadsThere}
use Rattle.relmove_work.specs.Works as works
use Rattle.relmove_stages.proofs.ChainLemmas.{map_at}
use Rattle.relmove_work.proofs.SeenTreesLemmas.{AreApart, Away, Matches, Within}
use Rattle.relmove_work.proofs.StagedLemmas.{AreSteps, IsNow, IsPair, Step, apart-same, equal_or, things}
use Rattle.relmove_work.proofs.CleaningLemmas.{pair-end, zip-left, zip-right}
use Rattle.relmove_work.proofs.FitsLemmas.{FitsSteps, IsFreeFor, IsPlacedBy, IsRemovedBy, IsWrittenBy, PlanLists, fits-there, plan_actions}
use Rattle.relmove_work.proofs.PathsLemmas.{and-true, AreForeign, IsForeign, is_directory_path-foreign, is_path-foreign, label-number, label-plain, label_of, names_of-first, names_of-label, names_of-staging, number-plain, run-plain, staging_path-label, staging_place}

-- ---- what is known of a plan

-- the file of a new text has a numbered name, in a directory without a name of a run's own
pub record IsTextFile (path : List ℕ) : Type 0 where
  pub number : List ℕ
  pub is : is_number number ≡ true
  pub top : Place
  pub split : names_of path ≡ top ++ label_of number ∷ []
  pub foreign : AreForeign top
  pub last : last_name path ≡ label_of number

-- the label has a number
pub record IsLabel (label : List ℕ) : Type 0 where
  pub number : List ℕ
  pub is : is_number number ≡ true
  pub label_is : label ≡ label_of number

-- how the labels of a plan fit together
pub record IsLabelled (plan : PlanTexts) : Type 0 where
  pub labels : (i : ℕ) (s : List ℕ × List ℕ) → slice_get plan.staged i ≡ Some s → IsLabel s.1
  pub different : (i j : ℕ) (s t : List ℕ × List ℕ) → slice_get plan.staged i ≡ Some s → slice_get plan.staged j ≡ Some t → i ≢ j
      → s.1 ≢ t.1
  pub files : (i : ℕ) (s : List ℕ × List ℕ) → slice_get plan.staged i ≡ Some s → is_text_file s.0 ≡ true → IsTextFile s.0
  pub files_differ : (i j : ℕ) (s t : List ℕ × List ℕ) → slice_get plan.staged i ≡ Some s → slice_get plan.staged j ≡ Some t
      → i ≢ j → is_text_file s.0 ≡ true → is_text_file t.0 ≡ true → last_name s.0 ≢ last_name t.0
  pub files_labels : (i j : ℕ) (s t : List ℕ × List ℕ) → slice_get plan.staged i ≡ Some s → slice_get plan.staged j ≡ Some t
      → is_text_file s.0 ≡ true → last_name s.0 ≢ t.1
  pub texts : (i : ℕ) (new : List ℕ × List ℕ × List ℕ) → slice_get plan.texts i ≡ Some new
      → (j : ℕ) × (label : List ℕ) × (slice_get plan.staged j ≡ Some (new.1, label)) × (is_text_file new.1 ≡ true)
  pub made : (i : ℕ) (path : List ℕ) → slice_get plan.made i ≡ Some path → IsMadeAt plan.staged path
  pub placed : (i : ℕ) (p : List ℕ × List ℕ) → slice_get plan.placed i ≡ Some p
      → (j : ℕ) × (from : List ℕ) × (slice_get plan.staged j ≡ Some (from, p.0))
  pub removed : (i : ℕ) (label : List ℕ) → slice_get plan.removed i ≡ Some label
      → (j : ℕ) × (from : List ℕ) × (slice_get plan.staged j ≡ Some (from, label))
  pub either : (i j : ℕ) (p : List ℕ × List ℕ) (label : List ℕ) → slice_get plan.placed i ≡ Some p
      → slice_get plan.removed j ≡ Some label → p.0 ≢ label
  pub once : (i j : ℕ) (one other : List ℕ) → slice_get plan.removed i ≡ Some one → slice_get plan.removed j ≡ Some other
      → i ≢ j → one ≢ other
  pub all : (i : ℕ) (s : List ℕ × List ℕ) → slice_get plan.staged i ≡ Some s
      → ((j : ℕ) × (to : List ℕ) × (slice_get plan.placed j ≡ Some (s.1, to))) ⊎ ((j : ℕ) × (slice_get plan.removed j ≡ Some s.1))
  pub deepest : (i j : ℕ) (one other : List ℕ) → i < j → slice_get plan.emptied i ≡ Some one
      → slice_get plan.emptied j ≡ Some other → ¬ IsUnder (names_of other) (names_of one)

-- the tree has the run's directory, with nothing in it, and nothing at labels and at the files of new texts; and the pages
pub record IsTreeFor (plan : PlanTexts) (pages : List (List ℕ × List ℕ)) (tree : Tree) : Type 0 where
  pub whole : IsWholeTree tree
  pub directory : tree (codes ".relmove-run" ∷ []) ≡ Some Directory
  pub empty : (n : List ℕ) → tree (codes ".relmove-run" ∷ n ∷ []) ≡ None
  pub labels : (i : ℕ) (s : List ℕ × List ℕ) → slice_get plan.staged i ≡ Some s → tree (s.1 ∷ []) ≡ None
  pub files : (i : ℕ) (s : List ℕ × List ℕ) → slice_get plan.staged i ≡ Some s → is_text_file s.0 ≡ true → tree (names_of s.0) ≡ None
  pub old_texts : (page text : List ℕ) → Contains pages (page, text) → tree (names_of page) ≡ Some (File text)

-- ---- steps

-- the step of a rename to a label
abbrev pub step_of : List ℕ × List ℕ → Step
step_of s = record {
  is_text = is_text_file s.0;
  from = names_of s.0;
  label = names_of s.1;
  staging = names_of (if is_text_file s.0 then text_path s.0 else staging_path s.1);
}

-- ---- lists

pub at-map : {X Y : Type 0} (f : X → Y) (xs : List X) (i : ℕ) (x : X) → slice_get xs i ≡ Some x → slice_get (map f xs) i ≡ Some (f x)
at-map f [] i x at = absurd (cc at)
at-map f (y ∷ xs) zero x at = let same : y ≡ x = cc at in ap (λ z. Some (f z)) same
at-map f (y ∷ xs) (suc i) x at = at-map f xs i x at

-- an element is one by its number
pub contains-at : {X : Type 0} (xs : List X) (x : X) → Contains xs x → (i : ℕ) × (slice_get xs i ≡ Some x)
contains-at {X = X} xs x (k, within, is) = (k, by xs k within is)
  where
    by : (xs : List X) (k : ℕ) → k < length xs → get_or xs k x ≡ x → slice_get xs k ≡ Some x
    by [] k within is = absurd (let w : k < 0 = within in omega (arith, w))
    by (y ∷ xs) zero within is = ap Some is
    by (y ∷ xs) (suc k) within is = by xs k (omega (arith, within)) is

pub at-contains : {X : Type 0} (xs : List X) (i : ℕ) (x : X) → slice_get xs i ≡ Some x → Contains xs x
at-contains [] i x at = absurd (cc at)
at-contains (y ∷ xs) zero x at = (0, omega arith, let same : y ≡ x = cc at in same)
at-contains (y ∷ xs) (suc i) x at = let (k, within, is) = at-contains xs i x at in (suc k, omega (arith, within), is)

-- what holds of the elements of two lists by their number
zip-at : {X Y : Type 0} (R S : X → Y → Type 0) (xs : List X) (ys : List Y) → AllZip R xs ys
    → ((i : ℕ) (x : X) (y : Y) → slice_get xs i ≡ Some x → slice_get ys i ≡ Some y → R x y → S x y) → AllZip S xs ys
zip-at R S [] [] zipped each = tt
zip-at R S [] (y ∷ ys) zipped each = absurd zipped
zip-at R S (x ∷ xs) [] zipped each = absurd zipped
zip-at R S (x ∷ xs) (y ∷ ys) zipped each =
    (each 0 x y refl refl zipped.0, zip-at R S xs ys zipped.1 (λ i x_2 y_2 at at_2. each (suc i) x_2 y_2 at at_2))

-- what passes a test is kept
filter-has : {X : Type 0} (test : X → Bool) (xs : List X) (i : ℕ) (x : X) → slice_get xs i ≡ Some x → test x ≡ true
    → (j : ℕ) × (slice_get (filter test xs) j ≡ Some x)
filter-has test [] i x at passes = absurd (cc at)
filter-has {X = X} test (y ∷ xs) zero x at passes = by (test y) refl
  where
    same : y ≡ x
    same = cc at

    by : (b : Bool) → test y ≡ b → (j : ℕ) × (slice_get (if b then y ∷ filter test xs else filter test xs) j ≡ Some x)
    by true is = (0, at)
    by false is = absurd (true≢false (sym passes ∙ ap test (sym same) ∙ is))
filter-has {X = X} test (y ∷ xs) (suc i) x at passes = by (test y) (filter-has test xs i x at passes)
  where
    by : (b : Bool) → (j : ℕ) × (slice_get (filter test xs) j ≡ Some x)
        → (j : ℕ) × (slice_get (if b then y ∷ filter test xs else filter test xs) j ≡ Some x)
    by true (j, at_2) = (suc j, at_2)
    by false there = there

-- what a test says of all
list_all-at : {X : Type 0} (test : X → Bool) (xs : List X) → list_all test xs ≡ true → (i : ℕ) (x : X)
    → slice_get xs i ≡ Some x → test x ≡ true
list_all-at test [] is i x at = absurd (cc at)
list_all-at test (y ∷ xs) is i x at = by (test y) refl is i at (λ rest j at_2. list_all-at test xs rest j x at_2)
  where
    by : (b : Bool) → test y ≡ b → b && list_all test xs ≡ true → (i : ℕ) → slice_get (y ∷ xs) i ≡ Some x
        → (list_all test xs ≡ true → (j : ℕ) → slice_get xs j ≡ Some x → test x ≡ true) → test x ≡ true
    by true here rest zero at later = let same : y ≡ x = cc at in ap test (sym same) ∙ here
    by true here rest (suc i) at later = later rest i at
    by false here rest i at later = absurd (true≢false (sym rest))

or-true : (a b : Bool) → a || b ≡ true → (a ≡ true) ⊎ (b ≡ true)
or-true true b is = inl is
or-true false b is = inr is

-- ---- places with other first names

apart-first : (n m : List ℕ) (one other : Place) → n ≢ m → AreApart (n ∷ one) (m ∷ other)
apart-first n m one other differ = (
  λ (rest, is). let same : n ≡ m = cc is in differ same,
  λ (rest, is). let same : m ≡ n = cc is in differ (sym same),
)

apart-second : (n one other : List ℕ) → one ≢ other → AreApart (n ∷ one ∷ []) (n ∷ other ∷ [])
apart-second n one other differ = (
  λ (rest, is). let same : one ≡ other = cc is in differ same,
  λ (rest, is). let same : other ≡ one = cc is in differ (sym same),
)

-- a name of a run's own isn't another name
foreign-not : (n m : List ℕ) → begins_with (codes ".relmove") n ≡ false → begins_with (codes ".relmove") m ≡ true → n ≢ m
foreign-not n m foreign own same = true≢false (sym own ∙ ap (begins_with (codes ".relmove")) (sym same) ∙ foreign)

foreign-apart : (place : Place) (m : List ℕ) (other : Place) → IsForeign place → begins_with (codes ".relmove") m ≡ true
    → AreApart place (m ∷ other)
foreign-apart place m other foreign own =
    let here = subst AreForeign foreign.split foreign.foreign in
    apart-same place (m ∷ other) (foreign.first ∷ foreign.rest) (m ∷ other) foreign.split refl
    (apart-first foreign.first m foreign.rest other (foreign-not foreign.first m here.0 own))

-- a number isn't the rest of the name of the run's directory
label-not_run : (x : List ℕ) → is_number x ≡ true → label_of x ≢ codes ".relmove-run"
label-not_run x is same =
    let rest : x ≡ codes "run" = label-number x (codes "run") same in
    true≢false (sym is ∙ ap is_number rest)

-- a name of a run's own isn't among names that aren't
foreign-lacks : (front : Place) (m : List ℕ) (rest : Place) → AreForeign (front ++ m ∷ rest)
    → begins_with (codes ".relmove") m ≡ true → ⊥
foreign-lacks [] m rest foreign own = true≢false (sym own ∙ foreign.0)
foreign-lacks (n ∷ front) m rest foreign own = foreign-lacks front m rest foreign.1 own

-- a name that isn't among the first ones is the last one
last-not : (top front : Place) (n m : List ℕ) (rest : Place) → AreForeign top → begins_with (codes ".relmove") m ≡ true
    → top ++ n ∷ [] ≡ front ++ m ∷ rest → n ≡ m
last-not top front n m rest foreign own is = by (last_view rest)
  where
    by : (rest ≡ []) ⊎ ((more : Place) × (last : List ℕ) × (rest ≡ more ++ last ∷ [])) → n ≡ m
    by (inl none) = last-same top front (is ∙ ap (λ r. front ++ m ∷ r) none)
      where
        last-same : (top front : Place) → top ++ n ∷ [] ≡ front ++ m ∷ [] → n ≡ m
        last-same top front is =
            let same : top ≡ front = push_front top front n m is in
            let e : n ∷ [] ≡ m ∷ [] = append_cancel_left front (n ∷ []) (m ∷ []) (ap (λ p. p ++ n ∷ []) (sym same) ∙ is) in cc e
    by (inr (more, last, split)) =
        let same : top ≡ front ++ m ∷ more =
        push_front top (front ++ m ∷ more) n last
        (is ∙ ap (λ r. front ++ m ∷ r) split ∙ sym (append_assoc front (m ∷ more) (last ∷ []))) in
        absurd (foreign-lacks front m more (subst AreForeign same foreign) own)

-- a text that begins with the run's directory begins as a label
begins_longer : (text : List ℕ) → begins_with (codes ".relmove-run/") text ≡ true → begins_as_label text ≡ true
begins_longer text is =
    let split = (starts_is Decides-eqb text (codes ".relmove-run/") (begins_with (codes ".relmove-run/") text) refl).0 is in
    ap begins_as_label split

-- a path below a label, and the run's path for it
names_of-label_below : (x below : List ℕ) → is_number x ≡ true
    → names_of (label_of x ++ slash ∷ below) ≡ (label_of x ∷ []) ++ names_of below
names_of-label_below x below is =
    let (named, plain) = number-plain x is in
    names_of-first (label_of x) below refl (label-plain x is)

names_of-made : (x below : List ℕ) → is_number x ≡ true
    → names_of (staging_path (label_of x ++ slash ∷ below)) ≡ staging_place x ++ names_of below
names_of-made x below is =
    ap names_of (path x is)
    ∙ names_of-first (codes ".relmove-run") (x ++ slash ∷ below) refl run-plain
    ∙ ap (λ ns. codes ".relmove-run" ∷ ns) (names_of-first x below (number-plain x is).0 (number-plain x is).1)
  where
    path : (x : List ℕ) → is_number x ≡ true
        → staging_path (label_of x ++ slash ∷ below) ≡ codes ".relmove-run" ++ slash ∷ (x ++ slash ∷ below)
    path [] is = absurd (true≢false (sym is))
    path (d ∷ ds) is = refl

-- things of a plan and renames of the run, one for one
zipped : (planned : List (List ℕ × List ℕ)) (renames : List RunRename) → AllZip IsStagedAs (works.thing_renames planned) renames
    → AllZip (λ s rename. (s.from ≡ place_of rename.from) × (s.staging ≡ place_of rename.to)) (things (map step_of planned)) renames
zipped [] [] zip = tt
zipped [] (r ∷ renames) zip = absurd zip
zipped (x ∷ planned) renames zip = by (is_text_file x.0) refl renames zip (λ rest zip_2. zipped planned rest zip_2)
  where
    by : (b : Bool) → is_text_file x.0 ≡ b → (renames : List RunRename)
        → AllZip IsStagedAs (if not b then x ∷ works.thing_renames planned else works.thing_renames planned) renames
        → ((rest : List RunRename) → AllZip IsStagedAs (works.thing_renames planned) rest
        → AllZip (λ s rename. (s.from ≡ place_of rename.from) × (s.staging ≡ place_of rename.to)) (things (map step_of planned)) rest)
        → AllZip (λ s rename. (s.from ≡ place_of rename.from) × (s.staging ≡ place_of rename.to))
        (if b then things (map step_of planned) else step_of x ∷ things (map step_of planned)) renames
    by true text renames zip later = later renames zip
    by false thing [] zip later = absurd zip
    by false thing (r ∷ renames) zip later = (
      (
        ap names_of (sym zip.0.0),
        ap (λ b. names_of (if b then text_path x.0 else staging_path x.1)) thing ∙ ap names_of (sym zip.0.1),
      ),
      later renames zip.1,
    )

-- ---- the places of the steps

-- what a step's places are
pub record IsShaped (s : List ℕ × List ℕ) : Type 0 where
  label : List ℕ
  label_number : is_number label ≡ true
  label_is : s.1 ≡ label_of label
  number : List ℕ
  is : is_number number ≡ true
  named : (if is_text_file s.0 then last_name s.0 else s.1) ≡ label_of number
  staging : (step_of s).staging ≡ staging_place number

module _ (plan : PlanTexts) (labelled : IsLabelled plan) (pages : List (List ℕ × List ℕ)) (work : Work)
    (of : IsWorkOf plan pages work) (of_run : IsOfRun work)
  where
    abbrev steps : List Step
    steps = map step_of plan.staged

    shaped : (i : ℕ) (s : List ℕ × List ℕ) → slice_get plan.staged i ≡ Some s → IsShaped s
    shaped i s at = by (is_text_file s.0) refl
      where
        it : IsLabel s.1
        it = labelled.labels i s at

        staging_if : (b : Bool) → is_text_file s.0 ≡ b
            → (step_of s).staging ≡ names_of (if b then text_path s.0 else staging_path s.1)
        staging_if b is = ap (λ b. names_of (if b then text_path s.0 else staging_path s.1)) is

        by : (text : Bool) → is_text_file s.0 ≡ text → IsShaped s
        by true text =
            let file = labelled.files i s at text in
            record {
              label = it.number;
              label_number = it.is;
              label_is = it.label_is;
              number = file.number;
              is = file.is;
              named = ap (λ b. if b then last_name s.0 else s.1) text ∙ file.last;
              staging = staging_if true text ∙ (ap (λ n. names_of (staging_path n)) file.last
                  ∙ ap names_of (staging_path-label file.number file.is)
                  ∙ names_of-staging file.number file.is);
            }
        by false thing = record {
          label = it.number;
          label_number = it.is;
          label_is = it.label_is;
          number = it.number;
          is = it.is;
          named = ap (λ b. if b then last_name s.0 else s.1) thing ∙ it.label_is;
          staging = staging_if false thing ∙ (ap (λ n. names_of (staging_path n)) it.label_is
              ∙ ap names_of (staging_path-label it.number it.is)
              ∙ names_of-staging it.number it.is);
        }

    -- a step of the list is one of a rename
    the_rename : (i : ℕ) (step : Step) → slice_get steps i ≡ Some step
        → (s : List ℕ × List ℕ) × (slice_get plan.staged i ≡ Some s) × (step_of s ≡ step)
    the_rename i step at = map_at step_of plan.staged i step at

    -- two renames have other numbers
    numbers : (i j : ℕ) (s t : List ℕ × List ℕ) (at : slice_get plan.staged i ≡ Some s) (at_2 : slice_get plan.staged j ≡ Some t)
        → i ≢ j → (shaped i s at).number ≢ (shaped j t at_2).number
    numbers i j s t at at_2 differ same =
        by (is_text_file s.0) refl (is_text_file t.0) refl
        ((shaped i s at).named ∙ ap label_of same ∙ sym (shaped j t at_2).named)
      where
        by : (a : Bool) → is_text_file s.0 ≡ a → (b : Bool) → is_text_file t.0 ≡ b
            → (if is_text_file s.0 then last_name s.0 else s.1) ≡ (if is_text_file t.0 then last_name t.0 else t.1) → ⊥
        by true text true text_2 is =
            labelled.files_differ i j s t at at_2 differ text text_2
            (ap (λ b. if b then last_name s.0 else s.1) (sym text) ∙ is ∙ ap (λ b. if b then last_name t.0 else t.1) text_2)
        by true text false thing is =
            labelled.files_labels i j s t at at_2 text
            (ap (λ b. if b then last_name s.0 else s.1) (sym text) ∙ is ∙ ap (λ b. if b then last_name t.0 else t.1) thing)
        by false thing true text is =
            labelled.files_labels j i t s at_2 at text
            (sym (ap (λ b. if b then last_name s.0 else s.1) (sym thing) ∙ is ∙ ap (λ b. if b then last_name t.0 else t.1) text))
        by false thing false thing_2 is =
            labelled.different i j s t at at_2 differ
            (ap (λ b. if b then last_name s.0 else s.1) (sym thing) ∙ is ∙ ap (λ b. if b then last_name t.0 else t.1) thing_2)

    -- the label as a place
    label_place : (i : ℕ) (s : List ℕ × List ℕ) (at : slice_get plan.staged i ≡ Some s)
        → names_of s.1 ≡ label_of (shaped i s at).label ∷ []
    label_place i s at =
        let it = shaped i s at in ap names_of it.label_is ∙ names_of-label it.label it.label_number

    -- the paths of the run's lists
    paths_are : (list_all is_staging work.staged.items ≡ true)
        × (list_all (λ (path : String Global). is_made_path (string_bytes path)) work.made.items ≡ true)
        × (list_all is_placing work.placed.items ≡ true) × (list_all is_leftover work.cleaned.items ≡ true)
    paths_are =
        let (one, cleaned) = and-true _ (list_all is_leftover work.cleaned.items) (is_true of_run.paths) in
        let (two, placed) = and-true _ (list_all is_placing work.placed.items) one in
        let (three, made) = and-true _ (list_all (λ (path : String Global). is_made_path (string_bytes path)) work.made.items) two in
        let (four, staged) = and-true (list_all is_written work.texts.items) (list_all is_staging work.staged.items) three in
        (staged, made, placed, cleaned)
      where
        is_true : IsTrue (has_paths_of_run work) → has_paths_of_run work ≡ true
        is_true is = is

    -- a thing leaves a path that isn't a run's own
    staged_foreign : (i : ℕ) (s : List ℕ × List ℕ) → slice_get plan.staged i ≡ Some s → is_text_file s.0 ≡ false
        → IsForeign (names_of s.0)
    staged_foreign i s at thing =
        by plan.staged work.staged.items of.staged i at (λ j r at_2. (and-true (is_path (string_bytes r.from)) _
        (list_all-at is_staging work.staged.items paths_are.0 j r at_2)).0)
      where
        by : (planned : List (List ℕ × List ℕ)) (renames : List RunRename) → AllZip IsStagedAs (works.thing_renames planned) renames
            → (i : ℕ) → slice_get planned i ≡ Some s
            → ((j : ℕ) (r : RunRename) → slice_get renames j ≡ Some r → is_path (string_bytes r.from) ≡ true)
            → IsForeign (names_of s.0)
        by planned renames zipped i at all =
            let (j, at_2) = has planned i at in
            let (r, at_3, is) = zip-left IsStagedAs (works.thing_renames planned) renames zipped j s at_2 in
            subst (λ path. IsForeign (names_of path)) is.0 (is_path-foreign (string_bytes r.from) (all j r at_3))
          where
            has : (planned : List (List ℕ × List ℕ)) (i : ℕ) → slice_get planned i ≡ Some s
                → (j : ℕ) × (slice_get (works.thing_renames planned) j ≡ Some s)
            has planned i at = filter-has (λ (s : List ℕ × List ℕ). not (is_text_file s.0)) planned i s at (ap not thing)

    -- ---- the places of the steps are apart

    label-own : (x : List ℕ) → begins_with (codes ".relmove") (label_of x) ≡ true
    label-own x = refl

    -- a path that leaves is apart from labels and from the run's places
    leaves-apart : (i j : ℕ) (s t : List ℕ × List ℕ) → slice_get plan.staged i ≡ Some s → slice_get plan.staged j ≡ Some t
        → AreApart (names_of s.0) (names_of t.1) × AreApart (names_of s.0) (step_of t).staging
    leaves-apart i j s t at at_2 = by (is_text_file s.0) refl
      where
        it : IsShaped t
        it = shaped j t at_2

        both : (first : List ℕ) (rest : Place) → names_of s.0 ≡ first ∷ rest → first ≢ label_of it.label
            → first ≢ codes ".relmove-run" → AreApart (names_of s.0) (names_of t.1) × AreApart (names_of s.0) (step_of t).staging
        both first rest is differ differ_2 = (
          apart-same (names_of s.0) (names_of t.1) (first ∷ rest) (label_of it.label ∷ []) is (label_place j t at_2)
              (apart-first first (label_of it.label) rest [] differ),
          apart-same (names_of s.0) (step_of t).staging (first ∷ rest) (staging_place it.number) is it.staging
              (apart-first first (codes ".relmove-run") rest (it.number ∷ []) differ_2),
        )

        of_file : (file : IsTextFile s.0) (top : Place) → file.top ≡ top → is_text_file s.0 ≡ true
            → AreApart (names_of s.0) (names_of t.1) × AreApart (names_of s.0) (step_of t).staging
        of_file file [] none text =
            both (label_of file.number) [] (file.split ∙ ap (λ top. top ++ label_of file.number ∷ []) none)
            (λ same. labelled.files_labels i j s t at at_2 text (file.last ∙ same ∙ sym it.label_is))
            (label-not_run file.number file.is)
        of_file file (first ∷ rest) some text =
            let foreign = subst AreForeign some file.foreign in
            both first (rest ++ label_of file.number ∷ []) (file.split ∙ ap (λ top. top ++ label_of file.number ∷ []) some)
            (foreign-not first (label_of it.label) foreign.0 refl) (foreign-not first (codes ".relmove-run") foreign.0 refl)

        by : (text : Bool) → is_text_file s.0 ≡ text → AreApart (names_of s.0) (names_of t.1) × AreApart (names_of s.0) (step_of t).staging
        by true text = let file = labelled.files i s at text in of_file file file.top refl text
        by false thing =
            let foreign = staged_foreign i s at thing in
            let here = subst AreForeign foreign.split foreign.foreign in
            both foreign.first foreign.rest foreign.split (foreign-not foreign.first (label_of it.label) here.0 refl)
            (foreign-not foreign.first (codes ".relmove-run") here.0 refl)

    -- nothing leaves from the file of a new text, or below
    files-apart : (i j : ℕ) (s t : List ℕ × List ℕ) → slice_get plan.staged i ≡ Some s → slice_get plan.staged j ≡ Some t → i ≢ j
        → is_text_file t.0 ≡ true → ¬ IsUnder (names_of s.0) (names_of t.0)
    files-apart i j s t at at_2 differ text (rest, under) = by (is_text_file s.0) refl
      where
        file : IsTextFile t.0
        file = labelled.files j t at_2 text

        below : names_of s.0 ≡ file.top ++ label_of file.number ∷ rest
        below = under ∙ ap (λ p. p ++ rest) file.split ∙ append_assoc file.top (label_of file.number ∷ []) rest

        by : (b : Bool) → is_text_file s.0 ≡ b → ⊥
        by true text_2 =
            let own = labelled.files i s at text_2 in
            labelled.files_differ i j s t at at_2 differ text_2 text
            (own.last
            ∙ last-not own.top file.top (label_of own.number) (label_of file.number) rest own.foreign refl (sym own.split ∙ below)
            ∙ sym file.last)
        by false thing =
            foreign-lacks file.top (label_of file.number) rest
            (subst AreForeign below (staged_foreign i s at thing).foreign) refl

    are-steps : AreSteps steps
    are-steps = record {
      labels = λ i j s t at at_2 differ. labels i j s t (the_rename i s at) (the_rename j t at_2) differ;
      across = λ i j s t at at_2. across i j s t (the_rename i s at) (the_rename j t at_2);
      leave = λ i j s t at at_2. leave i j s t (the_rename i s at) (the_rename j t at_2);
      files = λ i j s t at at_2 differ text. files i j s t (the_rename i s at) (the_rename j t at_2) differ text;
    }
      where
        labels : (i j : ℕ) (s t : Step) → (x : List ℕ × List ℕ) × (slice_get plan.staged i ≡ Some x) × (step_of x ≡ s)
            → (y : List ℕ × List ℕ) × (slice_get plan.staged j ≡ Some y) × (step_of y ≡ t) → i ≢ j
            → AreApart s.label t.label × AreApart s.staging t.staging
        labels i j s t (x, at, is) (y, at_2, is_2) differ =
            let one = shaped i x at in
            let two = shaped j y at_2 in (
              apart-same s.label t.label (label_of one.label ∷ []) (label_of two.label ∷ [])
                  (ap (λ (s : Step). s.label) (sym is) ∙ label_place i x at) (ap (λ (s : Step). s.label) (sym is_2) ∙ label_place j y at_2)
                  (apart-first (label_of one.label) (label_of two.label) [] []
                  (λ same. labelled.different i j x y at at_2 differ (one.label_is ∙ same ∙ sym two.label_is))),
              apart-same s.staging t.staging (staging_place one.number) (staging_place two.number)
                  (ap (λ (s : Step). s.staging) (sym is) ∙ one.staging) (ap (λ (s : Step). s.staging) (sym is_2) ∙ two.staging)
                  (apart-second (codes ".relmove-run") one.number two.number (numbers i j x y at at_2 differ)),
            )

        across : (i j : ℕ) (s t : Step) → (x : List ℕ × List ℕ) × (slice_get plan.staged i ≡ Some x) × (step_of x ≡ s)
            → (y : List ℕ × List ℕ) × (slice_get plan.staged j ≡ Some y) × (step_of y ≡ t) → AreApart s.label t.staging
        across i j s t (x, at, is) (y, at_2, is_2) =
            let one = shaped i x at in
            let two = shaped j y at_2 in
            apart-same s.label t.staging (label_of one.label ∷ []) (staging_place two.number)
            (ap (λ (s : Step). s.label) (sym is) ∙ label_place i x at) (ap (λ (s : Step). s.staging) (sym is_2) ∙ two.staging)
            (apart-first (label_of one.label) (codes ".relmove-run") [] (two.number ∷ []) (label-not_run one.label one.label_number))

        leave : (i j : ℕ) (s t : Step) → (x : List ℕ × List ℕ) × (slice_get plan.staged i ≡ Some x) × (step_of x ≡ s)
            → (y : List ℕ × List ℕ) × (slice_get plan.staged j ≡ Some y) × (step_of y ≡ t)
            → AreApart s.from t.label × AreApart s.from t.staging
        leave i j s t (x, at, is) (y, at_2, is_2) =
            let both = leaves-apart i j x y at at_2 in (
              apart-same s.from t.label (names_of x.0) (names_of y.1) (ap (λ (s : Step). s.from) (sym is))
                  (ap (λ (s : Step). s.label) (sym is_2)) both.0,
              apart-same s.from t.staging (names_of x.0) (step_of y).staging (ap (λ (s : Step). s.from) (sym is))
                  (ap (λ (s : Step). s.staging) (sym is_2)) both.1,
            )

        files : (i j : ℕ) (s t : Step) → (x : List ℕ × List ℕ) × (slice_get plan.staged i ≡ Some x) × (step_of x ≡ s)
            → (y : List ℕ × List ℕ) × (slice_get plan.staged j ≡ Some y) × (step_of y ≡ t) → i ≢ j → t.is_text ≡ true
            → ¬ IsUnder s.from t.from
        files i j s t (x, at, is) (y, at_2, is_2) differ text (rest, under) =
            files-apart i j x y at at_2 differ (ap (λ (s : Step). s.is_text) is_2 ∙ text)
            (rest, ap (λ (s : Step). s.from) is ∙ under ∙ ap (λ (s : Step). s.from ++ rest) (sym is_2))

    -- ---- the run's lists

    -- the step at a number
    step_at : (i : ℕ) (s : List ℕ × List ℕ) → slice_get plan.staged i ≡ Some s → slice_get steps i ≡ Some (step_of s)
    step_at i s at = at-map step_of plan.staged i s at

    -- there is one rename to a label
    one_rename : (i j : ℕ) (s t : List ℕ × List ℕ) → slice_get plan.staged i ≡ Some s → slice_get plan.staged j ≡ Some t → s.1 ≡ t.1
        → s ≡ t
    one_rename i j s t at at_2 same = elim (equal_or i j) [
      | inl one ↦ let e : Some s ≡ Some t = sym at ∙ ap (slice_get plan.staged) one ∙ at_2 in cc e
      | inr differ ↦ absurd (labelled.different i j s t at at_2 differ same)
    ]

    fits-texts : AllZip (IsWrittenBy steps) plan.texts work.texts.items
    fits-texts = zip-at IsWrittenAt (IsWrittenBy steps) plan.texts work.texts.items of.texts (λ i new file at at_2 is.
        let (j, label, at_3, text) = labelled.texts i new at in
        record {
          number = j;
          step = step_of (new.1, label);
          at = step_at j (new.1, label) at_3;
          text = text;
          from = refl;
          staging = ap names_of is.0 ∙ ap (λ b. names_of (if b then text_path new.1 else staging_path label)) (sym text);
          digest = is.1;
        })

    fits-staged : AllZip (λ s rename. (s.from ≡ place_of rename.from) × (s.staging ≡ place_of rename.to)) (things steps)
        work.staged.items
    fits-staged = zipped plan.staged work.staged.items of.staged

    fits-made : AllZip (λ label path. Matches (IsPair steps (length steps)) (names_of label) (place_of path)) plan.made work.made.items
    fits-made =
        zip-at (λ label path. string_bytes path ≡ staging_path label)
        (λ label path. Matches (IsPair steps (length steps)) (names_of label) (place_of path)) plan.made work.made.items of.made
        (λ i label path at at_2 is.
        match label path is (list_all-at (λ (path : String Global). is_made_path
        (string_bytes path)) work.made.items paths_are.1 i path at_2)
        (labelled.made i label at))
      where
        pair_away : (place : Place) → IsForeign place → (a b : Place) → IsPair steps (length steps) a b → AreApart place a
            × AreApart place b
        pair_away place foreign a b (i, s, at, is, now) = by (the_rename i s at) now
          where
            by : (x : List ℕ × List ℕ) × (slice_get plan.staged i ≡ Some x) × (step_of x ≡ s) → IsNow (length steps) i s a
                → AreApart place a × AreApart place b
            by (x, at_2, same) (inr (is_2, text, late)) =
                absurd (let within = slice_get_within steps i s at in omega (arith, within, late))
            by (x, at_2, same) (inl (is_2, why)) =
                let it = shaped i x at_2 in (
                  apart-same place a place (label_of it.label ∷ []) refl
                      (is_2 ∙ ap (λ (s : Step). s.label) (sym same) ∙ label_place i x at_2)
                      (foreign-apart place (label_of it.label) [] foreign refl),
                  apart-same place b place (staging_place it.number) refl
                      (is ∙ ap (λ (s : Step). s.staging) (sym same) ∙ it.staging)
                      (foreign-apart place (codes ".relmove-run") (it.number ∷ []) foreign refl),
                )

        plain : (label : List ℕ) → begins_as_label label ≡ false → is_made_path label ≡ true → is_directory_path label ≡ true
        plain label begins made = elim (or-true (is_directory_path label) (is_made_below label) made) [
          | inl is ↦ is
          | inr is ↦
              let (inside, rest) = and-true (begins_with (codes ".relmove-run/") label) _ is in
              absurd (true≢false (sym (begins_longer label inside) ∙ begins))
        ]

        match : (label : List ℕ) (path : String Global) → string_bytes path ≡ staging_path label → is_made_path (string_bytes path) ≡ true
            → IsMadeAt plan.staged label → Matches (IsPair steps (length steps)) (names_of label) (place_of path)
        match label path is made (inl begins) =
            let same : string_bytes path ≡ label =
            is ∙ ap (λ b. if b then path_below (codes ".relmove-run") (drop 9 label) else label) begins in
            let foreign = is_directory_path-foreign label (plain label begins (ap is_made_path (sym same) ∙ made)) in
            Away (ap names_of (sym same)) (pair_away (names_of label) foreign)
        match label path is made (inr (i, from, own, at, thing, way)) =
            by way
          where
            it : IsShaped (from, own)
            it = shaped i (from, own) at

            same_number : it.label ≡ it.number
            same_number =
                label-number it.label it.number
                (sym it.label_is ∙ ap (λ b. if b then last_name from else own) (sym thing) ∙ it.named)

            by : (label ≡ own) ⊎ ((below : List ℕ) × (label ≡ own ++ slash ∷ below))
                → Matches (IsPair steps (length steps)) (names_of label) (place_of path)
            by (inl same) =
                Within (names_of own) (step_of (from, own)).staging []
                (pair-end steps (length steps) refl i (step_of (from, own)) (step_at i (from, own) at))
                (ap names_of same ∙ sym (append-nil (names_of own)))
                (ap names_of (is ∙ ap staging_path (same ∙ it.label_is) ∙ staging_path-label it.label it.label_number)
                ∙ names_of-staging it.label it.label_number ∙ ap staging_place same_number ∙ sym it.staging
                ∙ sym (append-nil (step_of (from, own)).staging))
            by (inr (below, split)) =
                let text : label ≡ label_of it.label ++ slash ∷ below = split ∙ ap (λ l. l ++ slash ∷ below) it.label_is in
                Within (names_of own) (step_of (from, own)).staging (names_of below)
                (pair-end steps (length steps) refl i (step_of (from, own)) (step_at i (from, own) at))
                (ap names_of text ∙ names_of-label_below it.label below it.label_number
                ∙ ap (λ p. p ++ names_of below) (sym (label_place i (from, own) at)))
                (ap names_of (is ∙ ap staging_path text) ∙ names_of-made it.label below it.label_number
                ∙ ap (λ n. staging_place n ++ names_of below) same_number
                ∙ ap (λ p. p ++ names_of below) (sym it.staging))

    fits-placed : AllZip (IsPlacedBy steps) plan.placed work.placed.items
    fits-placed =
        zip-at (IsPlacedAs plan.staged) (IsPlacedBy steps) plan.placed work.placed.items of.placed (λ i p r at at_2 is.
        placed i p r at at_2 is (labelled.placed i p at))
      where
        from_path : (j : ℕ) (from label path : List ℕ) → slice_get plan.staged j ≡ Some (from, label)
            → IsPathOfLabel plan.staged label path → names_of path ≡ (step_of (from, label)).staging
        from_path j from label path at (inl (file, has, text, is)) =
            let (k, at_2) = contains-at plan.staged (file, label) has in
            let same : file ≡ from =
            ap (λ (s : List ℕ × List ℕ). s.0) (one_rename k j (file, label) (from, label) at_2 at refl) in
            ap names_of is ∙ ap (λ f. names_of (text_path f)) same
            ∙ ap (λ b. names_of (if b then text_path from else staging_path label)) (sym text ∙ ap is_text_file same)
        from_path j from label path at (inr (none, is)) =
            ap names_of is
            ∙ ap (λ b. names_of (if b then text_path from else staging_path label)) (sym (none from (at-contains plan.staged j
            (from, label) at)))

        placed : (i : ℕ) (p : List ℕ × List ℕ) (r : RunRename) → slice_get plan.placed i ≡ Some p
            → slice_get work.placed.items i ≡ Some r → IsPlacedAs plan.staged p r
            → (j : ℕ) × (from : List ℕ) × (slice_get plan.staged j ≡ Some (from, p.0)) → IsPlacedBy steps p r
        placed i p r at at_2 is (j, from, at_3) =
            let passes = list_all-at is_placing work.placed.items paths_are.2 i r at_2 in
            let foreign = is_path-foreign (string_bytes r.to) (and-true (is_staging_name (string_bytes r.from)) _ passes).1 in
            record {
              number = j;
              step = step_of (from, p.0);
              at = step_at j (from, p.0) at_3;
              from = refl;
              staging = from_path j from p.0 (string_bytes r.from) at_3 is.0;
              to = ap names_of (sym is.1);
              away = λ k s at_4. away foreign k s (the_rename k s at_4);
            }
          where
            away : IsForeign (place_of r.to) → (k : ℕ) (s : Step) → (x : List ℕ × List ℕ) × (slice_get plan.staged k ≡ Some x)
                × (step_of x ≡ s)
                → AreApart (place_of r.to) s.label × AreApart (place_of r.to) s.staging
            away foreign k s (x, at_5, same) =
                let it = shaped k x at_5 in (
                  apart-same (place_of r.to) s.label (place_of r.to) (label_of it.label ∷ []) refl
                      (ap (λ (s : Step). s.label) (sym same) ∙ label_place k x at_5)
                      (foreign-apart (place_of r.to) (label_of it.label) [] foreign refl),
                  apart-same (place_of r.to) s.staging (place_of r.to) (staging_place it.number) refl
                      (ap (λ (s : Step). s.staging) (sym same) ∙ it.staging)
                      (foreign-apart (place_of r.to) (codes ".relmove-run") (it.number ∷ []) foreign refl),
                )

    module _ (tree : Tree) (is_tree : IsTreeFor plan pages tree) where
      fits-removed : AllZip (IsRemovedBy steps tree) plan.removed of.files
      fits-removed =
          zip-at (IsOldTextOf plan.staged pages) (IsRemovedBy steps tree) plan.removed of.files of.removed (λ i label file at at_2 old.
          removed label file old (labelled.removed i label at) (contains-at plan.staged (old.page, old.own) old.leaves))
        where
          removed : (label : List ℕ) (file : TextFile) (old : IsOldTextOf plan.staged pages label file)
              → (j : ℕ) × (from : List ℕ) × (slice_get plan.staged j ≡ Some (from, label))
              → (k : ℕ) × (slice_get plan.staged k ≡ Some (old.page, old.own)) → IsRemovedBy steps tree label file
          removed label file old (j, from, at) (k, at_2) =
              let one = labelled.labels j (from, label) at in
              let two = labelled.labels k (old.page, old.own) at_2 in
              let number : two.number ≡ one.number =
              append_cancel_left (codes ".relmove-run/") two.number one.number
              (sym (staging_path-label two.number two.is) ∙ ap staging_path (sym two.label_is) ∙ old.same ∙ ap staging_path one.label_is
              ∙ staging_path-label one.number one.is) in
              let own : old.own ≡ label = two.label_is ∙ ap label_of number ∙ sym one.label_is in
              record {
                number = k;
                step = step_of (old.page, old.own);
                at = step_at k (old.page, old.own) at_2;
                thing = old.thing;
                from = ap names_of (sym own);
                staging = ap names_of (old.path ∙ sym old.same)
                    ∙ ap (λ b. names_of (if b then text_path old.page else staging_path old.own)) (sym old.thing);
                text = (old.text, is_tree.old_texts old.page old.text old.has, old.digest);
              }

      is_free : IsFreeFor steps tree
      is_free = record {
        whole = is_tree.whole;
        labels = λ i s at. labels i s (the_rename i s at);
        stagings = λ i s at. stagings i s (the_rename i s at);
        files = λ i s at text. files i s (the_rename i s at) text;
        held = λ i s top last at split. held i s top last (the_rename i s at) split;
      }
        where
          labels : (i : ℕ) (s : Step) → (x : List ℕ × List ℕ) × (slice_get plan.staged i ≡ Some x) × (step_of x ≡ s) → tree s.label ≡ None
          labels i s (x, at, same) =
              let it = shaped i x at in
              ap (λ (s : Step). tree s.label) (sym same) ∙ ap tree (label_place i x at ∙ ap (λ l. l ∷ []) (sym it.label_is))
              ∙ is_tree.labels i x at

          stagings : (i : ℕ) (s : Step) → (x : List ℕ × List ℕ) × (slice_get plan.staged i ≡ Some x) × (step_of x ≡ s)
              → tree s.staging ≡ None
          stagings i s (x, at, same) =
              let it = shaped i x at in
              ap (λ (s : Step). tree s.staging) (sym same) ∙ ap tree it.staging ∙ is_tree.empty it.number

          files : (i : ℕ) (s : Step) → (x : List ℕ × List ℕ) × (slice_get plan.staged i ≡ Some x) × (step_of x ≡ s) → s.is_text ≡ true
              → tree s.from ≡ None
          files i s (x, at, same) text =
              ap (λ (s : Step). tree s.from) (sym same) ∙ is_tree.files i x at (ap (λ (s : Step). s.is_text) same ∙ text)

          held : (i : ℕ) (s : Step) (top : Place) (last : List ℕ)
              → (x : List ℕ × List ℕ) × (slice_get plan.staged i ≡ Some x) × (step_of x ≡ s) → s.staging ≡ top ++ last ∷ []
              → tree top ≡ Some Directory
          held i s top last (x, at, same) split =
              let it = shaped i x at in
              let is : top ≡ codes ".relmove-run" ∷ [] =
              push_front top (codes ".relmove-run" ∷ []) last it.number
              (sym split ∙ ap (λ (s : Step). s.staging) (sym same) ∙ it.staging) in
              ap tree is ∙ is_tree.directory

      abbrev lists : PlanLists
      lists = record {
        texts = plan.texts;
        made = plan.made;
        placed = plan.placed;
        removed = plan.removed;
        emptied = plan.emptied;
      }

      -- two names of labels are one only if the labels are
      labels-one : (i j : ℕ) (one other : List ℕ × List ℕ) → slice_get plan.staged i ≡ Some one → slice_get plan.staged j ≡ Some other
          → names_of one.1 ≡ names_of other.1 → one.1 ≡ other.1
      labels-one i j one other at at_2 same =
          let e : label_of (shaped i one at).label ∷ [] ≡ label_of (shaped j other at_2).label ∷ [] =
          sym (label_place i one at) ∙ same ∙ label_place j other at_2 in
          let first : label_of (shaped i one at).label ≡ label_of (shaped j other at_2).label = cc e in
          (shaped i one at).label_is ∙ first ∙ sym (shaped j other at_2).label_is

      -- the run's places of different labels are apart
      stagings-apart : (i j : ℕ) (s t : Step) → slice_get steps i ≡ Some s → slice_get steps j ≡ Some t → (one other : List ℕ)
          → names_of one ≡ s.label → names_of other ≡ t.label
          → ((k : ℕ) × (from : List ℕ) × (slice_get plan.staged k ≡ Some (from, one)))
          → ((m : ℕ) × (from : List ℕ) × (slice_get plan.staged m ≡ Some (from, other)))
          → one ≢ other → AreApart s.staging t.staging
      stagings-apart i j s t at at_2 one other is is_2 (k, from, has) (m, from_2, has_2) differ =
          (are-steps.labels i j s t at at_2 (λ same.
          let e : s ≡ t = let e : Some s ≡ Some t = sym at ∙ ap (slice_get steps) same ∙ at_2 in cc e in
          differ (labels-one k m (from, one) (from_2, other) has has_2 (is ∙ ap (λ (s : Step). s.label) e ∙ sym is_2)))).1

      -- the place of a label's step is that of each step with the label
      staging-one : (i j : ℕ) (s t : Step) → slice_get steps i ≡ Some s → slice_get steps j ≡ Some t → s.label ≡ t.label
          → s.staging ≡ t.staging
      staging-one i j s t at at_2 same = elim (equal_or i j) [
        | inl one ↦
            let e : s ≡ t = let e : Some s ≡ Some t = sym at ∙ ap (slice_get steps) one ∙ at_2 in cc e in
            ap (λ (s : Step). s.staging) e
        | inr differ ↦
            absurd ((are-steps.labels i j s t at at_2 differ).0.0 ([], same ∙ sym (append-nil t.label)))
      ]

      fits : FitsSteps steps lists work tree
      fits = record {
        are = are-steps;
        texts = fits-texts;
        staged = fits-staged;
        made = fits-made;
        placed = fits-placed;
        files = of.files;
        directories = of.directories;
        cleaned = of.cleaned;
        removed = fits-removed;
        emptied = emptied plan.emptied of.directories (sym of.emptied);
        either = λ i j r file at at_2.
            let (p, at_3, placed) = zip-right (IsPlacedBy steps) plan.placed work.placed.items fits-placed i r at in
            let (label, at_4, removed) = zip-right (IsRemovedBy steps tree) plan.removed of.files fits-removed j file at_2 in
            apart-same (place_of r.from) (place_of file.path) placed.step.staging removed.step.staging placed.staging removed.staging
            (stagings-apart placed.number removed.number placed.step removed.step placed.at removed.at p.0 label placed.from removed.from
            (labelled.placed i p at_3) (labelled.removed j label at_4) (labelled.either i j p label at_3 at_4));
        once = λ i j one other at at_2 differ.
            let (label, at_3, removed) = zip-right (IsRemovedBy steps tree) plan.removed of.files fits-removed i one at in
            let (label_2, at_4, removed_2) = zip-right (IsRemovedBy steps tree) plan.removed of.files fits-removed j other at_2 in
            apart-same (place_of one.path) (place_of other.path) removed.step.staging removed_2.step.staging removed.staging
            removed_2.staging
            (stagings-apart removed.number removed_2.number removed.step removed_2.step removed.at removed_2.at label label_2 removed.from
            removed_2.from (labelled.removed i label at_3) (labelled.removed j label_2 at_4)
            (labelled.once i j label label_2 at_3 at_4 differ));
        all = λ i s at. all i s at (the_rename i s at);
        outside = λ i j file directory at at_2.
            let (label, at_3, removed) = zip-right (IsRemovedBy steps tree) plan.removed of.files fits-removed i file at in
            outside file directory removed (the_rename removed.number removed.step removed.at) (directory_foreign j directory at_2);
        deepest = λ i j one other less at at_2.
            let (path, at_3, is) = zip-right (λ path directory. names_of path ≡ place_of directory) plan.emptied of.directories
            (emptied plan.emptied of.directories (sym of.emptied)) i one at in
            let (path_2, at_4, is_2) = zip-right (λ path directory. names_of path ≡ place_of directory) plan.emptied of.directories
            (emptied plan.emptied of.directories (sym of.emptied)) j other at_2 in
            λ (rest, under). labelled.deepest i j path path_2 less at_3 at_4 (rest, is_2 ∙ under ∙ ap (λ p. p ++ rest) (sym is));
      }
        where
          emptied : (paths : List (List ℕ)) (directories : List (String Global)) → paths ≡ map string_bytes directories
              → AllZip (λ path directory. names_of path ≡ place_of directory) paths directories
          emptied paths directories is =
              subst (λ paths. AllZip (λ path directory. names_of path ≡ place_of directory) paths directories) (sym is) (each directories)
            where
              each : (directories : List (String Global))
                  → AllZip (λ path directory. names_of path ≡ place_of directory) (map string_bytes directories) directories
              each [] = tt
              each (d ∷ directories) = (refl, each directories)

          all : (i : ℕ) (s : Step) → slice_get steps i ≡ Some s
              → (x : List ℕ × List ℕ) × (slice_get plan.staged i ≡ Some x) × (step_of x ≡ s)
              → ((j : ℕ) × (r : RunRename) × (slice_get work.placed.items j ≡ Some r) × (place_of r.from ≡ s.staging))
              ⊎ ((j : ℕ) × (file : TextFile) × (slice_get of.files j ≡ Some file) × (place_of file.path ≡ s.staging))
          all i s at (x, at_2, same) = elim (labelled.all i x at_2) [
            | inl (j, to, at_3) ↦
                let (r, at_4, placed) = zip-left (IsPlacedBy steps) plan.placed work.placed.items fits-placed j (x.1, to) at_3 in
                inl (
                  j,
                  r,
                  at_4,
                  placed.staging
                      ∙ staging-one placed.number i placed.step s placed.at at (sym placed.from ∙ ap (λ (s : Step). s.label) same),
                )
            | inr (j, at_3) ↦
                let (file, at_4, removed) = zip-left (IsRemovedBy steps tree) plan.removed of.files fits-removed j x.1 at_3 in
                inr (
                  j,
                  file,
                  at_4,
                  removed.staging
                      ∙ staging-one removed.number i removed.step s removed.at at (sym removed.from ∙ ap (λ (s : Step). s.label) same),
                )
          ]

          directory_foreign : (j : ℕ) (directory : String Global) → slice_get of.directories j ≡ Some directory
              → IsForeign (place_of directory)
          directory_foreign j directory at =
              is_directory_path-foreign (string_bytes directory)
              (list_all-at is_leftover work.cleaned.items paths_are.3 (length of.files + j) (leftovers.Directory directory)
              (ap (λ items. slice_get items (length of.files + j)) of.cleaned
              ∙ later of.files (at-map leftovers.Directory of.directories j directory at)))
            where
              later : (files : List TextFile) → slice_get (map leftovers.Directory of.directories) j ≡ Some (leftovers.Directory directory)
                  → slice_get (map leftovers.Text files ++ map leftovers.Directory of.directories) (length files + j)
                  ≡ Some (leftovers.Directory directory)
              later [] here =
                  ap (slice_get (map leftovers.Directory of.directories)) (let e : 0 + j ≡ j = omega arith in e) ∙ here
              later (file ∷ files) here =
                  ap (slice_get (map leftovers.Text (file ∷ files) ++ map leftovers.Directory of.directories))
                  (let e : length (file ∷ files) + j ≡ suc (length files + j) = omega arith in e) ∙ later files here

          outside : (file : TextFile) (directory : String Global) {label : List ℕ} → (removed : IsRemovedBy steps tree label file)
              → (x : List ℕ × List ℕ) × (slice_get plan.staged removed.number ≡ Some x) × (step_of x ≡ removed.step)
              → IsForeign (place_of directory) → ¬ IsUnder (place_of directory) (place_of file.path)
          outside file directory removed (x, at, same) foreign =
              let it = shaped removed.number x at in
              (apart-same (place_of directory) (place_of file.path) (place_of directory) (staging_place it.number) refl
              (removed.staging ∙ ap (λ (s : Step). s.staging) (sym same) ∙ it.staging)
              (foreign-apart (place_of directory) (codes ".relmove-run") (it.number ∷ []) foreign refl)).0

      -- the work can be carried out, and leads to where the plan's actions lead
      pub work-leads : (Q : Tree → Type 0) → LeadTo (plan_actions steps lists) Q tree
          → LeadsThere work (map (λ (new : List ℕ × List ℕ × List ℕ). new.2) plan.texts) Q tree
      work-leads Q leads = fits-there steps lists work tree Q fits is_free leads
