-- If a run's work fits the steps of a plan, and the plan's actions lead to Q, the work's do.
use Rattle.std.proofs.Common.{◌≡◌, ◌≢◌, ◌⊎◌, ◌<◌, ◌≤◌, ◌+◌, ℕ, zero, suc, true≢false, true, false, List, [], ◌∷◌, ◌++◌, Some, None, String, length, map, inl, inr, refl, sym, ap, subst, ◌∙◌, append-nil, arith}
use Rattle.std.specs.List.{AllZip, slice_get}
use Rattle.std.proofs.lemmas.Option.{slice_get_within}
use Rattle.std.specs.declared.alloc.Global.{Global}
use Rattle.relmove_actions.specs.declared.actions.Rename.{Rename as RunRename}
use Rattle.relmove_journal.specs.declared.work.Leftover.{Leftover}
use Rattle.relmove_journal.specs.declared.work.Leftover.TheVariants as leftovers
use Rattle.relmove_journal.specs.declared.work.Stage.TheVariants.{Cleaning, Placing}
use Rattle.relmove_journal.specs.declared.work.TextFile.{TextFile}
use Rattle.relmove_journal.specs.declared.work.Work.{Work}
use Rattle.relmove_trees.specs.FileTrees.{Directory, File, IsUnder, IsWholeTree, Place, Tree, names_of}
use Rattle.relmove_trees.specs.TreeActions.{Action, Acts, Clear, LeadTo, Make, Remove, Rename, Write}
use Rattle.relmove_trees.proofs.FileTreesLemmas.{some_is}
use Rattle.relmove_stages.specs.Runs.{CanInitiate, DeepestFirst, HasNewTexts, HasOldTexts, IsAllDone, IsAtStage, Leads, Trees, left_place, writes_of}
use Rattle.relmove_stages.specs.StageActions.{HasText, IsText, LeadsTo, place_of}
use Rattle.relmove_stages.specs.Stages.{cleans, removes, stage_actions}
use Rattle.relmove_work.specs.Leading.{LeadsThere, after_action, after_actions, made_tree, placed_tree, renames_of, staged_tree, trees_of, written_tree}
use Rattle.relmove_stages.proofs.ChainLemmas.{LeadsTo-end, map_at}
use Rattle.relmove_work.proofs.SeenTreesLemmas.{AreApart, Away, Corresponds, IsSeen, Matches, Outside, Paired, Within, apart-both}
use Rattle.relmove_work.proofs.SeenRunsLemmas.{ComesAlong, along-makes, along-renames, along-writes, whole-writes}
use Rattle.relmove_work.proofs.StagedLemmas.{AreSteps, IsPair, Step, along-steps, apart-same, are-pairs, equal_or, thing_renames, things, things-has, things-step, turn}
use Rattle.relmove_work.proofs.KeepingLemmas.{HaveDigests, makes-keep, makes-whole, none-below, none-below_file, renames-bring, renames-gone, renames-keep, renames-whole, writes-elsewhere, writes-erased, writes-there}
use Rattle.relmove_work.proofs.CleaningLemmas.{ComesClean, along-removes, leads-cleans, leads-clears, leads-makes, leads-takes, leads-weaker, pair-end, seen-one, text-stays, zip-left, zip-map, zip-right, zip-weaker}

-- the file is where the plan writes the text of a step, and the run writes it
pub record IsWrittenBy (steps : List Step) (new : List ℕ × List ℕ × List ℕ) (file : TextFile) : Type 0 where
  pub number : ℕ
  pub step : Step
  pub at : slice_get steps number ≡ Some step
  pub text : step.is_text ≡ true
  pub from : names_of new.1 ≡ step.from
  pub staging : place_of file.path ≡ step.staging
  pub digest : IsText file.digest new.2

-- what has the label is placed by the run from the step's own place
pub record IsPlacedBy (steps : List Step) (placed : List ℕ × List ℕ) (rename : RunRename) : Type 0 where
  pub number : ℕ
  pub step : Step
  pub at : slice_get steps number ≡ Some step
  pub from : names_of placed.0 ≡ step.label
  pub staging : place_of rename.from ≡ step.staging
  pub to : names_of placed.1 ≡ place_of rename.to
  pub away : (i : ℕ) (s : Step) → slice_get steps i ≡ Some s
      → AreApart (place_of rename.to) s.label × AreApart (place_of rename.to) s.staging

-- what has the label is an old text of the tree, and the run removes it at the step's own place
pub record IsRemovedBy (steps : List Step) (tree : Tree) (label : List ℕ) (file : TextFile) : Type 0 where
  pub number : ℕ
  pub step : Step
  pub at : slice_get steps number ≡ Some step
  pub thing : step.is_text ≡ false
  pub from : names_of label ≡ step.label
  pub staging : place_of file.path ≡ step.staging
  pub text : HasText step.from file.digest tree

-- a plan's actions as places, but for the steps
pub record PlanLists : Type 0 where
  pub texts : List (List ℕ × List ℕ × List ℕ)
  pub made : List (List ℕ)
  pub placed : List (List ℕ × List ℕ)
  pub removed : List (List ℕ)
  pub emptied : List (List ℕ)

-- the work of a run does what the plan says, at the places of the steps
pub record FitsSteps (steps : List Step) (plan : PlanLists) (work : Work) (tree : Tree) : Type 0 where
  pub are : AreSteps steps
  pub texts : AllZip (IsWrittenBy steps) plan.texts work.texts.items
  pub staged : AllZip (λ s rename. (s.from ≡ place_of rename.from) × (s.staging ≡ place_of rename.to)) (things steps)
      work.staged.items
  pub made : AllZip (λ label path. Matches (IsPair steps (length steps)) (names_of label) (place_of path)) plan.made work.made.items
  pub placed : AllZip (IsPlacedBy steps) plan.placed work.placed.items
  pub files : List TextFile
  pub directories : List (String Global)
  pub cleaned : work.cleaned.items ≡ map leftovers.Text files ++ map leftovers.Directory directories
  pub removed : AllZip (IsRemovedBy steps tree) plan.removed files
  pub emptied : AllZip (λ path directory. names_of path ≡ place_of directory) plan.emptied directories
  -- no label is placed and removed, or removed twice; and each is one of both
  pub either : (i j : ℕ) (r : RunRename) (file : TextFile) → slice_get work.placed.items i ≡ Some r → slice_get files j ≡ Some file
      → AreApart (place_of r.from) (place_of file.path)
  pub once : (i j : ℕ) (one other : TextFile) → slice_get files i ≡ Some one → slice_get files j ≡ Some other → i ≢ j
      → AreApart (place_of one.path) (place_of other.path)
  pub all : (i : ℕ) (s : Step) → slice_get steps i ≡ Some s
      → ((j : ℕ) × (r : RunRename) × (slice_get work.placed.items j ≡ Some r) × (place_of r.from ≡ s.staging))
      ⊎ ((j : ℕ) × (file : TextFile) × (slice_get files j ≡ Some file) × (place_of file.path ≡ s.staging))
  -- directories are outside the run's own, the deepest first
  pub outside : (i j : ℕ) (file : TextFile) (directory : String Global) → slice_get files i ≡ Some file
      → slice_get directories j ≡ Some directory → ¬ IsUnder (place_of directory) (place_of file.path)
  pub deepest : (i j : ℕ) (one other : String Global) → i < j → slice_get directories i ≡ Some one
      → slice_get directories j ≡ Some other → ¬ IsUnder (place_of other) (place_of one)

-- nothing is at the places of the steps but what leaves, and the run's places are in directories
pub record IsFreeFor (steps : List Step) (tree : Tree) : Type 0 where
  pub whole : IsWholeTree tree
  pub labels : (i : ℕ) (s : Step) → slice_get steps i ≡ Some s → tree s.label ≡ None
  pub stagings : (i : ℕ) (s : Step) → slice_get steps i ≡ Some s → tree s.staging ≡ None
  pub files : (i : ℕ) (s : Step) → slice_get steps i ≡ Some s → s.is_text ≡ true → tree s.from ≡ None
  pub held : (i : ℕ) (s : Step) (top : Place) (last : List ℕ) → slice_get steps i ≡ Some s → s.staging ≡ top ++ last ∷ []
      → tree top ≡ Some Directory

-- the plan's actions, in order
abbrev pub plan_actions : List Step → PlanLists → List Action
plan_actions steps plan =
    map (λ new. Write (names_of new.1) new.2) plan.texts
    ++ (map (λ (s : Step). Rename s.from s.label) steps
    ++ (map (λ path. Make (names_of path)) plan.made
    ++ (map (λ rename. Rename (names_of rename.0) (names_of rename.1)) plan.placed
    ++ (map (λ path. Remove (names_of path)) plan.removed
    ++ map (λ path. Clear (names_of path)) plan.emptied))))

-- an element of two lists one after the other
pub append-at : {X : Type 0} (xs ys : List X) (i : ℕ) (x : X) → slice_get (xs ++ ys) i ≡ Some x
    → (slice_get xs i ≡ Some x) ⊎ ((j : ℕ) × (i ≡ length xs + j) × (slice_get ys j ≡ Some x))
append-at [] ys i x at = inr (i, (let e : i ≡ 0 + i = omega arith in e), at)
append-at (first ∷ xs) ys zero x at = inl at
append-at (first ∷ xs) ys (suc i) x at = elim (append-at xs ys i x at) [
  | inl here ↦ inl here
  | inr (j, is, there) ↦ inr (j, omega (arith, is), there)
]

pub length-mapped : {X Y : Type 0} (f : X → Y) (xs : List X) → length (map f xs) ≡ length xs
length-mapped f [] = refl
length-mapped f (x ∷ xs) = ap suc (length-mapped f xs)

-- ---- actions after which there is one tree

abbrev IsSure : Action → Type 0
IsSure (Write place bytes) = Unit {0}
IsSure (Rename from to) = Unit {0}
IsSure (Make place) = Unit {0}
IsSure (Remove place) = Unit {0}
IsSure (Clear place) = ⊥

abbrev AreSure : List Action → Type 0
AreSure [] = Unit {0}
AreSure (action ∷ actions) = IsSure action × AreSure actions

sure-acts : (action : Action) (tree : Tree) → IsSure action → Acts action tree (after_action action tree)
sure-acts (Write place bytes) tree sure = refl
sure-acts (Rename from to) tree sure = refl
sure-acts (Make place) tree sure = refl
sure-acts (Remove place) tree sure = refl
sure-acts (Clear place) tree sure = absurd sure

sure-end : (actions : List Action) → AreSure actions → (end tree : Tree) → LeadTo actions (λ t. t ≡ end) tree
    → end ≡ after_actions actions tree
sure-end [] sure end tree leads = sym leads
sure-end (action ∷ actions) sure end tree leads =
    sure-end actions sure.1 end (after_action action tree) (leads.1 (after_action action tree) (sure-acts action tree sure.0))

writes-sure : (texts : List TextFile) (bytes : List (List ℕ)) → AreSure (writes_of texts bytes)
writes-sure [] bytes = tt
writes-sure (text ∷ texts) [] = tt
writes-sure (text ∷ texts) (b ∷ bytes) = (tt, writes-sure texts bytes)

renames-sure : (renames : List RunRename) → AreSure (renames_of renames)
renames-sure [] = tt
renames-sure (rename ∷ renames) = (tt, renames-sure renames)

makes-sure : (paths : List (String Global)) → AreSure (map (λ path. Make (place_of path)) paths)
makes-sure [] = tt
makes-sure (path ∷ paths) = (tt, makes-sure paths)

-- a place that is apart from another isn't it
apart-other : (one other : Place) → AreApart one other → one ≢ other
apart-other one other apart is = apart.0 ([], is ∙ sym (append-nil other))

module _ (steps : List Step) (plan : PlanLists) (work : Work) (tree : Tree) (Q : Tree → Type 0)
    (fits : FitsSteps steps plan work tree) (free : IsFreeFor steps tree) (leads : LeadTo (plan_actions steps plan) Q tree)
  where
    abbrev n : ℕ
    n = length steps

    abbrev bytes : List (List ℕ)
    bytes = map (λ (new : List ℕ × List ℕ × List ℕ). new.2) plan.texts

    -- ---- the stages

    start : IsSeen (IsPair steps 0) tree tree
    start = record {
      same = same;
      hidden = λ a b rest (i, s, at, is, now). first i s a rest at now;
      unused = λ a b rest (i, s, at, is, now). second i s b rest at is;
      held = λ a b top last (i, s, at, is, now) split. free.held i s top last at (sym is ∙ split);
    }
      where
        first : (i : ℕ) (s : Step) (a rest : Place) → slice_get steps i ≡ Some s
            → ((a ≡ s.label) × ((s.is_text ≡ false) ⊎ (i < 0))) ⊎ ((a ≡ s.from) × (s.is_text ≡ true) × (0 ≤ i))
            → tree (a ++ rest) ≡ None
        first i s a rest at (inl (is, why)) =
            ap (λ p. tree (p ++ rest)) is ∙ none-below tree free.whole s.label (free.labels i s at) rest
        first i s a rest at (inr (is, text, late)) =
            ap (λ p. tree (p ++ rest)) is ∙ none-below tree free.whole s.from (free.files i s at text) rest

        second : (i : ℕ) (s : Step) (b rest : Place) → slice_get steps i ≡ Some s → b ≡ s.staging → tree (b ++ rest) ≡ None
        second i s b rest at is =
            ap (λ p. tree (p ++ rest)) is ∙ none-below tree free.whole s.staging (free.stagings i s at) rest

        same : (one two : Place) → Corresponds (IsPair steps 0) one two → tree two ≡ tree one
        same one two (Paired a b rest (i, s, at, is, now) is_1 is_2) =
            ap tree is_2 ∙ second i s b rest at is ∙ sym (ap tree is_1 ∙ first i s a rest at now)
        same one two (Outside is none) = ap tree (sym is)

    write : ComesAlong (IsPair steps 0)
        (map (λ (s : Step). Rename s.from s.label) steps
        ++ (map (λ path. Make (names_of path)) plan.made
        ++ (map (λ rename. Rename (names_of rename.0) (names_of rename.1)) plan.placed
        ++ (map (λ path. Remove (names_of path)) plan.removed ++ map (λ path. Clear (names_of path)) plan.emptied))))
        Q (writes_of work.texts.items bytes) tree
    write =
        along-writes (IsPair steps 0) (are-pairs steps fits.are 0) _ Q (λ (new : List ℕ × List ℕ × List ℕ). names_of new.1)
        (λ (new : List ℕ × List ℕ × List ℕ). new.2) plan.texts work.texts.items
        (zip-weaker (IsWrittenBy steps) (λ new file. Matches (IsPair steps 0) (names_of new.1) (place_of file.path))
        (λ new file by. Within by.step.from by.step.staging [] (by.number, by.step, by.at, refl, inr (refl, by.text, omega arith))
        (by.from ∙ sym (append-nil by.step.from)) (by.staging ∙ sym (append-nil by.step.staging)))
        plan.texts work.texts.items fits.texts)
        tree tree leads start

    stage : ComesAlong (IsPair steps n)
        (map (λ path. Make (names_of path)) plan.made
        ++ (map (λ rename. Rename (names_of rename.0) (names_of rename.1)) plan.placed
        ++ (map (λ path. Remove (names_of path)) plan.removed ++ map (λ path. Clear (names_of path)) plan.emptied)))
        Q (thing_renames steps) write.end
    stage = along-steps steps fits.are _ Q steps 0 n (λ j. ap (slice_get steps) (let e : j ≡ 0 + j = omega arith in e))
        (let e : n ≡ 0 + n = omega arith in e) write.tree write.end write.goes_on write.seen

    make : ComesAlong (IsPair steps n)
        (map (λ rename. Rename (names_of rename.0) (names_of rename.1)) plan.placed
        ++ (map (λ path. Remove (names_of path)) plan.removed ++ map (λ path. Clear (names_of path)) plan.emptied))
        Q (map (λ path. Make (place_of path)) work.made.items) stage.end
    make =
        along-makes (IsPair steps n) (are-pairs steps fits.are n) _ Q names_of place_of plan.made work.made.items fits.made
        stage.tree stage.end stage.goes_on stage.seen

    place : ComesAlong (IsPair steps n)
        (map (λ path. Remove (names_of path)) plan.removed ++ map (λ path. Clear (names_of path)) plan.emptied)
        Q (map (λ (r : RunRename). Rename (place_of r.from) (place_of r.to)) work.placed.items) make.end
    place =
        along-renames (IsPair steps n) (are-pairs steps fits.are n) _ Q (λ (p : List ℕ × List ℕ). names_of p.0)
        (λ (p : List ℕ × List ℕ). names_of p.1) (λ (r : RunRename). place_of r.from) (λ (r : RunRename). place_of r.to)
        plan.placed work.placed.items
        (zip-weaker (IsPlacedBy steps) (λ p r. Matches (IsPair steps n) (names_of p.0) (place_of r.from)
        × Matches (IsPair steps n) (names_of p.1) (place_of r.to)) match plan.placed work.placed.items fits.placed)
        make.tree make.end make.goes_on make.seen
      where
        match : (p : List ℕ × List ℕ) (r : RunRename) → IsPlacedBy steps p r
            → Matches (IsPair steps n) (names_of p.0) (place_of r.from) × Matches (IsPair steps n) (names_of p.1) (place_of r.to)
        match p r by = (
          Within by.step.label by.step.staging [] (pair-end steps n refl by.number by.step by.at)
              (by.from ∙ sym (append-nil by.step.label)) (by.staging ∙ sym (append-nil by.step.staging)),
          Away by.to (λ a b (i, s, at, is, now). (
            first a i s at now,
            apart-same (names_of p.1) b (place_of r.to) s.staging by.to is (by.away i s at).1,
          )),
        )
          where
            first : (a : Place) (i : ℕ) (s : Step) → slice_get steps i ≡ Some s
                → ((a ≡ s.label) × ((s.is_text ≡ false) ⊎ (i < n))) ⊎ ((a ≡ s.from) × (s.is_text ≡ true) × (n ≤ i))
                → AreApart (names_of p.1) a
            first a i s at (inl (is, why)) = apart-same (names_of p.1) a (place_of r.to) s.label by.to is (by.away i s at).0
            first a i s at (inr (is, text, late)) =
                absurd (let within = slice_get_within steps i s at in omega (arith, within, late))

    -- ---- what is where

    abbrev staged_from : RunRename → Place
    staged_from r = place_of r.from

    abbrev staged_to : RunRename → Place
    staged_to r = place_of r.to

    staging_leads : LeadTo (map (λ (r : RunRename). Rename (place_of r.from) (place_of r.to)) work.staged.items)
        (λ t. t ≡ stage.end) write.end
    staging_leads =
        subst (λ (actions : List Action). LeadTo actions (λ t. t ≡ stage.end) write.end)
        (zip-map (λ (s : Step). Rename s.from s.staging) (λ (r : RunRename). Rename (place_of r.from) (place_of r.to)) (things steps)
        work.staged.items
        (zip-weaker (λ s rename. (s.from ≡ place_of rename.from) × (s.staging ≡ place_of rename.to))
        (λ s r. Rename s.from s.staging ≡ Rename (place_of r.from) (place_of r.to))
        (λ s r is. ap (λ from. Rename from s.staging) is.0 ∙ ap (Rename (place_of r.from)) is.1) (things steps) work.staged.items
        fits.staged))
        stage.leads

    written-whole : IsWholeTree write.end
    written-whole = whole-writes work.texts.items bytes tree write.end write.leads free.whole

    staged-whole : IsWholeTree stage.end
    staged-whole = renames-whole staged_from staged_to stage.end work.staged.items write.end staging_leads written-whole

    made-whole : IsWholeTree make.end
    made-whole = makes-whole place_of make.end work.made.items stage.end make.leads staged-whole

    placed-whole : IsWholeTree place.end
    placed-whole = renames-whole staged_from staged_to place.end work.placed.items make.end place.leads made-whole

    -- a rename of the run is one of a thing's step
    staged_step : (j : ℕ) (r : RunRename) → slice_get work.staged.items j ≡ Some r
        → (i : ℕ) × (s : Step) × (slice_get steps i ≡ Some s) × (s.is_text ≡ false) × (s.from ≡ place_of r.from)
        × (s.staging ≡ place_of r.to)
    staged_step j r at =
        let (s, at_2, both) = zip-right (λ s rename. (s.from ≡ place_of rename.from) × (s.staging ≡ place_of rename.to))
        (things steps) work.staged.items fits.staged j r at in
        let (i, at_3, thing) = things-step steps j s at_2 in
        (i, s, at_3, thing, both.0, both.1)

    digests : HaveDigests work.texts.items bytes
    digests = turned plan.texts work.texts.items fits.texts
      where
        turned : (news : List (List ℕ × List ℕ × List ℕ)) (files : List TextFile) → AllZip (IsWrittenBy steps) news files
            → HaveDigests files (map (λ (new : List ℕ × List ℕ × List ℕ). new.2) news)
        turned [] [] zipped = tt
        turned [] (file ∷ files) zipped = absurd zipped
        turned (new ∷ news) [] zipped = absurd zipped
        turned (new ∷ news) (file ∷ files) zipped = (zipped.0.digest, turned news files zipped.1)

    -- what a thing's step leaves comes to the run's place for it
    comes : (i : ℕ) (s : Step) → slice_get steps i ≡ Some s → s.is_text ≡ false → stage.end s.staging ≡ tree s.from
    comes i s at thing =
        let (j, at_2) = things-has steps i s at thing in
        let (r, at_3, both) = zip-left (λ s rename. (s.from ≡ place_of rename.from) × (s.staging ≡ place_of rename.to))
        (things steps) work.staged.items fits.staged j s at_2 in
        let from : s.from ≡ place_of r.from = both.0 in
        let to : s.staging ≡ place_of r.to = both.1 in
        ap stage.end to
        ∙ renames-bring staged_from staged_to stage.end work.staged.items write.end staging_leads j r at_3
        (λ k y at_4. clear r from k y (staged_step k y at_4)) (λ k y at_4. still r to k y (staged_step k y at_4))
        (λ k y at_4. single r from to k y (staged_step k y at_4))
        ∙ ap write.end (sym from)
        ∙ writes-elsewhere work.texts.items bytes tree write.end s.from write.leads (λ k file at_4 same.
        let (new, at_5, by) = zip-right (IsWrittenBy steps) plan.texts work.texts.items fits.texts k file at_4 in
        apart-other s.from by.step.staging (fits.are.leave i by.number s by.step at by.at).1 (same ∙ by.staging))
      where
        clear : (r : RunRename) → s.from ≡ place_of r.from → (k : ℕ) (y : RunRename)
            → (m : ℕ) × (t : Step) × (slice_get steps m ≡ Some t) × (t.is_text ≡ false) × (t.from ≡ place_of y.from)
            × (t.staging ≡ place_of y.to)
            → ¬ IsUnder (place_of r.from) (place_of y.to)
        clear r from k y (m, t, at_2, thing_2, from_2, to_2) =
            (apart-same (place_of r.from) (place_of y.to) s.from t.staging (sym from) (sym to_2) (fits.are.leave i m s t at at_2).1).0

        still : (r : RunRename) → s.staging ≡ place_of r.to → (k : ℕ) (y : RunRename)
            → (m : ℕ) × (t : Step) × (slice_get steps m ≡ Some t) × (t.is_text ≡ false) × (t.from ≡ place_of y.from)
            × (t.staging ≡ place_of y.to)
            → ¬ IsUnder (place_of r.to) (place_of y.from)
        still r to k y (m, t, at_2, thing_2, from_2, to_2) =
            (apart-same (place_of y.from) (place_of r.to) t.from s.staging (sym from_2) (sym to) (fits.are.leave m i t s at_2 at).1).1

        single : (r : RunRename) → s.from ≡ place_of r.from → s.staging ≡ place_of r.to → (k : ℕ) (y : RunRename)
            → (m : ℕ) × (t : Step) × (slice_get steps m ≡ Some t) × (t.is_text ≡ false) × (t.from ≡ place_of y.from)
            × (t.staging ≡ place_of y.to)
            → (¬ IsUnder (place_of r.to) (place_of y.to)) ⊎ (place_of y.from ≡ place_of r.from)
        single r from to k y (m, t, at_2, thing_2, from_2, to_2) = elim (equal_or i m) [
          | inl same ↦
              let one : s ≡ t = let e : Some s ≡ Some t = sym at ∙ ap (slice_get steps) same ∙ at_2 in cc e in
              inr (sym from_2 ∙ ap (λ (s : Step). s.from) (sym one) ∙ from)
          | inr differ ↦
              inl (apart-same (place_of r.to) (place_of y.to) s.staging t.staging (sym to) (sym to_2)
              (fits.are.labels i m s t at at_2 differ).1).0
        ]

    -- an old text stays at the run's place for it
    old_text : (j : ℕ) (file : TextFile) → slice_get fits.files j ≡ Some file
        → HasText (place_of file.path) file.digest stage.end × HasText (place_of file.path) file.digest place.end
    old_text j file at =
        let (label, at_2, by) = zip-right (IsRemovedBy steps tree) plan.removed fits.files fits.removed j file at in
        let (b, there, text) = by.text in
        let here : stage.end (place_of file.path) ≡ Some (File b) =
        ap stage.end by.staging ∙ comes by.number by.step by.at by.thing ∙ there in
        let later : make.end (place_of file.path) ≡ Some (File b) =
        makes-keep place_of make.end work.made.items stage.end (place_of file.path) make.leads
        (some_is (Some (File b)) (stage.end (place_of file.path)) (sym here) refl) ∙ here in
        let last : place.end (place_of file.path) ≡ Some (File b) =
        renames-keep staged_from staged_to place.end work.placed.items make.end (place_of file.path) place.leads (λ i r at_3.
        let (p, at_4, placed) = zip-right (IsPlacedBy steps) plan.placed work.placed.items fits.placed i r at_3 in (
          (fits.either i j r file at_3 at).1,
          (apart-same (place_of r.to) (place_of file.path) (place_of r.to) by.step.staging refl by.staging
              (placed.away by.number by.step by.at).1).1,
        )) ∙ later in
        ((b, here, text), (b, last, text))

    clean : ComesClean (IsPair steps n) (map (λ path. Clear (names_of path)) plan.emptied) Q fits.files place.end
    clean =
        along-removes (IsPair steps n) (are-pairs steps fits.are n) _ Q names_of plan.removed fits.files
        (zip-weaker (IsRemovedBy steps tree) (λ label file. Matches (IsPair steps n) (names_of label) (place_of file.path))
        (λ label file by. Within by.step.label by.step.staging [] (pair-end steps n refl by.number by.step by.at)
        (by.from ∙ sym (append-nil by.step.label)) (by.staging ∙ sym (append-nil by.step.staging)))
        plan.removed fits.files fits.removed)
        (λ i j one other at at_2 differ. apart-other (place_of one.path) (place_of other.path) (fits.once i j one other at at_2 differ))
        place.tree place.end (λ i file at. (old_text i file at).1) place.goes_on place.seen

    -- nothing is left at the run's places
    empty : (i : ℕ) (s : Step) (rest : Place) → slice_get steps i ≡ Some s → clean.end (s.staging ++ rest) ≡ None
    empty i s rest at = by (fits.all i s at) rest
      where
        by : ((j : ℕ) × (r : RunRename) × (slice_get work.placed.items j ≡ Some r) × (place_of r.from ≡ s.staging))
            ⊎ ((j : ℕ) × (file : TextFile) × (slice_get fits.files j ≡ Some file) × (place_of file.path ≡ s.staging))
            → (rest : Place) → clean.end (s.staging ++ rest) ≡ None
        by (inl (j, r, at_2, is)) rest =
            clean.none (s.staging ++ rest)
            (renames-gone staged_from staged_to place.end work.placed.items make.end (s.staging ++ rest) place.leads (λ k y at_3
            (more, under).
            let (p, at_4, placed) = zip-right (IsPlacedBy steps) plan.placed work.placed.items fits.placed k y at_3 in
            apart-both (place_of y.to) s.staging more rest (placed.away i s at).1 (sym under))
            j r at_2 (rest, ap (λ p. p ++ rest) (sym is)))
        by (inr (j, file, at_2, is)) [] =
            ap clean.end (append-nil s.staging ∙ sym is) ∙ clean.gone j file at_2
        by (inr (j, file, at_2, is)) (m ∷ rest) =
            let (b, there, text) = (old_text j file at_2).1 in
            clean.none (s.staging ++ m ∷ rest)
            (ap (λ p. place.end (p ++ m ∷ rest)) (sym is) ∙ none-below_file place.end placed-whole (place_of file.path) b there m rest)

    one : clean.end ≡ clean.tree
    one = seen-one steps n refl clean.tree clean.end clean.seen empty

    -- ---- what the run requires

    -- the trees between the stages of the run
    abbrev trees : Trees
    trees = record {
      before = tree;
      written = write.end;
      staged = stage.end;
      made = make.end;
      placed = place.end;
    }

    -- the last stage leads to Q
    fits-cleans : LeadsTo (stage_actions work Cleaning) Q trees.placed
    fits-cleans =
        subst (λ (items : List Leftover). LeadsTo (map cleans items) Q place.end) (sym fits.cleaned)
        (leads-cleans fits.files (map leftovers.Directory fits.directories) Q place.end
        (leads-weaker (map removes fits.files) (λ t. t ≡ clean.end)
        (LeadsTo (map cleans (map leftovers.Directory fits.directories)) Q)
        (λ t is. subst (LeadsTo (map cleans (map leftovers.Directory fits.directories)) Q) (sym (is ∙ one)) clears) place.end clean.leads))
      where
        clears : LeadsTo (map cleans (map leftovers.Directory fits.directories)) Q clean.tree
        clears =
            leads-clears fits.directories Q clean.tree
            (subst (λ (actions : List Action). LeadTo actions Q clean.tree)
            (zip-map (λ path. Clear (names_of path)) (λ (d : String Global). Clear (place_of d)) plan.emptied fits.directories
            (zip-weaker (λ path directory. names_of path ≡ place_of directory)
            (λ path directory. Clear (names_of path) ≡ Clear (place_of directory)) (λ path directory is. ap Clear is) plan.emptied
            fits.directories fits.emptied))
            clean.goes_on)

    leftover-at : (i : ℕ) (leftover : Leftover) → slice_get work.cleaned.items i ≡ Some leftover
        → ((file : TextFile) × (leftovers.Text file ≡ leftover) × (slice_get fits.files i ≡ Some file))
        ⊎ ((directory : String Global) × (j : ℕ) × (leftovers.Directory directory ≡ leftover) × (i ≡ length fits.files + j)
        × (slice_get fits.directories j ≡ Some directory))
    leftover-at i leftover at =
        elim (append-at (map leftovers.Text fits.files) (map leftovers.Directory fits.directories) i leftover
        (ap (λ items. slice_get items i) (sym fits.cleaned) ∙ at)) [
          | inl here ↦
              let (file, at_2, is) = map_at leftovers.Text fits.files i leftover here in inl (file, is, at_2)
          | inr (j, is, there) ↦
              let (directory, at_2, is_2) = map_at leftovers.Directory fits.directories j leftover there in
              inr (directory, j, is_2, is ∙ ap (λ k. k + j) (length-mapped leftovers.Text fits.files), at_2)
        ]

    deepest : DeepestFirst work.cleaned.items
    deepest i j one other less at at_2 = by (leftover-at i one at) (leftover-at j other at_2)
      where
        by : ((file : TextFile) × (leftovers.Text file ≡ one) × (slice_get fits.files i ≡ Some file))
            ⊎ ((directory : String Global) × (k : ℕ) × (leftovers.Directory directory ≡ one) × (i ≡ length fits.files + k)
            × (slice_get fits.directories k ≡ Some directory))
            → ((file : TextFile) × (leftovers.Text file ≡ other) × (slice_get fits.files j ≡ Some file))
            ⊎ ((directory : String Global) × (k : ℕ) × (leftovers.Directory directory ≡ other) × (j ≡ length fits.files + k)
            × (slice_get fits.directories k ≡ Some directory))
            → ¬ IsUnder (left_place other) (left_place one)
        by (inl (file, is, here)) (inl (file_2, is_2, here_2)) =
            subst (λ (l : Leftover). ¬ IsUnder (left_place l) (left_place one)) is_2
            (subst (λ (l : Leftover). ¬ IsUnder (place_of file_2.path) (left_place l)) is
            (fits.once i j file file_2 here here_2 (λ same. omega (arith, less, same))).1)
        by (inl (file, is, here)) (inr (directory, k, is_2, count, here_2)) =
            subst (λ (l : Leftover). ¬ IsUnder (left_place l) (left_place one)) is_2
            (subst (λ (l : Leftover). ¬ IsUnder (place_of directory) (left_place l)) is
            (fits.outside i k file directory here here_2))
        by (inr (directory, k, is, count, here)) (inl (file, is_2, here_2)) =
            absurd (let within = slice_get_within fits.files j file here_2 in omega (arith, less, count, within))
        by (inr (directory, k, is, count, here)) (inr (directory_2, m, is_2, count_2, here_2)) =
            subst (λ (l : Leftover). ¬ IsUnder (left_place l) (left_place one)) is_2
            (subst (λ (l : Leftover). ¬ IsUnder (place_of directory_2) (left_place l)) is
            (fits.deepest k m directory directory_2 (omega (arith, less, count, count_2)) here here_2))

    old_texts : HasOldTexts work stage.end
    old_texts i text at = elim (leftover-at i (leftovers.Text text) at) [
      | inl (file, is, here) ↦
          let same : file ≡ text = cc is in
          subst (λ (t : TextFile). HasText (place_of t.path) t.digest stage.end) same (old_text i file here).0
      | inr (directory, k, is, count, here) ↦ absurd (cc is)
    ]

    new_text : (i : ℕ) (text : TextFile) → slice_get work.texts.items i ≡ Some text → HasText (place_of text.path) text.digest make.end
    new_text i text at =
        let (b, there, digest) = writes-there work.texts.items bytes tree write.end write.leads digests i text at in
        let (new, at_2, by) = zip-right (IsWrittenBy steps) plan.texts work.texts.items fits.texts i text at in
        let here : stage.end (place_of text.path) ≡ Some (File b) =
        renames-keep staged_from staged_to stage.end work.staged.items write.end (place_of text.path) staging_leads
        (λ k y at_3. stays text by k y at_3 (staged_step k y at_3) (equal_or by.number (staged_step k y at_3).0)) ∙ there in (
          b,
          makes-keep place_of make.end work.made.items stage.end (place_of text.path) make.leads
              (some_is (Some (File b)) (stage.end (place_of text.path)) (sym here) refl) ∙ here,
          digest,
        )
      where
        stays : (text : TextFile) {new : List ℕ × List ℕ × List ℕ} → (by : IsWrittenBy steps new text) → (k : ℕ) (y : RunRename)
            → slice_get work.staged.items k ≡ Some y
            → (step : (m : ℕ) × (t : Step) × (slice_get steps m ≡ Some t) × (t.is_text ≡ false) × (t.from ≡ place_of y.from)
            × (t.staging ≡ place_of y.to))
            → (by.number ≡ step.0) ⊎ (by.number ≢ step.0)
            → (¬ IsUnder (place_of text.path) (place_of y.from)) × (¬ IsUnder (place_of text.path) (place_of y.to))
        stays text by k y at_3 (m, t, at_4, thing, from, to) (inl same) =
            let one : by.step ≡ t =
            let e : Some by.step ≡ Some t = sym by.at ∙ ap (slice_get steps) same ∙ at_4 in cc e in
            absurd (true≢false (sym by.text ∙ ap (λ (s : Step). s.is_text) one ∙ thing))
        stays text by k y at_3 (m, t, at_4, thing, from, to) (inr differ) = (
          (apart-same (place_of y.from) (place_of text.path) t.from by.step.staging (sym from) by.staging
              (fits.are.leave m by.number t by.step at_4 by.at).1).1,
          (apart-same (place_of text.path) (place_of y.to) by.step.staging t.staging by.staging (sym to)
              (fits.are.labels by.number m by.step t by.at at_4 differ).1).0,
        )

    -- the actions of the run can be done in order
    fits-leads : Leads work trees
    fits-leads = record {
      whole = written-whole;
      texts = writes-erased work.texts.items bytes tree write.end write.leads digests;
      stages = leads-takes work.staged.items (λ t. t ≡ stage.end) write.end staging_leads;
      makes = leads-makes work.made.items (λ t. t ≡ make.end) stage.end make.leads;
      places = leads-takes work.placed.items (λ t. t ≡ place.end) make.end place.leads;
      cleans = leads-weaker (map cleans work.cleaned.items) Q (λ t. Unit {0}) (λ t holds. tt) place.end fits-cleans;
      staged_apart = λ i j one other at at_2. staged_apart one other (staged_step i one at) (staged_step j other at_2);
      placed_apart = λ i j one other at at_2.
          let (p, at_3, by) = zip-right (IsPlacedBy steps) plan.placed work.placed.items fits.placed i one at in
          let (q, at_4, by_2) = zip-right (IsPlacedBy steps) plan.placed work.placed.items fits.placed j other at_2 in
          apart-same (place_of one.from) (place_of other.to) by.step.staging (place_of other.to) by.staging refl
          (turn (by_2.away by.number by.step by.at).1);
      deepest = deepest;
      old_texts = old_texts;
      new_texts = new_texts;
    }
      where
        staged_apart : (one other : RunRename)
            → (i : ℕ) × (s : Step) × (slice_get steps i ≡ Some s) × (s.is_text ≡ false) × (s.from ≡ place_of one.from)
            × (s.staging ≡ place_of one.to)
            → (j : ℕ) × (t : Step) × (slice_get steps j ≡ Some t) × (t.is_text ≡ false) × (t.from ≡ place_of other.from)
            × (t.staging ≡ place_of other.to)
            → AreApart (place_of one.from) (place_of other.to)
        staged_apart one other (i, s, at, thing, from, to) (j, t, at_2, thing_2, from_2, to_2) =
            apart-same (place_of one.from) (place_of other.to) s.from t.staging (sym from) (sym to_2) (fits.are.leave i j s t at at_2).1

        new_texts : (t : Tree) → IsAtStage work trees Placing t → HasNewTexts work t
        new_texts t (begin, is, on) i text at =
            let (new, at_2, by) = zip-right (IsWrittenBy steps) plan.texts work.texts.items fits.texts i text at in
            text-stays work.placed.items on.done (place_of text.path) text.digest begin t
            (λ k rename at_3.
            let (p, at_4, placed) = zip-right (IsPlacedBy steps) plan.placed work.placed.items fits.placed k rename at_3 in
            (apart-same (place_of rename.to) (place_of text.path) (place_of rename.to) by.step.staging refl by.staging
            (placed.away by.number by.step by.at).1).1)
            on.is
            (subst (λ (t : Tree). (t (place_of text.path) ≡ None) ⊎ HasText (place_of text.path) text.digest t) (sym is)
            (inr (new_text i text at)))

    -- and the new texts can be written
    fits-initiates : CanInitiate work bytes trees
    fits-initiates = record {
      digests = λ i text at.
          let (b, at_2, digest) = zip-left (λ (text : TextFile) (b : List ℕ). IsText text.digest b) work.texts.items bytes digests i text at
          in (b, at_2, digest);
      writes = write.leads;
    }

    -- these are the trees of the work
    written-is : write.end ≡ written_tree work bytes tree
    written-is = sure-end (writes_of work.texts.items bytes) (writes-sure work.texts.items bytes) write.end tree write.leads

    staged-is : stage.end ≡ staged_tree work bytes tree
    staged-is =
        sure-end (renames_of work.staged.items) (renames-sure work.staged.items) stage.end write.end staging_leads
        ∙ ap (after_actions (renames_of work.staged.items)) written-is

    made-is : make.end ≡ made_tree work bytes tree
    made-is =
        sure-end (map (λ path. Make (place_of path)) work.made.items) (makes-sure work.made.items) make.end stage.end make.leads
        ∙ ap (after_actions (map (λ path. Make (place_of path)) work.made.items)) staged-is

    placed-is : place.end ≡ placed_tree work bytes tree
    placed-is =
        sure-end (renames_of work.placed.items) (renames-sure work.placed.items) place.end make.end place.leads
        ∙ ap (after_actions (renames_of work.placed.items)) made-is

    trees-are : trees ≡ trees_of work bytes tree
    trees-are = λ i. record {
      before = tree;
      written = written-is i;
      staged = staged-is i;
      made = made-is i;
      placed = placed-is i;
    }

    -- the work can be carried out, and Q holds in the end
    pub fits-there : LeadsThere work bytes Q tree
    fits-there = record {
      leads = subst (Leads work) trees-are fits-leads;
      initiates = subst (CanInitiate work bytes) trees-are fits-initiates;
      ends = λ end is.
          LeadsTo-end (stage_actions work Cleaning) Q trees.placed fits-cleans end
          (subst (λ (t : Trees). IsAllDone work t end) (sym trees-are) is);
    }
