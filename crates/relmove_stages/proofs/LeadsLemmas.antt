-- What a run requires makes each of its stages one that tells how far it is.
use Rattle.std.proofs.Common.{◌≡◌, inl, inr, ◌<◌, ℕ, List, map, Some, None, refl, sym, subst, arith}
use Rattle.std.specs.List.{slice_get}
use Rattle.std.proofs.Common.{String, length}
use Rattle.std.proofs.lemmas.List.{take_all}
use Rattle.std.specs.declared.alloc.Global.{Global}
use Rattle.relmove_actions.specs.declared.actions.Rename.{Rename}
use Rattle.relmove_journal.specs.declared.work.Leftover.{Leftover}
use Rattle.relmove_journal.specs.declared.work.Leftover.TheVariants.{Text, Directory}
use Rattle.relmove_journal.specs.declared.work.Stage.{Stage}
use Rattle.relmove_journal.specs.declared.work.Stage.TheVariants.{Writing, Staging, Making, Placing, Cleaning, Unplacing, Unmaking, Unstaging, Erasing}
use Rattle.relmove_journal.specs.declared.work.TextFile.{TextFile}
use Rattle.relmove_journal.specs.declared.work.Work.{Work}
use Rattle.relmove_stages.specs.Runs.{AreAllApart, BeginsAt, CanBegin, CanEnd, DeepestFirst, EndsFrom, HasOldTexts, IsAtStage, IsOnStage, IsStageDone, Leads, Trees, left_place}
use Rattle.relmove_stages.specs.StageActions.{IsAfter, IsDone, IsReady, LeadsTo, StageAction, Clears, place_of, tree_action}
use Rattle.relmove_stages.specs.Stages.{back, cleans, makes, next_stage, removes, removes_part, stage_actions, stage_back, takes, undone}
use Rattle.relmove_stages.proofs.ActionLemmas.{Clears-stays, IsBackable, IsUndone, Loses, Makes-stays, Takes-stays, done-becomes, none-stays}
use Rattle.relmove_stages.proofs.BackLemmas.{AreBackable, IsAfter-there, back-end, on_stage-back, stage-back, whole-after}
use Rattle.relmove_stages.proofs.ChainLemmas.{IsStage, LeadsTo-end, LeadsTo-ready, holds_on, map_at}
use Rattle.relmove_stages.proofs.PartsLemmas.{parts-lead}
use Rattle.relmove_trees.specs.FileTrees.{IsUnder, IsWholeTree, Tree}
use Rattle.relmove_trees.specs.TreeActions.{Acts}

-- ---- stages that go on

-- actions that lead somewhere are a stage if each stays done
stage_of : (actions : List StageAction) (P : Tree → Type 0) (start : Tree) → LeadsTo actions P start
    → ((i j : ℕ) (one other : StageAction) (old new : Tree) → i < j → slice_get actions i ≡ Some one
    → slice_get actions j ≡ Some other → IsDone one old → IsReady other old → Acts (tree_action other) old new → IsDone one new)
    → IsStage actions start
stage_of actions P start leads stays = record {
  ready = LeadsTo-ready actions P start leads;
  done = λ i k action tree at less within is. holds_on actions start IsDone
      (λ i action old new at is acts. done-becomes action old new (LeadsTo-ready actions P start leads i action old at is) acts)
      (λ i j action other old new less at at_2 is acts done.
      stays i j action other old new less at at_2 done (LeadsTo-ready actions P start leads j other old at_2 is) acts)
      k i action tree at less within is;
}

renames-stage : (renames : List Rename) (P : Tree → Type 0) (start : Tree) → AreAllApart renames → LeadsTo (map takes renames) P start
    → IsStage (map takes renames) start
renames-stage renames P start apart leads = stage_of (map takes renames) P start leads
    (λ i j one other old new less at at_2 done ready acts.
    let (r, r_at, r_is) = map_at takes renames i one at in
    let (s, s_at, s_is) = map_at takes renames j other at_2 in
    subst (λ (a : StageAction). IsDone a new) r_is
    (Takes-stays (place_of r.from) (place_of r.to) (place_of s.from) (place_of s.to) old new (apart i j r s r_at s_at)
    (apart j i s r s_at r_at) (subst (λ (a : StageAction). IsDone a old) (sym r_is) done)
    (subst (λ (a : StageAction). IsReady a old) (sym s_is) ready)
    (subst (λ (a : StageAction). Acts (tree_action a) old new) (sym s_is) acts)))

makes-stage : (paths : List (String Global)) (P : Tree → Type 0) (start : Tree) → LeadsTo (map makes paths) P start
    → IsStage (map makes paths) start
makes-stage paths P start leads = stage_of (map makes paths) P start leads
    (λ i j one other old new less at at_2 done ready acts.
    let (r, r_at, r_is) = map_at makes paths i one at in
    let (s, s_at, s_is) = map_at makes paths j other at_2 in
    subst (λ (a : StageAction). IsDone a new) r_is
    (Makes-stays (place_of r) (place_of s) old new (subst (λ (a : StageAction). IsDone a old) (sym r_is) done)
    (subst (λ (a : StageAction). IsReady a old) (sym s_is) ready)
    (subst (λ (a : StageAction). Acts (tree_action a) old new) (sym s_is) acts)))

-- what cleans removes something at its place, or nothing
cleans-loses : (leftover : Leftover) (old new : Tree) → Acts (tree_action (cleans leftover)) old new
    → Loses (left_place leftover) old new
cleans-loses (Text text) old new acts = inl acts
cleans-loses (Directory path) old new (inl (none, is)) = inl is
cleans-loses (Directory path) old new (inr (below, is)) = inr is

cleans-stay : (one other : Leftover) (old new : Tree) → ¬ IsUnder (left_place other) (left_place one) → IsDone (cleans one) old
    → Acts (tree_action (cleans other)) old new → IsDone (cleans one) new
cleans-stay (Text text) other old new not done acts =
    none-stays (place_of text.path) (left_place other) old new (cleans-loses other old new acts) done
cleans-stay (Directory path) other old new not done acts =
    Clears-stays (place_of path) (left_place other) old new (cleans-loses other old new acts) not done

cleaning-stage : (leftovers : List Leftover) (P : Tree → Type 0) (start : Tree) → DeepestFirst leftovers
    → LeadsTo (map cleans leftovers) P start → IsStage (map cleans leftovers) start
cleaning-stage leftovers P start deepest leads = stage_of (map cleans leftovers) P start leads
    (λ i j one other old new less at at_2 done ready acts.
    let (r, r_at, r_is) = map_at cleans leftovers i one at in
    let (s, s_at, s_is) = map_at cleans leftovers j other at_2 in
    subst (λ (a : StageAction). IsDone a new) r_is
    (cleans-stay r s old new (deepest i j r s less r_at s_at) (subst (λ (a : StageAction). IsDone a old) (sym r_is) done)
    (subst (λ (a : StageAction). Acts (tree_action a) old new) (sym s_is) acts)))

removes-stage : (texts : List TextFile) (P : Tree → Type 0) (start : Tree) → LeadsTo (map removes texts) P start
    → IsStage (map removes texts) start
removes-stage texts P start leads = stage_of (map removes texts) P start leads
    (λ i j one other old new less at at_2 done ready acts.
    let (r, r_at, r_is) = map_at removes texts i one at in
    let (s, s_at, s_is) = map_at removes texts j other at_2 in
    subst (λ (a : StageAction). IsDone a new) r_is
    (none-stays (place_of r.path) (place_of s.path) old new
    (inl (subst (λ (a : StageAction). Acts (tree_action a) old new) (sym s_is) acts))
    (subst (λ (a : StageAction). IsDone a old) (sym r_is) done)))

parts-stage : (texts : List TextFile) (P : Tree → Type 0) (start : Tree) → LeadsTo (map removes_part texts) P start
    → IsStage (map removes_part texts) start
parts-stage texts P start leads = stage_of (map removes_part texts) P start leads
    (λ i j one other old new less at at_2 done ready acts.
    let (r, r_at, r_is) = map_at removes_part texts i one at in
    let (s, s_at, s_is) = map_at removes_part texts j other at_2 in
    subst (λ (a : StageAction). IsDone a new) r_is
    (none-stays (place_of r.path) (place_of s.path) old new
    (inl (subst (λ (a : StageAction). Acts (tree_action a) old new) (sym s_is) acts))
    (subst (λ (a : StageAction). IsDone a old) (sym r_is) done)))

-- ---- stages that go back

renames-backable : (renames : List Rename) → AreBackable (map takes renames)
renames-backable renames i action at =
    let (r, r_at, r_is) = map_at takes renames i action at in subst IsBackable r_is tt

makes-backable : (paths : List (String Global)) → AreBackable (map makes paths)
makes-backable paths i action at =
    let (r, r_at, r_is) = map_at makes paths i action at in subst IsBackable r_is tt

renames-back : (renames : List Rename) (start end : Tree) → AreAllApart renames → IsWholeTree start
    → LeadsTo (map takes renames) (λ tree. tree ≡ end) start → IsStage (undone (map takes renames)) end
renames-back renames start end apart whole leads =
    stage-back (map takes renames) start end (renames-backable renames) whole leads
    (λ i j one other old new at at_2 done ready acts.
    let (r, r_at, r_is) = map_at takes renames i one at in
    let (s, s_at, s_is) = map_at takes renames j other at_2 in
    let apart_2 = apart i j r s r_at s_at in
    let apart_3 = apart j i s r s_at r_at in
    subst (λ (a : StageAction). IsUndone (back a) new) r_is
    (Takes-stays (place_of r.to) (place_of r.from) (place_of s.to) (place_of s.from) old new (apart_3.1, apart_3.0)
    (apart_2.1, apart_2.0) (subst (λ (a : StageAction). IsUndone (back a) old) (sym r_is) done)
    (subst (λ (a : StageAction). IsReady (back a) old) (sym s_is) ready)
    (subst (λ (a : StageAction). Acts (tree_action (back a)) old new) (sym s_is) acts)))

makes-back : (paths : List (String Global)) (start end : Tree) → IsWholeTree start
    → LeadsTo (map makes paths) (λ tree. tree ≡ end) start → IsStage (undone (map makes paths)) end
makes-back paths start end whole leads =
    stage-back (map makes paths) start end (makes-backable paths) whole leads
    (λ i j one other old new at at_2 done ready acts.
    let (r, r_at, r_is) = map_at makes paths i one at in
    let (s, s_at, s_is) = map_at makes paths j other at_2 in
    subst (λ (a : StageAction). IsUndone (back a) new) r_is
    (none-stays (place_of r) (place_of s) old new
    (clear-loses s old new (subst (λ (a : StageAction). Acts (tree_action (back a)) old new) (sym s_is) acts))
    (subst (λ (a : StageAction). IsUndone (back a) old) (sym r_is) done)))
  where
    clear-loses : (path : String Global) (old new : Tree) → Acts (tree_action (Clears (place_of path))) old new
        → Loses (place_of path) old new
    clear-loses path old new (inl (none, is)) = inl is
    clear-loses path old new (inr (below, is)) = inr is

-- a tree after all of them is whole too
whole-end : (actions : List StageAction) (start end : Tree) → AreBackable actions → IsWholeTree start
    → LeadsTo actions (λ tree. tree ≡ end) start → IsWholeTree end
whole-end actions start end backable whole leads =
    let (tree, is) = IsAfter-there actions start backable in
    subst IsWholeTree (LeadsTo-end actions (λ tree. tree ≡ end) start leads tree is)
    (whole-after actions (λ tree. tree ≡ end) start backable whole leads (length actions) tree
    (subst (λ (l : List StageAction). IsAfter l start tree) (sym (take_all (length actions) actions (omega arith))) is))

-- ---- a run

pub next_is : (one next : Stage) → Some one ≡ Some next → one ≡ next
next_is one next some = cc some

module _ (work : Work) (trees : Trees) where
  -- a stage ends as the next one
  pub ends-before : (stage next : Stage) (tree : Tree) → next_stage stage ≡ Some next → EndsFrom work trees next tree
      → EndsFrom work trees stage tree
  ends-before Writing next tree some ends = absurd (cc some)
  ends-before Staging next tree some ends = subst (λ (s : Stage). EndsFrom work trees s tree) (sym (next_is Making next some)) ends
  ends-before Making next tree some ends = subst (λ (s : Stage). EndsFrom work trees s tree) (sym (next_is Placing next some)) ends
  ends-before Placing next tree some ends = subst (λ (s : Stage). EndsFrom work trees s tree) (sym (next_is Cleaning next some)) ends
  ends-before Cleaning next tree some ends = absurd (cc some)
  ends-before Unplacing next tree some ends = subst (λ (s : Stage). EndsFrom work trees s tree) (sym (next_is Unmaking next some)) ends
  ends-before Unmaking next tree some ends = subst (λ (s : Stage). EndsFrom work trees s tree) (sym (next_is Unstaging next some)) ends
  ends-before Unstaging next tree some ends = subst (λ (s : Stage). EndsFrom work trees s tree) (sym (next_is Erasing next some)) ends
  ends-before Erasing next tree some ends = absurd (cc some)

module _ (work : Work) (trees : Trees) (leads : Leads work trees) where
  staged-whole : IsWholeTree trees.staged
  staged-whole =
      whole-end (map takes work.staged.items) trees.written trees.staged (renames-backable work.staged.items) leads.whole leads.stages

  made-whole : IsWholeTree trees.made
  made-whole =
      whole-end (map makes work.made.items) trees.staged trees.made (makes-backable work.made.items) staged-whole leads.makes

  -- each stage tells how far it is
  pub stage-leads : (stage : Stage) (start : Tree) → BeginsAt work trees stage start → IsStage (stage_actions work stage) start
  stage-leads Writing start begins =
      parts-stage work.texts.items (λ tree. tree ≡ trees.before) start
      (parts-lead work.texts.items trees.before trees.written start leads.texts begins)
  stage-leads Staging start begins =
      subst (IsStage (map takes work.staged.items)) (sym begins)
      (renames-stage work.staged.items (λ tree. tree ≡ trees.staged) trees.written leads.staged_apart leads.stages)
  stage-leads Making start begins =
      subst (IsStage (map makes work.made.items)) (sym begins)
      (makes-stage work.made.items (λ tree. tree ≡ trees.made) trees.staged leads.makes)
  stage-leads Placing start begins =
      subst (IsStage (map takes work.placed.items)) (sym begins)
      (renames-stage work.placed.items (λ tree. tree ≡ trees.placed) trees.made leads.placed_apart leads.places)
  stage-leads Cleaning start begins =
      subst (IsStage (map cleans work.cleaned.items)) (sym begins)
      (cleaning-stage work.cleaned.items (λ tree. Unit {0}) trees.placed leads.deepest leads.cleans)
  stage-leads Unplacing start begins =
      subst (IsStage (undone (map takes work.placed.items))) (sym begins)
      (renames-back work.placed.items trees.made trees.placed leads.placed_apart made-whole leads.places)
  stage-leads Unmaking start begins =
      subst (IsStage (undone (map makes work.made.items))) (sym begins)
      (makes-back work.made.items trees.staged trees.made staged-whole leads.makes)
  stage-leads Unstaging start begins =
      subst (IsStage (undone (map takes work.staged.items))) (sym begins)
      (renames-back work.staged.items trees.written trees.staged leads.staged_apart leads.whole leads.stages)
  stage-leads Erasing start begins =
      subst (IsStage (map removes work.texts.items)) (sym begins)
      (removes-stage work.texts.items (λ tree. tree ≡ trees.before) trees.written leads.texts)

  -- the same actions from the same tree
  after_start : (actions : List StageAction) (one other tree : Tree) → one ≡ other → IsAfter actions one tree
      → IsAfter actions other tree
  after_start actions one other tree same is = subst (λ (t : Tree). IsAfter actions t tree) same is

  on_start : (actions : List StageAction) (one other tree : Tree) → one ≡ other → IsOnStage actions one tree
      → IsOnStage actions other tree
  on_start actions one other tree same on = subst (λ (t : Tree). IsOnStage actions t tree) same on

  next_begins : (one next : Stage) (tree : Tree) → Some one ≡ Some next → BeginsAt work trees one tree
      → BeginsAt work trees next tree
  next_begins one next tree some begins = subst (λ (s : Stage). BeginsAt work trees s tree) (next_is one next some) begins

  -- a stage leads to where the next one begins
  pub next-leads : (stage next : Stage) (tree : Tree) → next_stage stage ≡ Some next → IsStageDone work trees stage tree
      → BeginsAt work trees next tree
  next-leads Writing next tree some done = absurd (cc some)
  next-leads Staging next tree some (start, begins, is) =
      next_begins Making next tree some
      (LeadsTo-end (map takes work.staged.items) (λ tree. tree ≡ trees.staged) trees.written leads.stages tree
      (after_start (map takes work.staged.items) start trees.written tree begins is))
  next-leads Making next tree some (start, begins, is) =
      next_begins Placing next tree some
      (LeadsTo-end (map makes work.made.items) (λ tree. tree ≡ trees.made) trees.staged leads.makes tree
      (after_start (map makes work.made.items) start trees.staged tree begins is))
  next-leads Placing next tree some (start, begins, is) =
      next_begins Cleaning next tree some
      (LeadsTo-end (map takes work.placed.items) (λ tree. tree ≡ trees.placed) trees.made leads.places tree
      (after_start (map takes work.placed.items) start trees.made tree begins is))
  next-leads Cleaning next tree some done = absurd (cc some)
  next-leads Unplacing next tree some (start, begins, is) =
      next_begins Unmaking next tree some
      (back-end (map takes work.placed.items) trees.made trees.placed (renames-backable work.placed.items) made-whole leads.places tree
      (after_start (undone (map takes work.placed.items)) start trees.placed tree begins is))
  next-leads Unmaking next tree some (start, begins, is) =
      next_begins Unstaging next tree some
      (back-end (map makes work.made.items) trees.staged trees.made (makes-backable work.made.items) staged-whole leads.makes tree
      (after_start (undone (map makes work.made.items)) start trees.made tree begins is))
  next-leads Unstaging next tree some (start, begins, is) =
      next_begins Erasing next tree some
      (back-end (map takes work.staged.items) trees.written trees.staged (renames-backable work.staged.items) leads.whole leads.stages
      tree (after_start (undone (map takes work.staged.items)) start trees.staged tree begins is))
  next-leads Erasing next tree some done = absurd (cc some)

  -- the last stage on each way ends the run
  pub end-leads : (stage : Stage) (tree : Tree) → next_stage stage ≡ None → IsStageDone work trees stage tree
      → EndsFrom work trees stage tree
  end-leads Writing tree none (start, begins, is) =
      LeadsTo-end (map removes_part work.texts.items) (λ tree. tree ≡ trees.before) start
      (parts-lead work.texts.items trees.before trees.written start leads.texts begins) tree is
  end-leads Staging tree none done = absurd (cc none)
  end-leads Making tree none done = absurd (cc none)
  end-leads Placing tree none done = absurd (cc none)
  end-leads Cleaning tree none (start, begins, is) =
      after_start (map cleans work.cleaned.items) start trees.placed tree begins is
  end-leads Unplacing tree none done = absurd (cc none)
  end-leads Unmaking tree none done = absurd (cc none)
  end-leads Unstaging tree none done = absurd (cc none)
  end-leads Erasing tree none (start, begins, is) =
      LeadsTo-end (map removes work.texts.items) (λ tree. tree ≡ trees.before) trees.written leads.texts tree
      (after_start (map removes work.texts.items) start trees.written tree begins is)

  back_is : (one next : Stage) (tree : Tree) → Some one ≡ Some next → IsAtStage work trees one tree → IsAtStage work trees next tree
  back_is one next tree some at = subst (λ (s : Stage). IsAtStage work trees s tree) (next_is one next some) at

  -- a run may turn back in the middle of a stage
  pub back-leads : (stage next : Stage) (tree : Tree) → stage_back stage ≡ Some next → IsAtStage work trees stage tree
      → IsAtStage work trees next tree
  back-leads Writing next tree some at = back_is Writing next tree some at
  back-leads Staging next tree some (start, begins, on) =
      back_is Unstaging next tree some (
        trees.staged,
        refl,
        on_stage-back (map takes work.staged.items) trees.written trees.staged (renames-backable work.staged.items) leads.whole
            leads.stages tree (on_start (map takes work.staged.items) start trees.written tree begins on),
      )
  back-leads Making next tree some (start, begins, on) =
      back_is Unmaking next tree some (
        trees.made,
        refl,
        on_stage-back (map makes work.made.items) trees.staged trees.made (makes-backable work.made.items) staged-whole
            leads.makes tree (on_start (map makes work.made.items) start trees.staged tree begins on),
      )
  back-leads Placing next tree some (start, begins, on) =
      back_is Unplacing next tree some (
        trees.placed,
        refl,
        on_stage-back (map takes work.placed.items) trees.made trees.placed (renames-backable work.placed.items) made-whole
            leads.places tree (on_start (map takes work.placed.items) start trees.made tree begins on),
      )
  back-leads Cleaning next tree some at = absurd (cc some)
  back-leads Unplacing next tree some at = back_is Unplacing next tree some at
  back-leads Unmaking next tree some at = back_is Unmaking next tree some at
  back-leads Unstaging next tree some at = back_is Unstaging next tree some at
  back-leads Erasing next tree some at = back_is Erasing next tree some at

  -- what is compared is as it was read and written
  pub begin-leads : (stage : Stage) (tree : Tree) → IsAtStage work trees stage tree → CanBegin work stage tree
  begin-leads Writing tree on = tt
  begin-leads Staging tree on = tt
  begin-leads Making tree on = tt
  begin-leads Placing tree on = leads.new_texts tree on
  begin-leads Cleaning tree on = tt
  begin-leads Unplacing tree on = tt
  begin-leads Unmaking tree on = tt
  begin-leads Unstaging tree on = tt
  begin-leads Erasing tree on = tt

  pub complete-leads : (stage : Stage) (tree : Tree) → IsStageDone work trees stage tree → CanEnd work stage tree
  complete-leads Writing tree done = tt
  complete-leads Staging tree (start, begins, is) =
      subst (HasOldTexts work)
      (sym (LeadsTo-end (map takes work.staged.items) (λ tree. tree ≡ trees.staged) trees.written leads.stages tree
      (after_start (map takes work.staged.items) start trees.written tree begins is)))
      leads.old_texts
  complete-leads Making tree done = tt
  complete-leads Placing tree done = tt
  complete-leads Cleaning tree done = tt
  complete-leads Unplacing tree done = tt
  complete-leads Unmaking tree done = tt
  complete-leads Unstaging tree done = tt
  complete-leads Erasing tree done = tt
