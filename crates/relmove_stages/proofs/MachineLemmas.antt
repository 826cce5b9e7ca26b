-- The calls of a run, one after another.
use Rattle.std.proofs.Common.{◌≡◌, ◌⊎◌, inl, inr, ◌∙◌, ◌<◌, ◌≤◌, ℕ, Option, suc, Some, None, IsTrue, is_err, length, arith, refl, sym, subst, Result, Ok, Err, IfErr, OnErr, OnOk}
use Rattle.std.specs.List.{slice_get}
use Rattle.relmove_journal.specs.declared.work.Stage.{Stage}
use Rattle.relmove_journal.specs.declared.work.Work.{Work}
use Rattle.relmove_stages.specs.Runs.{BeginsAt, EndsFrom, Guards, IsAtStage, IsOnTheWayBack, IsOnTheWayFrom, IsStageDone, IsStageReached, IsTreeFrom, KeepsDone, Leads, Trees}
use Rattle.relmove_stages.specs.StageActions.{Does, IsDone, IsReady, MayDo, StageAction}
use Rattle.relmove_stages.specs.Stages.{ComesTo, next_stage, stage_actions, stage_back}
use Rattle.relmove_stages.specs.States.{Disk, IsOneCall, Journal, State, journal_of}
use Rattle.relmove_stages.proofs.ChainLemmas.{IsPast, on_stage-may, on_stage-none, past-may, past-next, reached-all, reached-next, ready_or_done}
use Rattle.relmove_stages.proofs.LeadsLemmas.{back-leads, end-leads, next-leads, stage-leads}
use Rattle.relmove_stages.proofs.OrderLemmas.{comes-here, comes-next, ends-from, no_return}
use Rattle.relmove_stages.proofs.StateLemmas.{guards-act, guards-call, guards-none, guards-put, guards-then, guards-to, way-at, way-later}
use Rattle.relmove_trees.specs.FileTrees.{Tree}

pub on_err : {A E : Type 0} (P : Type 0) (r : Result A E) → P → OnErr r P
on_err P (Ok x) p = tt
on_err P (Err e) p = p

pub on_ok-map : {A E : Type 0} (P Q : Type 0) (r : Result A E) → (P → Q) → OnOk r P → OnOk r Q
on_ok-map P Q (Ok x) to p = to p
on_ok-map P Q (Err e) to p = tt

pub on_err-map : {A E : Type 0} (P Q : Type 0) (r : Result A E) → (P → Q) → OnErr r P → OnErr r Q
on_err-map P Q (Ok x) to p = tt
on_err-map P Q (Err e) to p = to p

pub if_err-map : {A E : Type 0} (P Q : E → Type 0) (r : Result A E) → ((e : E) → P e → Q e) → IfErr r P → IfErr r Q
if_err-map P Q (Ok x) to p = tt
if_err-map P Q (Err e) to p = to e p

-- what holds of an error holds of what is one
pub of_err : {A E : Type 0} (P : Type 0) (r : Result A E) → IsTrue (is_err r) → OnErr r P → P
of_err P (Ok x) is p = absurd (cc is)
of_err P (Err e) is p = p

-- after a journal was put in the place of another there is one
pub put-there : (old new : Option Journal) (journal next : Journal) → old ≡ Some journal → (new ≡ old) ⊎ (new ≡ Some next)
    → new ≡ None → ⊥
put-there old new journal next at (inl same) none = cc (sym none ∙ same ∙ at)
put-there old new journal next at (inr put) none = cc (sym none ∙ put)

-- the first i actions of the stage are done, and the first k, and maybe more
abbrev pub IsStagePast : Work → Trees → Stage → ℕ → ℕ → Tree → Type 0
IsStagePast work trees stage k i tree =
    (start : Tree) × BeginsAt work trees stage start × IsPast (stage_actions work stage) start k i tree

module _ (work : Work) (trees : Trees) (stage : Stage) where
  pub reached-first : (tree : Tree) → IsAtStage work trees stage tree → IsStageReached work trees stage 0 tree
  reached-first tree (start, begins, on) =
      (start, begins, record { done = on.done; from = omega arith; within = on.within; is = on.is })

  pub reached-last : (i : ℕ) (tree : Tree) → length (stage_actions work stage) ≤ i → IsStageReached work trees stage i tree
      → IsStageDone work trees stage tree
  reached-last i tree all (start, begins, reached) =
      (start, begins, reached-all (stage_actions work stage) start i tree all reached)

  -- what is done before the first action is looked at
  pub past-first : (k : ℕ) (tree : Tree) → IsStageReached work trees stage k tree → IsStagePast work trees stage k 0 tree
  past-first k tree (start, begins, reached) = (
    start,
    begins,
    record { done = reached.done; least = reached.from; from = omega arith; within = reached.within; is = reached.is },
  )

  -- where the stage begins none of its actions is done
  pub at-begin : (tree : Tree) → BeginsAt work trees stage tree → IsAtStage work trees stage tree
  at-begin tree begins = (tree, begins, on_stage-none (stage_actions work stage) tree tree refl)

-- what is known after the calls that came before
module _ (work : Work) (trees : Trees) (leads : Leads work trees) (first stage : Stage) (comes : ComesTo first stage) where
  -- an action
  pub act-guards : (i : ℕ) (action : StageAction) (old mid new : State) → slice_get (stage_actions work stage) i ≡ Some action
      → Guards (IsOnTheWayFrom work trees first) old mid → mid.disk.journal ≡ Some (journal_of work stage)
      → IsStageReached work trees stage i mid.disk.tree → IsOneCall mid new → new.disk.journal ≡ mid.disk.journal
      → MayDo action mid.disk.tree new.disk.tree → Guards (IsOnTheWayFrom work trees first) old new
  act-guards i action old mid new at guards journal (start, begins, reached) call same may =
      guards-act work trees first stage old mid new comes guards call journal same (
        start,
        begins,
        on_stage-may (stage_actions work stage) start (stage-leads work trees leads stage start begins) i action at
            mid.disk.tree new.disk.tree reached may,
      )

  pub act-reached : (i : ℕ) (action : StageAction) (mid new : State) → slice_get (stage_actions work stage) i ≡ Some action
      → IsStageReached work trees stage i mid.disk.tree → Does action mid.disk.tree new.disk.tree
      → IsStageReached work trees stage (suc i) new.disk.tree
  act-reached i action mid new at (start, begins, reached) does = (
    start,
    begins,
    reached-next (stage_actions work stage) start (stage-leads work trees leads stage start begins) i action at
        mid.disk.tree new.disk.tree reached does,
  )

  pub act-past : (k i : ℕ) (action : StageAction) (mid new : State) → slice_get (stage_actions work stage) i ≡ Some action
      → IsStagePast work trees stage k i mid.disk.tree → Does action mid.disk.tree new.disk.tree
      → IsStagePast work trees stage k (suc i) new.disk.tree
  act-past k i action mid new at (start, begins, past) does = (
    start,
    begins,
    past-next (stage_actions work stage) start (stage-leads work trees leads stage start begins) i action at
        k mid.disk.tree new.disk.tree past does,
  )

  pub act-keeps : (i : ℕ) (action : StageAction) (old mid new : State) → slice_get (stage_actions work stage) i ≡ Some action
      → Guards (KeepsDone work trees stage old.disk.tree) old mid
      → ((k : ℕ) → IsStageReached work trees stage k old.disk.tree → IsStagePast work trees stage k i mid.disk.tree)
      → IsOneCall mid new → MayDo action mid.disk.tree new.disk.tree
      → Guards (KeepsDone work trees stage old.disk.tree) old new
  act-keeps i action old mid new at guards past call may =
      guards-call (KeepsDone work trees stage old.disk.tree) old mid new guards call (λ journal k before. by k (past k before))
    where
      by : (k : ℕ) → IsStagePast work trees stage k i mid.disk.tree → IsStageReached work trees stage k new.disk.tree
      by k (start, begins, past) = (
        start,
        begins,
        past-may (stage_actions work stage) start (stage-leads work trees leads stage start begins) i action at
            k mid.disk.tree new.disk.tree past may,
      )

  pub act-cause : (i : ℕ) (action : StageAction) (old mid new : State) → slice_get (stage_actions work stage) i ≡ Some action
      → Guards (IsOnTheWayFrom work trees first) old mid → IsStageReached work trees stage i mid.disk.tree
      → (IsReady action mid.disk.tree ⊎ IsDone action mid.disk.tree → mid.faults < new.faults) → old.faults < new.faults
  act-cause i action old mid new at guards (start, begins, reached) cause =
      let less = guards.leaves.no_less in
      let failed =
      cause (ready_or_done (stage_actions work stage) start (stage-leads work trees leads stage start begins) i action at
      mid.disk.tree reached) in
      omega (arith, less, failed)

  -- the journal of the next stage
  pub next-guards : (next : Stage) (old mid new : State) → next_stage stage ≡ Some next
      → Guards (IsOnTheWayFrom work trees first) old mid → IsStageDone work trees stage mid.disk.tree → IsOneCall mid new
      → new.disk.tree ≡ mid.disk.tree → (new.disk.journal ≡ mid.disk.journal) ⊎ (new.disk.journal ≡ Some (journal_of work next))
      → Guards (IsOnTheWayFrom work trees first) old new
  next-guards next old mid new is_next guards done call same outcome =
      guards-put work trees first (Some (journal_of work next)) old mid new guards call same outcome (
        refl,
        comes-next first stage next comes is_next,
        at-begin work trees next mid.disk.tree (next-leads work trees leads stage next mid.disk.tree is_next done),
      )

  pub next-at : (next : Stage) (mid new : State) → next_stage stage ≡ Some next → IsStageDone work trees stage mid.disk.tree
      → new.disk.tree ≡ mid.disk.tree → IsAtStage work trees next new.disk.tree
  next-at next mid new is_next done same =
      subst (IsAtStage work trees next) (sym same)
      (at-begin work trees next mid.disk.tree (next-leads work trees leads stage next mid.disk.tree is_next done))

  -- the next stage, after its journal
  pub stage-guards : (next : Stage) (old mid entered new : State) → next_stage stage ≡ Some next
      → Guards (IsOnTheWayFrom work trees first) old mid → IsStageDone work trees stage mid.disk.tree → IsOneCall mid entered
      → entered.disk.tree ≡ mid.disk.tree → (entered.disk.journal ≡ mid.disk.journal) ⊎ (entered.disk.journal ≡ Some (journal_of work next))
      → Guards (IsOnTheWayFrom work trees next) entered new → Guards (IsOnTheWayFrom work trees first) old new
  stage-guards next old mid entered new is_next guards done call same outcome two =
      guards-then (IsOnTheWayFrom work trees first) (IsOnTheWayFrom work trees next) old entered new
      (way-later work trees first next (comes-next first stage next comes is_next))
      (next-guards next old mid entered is_next guards done call same outcome) two

  -- the end
  pub end-guards : (old mid new : State) → next_stage stage ≡ None → Guards (IsOnTheWayFrom work trees first) old mid
      → IsStageDone work trees stage mid.disk.tree → IsOneCall mid new → new.disk.tree ≡ mid.disk.tree
      → (new.disk.journal ≡ mid.disk.journal) ⊎ (new.disk.journal ≡ None) → Guards (IsOnTheWayFrom work trees first) old new
  end-guards old mid new last guards done call same outcome =
      guards-put work trees first None old mid new guards call same outcome
      (ends-from work trees first stage mid.disk.tree comes (end-leads work trees leads stage mid.disk.tree last done))

  pub end-ends : (mid new : State) → next_stage stage ≡ None → IsStageDone work trees stage mid.disk.tree
      → new.disk.tree ≡ mid.disk.tree → EndsFrom work trees first new.disk.tree
  end-ends mid new last done same =
      ends-from work trees first stage new.disk.tree comes
      (subst (EndsFrom work trees stage) (sym same) (end-leads work trees leads stage mid.disk.tree last done))

  -- and after a loss of power
  pub end-lasts : (mid new : State) (disk : Disk) → next_stage stage ≡ None → IsStageDone work trees stage mid.disk.tree
      → new.disk.tree ≡ mid.disk.tree → (disk ≡ mid.disk) ⊎ (disk ≡ new.disk) → EndsFrom work trees first disk.tree
  end-lasts mid new disk last done same (inl is) =
      subst (λ (d : Disk). EndsFrom work trees first d.tree) (sym is) (end-ends mid mid last done refl)
  end-lasts mid new disk last done same (inr is) =
      subst (λ (d : Disk). EndsFrom work trees first d.tree) (sym is) (end-ends mid new last done same)

-- ---- what stays done

module _ (work : Work) (trees : Trees) (stage : Stage) where
  -- without a call
  pub keeps-none : (state : State) → Guards (KeepsDone work trees stage state.disk.tree) state state
  keeps-none state = guards-none (KeepsDone work trees stage state.disk.tree) state (λ journal k before. before)

  -- a call that leaves the tree, and the journal or puts one that isn't of the stage
  pub keeps-put : (before : Tree) (journal : Option Journal) (old mid new : State)
      → Guards (KeepsDone work trees stage before) old mid → IsOneCall mid new → new.disk.tree ≡ mid.disk.tree
      → (new.disk.journal ≡ mid.disk.journal) ⊎ (new.disk.journal ≡ journal) → ¬ (journal ≡ Some (journal_of work stage))
      → Guards (KeepsDone work trees stage before) old new
  keeps-put before journal old mid new guards call same outcome other =
      guards-call (KeepsDone work trees stage before) old mid new guards call (λ is k was.
      subst (IsStageReached work trees stage k) (sym same) (by outcome is k was))
    where
      by : (new.disk.journal ≡ mid.disk.journal) ⊎ (new.disk.journal ≡ journal) → new.disk.journal ≡ Some (journal_of work stage) → (k : ℕ)
          → IsStageReached work trees stage k before → IsStageReached work trees stage k mid.disk.tree
      by (inl stays) is k was = guards.way (sym stays ∙ is) k was
      by (inr put) is k was = absurd (other (sym put ∙ is))

  -- a call that leaves the disk
  pub keeps-same : (before : Tree) (old mid new : State) → Guards (KeepsDone work trees stage before) old mid → IsOneCall mid new
      → new.disk ≡ mid.disk → Guards (KeepsDone work trees stage before) old new
  keeps-same before old mid new guards call same =
      guards-call (KeepsDone work trees stage before) old mid new guards call
      (subst (KeepsDone work trees stage before) (sym same) guards.way)

  -- calls after one that leaves the tree
  pub keeps-after : (old mid new : State) → IsOneCall old mid → mid.disk.tree ≡ old.disk.tree
      → Guards (KeepsDone work trees stage mid.disk.tree) mid new → Guards (KeepsDone work trees stage old.disk.tree) old new
  keeps-after old mid new call same two =
      guards-then (KeepsDone work trees stage old.disk.tree) (KeepsDone work trees stage mid.disk.tree) old mid new
      (λ disk keeps. subst (λ (t : Tree). KeepsDone work trees stage t disk) same keeps)
      (guards-call (KeepsDone work trees stage old.disk.tree) old old mid (keeps-none old) call
      (λ is k was. subst (IsStageReached work trees stage k) (sym same) was)) two

  -- a run that is at a later stage
  pub keeps-later : (before : Tree) (at next : Stage) (old mid new : State) → ComesTo stage at → next_stage at ≡ Some next
      → Guards (KeepsDone work trees stage before) old mid → Guards (IsOnTheWayFrom work trees next) mid new
      → Guards (KeepsDone work trees stage before) old new
  keeps-later before at next old mid new comes some one two =
      guards-then (KeepsDone work trees stage before) (IsOnTheWayFrom work trees next) old mid new (λ disk way is.
      absurd (no_return stage at next comes some
      (subst (λ (j : Option Journal). IsTreeFrom work trees next j disk.tree) is way).1)) one two

-- ---- the way back

-- a disk is known by its journal and its tree
disk_is : (one other : Disk) → one.journal ≡ other.journal → one.tree ≡ other.tree → one ≡ other
disk_is one other journal tree = λ i. record { journal = journal i; tree = tree i }

module _ (work : Work) (trees : Trees) (leads : Leads work trees) (stage next : Stage)
    (is_back : stage_back stage ≡ Some next) where
  pub back-at : (old new : State) → IsAtStage work trees stage old.disk.tree → new.disk.tree ≡ old.disk.tree
      → IsAtStage work trees next new.disk.tree
  back-at old new at same =
      subst (IsAtStage work trees next) (sym same) (back-leads work trees leads stage next old.disk.tree is_back at)

  -- what is on the way from where the run turns back is on the way back
  back-way : (before disk : Disk) → IsOnTheWayFrom work trees next disk → IsOnTheWayBack work trees stage before disk
  back-way before disk way = inr (next, is_back, way)

  -- the journal of the way back
  pub back-guards : (old new : State) → IsAtStage work trees stage old.disk.tree → IsOneCall old new
      → new.disk.tree ≡ old.disk.tree → (new.disk.journal ≡ old.disk.journal) ⊎ (new.disk.journal ≡ Some (journal_of work next))
      → Guards (IsOnTheWayBack work trees stage old.disk) old new
  back-guards old new at call same outcome =
      guards-call (IsOnTheWayBack work trees stage old.disk) old old new
      (guards-none (IsOnTheWayBack work trees stage old.disk) old (inl refl)) call (by outcome)
    where
      by : (new.disk.journal ≡ old.disk.journal) ⊎ (new.disk.journal ≡ Some (journal_of work next))
          → IsOnTheWayBack work trees stage old.disk new.disk
      by (inl stays) = inl (disk_is new.disk old.disk stays same)
      by (inr put) =
          back-way old.disk new.disk (way-at work trees next new.disk (Some (journal_of work next)) put
          (refl, comes-here next, back-at old new at same))

  -- the run that turns back without a journal of its own
  pub back-on : (old new : State) → Guards (IsOnTheWayFrom work trees next) old new
      → Guards (IsOnTheWayBack work trees stage old.disk) old new
  back-on old new guards =
      guards-to (IsOnTheWayBack work trees stage old.disk) (IsOnTheWayFrom work trees next) old new (back-way old.disk) guards

  -- and the one with it
  pub back-then : (old mid new : State) → IsAtStage work trees stage old.disk.tree → IsOneCall old mid
      → mid.disk.tree ≡ old.disk.tree → (mid.disk.journal ≡ old.disk.journal) ⊎ (mid.disk.journal ≡ Some (journal_of work next))
      → Guards (IsOnTheWayFrom work trees next) mid new → Guards (IsOnTheWayBack work trees stage old.disk) old new
  back-then old mid new at call same outcome two =
      guards-then (IsOnTheWayBack work trees stage old.disk) (IsOnTheWayFrom work trees next) old mid new (back-way old.disk)
      (back-guards old mid at call same outcome) two
