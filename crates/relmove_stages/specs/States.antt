-- What a crash may leave, and how calls go on.
use Rattle.std.specs.Prelude.{◌≡◌, ◌⊎◌, ◌≤◌, ℕ, List, Bool, false, Option, Some, None, IsTrue}
use Rattle.relmove_journal.specs.Journals.{journal_bytes}
use Rattle.relmove_journal.specs.declared.journal.Origin.{Origin}
use Rattle.relmove_journal.specs.declared.work.Stage.{Stage}
use Rattle.relmove_journal.specs.declared.work.Work.{Work}
use Rattle.relmove_stages.specs.Stages.{ComesTo}
use Rattle.relmove_trees.specs.FileTrees.{Tree}

-- what a journal says: how far the run is, and the whole text, but for where it was written
pub record Journal : Type 0 where
  pub stage : Stage
  pub text : List ℕ

-- where it was written is left out
abbrev pub nowhere : Origin
nowhere = record { root = 0; file = 0; run = 0; owner = 0; time = 0 }

-- the text of the journal of a run that does this work, at a stage
unfoldable pub journal_text : Work → Stage → List ℕ
journal_text work stage = journal_bytes nowhere stage work

-- and the journal
abbrev pub journal_of : Work → Stage → Journal
journal_of work stage = record { stage = stage; text = journal_text work stage }

-- What a restart finds: the journal, if there is one, and the tree. The run's own files aren't in the tree, and its own
-- directory counts as there.
pub record Disk : Type 0 where
  pub journal : Option Journal
  pub tree : Tree

-- what is known of the disk at a moment
pub record State : Type 1 where
  -- what a restart would find if nothing is lost
  pub disk : Disk
  -- what a crash at this moment may leave
  pub may_leave : Disk → Type 0
  -- the moment, as a number that doesn't fall
  pub moment : ℕ
  -- what a crash at some moment from that one on might have left, during a call or between two
  pub left_since : ℕ → Disk → Type 0
  -- how many calls have failed
  pub faults : ℕ
  -- the work and the stage for which it was last asked whether the stage can begin, if it can
  pub prepared : Option Journal
  -- the work and the stage for which it was asked since the last action whether the stage can end, if it can
  pub completed : Option Journal
  -- no answer was other than the tree's, and nobody else changed the tree
  pub is_clean : Bool

-- nothing: nobody knows what is on the disk, and it isn't clean
abbrev pub unknown : State
unknown = record {
  disk = record { journal = None; tree = λ _. None };
  may_leave = λ _. ⊥;
  moment = 0;
  left_since = λ _ _. ⊥;
  faults = 0;
  prepared = None;
  completed = None;
  is_clean = false;
}

-- The calls between two states leave only disks that have P, or what might have been left before. What might have been left
-- at an earlier moment stays so.
pub record Leaves (P : Disk → Type 0) (old new : State) : Type 0 where
  pub later : old.moment ≤ new.moment
  pub crash : (c : Disk) → new.may_leave c → old.may_leave c ⊎ P c
  pub any_moment : (t : ℕ) (c : Disk) → t ≤ old.moment → new.left_since t c → old.left_since t c ⊎ (old.may_leave c ⊎ P c)
  pub keeps : (t : ℕ) (c : Disk) → t ≤ old.moment → old.left_since t c → new.left_since t c
  pub no_less : old.faults ≤ new.faults
  pub clean : IsTrue new.is_clean → IsTrue old.is_clean

-- a crash during the call leaves what it might have left before, or the disk from before the call or after it
abbrev pub IsOneCall : State → State → Type 0
IsOneCall old new = Leaves (λ c. (c ≡ old.disk) ⊎ (c ≡ new.disk)) old new

-- if the journal's stage comes to this one, it is known that it can end
abbrev pub CanComeTo : State → Stage → Type 0
CanComeTo state next = (journal : Journal) → state.disk.journal ≡ Some journal → ComesTo journal.stage next
    → state.completed ≡ Some journal

-- if there is a journal, it is known that its stage can end
abbrev pub IsEndKnown : State → Type 0
IsEndKnown state = (journal : Journal) → state.disk.journal ≡ Some journal → state.completed ≡ Some journal
