-- What the calls that do an action return.
use Rattle.std.specs.Prelude.{◌≡◌, ℕ, Bool, IsTrue, List, Some, Result, Ok, Err, Vec}
use Rattle.std.specs.List.{slice_get}
use Rattle.std.specs.declared.alloc.AllocError.{AllocError}
use Rattle.std.specs.declared.alloc.Global.{Global}
use Rattle.relmove_journal.specs.declared.work.TextFile.{TextFile}
use Rattle.relmove_stages.specs.Runs.{CanWrite}
use Rattle.relmove_stages.specs.StageActions.{Does, IsDone, IsReady, IsText, MayDo, MayWrite, StageAction, place_of}
use Rattle.relmove_stages_disk.specs.Entries.{entries_tree}
use Rattle.relmove_stages_disk.specs.declared.entry.Entry.{Entry}
use Rattle.relmove_stages_disk.specs.declared.fault.Fault.{Fault}
use Rattle.relmove_stages_disk.specs.declared.fault.Fault.TheVariants.{Failed, OutOfMemory, Refused}
use Rattle.relmove_trees.specs.FileTrees.{CanTake, Tree}
use Rattle.relmove_trees.specs.TreeActions.{Acts, Write}

-- after what is done is done no more, what is ready is done, and only what is neither is refused
abbrev pub Answers : StageAction → Tree → Result (Vec Entry Global) Fault → Type 0
Answers action tree (Ok after) = Does action tree (entries_tree after.items)
Answers action tree (Err Failed) = ⊥
Answers action tree (Err OutOfMemory) = Unit {0}
Answers action tree (Err Refused) = (¬ IsReady action tree) × (¬ IsDone action tree)

-- After a call: what was ready is done, if the stage was asked for. Only what is neither ready nor done is refused, or what wasn't
-- asked for. A call that was to fail did nothing or all.
abbrev pub HasActed : {T : Type 0} → Bool → StageAction → Tree → Tree → Result T Fault → Type 0
HasActed asked action old new (Ok done) = IsTrue asked × Does action old new
HasActed asked action old new (Err Failed) = MayDo action old new
HasActed asked action old new (Err OutOfMemory) = new ≡ old
HasActed asked action old new (Err Refused) = (new ≡ old) × (IsTrue asked → (¬ IsReady action old) × (¬ IsDone action old))

-- after a write: the text is there, or a part of it, and only one that can't be written is refused
abbrev pub HasWritten : {T : Type 0} → List (List ℕ) → ℕ → TextFile → Tree → Tree → Result T Fault → Type 0
HasWritten texts number text old new (Ok done) =
    CanTake old (place_of text.path) × (bytes : List ℕ) × (slice_get texts number ≡ Some bytes) × IsText text.digest bytes
    × Acts (Write (place_of text.path) bytes) old new
HasWritten texts number text old new (Err Failed) = MayWrite (place_of text.path) text.digest old new
HasWritten texts number text old new (Err OutOfMemory) = MayWrite (place_of text.path) text.digest old new
HasWritten texts number text old new (Err Refused) = (new ≡ old) × (¬ CanWrite texts number text old)

-- the copies, or that there was no memory for them
abbrev pub IsGivenMemory : Result (Vec Entry Global) AllocError → Result (Vec Entry Global) Fault → Type 0
IsGivenMemory (Ok copies) result = result ≡ Ok copies
IsGivenMemory (Err error) result = result ≡ Err OutOfMemory
