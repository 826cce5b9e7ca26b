-- What a disk in memory has, and what a crash may leave of it.
use Rattle.std.specs.Prelude.{◌≡◌, ◌⊎◌, ◌+◌, ◌-◌, ◌^◌, ◌≤◌, IsTrue, refl, ℕ, List, [], ◌∷◌, ◌++◌, Vec, drop, if◌then◌else◌, length, map, nat_lt}
use Rattle.std.specs.declared.alloc.Global.{Global}
use mathlib.Core.Logic.{inl, inr}
use Rattle.relmove_journal.specs.declared.work.TextFile.{TextFile}
use Rattle.relmove_stages.specs.StageActions.{MayWrite, place_of}
use Rattle.relmove_stages.specs.States.{Disk, State}
use Rattle.relmove_stages_disk.specs.Entries.{entries_tree}
use Rattle.relmove_stages_disk.specs.Journals.{said}
use Rattle.relmove_stages_disk.specs.declared.disk.MemoryDisk.{MemoryDisk}
use Rattle.relmove_stages_disk.specs.declared.fault.Fault.{Fault}
use Rattle.relmove_stages_disk.specs.declared.fault.Fault.TheVariants.{Failed, OutOfMemory, Refused}
use Rattle.relmove_stages_disk.specs.declared.moment.Moment.{Moment}

-- the journal and the tree at a moment
abbrev pub disk_of : Moment → Disk
disk_of moment = record { journal = said moment.journal; tree = entries_tree moment.entries.items }

-- one of the moments had this
abbrev pub Had : List Moment → Disk → Type 0
Had [] disk = ⊥
Had (moment ∷ moments) disk = (disk ≡ disk_of moment) ⊎ Had moments disk

-- it has this now, or had it at one of the moments after the first ones
abbrev pub HadSince : MemoryDisk → ℕ → Disk → Type 0
HadSince memory first disk = (disk ≡ disk_of memory.now) ⊎ Had (drop first memory.past.items) disk

-- What is known of the disk. A crash leaves what it has, or had at a moment that isn't yet lost. Its failures are counted up to
-- 2 ^ 64 - 1. From then on nothing is known.
abbrev pub state_of : MemoryDisk → State
state_of memory = record {
  disk = disk_of memory.now;
  may_leave = HadSince memory memory.durable;
  moment = length memory.past.items;
  left_since = HadSince memory;
  faults = memory.faults;
  prepared = said memory.prepared;
  completed = said memory.completed;
  is_clean = nat_lt memory.faults (2 ^ 64 - 1);
}

-- one more, up to 2 ^ 64 - 1
abbrev pub count_up : ℕ → ℕ
count_up faults = if nat_lt faults (2 ^ 64 - 1) then faults + 1 else faults

-- a failure counts, and a refusal doesn't
abbrev pub faults_after : Fault → ℕ → ℕ
faults_after Failed faults = count_up faults
faults_after OutOfMemory faults = count_up faults
faults_after Refused faults = faults

-- nothing changed, or the disk as it was is the last of the past
abbrev pub GoesOn : Moment → List Moment → Moment → List Moment → Type 0
GoesOn now past next past_next = ((next ≡ now) × (past_next ≡ past)) ⊎ (past_next ≡ past ++ now ∷ [])

-- nothing changed, or a part of the text came first, or the whole of it came after the part
abbrev pub WritesOn : TextFile → Moment → List Moment → Moment → List Moment → Type 0
WritesOn text now past next past_next = (mid : Moment) × (between : List Moment) × GoesOn now past mid between
    × GoesOn mid between next past_next × (said mid.journal ≡ said now.journal)
    × MayWrite (place_of text.path) text.digest (disk_of now).tree (disk_of mid).tree

-- the bytes of texts
abbrev pub bytes_of : List (Vec ℕ Global) → List (List ℕ)
bytes_of texts = map (λ text. text.items) texts

-- the new texts that the disk writes
abbrev pub texts_of : MemoryDisk → List (List ℕ)
texts_of memory = bytes_of memory.texts.items

pub none_after : (moments : List Moment) (disk : Disk) → Had (drop (length moments) moments) disk → ⊥
none_after [] disk had = had
none_after (moment ∷ moments) disk had = none_after moments disk had

-- after all of the past there is what is there now
pub only_now : (memory : MemoryDisk) (disk : Disk) → HadSince memory (length memory.past.items) disk
    → HadSince memory memory.durable disk
only_now memory disk (inl now) = inl now
only_now memory disk (inr had) = absurd (none_after memory.past.items disk had)

-- a crash may leave what is there now
pub leaves_now : (memory : MemoryDisk) → IsTrue (state_of memory).is_clean → HadSince memory memory.durable (disk_of memory.now)
leaves_now memory clean = inl refl

-- and so it may since any moment
pub counts_now : (memory : MemoryDisk) (t : ℕ) → IsTrue (state_of memory).is_clean → t ≤ (state_of memory).moment
    → HadSince memory t (disk_of memory.now)
counts_now memory t clean before = inl refl
