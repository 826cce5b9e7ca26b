-- What the text of a journal is read as: what each line says, and what they all say.
use Rattle.std.specs.Prelude.{◌≡◌, ℕ, ◌<◌, ◌^◌, ⊤, List, [], ◌∷◌, ◌++◌, All, MatchResult, Result, codes, length, map, string_bytes}
use Rattle.std.specs.Fmt.{decimal}
use Rattle.std.specs.List.{flat_map}
use Rattle.std.specs.Str.{IsUtf8}
use Rattle.hex.specs.Hex.{IsBytes}
use Rattle.relmove_actions.specs.declared.actions.Rename.{Rename}
use Rattle.relmove_journal.specs.declared.error.JournalError.{JournalError}
use Rattle.relmove_journal.specs.declared.error.JournalError.TheVariants.{OutOfMemory}
use Rattle.relmove_journal.specs.declared.journal.Journal.{Journal}
use Rattle.relmove_journal.specs.declared.journal.Origin.{Origin}
use Rattle.relmove_journal.specs.declared.text_digest.TextDigest.{TextDigest}
use Rattle.relmove_journal.specs.declared.work.Leftover.{Leftover}
use Rattle.relmove_journal.specs.declared.work.Leftover.TheVariants.{Text, Directory}
use Rattle.relmove_journal.specs.declared.work.Stage.{Stage}
use Rattle.relmove_journal.specs.declared.work.TextFile.{TextFile}
use Rattle.relmove_journal.specs.declared.work.Work.{Work}
use Rattle.relmove_journal.specs.Journals.{digest_fields, escaped, field_bytes, journal_bytes, stage_name}
use Rattle.relmove_journal.specs.Shape.{IsOfRun}

-- ---- what a call returns

-- if there is memory for it, the call succeeds, and this is true of its value
abbrev pub GivenMemory : {T : Type 0} → Result T JournalError → (T → Type 0) → Type 0
GivenMemory result P = MatchResult result P (λ error. error ≡ OutOfMemory)

-- ---- what is written of work

-- of a text in a file: its path and its digest
abbrev pub text_parts : TextFile → List ℕ × TextDigest
text_parts text = (string_bytes text.path, text.digest)

-- of a rename: its paths
abbrev pub rename_parts : Rename → List ℕ × List ℕ
rename_parts rename = (string_bytes rename.from, string_bytes rename.to)

-- of what is removed: a text in a file, or the path of a directory
pub data LeftoverParts : Type 0 where
  Removed : List ℕ × TextDigest → LeftoverParts
  Emptied : List ℕ → LeftoverParts

abbrev pub leftover_parts : Leftover → LeftoverParts
leftover_parts (Text file) = Removed (text_parts file)
leftover_parts (Directory path) = Emptied (string_bytes path)

-- of work: what is written of each thing in its lists
pub record WorkParts : Type 0 where
  pub texts : List (List ℕ × TextDigest)
  pub staged : List (List ℕ × List ℕ)
  pub made : List (List ℕ)
  pub placed : List (List ℕ × List ℕ)
  pub cleaned : List LeftoverParts

-- work with nothing to do
abbrev pub no_work : WorkParts
no_work = record { texts = []; staged = []; made = []; placed = []; cleaned = [] }

abbrev pub parts_of : Work → WorkParts
parts_of work = record {
  texts = map text_parts work.texts.items;
  staged = map rename_parts work.staged.items;
  made = map string_bytes work.made.items;
  placed = map rename_parts work.placed.items;
  cleaned = map leftover_parts work.cleaned.items;
}

-- of a journal
pub record Content : Type 0 where
  pub origin : Origin
  pub stage : Stage
  pub work : WorkParts

abbrev pub content_of : Journal → Content
content_of journal = record { origin = journal.origin; stage = journal.stage; work = parts_of journal.work }

-- the journal says this: its origin, its stage, and all that is written of its work
pub record Says (journal : Journal) (origin : Origin) (stage : Stage) (work : Work) : Type 0 where
  pub same_origin : journal.origin ≡ origin
  pub same_stage : journal.stage ≡ stage
  pub same_work : parts_of journal.work ≡ parts_of work

-- ---- values that the types of Rust can have

-- a length of 64 bits, and 32 bytes
pub record IsDigest (digest : TextDigest) : Type 0 where
  pub small : digest.length < 2 ^ 64
  pub long : length digest.sha256 ≡ 32
  pub bytes : IsBytes digest.sha256

-- what is written of a text in a file
abbrev pub IsTextParts : List ℕ × TextDigest → Type 0
IsTextParts text = IsUtf8 text.0 × IsDigest text.1

-- of a rename
abbrev pub IsRenameParts : List ℕ × List ℕ → Type 0
IsRenameParts rename = IsUtf8 rename.0 × IsUtf8 rename.1

-- the digest of what is removed
abbrev pub HasDigest : Leftover → Type 0
HasDigest (Text file) = IsDigest file.digest
HasDigest (Directory path) = ⊤

-- the numbers and the digests of an origin and of work fit their types
pub record FitsTypes (origin : Origin) (work : Work) : Type 0 where
  pub root : origin.root < 2 ^ 64
  pub file : origin.file < 2 ^ 64
  pub run : origin.run < 2 ^ 64
  pub owner : origin.owner < 2 ^ 64
  pub time : origin.time < 2 ^ 64
  pub texts : All (λ text. IsDigest text.digest) work.texts.items
  pub cleaned : All HasDigest work.cleaned.items

-- the text is what is written of a run: of an origin, a stage, and work that a run can have
pub record IsTextOfRun (text : List ℕ) (origin : Origin) (stage : Stage) (work : Work) : Type 0 where
  pub written : text ≡ journal_bytes origin stage work
  pub of_run : IsOfRun work
  pub fits : FitsTypes origin work

-- ---- lines

-- a line on what a run does
pub data WorkLine : Type 0 where
  NewText : List ℕ × TextDigest → WorkLine
  Staged : List ℕ × List ℕ → WorkLine
  Made : List ℕ → WorkLine
  Placed : List ℕ × List ℕ → WorkLine
  Cleaned : LeftoverParts → WorkLine

-- what an origin has a number of
pub data OriginNumber : Type 0 where
  Root : OriginNumber
  File : OriginNumber
  Run : OriginNumber
  Owner : OriginNumber
  Time : OriginNumber

-- a line: where the journal was written, how far the run is, what it does, or the last line with its two fields
pub data Line : Type 0 where
  OfOrigin : OriginNumber → ℕ → Line
  AtStage : Stage → Line
  OfWork : WorkLine → Line
  End : List ℕ → List ℕ → Line

-- the word at its beginning
abbrev pub work_word : WorkLine → List ℕ
work_word (NewText text) = codes "text"
work_word (Staged rename) = codes "staged"
work_word (Made path) = codes "made"
work_word (Placed rename) = codes "placed"
work_word (Cleaned (Removed text)) = codes "removed"
work_word (Cleaned (Emptied path)) = codes "emptied"

abbrev pub origin_word : OriginNumber → List ℕ
origin_word Root = codes "root"
origin_word File = codes "file"
origin_word Run = codes "run"
origin_word Owner = codes "owner"
origin_word Time = codes "time"

abbrev pub line_word : Line → List ℕ
line_word (OfOrigin which number) = origin_word which
line_word (AtStage stage) = codes "stage"
line_word (OfWork line) = work_word line
line_word (End size sha256) = codes "end"

-- its fields
abbrev pub text_fields : List ℕ × TextDigest → List (List ℕ)
text_fields text = text.0 ∷ digest_fields text.1

abbrev pub rename_fields : List ℕ × List ℕ → List (List ℕ)
rename_fields rename = rename.0 ∷ rename.1 ∷ []

abbrev pub work_fields : WorkLine → List (List ℕ)
work_fields (NewText text) = text_fields text
work_fields (Staged rename) = rename_fields rename
work_fields (Made path) = path ∷ []
work_fields (Placed rename) = rename_fields rename
work_fields (Cleaned (Removed text)) = text_fields text
work_fields (Cleaned (Emptied path)) = path ∷ []

abbrev pub line_fields : Line → List (List ℕ)
line_fields (OfOrigin which number) = decimal number ∷ []
line_fields (AtStage stage) = stage_name stage ∷ []
line_fields (OfWork line) = work_fields line
line_fields (End size sha256) = size ∷ sha256 ∷ []

-- fields with a tab between them
abbrev pub fields_text : List (List ℕ) → List ℕ
fields_text [] = []
fields_text (field ∷ fields) = escaped field ++ flat_map field_bytes fields

-- the line without its line feed
abbrev pub line_text : Line → List ℕ
line_text line = line_word line ++ 9 ∷ fields_text (line_fields line)

-- its values are of their types
abbrev pub IsWorkLine : WorkLine → Type 0
IsWorkLine (NewText text) = IsTextParts text
IsWorkLine (Staged rename) = IsRenameParts rename
IsWorkLine (Made path) = IsUtf8 path
IsWorkLine (Placed rename) = IsRenameParts rename
IsWorkLine (Cleaned (Removed text)) = IsTextParts text
IsWorkLine (Cleaned (Emptied path)) = IsUtf8 path

abbrev pub IsLine : Line → Type 0
IsLine (OfOrigin which number) = number < 2 ^ 64
IsLine (AtStage stage) = ⊤
IsLine (OfWork line) = IsWorkLine line
IsLine (End size sha256) = ⊤

-- what a line adds to work
abbrev pub with_work_line : WorkParts → WorkLine → WorkParts
with_work_line work (NewText text) = record {
  texts = work.texts ++ text ∷ [];
  staged = work.staged;
  made = work.made;
  placed = work.placed;
  cleaned = work.cleaned;
}
with_work_line work (Staged rename) = record {
  texts = work.texts;
  staged = work.staged ++ rename ∷ [];
  made = work.made;
  placed = work.placed;
  cleaned = work.cleaned;
}
with_work_line work (Made path) = record {
  texts = work.texts;
  staged = work.staged;
  made = work.made ++ path ∷ [];
  placed = work.placed;
  cleaned = work.cleaned;
}
with_work_line work (Placed rename) = record {
  texts = work.texts;
  staged = work.staged;
  made = work.made;
  placed = work.placed ++ rename ∷ [];
  cleaned = work.cleaned;
}
with_work_line work (Cleaned leftover) = record {
  texts = work.texts;
  staged = work.staged;
  made = work.made;
  placed = work.placed;
  cleaned = work.cleaned ++ leftover ∷ [];
}

-- the origin with another number
abbrev pub with_number : Origin → OriginNumber → ℕ → Origin
with_number origin Root number = record { root = number; file = origin.file; run = origin.run; owner = origin.owner; time = origin.time }
with_number origin File number = record { root = origin.root; file = number; run = origin.run; owner = origin.owner; time = origin.time }
with_number origin Run number = record { root = origin.root; file = origin.file; run = number; owner = origin.owner; time = origin.time }
with_number origin Owner number = record { root = origin.root; file = origin.file; run = origin.run; owner = number; time = origin.time }
with_number origin Time number = record { root = origin.root; file = origin.file; run = origin.run; owner = origin.owner; time = number }

-- what it adds to a journal
abbrev pub with_line : Content → Line → Content
with_line content (OfOrigin which number) =
    record { origin = with_number content.origin which number; stage = content.stage; work = content.work }
with_line content (AtStage stage) = record { origin = content.origin; stage = stage; work = content.work }
with_line content (OfWork line) =
    record { origin = content.origin; stage = content.stage; work = with_work_line content.work line }
with_line content (End size sha256) = content
