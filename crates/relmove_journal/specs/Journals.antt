-- The text of a journal: what it says, and how that is written.
use Rattle.std.specs.Prelude.{◌≡◌, ◌⊎◌, ℕ, ◌==◌, List, [], ◌∷◌, ◌++◌, chars, codes, encode_utf8, if◌then◌else◌, length, string_bytes}
use Rattle.std.specs.Fmt.{decimal}
use Rattle.std.specs.List.{flat_map}
use Rattle.hex.specs.Hex.{encode_lower}
use Rattle.sha2.specs.Sha256.{sha256}
use Rattle.relmove_actions.specs.declared.actions.Rename.{Rename}
use Rattle.relmove_journal.specs.declared.journal.Origin.{Origin}
use Rattle.relmove_journal.specs.declared.text_digest.TextDigest.{TextDigest}
use Rattle.relmove_journal.specs.declared.work.Leftover.{Leftover}
use Rattle.relmove_journal.specs.declared.work.Leftover.TheVariants.{Text, Directory}
use Rattle.relmove_journal.specs.declared.work.Stage.{Stage}
use Rattle.relmove_journal.specs.declared.work.Stage.TheVariants.{Writing, Staging, Making, Placing, Cleaning, Unplacing, Unmaking, Unstaging, Erasing}
use Rattle.relmove_journal.specs.declared.work.TextFile.{TextFile}
use Rattle.relmove_journal.specs.declared.work.Work.{Work}

-- ---- fields and lines

-- a character in a field: a backslash, a tab and a line feed are written as two characters
abbrev pub escaped_character : ℕ → List ℕ
escaped_character c =
    if c == 92 then codes "\\\\" else if c == 9 then codes "\\t" else if c == 10 then codes "\\n" else encode_utf8 c

-- a text in a field
abbrev pub escaped : List ℕ → List ℕ
escaped text = flat_map escaped_character (chars text)

-- a field of a line, with a tab before it
abbrev pub field_bytes : List ℕ → List ℕ
field_bytes text = 9 ∷ escaped text

-- a line: a word, and fields
abbrev pub line_bytes : List ℕ → List (List ℕ) → List ℕ
line_bytes word fields = word ++ flat_map field_bytes fields ++ 10 ∷ []

-- the fields of a digest: the length, and the SHA-256 in hexadecimal
abbrev pub digest_fields : TextDigest → List (List ℕ)
digest_fields digest = decimal digest.length ∷ encode_lower digest.sha256 ∷ []

-- ---- the lines of a journal

-- the name of a stage
abbrev pub stage_name : Stage → List ℕ
stage_name Writing = codes "writing"
stage_name Staging = codes "staging"
stage_name Making = codes "making"
stage_name Placing = codes "placing"
stage_name Cleaning = codes "cleaning"
stage_name Unplacing = codes "unplacing"
stage_name Unmaking = codes "unmaking"
stage_name Unstaging = codes "unstaging"
stage_name Erasing = codes "erasing"

-- a text in a file
abbrev pub text_line : List ℕ → TextFile → List ℕ
text_line word text = line_bytes word (string_bytes text.path ∷ digest_fields text.digest)

-- a rename
abbrev pub rename_line : List ℕ → Rename → List ℕ
rename_line word rename = line_bytes word (string_bytes rename.from ∷ string_bytes rename.to ∷ [])

-- a directory
abbrev pub directory_line : List ℕ → List ℕ → List ℕ
directory_line word path = line_bytes word (path ∷ [])

-- what is removed at the end
abbrev pub leftover_line : Leftover → List ℕ
leftover_line (Text file) = text_line (codes "removed") file
leftover_line (Directory path) = directory_line (codes "emptied") (string_bytes path)

-- the lines that say where the journal was written, and how far the run is
abbrev pub head_lines : Origin → Stage → List ℕ
head_lines origin stage = line_bytes (codes "root") (decimal origin.root ∷ [])
    ++ line_bytes (codes "file") (decimal origin.file ∷ []) ++ line_bytes (codes "run") (decimal origin.run ∷ [])
    ++ line_bytes (codes "owner") (decimal origin.owner ∷ []) ++ line_bytes (codes "time") (decimal origin.time ∷ [])
    ++ line_bytes (codes "stage") (stage_name stage ∷ [])

-- the lines that say what the run does
abbrev pub work_bytes : Work → List ℕ
work_bytes work = flat_map (text_line (codes "text")) work.texts.items
    ++ flat_map (rename_line (codes "staged")) work.staged.items
    ++ flat_map (λ path. directory_line (codes "made") (string_bytes path)) work.made.items
    ++ flat_map (rename_line (codes "placed")) work.placed.items
    ++ flat_map leftover_line work.cleaned.items

-- the last line: the digest of all lines before it
abbrev pub end_line : List ℕ → List ℕ
end_line lines = line_bytes (codes "end") (decimal (length lines) ∷ encode_lower (sha256 lines) ∷ [])

-- lines, and the last line after them
abbrev pub with_end : List ℕ → List ℕ
with_end lines = lines ++ end_line lines

-- the text of a journal: a line of its own kind, where it was written, how far the run is, what it does, and the last line
abbrev pub journal_bytes : Origin → Stage → Work → List ℕ
journal_bytes origin stage work = with_end (codes "relmove journal 3\n" ++ head_lines origin stage ++ work_bytes work)

-- the bytes begin with the first line of a journal, or they are the beginning of it
abbrev pub CanBegin : List ℕ → Type 0
CanBegin bytes = ((rest : List ℕ) × (bytes ≡ codes "relmove journal 3\n" ++ rest))
    ⊎ ((rest : List ℕ) × (codes "relmove journal 3\n" ≡ bytes ++ rest))
