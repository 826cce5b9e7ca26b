-- What a run looks up while it makes its work: new texts by their labels, pages by their staging names, and pages' texts.
use Rattle.std.specs.Prelude.{◌≡◌, ◌⊎◌, ℕ, false, true, List, Contains, MatchOption, Option, map, string_bytes}
use Rattle.std.specs.BTreeMap.{BTreeMap, get_by}
use Rattle.std.specs.Cmp.Lexicographic.{slice_cmp}
use Rattle.std.specs.Ordering.{nat_cmp}
use denote.Ref.{Bor}
use Rattle.relmove_journal.specs.declared.work.Leftover.{Leftover}
use Rattle.relmove_journal.specs.declared.work.Leftover.TheVariants.{Text}
use Rattle.relmove_journal.specs.declared.work.TextFile.{TextFile}
use Rattle.relmove_stages.specs.StageActions.{IsText}
use Rattle.relmove_work.specs.StagingPaths.{is_text_file, staging_path}

-- texts by texts
abbrev pub Texts : Type 0
Texts = BTreeMap (Bor (List ℕ)) (Bor (List ℕ))

-- the text that these have for another
abbrev pub text_at : Texts → List ℕ → Option (Bor (List ℕ))
text_at texts key = get_by (λ k. slice_cmp nat_cmp key k.now) texts

-- the pages' texts, as pairs
abbrev pub page_texts : Texts → List (List ℕ × List ℕ)
page_texts texts = map (λ entry. (entry.0.now, entry.1.now)) texts.entries

-- under the label of a new text is its file, and under no other text one
abbrev pub HasFiles : List (List ℕ × List ℕ) → Texts → Type 0
HasFiles staged files = (label : List ℕ) → MatchOption (text_at files label)
    ((file : List ℕ) → Contains staged (file, label) → is_text_file file ≡ false)
    (λ file. Contains staged (file.now, label) × (is_text_file file.now ≡ true))

-- under a new path is an old path of the same rename, and nothing under any other path
abbrev pub HasOldPaths : List (List ℕ × List ℕ) → Texts → Type 0
HasOldPaths renames olds = (path : List ℕ) → MatchOption (text_at olds path) ((old : List ℕ) → Contains renames (old, path) → ⊥)
    (λ old. Contains renames (old.now, path))

-- a page with this text gets this path
pub record IsOldTextAt (renames pages : List (List ℕ × List ℕ)) (path text : List ℕ) : Type 0 where
  pub page : List ℕ
  pub leaves : Contains renames (page, path)
  pub has : Contains pages (page, text)

-- an old text is left at the staging name for a label
pub record IsLeftText (renames pages : List (List ℕ × List ℕ)) (label : List ℕ) (leftover : Leftover) : Type 0 where
  pub file : TextFile
  pub is : leftover ≡ Text file
  pub path : string_bytes file.path ≡ staging_path label
  pub text : List ℕ
  pub old : IsOldTextAt renames pages (staging_path label) text
  pub digest : IsText file.digest text

-- nothing gets this path, or something that has no text
abbrev pub LacksTextAt : List (List ℕ × List ℕ) → List (List ℕ × List ℕ) → List ℕ → Type 0
LacksTextAt renames pages path = ((page : List ℕ) → Contains renames (page, path) → ⊥)
    ⊎ ((page : List ℕ) × Contains renames (page, path) × ((text : List ℕ) → Contains pages (page, text) → ⊥))

-- of these labels one has no text at its staging name
abbrev pub LacksLeftText : List (List ℕ × List ℕ) → List (List ℕ × List ℕ) → List (List ℕ) → Type 0
LacksLeftText renames pages labels =
    (label : List ℕ) × Contains labels label × LacksTextAt renames pages (staging_path label)
