-- A page that is read again with its edits.
use Rattle.std.specs.Prelude.{◌≡◌, ◌≢◌, ◌⊎◌, ℕ, List, Option, MatchOption, String, string_bytes}
use Rattle.std.specs.declared.alloc.Global.{Global}
use Rattle.relative_path_links.specs.declared.target.Target.{Target}
use Rattle.relative_path_links.specs.declared.edit.Edit.{Edit}
use Rattle.relative_path_links.specs.Edits.{with_edits, targets_after}

-- in the page with the edits the finder finds exactly the targets that the edits say
abbrev pub ReadsAsSaid : (List ℕ → List Target → Type 0) → List ℕ → List Edit → Type 0
ReadsAsSaid finds page edits = finds (with_edits page 0 edits) (targets_after page 0 0 edits)

-- the page changes to the text, which reads as the edits say; without one the edits leave the page as it is
abbrev pub HasText : (List ℕ → List Target → Type 0) → List ℕ → List Edit → Option (String Global) → Type 0
HasText finds page edits text = MatchOption text (with_edits page 0 edits ≡ page)
    (λ text. (string_bytes text ≡ with_edits page 0 edits) × (string_bytes text ≢ page) × ReadsAsSaid finds page edits)

-- the finder finds something else in the page with the edits
abbrev pub ReadsOtherwise : (List ℕ → List Target → Type 0) → List ℕ → List Edit → Type 0
ReadsOtherwise finds page edits =
    (found : List Target) × finds (with_edits page 0 edits) found × (found ≢ targets_after page 0 0 edits)

-- no new target is given up, or the page reads otherwise with all of them
abbrev pub HasCause : (List ℕ → List Target → Type 0) → List ℕ → List Edit → List Edit → Type 0
HasCause finds page edits settled = (settled ≡ edits) ⊎ ReadsOtherwise finds page edits
