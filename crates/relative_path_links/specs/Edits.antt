-- The edits of a page, and the page with them.
use Rattle.std.specs.Prelude.{◌≡◌, ◌⊎◌, ◌+◌, ◌-◌, ℕ, Bool, true, false, List, [], ◌∷◌, ◌++◌, length, map, drop, string_bytes}
use Rattle.std.specs.List.{between}
use Rattle.relative_path_links.specs.declared.edit.Change.{Change}
use Rattle.relative_path_links.specs.declared.edit.Change.TheVariants.{Kept, New, Left}
use Rattle.relative_path_links.specs.declared.edit.Edit.{Edit}
use Rattle.relative_path_links.specs.declared.edit.Unchanged.TheVariants.{WouldReadOtherwise}
use Rattle.relative_path_links.specs.declared.target.Target.{Target}
use Rattle.relative_path_links.specs.Targets.{target_text}

-- the targets of edits
abbrev pub targets_of : List Edit → List Target
targets_of edits = map (λ edit. edit.target) edits

-- the text that stands in place of a target
abbrev pub change_text : List ℕ → Target → Change → List ℕ
change_text page target Kept = target_text page target
change_text page target (New text) = string_bytes text
change_text page target (Left why) = target_text page target

-- the text of an edit
abbrev pub edit_text : List ℕ → Edit → List ℕ
edit_text page edit = change_text page edit.target edit.change

-- the page from byte `at` on, with the text of each edit in place of its target
abbrev pub with_edits : List ℕ → ℕ → List Edit → List ℕ
with_edits page at [] = drop at page
with_edits page at (edit ∷ edits) =
    between at edit.target.start page ++ edit_text page edit ++ with_edits page edit.target.end edits

-- a target where it stands in the page with the edits: byte `at` of the page is byte `now` there
abbrev pub target_after : List ℕ → ℕ → ℕ → Edit → Target
target_after page at now edit = record {
  syntax = edit.target.syntax;
  start = now + (edit.target.start - at);
  end = now + (edit.target.start - at) + length (edit_text page edit);
}

-- the targets of edits where they stand in the page with the edits: byte `at` of the page is byte `now` there
abbrev pub targets_after : List ℕ → ℕ → ℕ → List Edit → List Target
targets_after page at now [] = []
targets_after page at now (edit ∷ edits) =
    target_after page at now edit ∷ targets_after page edit.target.end (target_after page at now edit).end edits

-- a new text takes the place of the target
abbrev pub is_new : Change → Bool
is_new Kept = false
is_new (New text) = true
is_new (Left why) = false

-- the new text is given up, since the page would read otherwise with it
abbrev pub IsGivenUp : Change → Type 0
IsGivenUp change = change ≡ Left WouldReadOtherwise

-- the edit stays, or its new text is given up
abbrev pub IsSettled : Edit → Edit → Type 0
IsSettled before after =
    (after ≡ before)
    ⊎ (is_new before.change ≡ true)
    × (after ≡ record { target = before.target; change = Left WouldReadOtherwise; file = before.file })
