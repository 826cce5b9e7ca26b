-- What the renames do, the same renames in order do too.
use Rattle.std.proofs.Common.{Global, Vec, List, ℕ, map, string_bytes, refl}
use Rattle.std.proofs.lemmas.List.Elements.{All-weaker}
use Rattle.std.proofs.lemmas.List.Sorted.{IsPermutation-map}
use Rattle.relative_path_moves.specs.Moves.{move_at}
use Rattle.relmove_steps.specs.declared.renames.Renames.{Renames}
use Rattle.relmove_actions.specs.declared.actions.Rename.{Rename}
use Rattle.relmove_steps.specs.Actions.{ActionTexts, RemovesAt, staged_names, new_text, rename_text, rename_texts, to_name}
use Rattle.relmove_steps.specs.Pages.{changed_paths}
use Rattle.relmove_steps.proofs.ActionsLemmas.{LosesNothing-reordered}
use Rattle.relmove_steps.proofs.CarryLemmas.{AreAmong-reordered, DoesMove-among, RemovesAt-among, ReplacesPages-among}
use Rattle.relmove_steps.proofs.NamesLemmas.{AreFreeNames-IsPermutation}
use Rattle.relmove_steps.proofs.OnlyLemmas.{OnlyTheseLeave-reordered}
use Rattle.relmove_steps.proofs.NewFilesLemmas.{HaveOwnFiles-reordered}
use Rattle.relmove_steps.proofs.OnceLemmas.{LeaveOnce-IsPermutation}
use Rattle.relmove_steps.proofs.DirectoriesLemmas.{AreApart-moves_to_names, AreNamed-moves_to_names, LeaveToNames-among}
use Rattle.relmove_steps.proofs.actions.actions_of.Goals as goal

-- the renames in order
abbrev in_order : Renames → Vec Rename Global → Vec Rename Global → ActionTexts
in_order renames staged placed = record {
  texts = map new_text renames.texts.items;
  staged = map rename_text staged.items;
  placed = map rename_text placed.items;
  removed = map string_bytes renames.removed.items;
}

pub directories_made-requires-clause-named : goal.directories_made-requires-clause-named
directories_made-requires-clause-named c =
    let leave = rw (c.deref.ensures.value, c.moves-moves.ensures.moves) at c.in_ok-renames.ensures.named in
    let drawn = c.in_ok-staging.ensures.free c.args.now.index.now c.new-names.ensures in
    rw (c.deref-2.ensures.value, c.moves-moves.ensures.moves)
    (AreNamed-moves_to_names c.args.now.table.now (map string_bytes c.in_ok-staging.staging.items) _ leave.count
    c.moves-moves.ensures.named drawn.numbered)

pub directories_made-requires-clause-apart : goal.directories_made-requires-clause-apart
directories_made-requires-clause-apart c =
    let leave = rw (c.deref.ensures.value, c.moves-moves.ensures.moves) at c.in_ok-renames.ensures.named in
    rw (c.deref-2.ensures.value, c.moves-moves.ensures.moves)
    (AreApart-moves_to_names c.args.now.table.now (map string_bytes c.in_ok-staging.staging.items) leave.count
    c.requires.news_apart)

pub returns-clause-kept : goal.returns-clause-kept
returns-clause-kept c =
    let renames = c.in_ok-renames.renames in
    let actions = in_order renames c.in_ok-below_first.field-0 c.in_ok-above_first.field-0 in
    LosesNothing-reordered (rename_texts renames) actions c.in_ok-below_first.ensures.same
    c.in_ok-above_first.ensures.same refl c.in_ok-renames.ensures.kept

pub returns-clause-moved : goal.returns-clause-moved
returns-clause-moved c =
    let renames = c.in_ok-renames.renames in
    let actions = in_order renames c.in_ok-below_first.field-0 c.in_ok-above_first.field-0 in
    let among =
    AreAmong-reordered (rename_texts renames) actions c.in_ok-below_first.ensures.same c.in_ok-above_first.ensures.same
    refl refl in
    λ k l. DoesMove-among (rename_texts renames) actions among
    (changed_paths c.args.pages.now c.args.now.pages.now) (move_at c.args.now.table.now k)
    ((rw c.moves-moves.ensures.moves at c.in_ok-renames.ensures.moved) k l)

pub returns-clause-replaced : goal.returns-clause-replaced
returns-clause-replaced c =
    let renames = c.in_ok-renames.renames in
    let actions = in_order renames c.in_ok-below_first.field-0 c.in_ok-above_first.field-0 in
    let among =
    AreAmong-reordered (rename_texts renames) actions c.in_ok-below_first.ensures.same c.in_ok-above_first.ensures.same
    refl refl in
    ReplacesPages-among (rename_texts renames) actions among c.args.pages.now c.args.now.pages.now
    c.in_ok-renames.ensures.replaced

pub returns-clause-removed : goal.returns-clause-removed
returns-clause-removed c =
    let renames = c.in_ok-renames.renames in
    let actions = in_order renames c.in_ok-below_first.field-0 c.in_ok-above_first.field-0 in
    let among =
    AreAmong-reordered (rename_texts renames) actions c.in_ok-below_first.ensures.same c.in_ok-above_first.ensures.same
    refl refl in
    All-weaker (RemovesAt (rename_texts renames)) (RemovesAt actions) (RemovesAt-among (rename_texts renames) actions among)
    (changed_paths c.args.pages.now c.args.now.pages.now) c.in_ok-renames.ensures.removed

pub returns-clause-names : goal.returns-clause-names
returns-clause-names c = λ paths has.
    let index = c.args.now.index.now in
    let renames = c.in_ok-renames.renames in
    let staged = map rename_text c.in_ok-below_first.field-0.items in
    let staging = c.in_ok-staging.ensures.free index c.new-names.ensures in
    let drawn = c.in_ok-renames.ensures.free index (rw c.deref.ensures.value staging) in
    AreFreeNames-IsPermutation paths (staged_names (rename_texts renames)) (map (λ (step : List ℕ × List ℕ). step.1) staged)
    (IsPermutation-map (λ (step : List ℕ × List ℕ). step.1)
    (map to_name renames.leaving.items) staged c.in_ok-below_first.ensures.same)
    (drawn.fresh paths has)

pub returns-clause-left : goal.returns-clause-left
returns-clause-left c = rw c.moves-moves.ensures.moves at c.in_ok-directories_emptied.ensures.left

pub returns-clause-all : goal.returns-clause-all
returns-clause-all c = rw c.moves-moves.ensures.moves at c.in_ok-directories_emptied.ensures.all

pub returns-clause-only : goal.returns-clause-only
returns-clause-only c =
    let renames = c.in_ok-renames.renames in
    let actions : ActionTexts = record {
      texts = map new_text renames.texts.items;
      staged = map rename_text c.in_ok-below_first.field-0.items;
      placed = map rename_text c.in_ok-above_first.field-0.items;
      removed = map string_bytes renames.removed.items;
    } in
    OnlyTheseLeave-reordered c.args.now.table.now (changed_paths c.args.pages.now c.args.now.pages.now)
    (rename_texts renames) actions c.in_ok-below_first.ensures.same refl
    (rw c.moves-moves.ensures.moves at c.in_ok-renames.ensures.only)

pub returns-clause-files : goal.returns-clause-files
returns-clause-files c = λ paths has.
    let index = c.args.now.index.now in
    let renames = c.in_ok-renames.renames in
    let actions = in_order renames c.in_ok-below_first.field-0 c.in_ok-above_first.field-0 in
    let staging = c.in_ok-staging.ensures.free index c.new-names.ensures in
    let drawn = c.in_ok-renames.ensures.files index (rw c.deref.ensures.value staging) in
    HaveOwnFiles-reordered paths (changed_paths c.args.pages.now c.args.now.pages.now) (rename_texts renames) actions
    c.in_ok-below_first.ensures.same refl (drawn.own paths has)

pub returns-clause-once : goal.returns-clause-once
returns-clause-once c = λ paths has leave.
    let index = c.args.now.index.now in
    let renames = c.in_ok-renames.renames in
    let actions = in_order renames c.in_ok-below_first.field-0 c.in_ok-above_first.field-0 in
    let staging = c.in_ok-staging.ensures.free index c.new-names.ensures in
    LeaveOnce-IsPermutation (rename_texts renames) actions c.in_ok-below_first.ensures.same
    (c.in_ok-renames.ensures.once index paths has (rw c.moves-moves.ensures.moves leave) (rw c.deref.ensures.value staging))

pub returns-clause-made : goal.returns-clause-made
returns-clause-made c = λ paths has.
    let renames = c.in_ok-renames.renames in
    let actions = in_order renames c.in_ok-below_first.field-0 c.in_ok-above_first.field-0 in
    let names = map (string_bytes {Z = Global}) c.in_ok-staging.staging.items in
    let among =
    AreAmong-reordered (rename_texts renames) actions c.in_ok-below_first.ensures.same c.in_ok-above_first.ensures.same
    refl refl in
    record {
      staging = names;
      leave = LeaveToNames-among (rename_texts renames) actions among c.args.now.table.now names
          (rw (c.deref.ensures.value, c.moves-moves.ensures.moves) at c.in_ok-renames.ensures.named);
      are_made = rw (c.deref-2.ensures.value, c.moves-moves.ensures.moves) at (c.in_ok-directories_made.ensures paths has);
    }
