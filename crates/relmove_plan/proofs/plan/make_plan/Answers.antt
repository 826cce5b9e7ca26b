-- What is accepted, or refused, of moves that may leave.
use Rattle.std.proofs.Common.{All, map, string_bytes, subst}
use Rattle.std.specs.Option.{option_map_or}
use Rattle.std.proofs.lemmas.List.Elements.{All-map}
use Rattle.std.proofs.lemmas.Slice.Zip.{AllZip-long}
use Rattle.relative_path_links.specs.Site.{ForMovedPage, KeepsLinks}
use Rattle.relative_path_moves.specs.Moves.{moves_of}
use Rattle.relative_path_places.specs.PlaceIndex.{Indexes}
use Rattle.relmove_checks.proofs.ForCallers.{IfErr-error}
use Rattle.relmove_checks.specs.Trees.{entry_paths}
use Rattle.relmove_steps.specs.Directories.{AreAllLeftBehind, IsLeftBehindByMove, MakesMissing}
use Rattle.relmove_steps.specs.NewFiles.{LeaveFromEntries, LeaveOnce}
use Rattle.relmove_steps.specs.Pages.{changed_paths, page_paths}
use Rattle.relmove_steps.specs.Actions.{action_texts}
use Rattle.relmove_plan.specs.WholeTrees.{IsWhole}
use Rattle.relmove_plan.proofs.LeavingLemmas.{LeaveFromEntries-whole}
use Rattle.relmove_plan.proofs.PlannedLemmas.{IsPlanned, AreAfter-only, known}
use Rattle.relmove_plan.proofs.ActionPathsLemmas.{AreSpelled-run}
use Rattle.relmove_plan.proofs.MadePathsLemmas.{made_paths}
use Rattle.relmove_plan.proofs.RunsOnLemmas.{RunsOn-plan}
use Rattle.relative_path.specs.Steps.{components}
use Rattle.relmove_plan.proofs.plan.make_plan.Goals as goal

pub returns-in_err-after-clause-refused : goal.returns-in_err-after-clause-refused
returns-in_err-after-clause-refused g c =
    IfErr-error c.from_residual-in_err-after.result c.in_err-after.field-0.0 _ c.from_residual-in_err-after.ensures.1
    ((rw c.in_ok-table.ensures.table at c.in_err-after.ensures.refused) c.args.rule c.in_ok-table.ensures.fine)

pub actions_of-requires-clause-news_apart : goal.actions_of-requires-clause-news_apart
actions_of-requires-clause-news_apart g c =
    rw c.in_ok-table.ensures.table
    ((rw c.in_ok-table.ensures.table at c.in_ok-after.ensures.fine) c.args.rule c.in_ok-table.ensures.fine).apart.come.apart

pub symlink_notices-requires : goal.symlink_notices-requires
symlink_notices-requires g c = rw c.in_ok-table.ensures.table c.in_ok-table.ensures.fine.apart

pub returns-clause-links : goal.returns-clause-links
returns-clause-links g c = rw c.in_ok-table.ensures.table at c.in_ok-pages.ensures.links

pub returns-clause-accepted : goal.returns-clause-accepted
returns-clause-accepted g c =
    (rw c.in_ok-table.ensures.table at c.in_ok-after.ensures.fine) c.args.rule c.in_ok-table.ensures.fine

pub actions_of-requires-clause-long : goal.actions_of-requires-clause-long
actions_of-requires-clause-long g c =
    rw c.deref.ensures.value
    (AllZip-long (ForMovedPage (KeepsLinks (g.F.Finder.finds c.args.finder.now)) c.args.tree.root.now c.in_ok-table.table
    (option_map_or (λ table. table.now) c.args.links c.in_ok-table.table))
    c.args.tree.pages.now c.in_ok-pages.pages.items c.in_ok-pages.ensures.links)

pub returns-clause-rewritten : goal.returns-clause-rewritten
returns-clause-rewritten g c = rw c.in_ok-table.ensures.table at c.in_ok-pages.ensures.rewritten

pub returns-clause-names : goal.returns-clause-names
returns-clause-names g c = c.in_ok-actions.ensures.names (entry_paths c.args.tree.entries.now) c.in_ok-index.ensures

pub returns-clause-files : goal.returns-clause-files
returns-clause-files g c =
    rw c.deref.ensures.value at
    (c.in_ok-actions.ensures.files (entry_paths c.args.tree.entries.now) c.in_ok-index.ensures)

pub returns-clause-texts : goal.returns-clause-texts
returns-clause-texts g c = rw c.deref.ensures.value at c.in_ok-actions.ensures.texts

pub returns-clause-moved : goal.returns-clause-moved
returns-clause-moved g c = rw (c.deref.ensures.value, c.in_ok-table.ensures.table) at c.in_ok-actions.ensures.moved

pub returns-clause-replaced : goal.returns-clause-replaced
returns-clause-replaced g c = rw c.deref.ensures.value at c.in_ok-actions.ensures.replaced

pub returns-clause-symlinks : goal.returns-clause-symlinks
returns-clause-symlinks g c = rw c.in_ok-table.ensures.table at c.in_ok-symlinks.ensures

-- entries are where something leaves
from_entries : (g : _) (c : goal.After-drop-index-2 g) → IsWhole c.args.tree.entries.now (page_paths c.args.tree.pages.now)
    → LeaveFromEntries (entry_paths c.args.tree.entries.now) (moves_of c.args.moves.now)
    (changed_paths c.args.tree.pages.now c.in_ok-pages.pages.items)
from_entries g c whole =
    LeaveFromEntries-whole c.args.tree.entries.now c.args.tree.pages.now c.in_ok-pages.pages.items
    (moves_of c.args.moves.now) c.args.rule
    ((rw c.in_ok-table.ensures.table at c.in_ok-after.ensures.fine) c.args.rule c.in_ok-table.ensures.fine) whole

-- no path leaves twice
leave_once : (g : _) (c : goal.After-drop-index-2 g) → IsWhole c.args.tree.entries.now (page_paths c.args.tree.pages.now)
    → LeaveOnce (action_texts c.in_ok-actions.actions)
leave_once g c whole =
    c.in_ok-actions.ensures.once (entry_paths c.args.tree.entries.now) c.in_ok-index.ensures
    (rw (c.deref.ensures.value, c.in_ok-table.ensures.table) (from_entries g c whole))

-- what is known of the plan for a whole tree
planned : (g : _) (c : goal.After-drop-index-2 g) → IsWhole c.args.tree.entries.now (page_paths c.args.tree.pages.now)
    → IsPlanned c.args.tree.entries.now c.args.tree.pages.now c.in_ok-pages.pages.items (g.F.Finder.finds c.args.finder.now)
    c.args.tree.root.now (moves_of c.args.moves.now) c.args.rule c.in_ok-actions.actions
planned g c whole = record {
  whole = whole;
  accepted = (rw c.in_ok-table.ensures.table at c.in_ok-after.ensures.fine) c.args.rule c.in_ok-table.ensures.fine;
  links = (
    option_map_or (λ table. table.now) c.args.links (moves_of c.args.moves.now),
    rw c.in_ok-table.ensures.table at c.in_ok-pages.ensures.links,
  );
  staged = c.in_ok-actions.ensures.staged;
  placed = c.in_ok-actions.ensures.placed;
  once = leave_once g c whole;
  kept = c.in_ok-actions.ensures.kept;
  moved = rw (c.deref.ensures.value, c.in_ok-table.ensures.table) at c.in_ok-actions.ensures.moved;
  replaced = rw c.deref.ensures.value at c.in_ok-actions.ensures.replaced;
  only = rw (c.deref.ensures.value, c.in_ok-table.ensures.table) at c.in_ok-actions.ensures.only;
  names = c.in_ok-actions.ensures.names (entry_paths c.args.tree.entries.now) c.in_ok-index.ensures;
  files = rw c.deref.ensures.value at
      (c.in_ok-actions.ensures.files (entry_paths c.args.tree.entries.now) c.in_ok-index.ensures);
  removed = rw c.deref.ensures.value at c.in_ok-actions.ensures.removed;
  texts = rw c.deref.ensures.value at c.in_ok-actions.ensures.texts;
}

-- the missing directories are made
makes : (g : _) (c : goal.After-drop-index-2 g) (whole : IsWhole c.args.tree.entries.now (page_paths c.args.tree.pages.now))
    → MakesMissing (moves_of c.args.moves.now) (map components (planned g c whole).accepted.apart.after)
    (action_texts c.in_ok-actions.actions) (map string_bytes c.in_ok-actions.actions.made.items)
makes g c whole =
    let (after, are, has) = rw c.in_ok-table.ensures.table at c.in_ok-after.ensures.index in
    let accepted = (planned g c whole).accepted in
    (rw c.in_ok-table.ensures.table at c.in_ok-actions.ensures.made) (map components accepted.apart.after)
    (subst (λ after. Indexes (map components after) c.in_ok-after.after)
    (AreAfter-only (moves_of c.args.moves.now) c.args.tree.entries.now after accepted.apart.after
    accepted.apart.come.leave.apart are accepted.apart.are_after) has)

-- the directories that may be emptied were above old paths
left : (g : _) (c : goal.After-drop-index-2 g)
    → All (IsLeftBehindByMove (moves_of c.args.moves.now) (moves_of c.args.moves.now))
    (map string_bytes c.in_ok-actions.actions.emptied.items)
left g c =
    All-map (IsLeftBehindByMove (moves_of c.args.moves.now) (moves_of c.args.moves.now)) string_bytes
    c.in_ok-actions.actions.emptied.items (rw c.in_ok-table.ensures.table at c.in_ok-actions.ensures.left)

-- all directories that are left behind may be emptied, and no others
left_all : (g : _) (c : goal.After-drop-index-2 g)
    → AreAllLeftBehind (moves_of c.args.moves.now) (moves_of c.args.moves.now)
    (map string_bytes c.in_ok-actions.actions.emptied.items)
left_all g c = rw c.in_ok-table.ensures.table at c.in_ok-actions.ensures.all

pub returns-clause-run : goal.returns-clause-run
returns-clause-run g c = λ whole.
    RunsOn-plan (planned g c whole) (map string_bytes c.in_ok-actions.actions.made.items)
    (map string_bytes c.in_ok-actions.actions.emptied.items) (makes g c whole) c.in_ok-actions.ensures.emptied
    c.in_ok-actions.ensures.different (left g c) (left_all g c)

pub returns-clause-spelled : goal.returns-clause-spelled
returns-clause-spelled g c = λ whole.
    AreSpelled-run (known (planned g c whole)) (map components (planned g c whole).accepted.apart.after)
    (map string_bytes c.in_ok-actions.actions.made.items) (map string_bytes c.in_ok-actions.actions.emptied.items)
    (makes g c whole) (left g c)

pub returns-clause-made : goal.returns-clause-made
returns-clause-made g c = λ whole.
    made_paths (known (planned g c whole)) (map components (planned g c whole).accepted.apart.after)
    (map string_bytes c.in_ok-actions.actions.made.items) (makes g c whole)

pub returns-clause-only : goal.returns-clause-only
returns-clause-only g c = record {
  leave = rw (c.deref.ensures.value, c.in_ok-table.ensures.table) at c.in_ok-actions.ensures.only;
  kept = c.in_ok-actions.ensures.kept;
  left = left g c;
  all = left_all g c;
  different = c.in_ok-actions.ensures.different;
  order = c.in_ok-actions.ensures.emptied;
}
