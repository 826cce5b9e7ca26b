-- The moves are done before the pages are added.
use Rattle.std.proofs.Common.{Global, [], ◌++◌, map, string_bytes, sym, ap, subst, ◌∙◌}
use Rattle.relative_path_moves.specs.Moves.{written_moves, move_at}
use Rattle.relmove_steps.specs.Actions.{rename_texts}
use Rattle.relmove_steps.specs.Pages.{changed_paths}
use Rattle.relmove_steps.specs.StagingNames.{AreDrawn}
use Rattle.relmove_steps.proofs.CarryLemmas.{DoesMove-among}
use Rattle.relmove_steps.proofs.NewFilesLemmas.{AreFilesDrawn-none}
use Rattle.relmove_steps.proofs.DirectoriesLemmas.{LeaveToNames-among}
use Rattle.relmove_steps.proofs.actions.renames_of.Goals as goal

pub returns-clause-moved : goal.returns-clause-moved
returns-clause-moved c =
    let paths = changed_paths c.args.pages.now c.args.now.pages.now in
    λ k l. DoesMove-among (rename_texts c.add_moves.new.renames) (rename_texts c.add_pages.new.renames)
    c.in_ok-add_pages.ensures.among paths (move_at (written_moves c.args.moves.now) k)
    (c.in_ok-add_moves.ensures.moved paths c.in_ok-rewritten.ensures k l)

pub returns-clause-removed : goal.returns-clause-removed
returns-clause-removed c =
    c.in_ok-add_pages.ensures.removed (written_moves c.args.moves.now) (rw c.requires.moves c.olds.ensures)
    (c.in_ok-add_moves.ensures.moved (changed_paths c.args.pages.now c.args.now.pages.now) c.in_ok-rewritten.ensures)

pub returns-clause-free : goal.returns-clause-free
returns-clause-free c = λ index drawn.
    let names = map (string_bytes {Z = Global}) c.args.staging.now in
    let left = c.in_ok-add_moves.ensures.left ∙ ap (λ before. before ++ names) c.new-renames.ensures.left in
    c.in_ok-add_pages.ensures.free index (subst (AreDrawn index c.args.names.now) (sym left) drawn)

pub returns-clause-only : goal.returns-clause-only
returns-clause-only c =
    let moves = written_moves c.args.moves.now in
    let paths = changed_paths c.args.pages.now c.args.now.pages.now in
    c.in_ok-add_pages.ensures.only moves (c.in_ok-add_moves.ensures.only paths (c.new-renames.ensures.only moves paths))

pub returns-clause-files : goal.returns-clause-files
returns-clause-files c = λ index drawn.
    let names = map (string_bytes {Z = Global}) c.args.staging.now in
    let left = c.in_ok-add_moves.ensures.left ∙ ap (λ before. before ++ names) c.new-renames.ensures.left in
    let paths = changed_paths c.args.pages.now c.args.now.pages.now in
    c.in_ok-add_pages.ensures.files index (subst (AreDrawn index c.args.names.now) (sym left) drawn)
    (AreFilesDrawn-none index paths c.args.names.now (rename_texts c.add_moves.new.renames)
    (c.in_ok-add_moves.ensures.texts ∙ c.new-renames.ensures.none.texts))

pub returns-clause-once : goal.returns-clause-once
returns-clause-once c = λ index entries has leave drawn.
    let names = map (string_bytes {Z = Global}) c.args.staging.now in
    let left = c.in_ok-add_moves.ensures.left ∙ ap (λ before. before ++ names) c.new-renames.ensures.left in
    let moves = written_moves c.args.moves.now in
    let paths = changed_paths c.args.pages.now c.args.now.pages.now in
    c.in_ok-add_pages.ensures.once index entries moves has (rw c.requires.moves c.olds.ensures) leave
    (subst (AreDrawn index c.args.names.now) (sym left) drawn)
    (AreFilesDrawn-none index paths c.args.names.now (rename_texts c.add_moves.new.renames)
    (c.in_ok-add_moves.ensures.texts ∙ c.new-renames.ensures.none.texts))
    (c.in_ok-add_moves.ensures.only [] (c.new-renames.ensures.only moves []))
    (c.in_ok-add_moves.ensures.once leave.apart c.new-renames.ensures.none)

pub returns-clause-named : goal.returns-clause-named
returns-clause-named c =
    LeaveToNames-among (rename_texts c.add_moves.new.renames) (rename_texts c.add_pages.new.renames)
    c.in_ok-add_pages.ensures.among (written_moves c.args.moves.now) (map (string_bytes {Z = Global}) c.args.staging.now)
    c.in_ok-add_moves.ensures.named
