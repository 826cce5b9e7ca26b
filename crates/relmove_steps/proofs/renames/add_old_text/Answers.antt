-- The old text is removed, or a move leads from there already.
use Rattle.std.proofs.Common.{◌++◌, ◌∷◌, [], sym, ap, subst, string_bytes, ◌∙◌}
use Rattle.relative_path.specs.Normalizing.{IsNormalTextOf}
use Rattle.relative_path_places.specs.PlaceIndex.{path_at}
use Rattle.relmove_steps.specs.Actions.{LosesNothing, OnlyTheseLeave, ActionTexts, of_page, RemovesAt, staged_names, old_paths, rename_texts, with_removed}
use Rattle.relmove_steps.specs.NewFiles.{LeaveOnce, LeavesToo}
use Rattle.relmove_steps.proofs.ActionsLemmas.{LosesNothing-with_removed, staged_names-push}
use Rattle.relmove_steps.proofs.CarryLemmas.{RemovesAt-moved, RemovesAt-with_removed, found-none}
use Rattle.relmove_steps.proofs.NamesLemmas.{AreDrawn-next}
use Rattle.relmove_steps.proofs.OnlyLemmas.{OnlyTheseLeave-with_removed}
use Rattle.relmove_steps.proofs.NewFilesLemmas.{AreFilesDrawn-name}
use Rattle.relmove_steps.proofs.OnceLemmas.{LeaveOnce-with_removed, LeavesToo-same, LeavesToo-with_removed}
use Rattle.relmove_steps.proofs.renames.add_old_text.Goals as goal

pub returns-then-is_some-clause-removed : goal.returns-then-is_some-clause-removed
returns-then-is_some-clause-removed c = λ moves cs has is each.
    RemovesAt-moved (rename_texts c.args.renames.now) moves cs c.get.result
    (c.get.ensures.found (old_paths moves) cs has is.same) (cc) each

pub returns-clause-kept : goal.returns-clause-kept
returns-clause-kept c =
    subst LosesNothing (sym c.in_ok-add_removed.ensures)
    (LosesNothing-with_removed (rename_texts c.args.renames.now) _ _ c.requires)

pub returns-clause-removed : goal.returns-clause-removed
returns-clause-removed c = λ moves cs has is each.
    let from = string_bytes c.into_string-from.result in
    let from_is : IsNormalTextOf cs from =
    rw (c.into_string-from.ensures.text, c.into_relative_path_buf.ensures.text) is in
    subst (λ all. RemovesAt all cs) (sym c.in_ok-add_removed.ensures)
    (RemovesAt-with_removed (rename_texts c.args.renames.now) cs from c.deref.result.now from_is)

pub returns-clause-free : goal.returns-clause-free
returns-clause-free c = λ index drawn.
    let actions = rename_texts c.args.renames.now in
    let left = ap staged_names c.in_ok-add_removed.ensures
    ∙ staged_names-push actions (string_bytes c.into_string-from.result) c.deref.result.now in
    rw (left, c.deref.ensures)
    (AreDrawn-next index c.args.names.now c.in_root.new.self (staged_names actions) _ c.in_ok-name.ensures.drawn drawn)

pub returns-clause-only : goal.returns-clause-only
returns-clause-only c = λ moves paths k l is only.
    let from = string_bytes c.into_string-from.result in
    let from_is : IsNormalTextOf (path_at paths k) from =
    rw (c.into_string-from.ensures.text, c.into_relative_path_buf.ensures.text) is in
    subst (OnlyTheseLeave moves paths) (sym c.in_ok-add_removed.ensures)
    (OnlyTheseLeave-with_removed moves paths (rename_texts c.args.renames.now) from c.deref.result.now (of_page k l from_is)
    only)

pub returns-then-is_some-clause-leaves : goal.returns-then-is_some-clause-leaves
returns-then-is_some-clause-leaves c = LeavesToo-same c.args.page (rename_texts c.args.renames.now)

pub returns-clause-leaves : goal.returns-clause-leaves
returns-clause-leaves c =
    let actions = rename_texts c.args.renames.now in
    let from = string_bytes c.into_string-from.result in
    let from_is = c.into_string-from.ensures.text ∙ c.into_relative_path_buf.ensures.text in
    subst (λ all. LeavesToo c.args.page actions all) (sym c.in_ok-add_removed.ensures)
    (subst (λ page. LeavesToo page actions (with_removed actions from c.deref.result.now)) from_is
    (LeavesToo-with_removed from c.deref.result.now actions))

pub returns-clause-once : goal.returns-clause-once
returns-clause-once c = λ moves cs has is stays once.
    let actions = rename_texts c.args.renames.now in
    let from = string_bytes c.into_string-from.result in
    let from_is : IsNormalTextOf cs from =
    rw (c.into_string-from.ensures.text, c.into_relative_path_buf.ensures.text) is in
    let none = found-none (old_paths moves) cs c.get.result (cc) (c.get.ensures.found (old_paths moves) cs has is.same) in
    subst LeaveOnce (sym c.in_ok-add_removed.ensures)
    (LeaveOnce-with_removed actions cs from c.deref.result.now from_is (stays none) once)

pub returns-clause-files : goal.returns-clause-files
returns-clause-files c = λ index paths files.
    let actions = rename_texts c.args.renames.now in
    let name = c.deref.result.now in
    let left = ap staged_names c.in_ok-add_removed.ensures
    ∙ staged_names-push actions (string_bytes c.into_string-from.result) name
    ∙ ap (λ name. staged_names actions ++ name ∷ []) c.deref.ensures in
    AreFilesDrawn-name index paths c.args.names.now c.in_root.new.self actions (rename_texts c.add_removed.new.renames) _
    c.in_ok-name.ensures.drawn (ap (λ (all : ActionTexts). all.texts) c.in_ok-add_removed.ensures) left files
