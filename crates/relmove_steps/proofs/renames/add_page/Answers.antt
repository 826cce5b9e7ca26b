-- The new text is written, the old text is removed, and the new text is carried.
use Rattle.std.proofs.Common.{◌≡◌, ◌++◌, ◌∷◌, [], take, Contains, refl, sym, ap, subst, string_bytes, ◌∙◌, arith}
use Rattle.relmove_steps.specs.Actions.{AreAmong, LosesNothing, OnlyTheseLeave, ActionTexts, of_text, RemovesAt, ReplacesPage, staged_names, rename_texts, with_carried, with_text}
use Rattle.relmove_steps.specs.NewFiles.{AreFilesDrawn, LeaveOnce, StaysThere}
use Rattle.relmove_steps.specs.StagingNames.{AreDrawn, IsDrawnIn}
use Rattle.relmove_steps.proofs.ActionsLemmas.{LosesNothing-with_carried, staged_names-push}
use Rattle.relmove_steps.proofs.CarryLemmas.{AreAmong-page, AreAmong-with_carried, AreAmong-with_text, RemovesAt-among, RemovesMoved-among, ReplacesPage-carried, with_text-same}
use Rattle.relmove_steps.proofs.NamesLemmas.{AreDrawn-later, AreDrawn-next}
use Rattle.relmove_steps.proofs.OnlyLemmas.{OnlyTheseLeave-with_carried, OnlyTheseLeave-with_text}
use Rattle.std.proofs.lemmas.List.Elements.{Contains-push}
use Rattle.relative_path.specs.Steps.{components}
use Rattle.relative_path.specs.Normalizing.{IsNormalTextOf}
use Rattle.relative_path_places.specs.Places.{directory}
use Rattle.relative_path_places.specs.PlaceIndex.{Indexes, IsNoneAt, path_at}
use Rattle.relmove_steps.proofs.NewFilesLemmas.{AreFilesDrawn-file, AreFilesDrawn-name, components-next_to}
use Rattle.relmove_steps.proofs.OnceLemmas.{IsNoneAt-take, LeaveOnce-with_file, StaysThere-page, file-leaves}
use Rattle.relmove_steps.proofs.renames.add_page.Goals as goal

pub add_old_text-requires : goal.add_old_text-requires
add_old_text-requires c = subst LosesNothing (sym c.in_ok-add_text.ensures) c.requires

pub returns-clause-kept : goal.returns-clause-kept
returns-clause-kept c =
    subst LosesNothing (sym c.in_ok-add_carried.ensures)
    (LosesNothing-with_carried (rename_texts c.add_old_text.new.renames) _ _ _ c.in_ok-add_old_text.ensures.kept)

pub returns-clause-among : goal.returns-clause-among
returns-clause-among c =
    let before = rename_texts c.args.renames.now in
    let actions = rename_texts c.add_old_text.new.renames in
    subst (AreAmong before) (sym c.in_ok-add_carried.ensures)
    (AreAmong-page before actions _ _ _ _ _ _
    (subst (λ some. AreAmong some actions) c.in_ok-add_text.ensures c.in_ok-add_old_text.ensures.among))

pub returns-clause-replaced : goal.returns-clause-replaced
returns-clause-replaced c =
    let before = rename_texts c.args.renames.now in
    let actions = rename_texts c.add_old_text.new.renames in
    let page = c.args.page in
    let new = c.args.new.now in
    let old = c.in_ok-old.old in
    let file = string_bytes c.in_ok-file.file in
    let name = c.deref-2.result.now in
    let page_is = c.as_str-normal.ensures ∙ c.as_relative_path.ensures.text in
    let to_is = c.in_ok-to.ensures.ok ∙ c.as_str.ensures ∙ c.as_relative_path-2.ensures.text in
    let text = c.args.text.now in
    let text_is : rename_texts c.add_text.new.renames ≡ with_text before old file text =
    c.in_ok-add_text.ensures ∙ with_text-same before _ old _ file _ text page_is c.deref.ensures refl in
    let carried : rename_texts c.add_carried.new.renames ≡ with_carried actions file name new.path =
    c.in_ok-add_carried.ensures ∙ ap (with_carried actions file name) to_is in
    subst (λ all. ReplacesPage all page new text) (sym carried)
    (ReplacesPage-carried before actions page new old file text name c.in_ok-old.ensures.normal
    (subst (λ some. AreAmong some actions) text_is c.in_ok-add_old_text.ensures.among))

pub returns-clause-removed : goal.returns-clause-removed
returns-clause-removed c = λ moves has each.
    let before = rename_texts c.args.renames.now in
    let written = rename_texts c.add_text.new.renames in
    let actions = rename_texts c.add_old_text.new.renames in
    let cs = components c.args.page.path.now in
    let more = subst (AreAmong before) (sym c.in_ok-add_text.ensures) (AreAmong-with_text before _ _ _) in
    subst (λ all. RemovesAt all cs) (sym c.in_ok-add_carried.ensures)
    (RemovesAt-among actions _ (AreAmong-with_carried actions _ _ _) cs
    (c.in_ok-add_old_text.ensures.removed moves cs has c.in_ok-old.ensures.normal
    (RemovesMoved-among before written more moves cs each)))

pub returns-clause-free : goal.returns-clause-free
returns-clause-free c = λ index drawn.
    let before = rename_texts c.args.renames.now in
    let actions = rename_texts c.add_old_text.new.renames in
    let late = c.in_ok-file.ensures.drawn.late in
    let last = c.in_ok-file.ensures.drawn.last in
    let written = AreDrawn-later index c.args.names.now c.in_directory.new.self
    (staged_names before) c.in_ok-file.ensures.drawn.entries (omega (arith, late, last)) drawn in
    let removed = c.in_ok-add_old_text.ensures.free index
    (subst (AreDrawn index c.in_directory.new.self) (sym (ap staged_names c.in_ok-add_text.ensures)) written) in
    let left = ap staged_names c.in_ok-add_carried.ensures
    ∙ staged_names-push actions (string_bytes c.in_ok-file.file) c.deref-2.result.now in
    rw (left, c.deref-2.ensures)
    (AreDrawn-next index c.add_old_text.new.names c.in_root.new.self
    (staged_names actions) _ c.in_ok-name.ensures.drawn removed)

pub returns-clause-only : goal.returns-clause-only
returns-clause-only c = λ moves paths k l here only.
    let before = rename_texts c.args.renames.now in
    let actions = rename_texts c.add_old_text.new.renames in
    let page = c.as_str-normal.result.now in
    let file = string_bytes c.in_ok-file.file in
    let text = c.args.text.now in
    let written_is : rename_texts c.add_text.new.renames ≡ with_text before page file text =
    c.in_ok-add_text.ensures ∙ with_text-same before _ page _ file _ text refl c.deref.ensures refl in
    let written = subst (OnlyTheseLeave moves paths) (sym written_is)
    (OnlyTheseLeave-with_text moves paths before page file text only) in
    let removed = c.in_ok-add_old_text.ensures.only moves paths k l (rw here c.in_ok-old.ensures.normal) written in
    let has : Contains actions.texts (page, file, text) =
    c.in_ok-add_old_text.ensures.among.texts (page, file, text)
    (subst (λ all. Contains all.texts (page, file, text)) (sym written_is) (Contains-push before.texts (page, file, text))) in
    subst (OnlyTheseLeave moves paths) (sym c.in_ok-add_carried.ensures)
    (OnlyTheseLeave-with_carried moves paths actions file c.deref-2.result.now (string_bytes c.in_ok-to.to)
    (of_text page text has) removed)

pub returns-clause-files : goal.returns-clause-files
returns-clause-files c = λ index paths k l here drawn files.
    let before = rename_texts c.args.renames.now in
    let actions = rename_texts c.add_old_text.new.renames in
    let old = c.in_ok-old.old in
    let file = string_bytes c.in_ok-file.file in
    let text = c.args.text.now in
    let names = c.in_directory.new.self in
    let page_is = c.as_str-normal.ensures ∙ c.as_relative_path.ensures.text in
    let written_is : rename_texts c.add_text.new.renames ≡ with_text before old file text =
    c.in_ok-add_text.ensures ∙ with_text-same before _ old _ file _ text page_is c.deref.ensures refl in
    let drawn_in : IsDrawnIn (directory (components old)) c.args.names.now names file =
    subst (λ cs. IsDrawnIn cs c.args.names.now names file) c.directory.ensures c.in_ok-file.ensures.drawn in
    let written = AreFilesDrawn-file index paths c.args.names.now names before old file text drawn_in
    c.in_ok-old.ensures.normal.normal_text (k, l, rw here c.in_ok-old.ensures.normal) drawn files in
    let removed = c.in_ok-add_old_text.ensures.files index paths
    (subst (AreFilesDrawn index paths names) (sym written_is) written) in
    let left = ap staged_names c.in_ok-add_carried.ensures ∙ staged_names-push actions file c.deref-2.result.now
    ∙ ap (λ name. staged_names actions ++ name ∷ []) c.deref-2.ensures in
    AreFilesDrawn-name index paths c.add_old_text.new.names c.in_root.new.self actions
    (rename_texts c.add_carried.new.renames) _ c.in_ok-name.ensures.drawn
    (ap (λ (all : ActionTexts). all.texts) c.in_ok-add_carried.ensures) left removed

pub returns-clause-once : goal.returns-clause-once
returns-clause-once c = λ index entries paths moves k has has_olds leave l here drawn files only once.
    let before = rename_texts c.args.renames.now in
    let written = rename_texts c.add_text.new.renames in
    let actions = rename_texts c.add_old_text.new.renames in
    let cs = components c.args.page.path.now in
    let old = c.in_ok-old.old in
    let file = string_bytes c.in_ok-file.file in
    let text = c.args.text.now in
    let names = c.in_directory.new.self in
    let page_is = c.as_str-normal.ensures ∙ c.as_relative_path.ensures.text in
    let written_is : written ≡ with_text before old file text =
    c.in_ok-add_text.ensures ∙ with_text-same before _ old _ file _ text page_is c.deref.ensures refl in
    let drawn_in : IsDrawnIn (directory (components old)) c.args.names.now names file =
    subst (λ cs. IsDrawnIn cs c.args.names.now names file) c.directory.ensures c.in_ok-file.ensures.drawn in
    let old_is : IsNormalTextOf (path_at paths k) old = rw here c.in_ok-old.ensures.normal in
    let own = files.own entries has in
    let no_page : IsNoneAt (take k paths) cs =
    subst (IsNoneAt (take k paths)) here (IsNoneAt-take paths k leave.distinct l) in
    let entry : ¬ IsNoneAt entries cs = subst (λ path. ¬ IsNoneAt entries path) here (leave.pages_there k l) in
    let removed = c.in_ok-add_old_text.ensures.once moves cs has_olds c.in_ok-old.ensures.normal
    (λ none. subst (StaysThere cs) (sym written_is)
    (StaysThere-page entries (take k paths) moves before cs none no_page entry own.unused only))
    (subst LeaveOnce (sym written_is) once) in
    let others = file-leaves entries file (drawn_in.unused entries (subst (Indexes entries) (sym drawn.entries) has)) paths
    moves before written actions k c.args.names.now.last drawn_in.number old (directory (components old)) l leave
    files.numbered drawn_in.late
    (components-next_to old file drawn_in.number c.in_ok-old.ensures.normal.normal_text drawn_in.file_of) only
    (ap (λ (all : ActionTexts). all.staged) written_is) old_is c.in_ok-add_old_text.ensures.leaves in
    subst LeaveOnce (sym c.in_ok-add_carried.ensures)
    (LeaveOnce-with_file actions file c.deref-2.result.now (string_bytes c.in_ok-to.to) others removed)
