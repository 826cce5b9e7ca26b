-- The text has a directory before its name, and what is found for the tops is found for it.
use Rattle.std.proofs.Common.{IsTrue, map, sym, ◌∙◌}
use Rattle.std.proofs.lemmas.Result.{IfOk-weaker}
use Rattle.relative_path.specs.RelativePath.{path_components, path_text}
use Rattle.relmove_mentions.specs.OldNames.{WithOthers}
use Rattle.relmove_mentions.specs.Written.{LeadsFrom, LeadsFromTop, has_directory}
use Rattle.relmove_mentions.proofs.OldNamesLemmas.{Finds-map, base_components-same}
use Rattle.relmove_mentions.proofs.old_names.OldNames.find_from_top.Goals as goal

pub returns : goal.returns
returns c =
    let text = path_text c.args.path in
    let some : IsTrue (has_directory text) = sym c.has_directory.ensures ∙ c.if-not-has_directory.false in
    let same = base_components-same c.args.searched.tops.now c.args.searched.file.tops.now c.args.searched.tops_same in
    IfOk-weaker c.find_from.result _ _
    (λ found finds olds has.
    Finds-map olds
    (WithOthers c.args.others
    (LeadsFrom olds (map path_components c.args.searched.file.tops.now) (path_components c.args.path)))
    (WithOthers c.args.others (LeadsFromTop olds c.args.searched.file text)) found
    (λ old is_old (few, leads). (few, (some, leads))) (λ old (few, leads). (few, leads.1)) (rw same at (finds olds has)))
    c.find_from.ensures
