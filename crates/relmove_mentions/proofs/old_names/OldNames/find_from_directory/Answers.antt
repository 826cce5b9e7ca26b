-- The text doesn't begin with a slash, and what is found for the directories is found for it.
use Rattle.std.proofs.Common.{IsTrue, ap, map, not, sym, ◌∙◌}
use Rattle.std.proofs.lemmas.Result.{IfOk-weaker}
use Rattle.relative_path.specs.RelativePath.{path_components, path_text}
use Rattle.relative_path.specs.Unix.{has_root}
use Rattle.relmove_mentions.specs.OldNames.{WithOthers}
use Rattle.relmove_mentions.specs.Written.{LeadsFrom, LeadsFromDirectory}
use Rattle.relmove_mentions.proofs.OldNamesLemmas.{Finds-map, base_components-same}
use Rattle.relmove_mentions.proofs.old_names.OldNames.find_from_directory.Goals as goal

pub returns : goal.returns
returns c =
    let text = path_text c.args.path in
    let below : IsTrue (not (has_root text)) = ap not (sym c.has_root.ensures ∙ c.if-has_root.false) in
    let same = base_components-same c.args.searched.directories.now c.args.searched.file.directories.now c.args.searched.directories_same in
    IfOk-weaker c.find_from.result _ _
    (λ found finds olds has.
    Finds-map olds
    (WithOthers c.args.others
    (LeadsFrom olds (map path_components c.args.searched.file.directories.now) (path_components c.args.path)))
    (WithOthers c.args.others (LeadsFromDirectory olds c.args.searched.file text)) found
    (λ old is_old (few, leads). (few, (below, leads))) (λ old (few, leads). (few, leads.1)) (rw same at (finds olds has)))
    c.find_from.ensures
