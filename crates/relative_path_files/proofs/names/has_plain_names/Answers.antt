-- No component of the path is a name that isn't plain.
use Rattle.std.proofs.Common.{◌≡◌, false, sym, ◌∙◌}
use Rattle.std.proofs.lemmas.Bool.{not-true, not_from_false}
use Rattle.relative_path.specs.RelativePath.{path_components}
use Rattle.relative_path_files.proofs.NamesLemmas.{All-IsPlainName, none-IsPlainName}
use Rattle.relative_path_files.proofs.names.has_plain_names.Goals as goal

pub returns : goal.returns
returns c = record {
  plain = (
    λ holds. All-IsPlainName (path_components c.args.path)
        (sym c.has_unportable_name.ensures ∙ not-true c.has_unportable_name.result holds),
    λ plain. not_from_false c.has_unportable_name.result
        (c.has_unportable_name.ensures ∙ none-IsPlainName (path_components c.args.path) plain),
  );
}
