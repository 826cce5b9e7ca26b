-- The name passes the tests exactly if it is plain.
use Rattle.std.proofs.Common.{◌≡◌, false, sym, ◌∙◌, ap, not}
use Rattle.std.proofs.lemmas.Bool.{not-true, not_from_false}
use Rattle.relative_path_files.proofs.NamesLemmas.{IsPlainName-tests, tests-IsPlainName}
use Rattle.relative_path_files.proofs.names.is_plain_name.Goals as goal

pub returns : goal.returns
returns c = record {
  plain = (
    λ holds. IsPlainName-tests c.args.name.now (sym c.is_unportable.ensures ∙ not-true c.is_unportable.result holds),
    λ plain. not_from_false c.is_unportable.result (c.is_unportable.ensures ∙ tests-IsPlainName c.args.name.now plain),
  );
}
