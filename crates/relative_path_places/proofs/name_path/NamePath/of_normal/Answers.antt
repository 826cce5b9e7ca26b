-- Names lead to a place from the top.
use Rattle.std.proofs.Common.{refl, rules}
use Rattle.relative_path.specs.Normalizing.{AreNames}
use Rattle.relative_path.specs.RelativePath.{path_components}
use Rattle.relative_path_places.proofs.ViewsLemmas.{IsSome-names}
use Rattle.relative_path_places.proofs.name_path.NamePath.of_normal.Goals as goal

pub returns-in-Some-Normal-clause-some : goal.returns-in-Some-Normal-clause-some
returns-in-Some-Normal-clause-some c =
    let names : AreNames (path_components c.args.path) = search rules in
    (λ _. IsSome-names (path_components c.args.path) names, λ _. refl)
