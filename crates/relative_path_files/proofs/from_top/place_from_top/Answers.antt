-- A path that doesn't climb has a place, which its normal text spells.
use Rattle.std.proofs.Common.{[], arith}
use Rattle.relative_path.specs.RelativePath.{path_components}
use Rattle.relative_path_files.proofs.FromTopLemmas.{SpellsPlace-normal}
use Rattle.relative_path_files.proofs.from_top.place_from_top.Goals as goal

pub returns-clause-some : goal.returns-clause-some
returns-clause-some c =
    SpellsPlace-normal (path_components c.args.path) c.normalize_into.new.out.text c.normalize_into.ensures.normal_form
    ((c.climb.ensures.place []).1 (let none = c.if-climb-gt0.false in omega (arith, none)))
