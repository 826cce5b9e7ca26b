-- What is below the paths of such directories is below the entries.
use Rattle.std.proofs.Common.{refl}
use Rattle.relative_path.specs.RelativePath.{path_components}
use Rattle.relative_path.specs.Steps.{components}
use Rattle.relmove_checks.specs.Trees.{entry_paths}
use Rattle.relmove_checks.proofs.ForeignLemmas.{HoldsForeignName-paths, HoldsNoForeignName-paths}
use Rattle.relmove_checks.proofs.TreesLemmas.{IsThere-found}
use Rattle.relmove_checks.proofs.refused.check_old.Goals as goal

pub returns-then-has_path_below-clause-refused : goal.returns-then-has_path_below-clause-refused
returns-then-has_path_below-clause-refused c = λ entries new index are.
    let below = rw (c.if-has_path_below.true, c.as_relative_path.ensures.text) at c.has_path_below.ensures in (
      refl,
      record {
        there =
            IsThere-found entries (path_components c.args.old.now) c.get.result c.if-is_none.ensures
            (c.get.ensures.found (entry_paths entries) (path_components c.args.old.now) index c.normal-old.ensures.same);
        normal = c.normal-old.result.now;
        normal_of = c.normal-old.ensures;
        foreign = HoldsForeignName-paths entries c.args.foreign.now are (components c.normal-old.result.now) below;
      },
    )

pub returns-clause-fine : goal.returns-clause-fine
returns-clause-fine c = λ entries index are.
    let none = rw (c.if-has_path_below.false, c.as_relative_path.ensures.text) at c.has_path_below.ensures in
    record {
      there =
          IsThere-found entries (path_components c.args.old.now) c.get.result c.if-is_none.ensures
          (c.get.ensures.found (entry_paths entries) (path_components c.args.old.now) index c.normal-old.ensures.same);
      normal = c.normal-old.result.now;
      normal_of = c.normal-old.ensures;
      plain = HoldsNoForeignName-paths entries c.args.foreign.now are (components c.normal-old.result.now) none;
    }
