-- What is at the new path gets another normal path.
use Rattle.std.proofs.Common.{inr, refl}
use Rattle.relative_path.specs.RelativePath.{path_components}
use Rattle.relmove_checks.specs.Trees.{entry_paths}
use Rattle.relmove_checks.proofs.TreesLemmas.{AtTreePath-elsewhere, AtTreePath-there, IsThere-found}
use Rattle.relmove_checks.proofs.refused.check_new.Goals as goal

pub returns-clause-fine : goal.returns-clause-fine
returns-clause-fine c =
    inr (AtTreePath-elsewhere c.args.table.now (path_components c.args.new.now) c.in_ok-after.after c.normal-place.result.now
    c.eq.result
    (c.in_ok-after.ensures (path_components c.args.new.now) (rw c.view.ensures.text c.normal-place.ensures))
    c.normal-place.ensures c.eq.ensures.leads c.if-eq.false)

pub returns-then-eq-clause-refused : goal.returns-then-eq-clause-refused
returns-then-eq-clause-refused c = λ old.
    let cs = path_components c.args.new.now in (
      refl,
      record {
        there =
            IsThere-found c.args.entries.now cs c.get.result c.if-is_none.ensures
            (c.get.ensures.found (entry_paths c.args.entries.now) cs c.requires c.normal-place.ensures.same);
        stays =
            AtTreePath-there c.args.table.now cs c.in_ok-after.after c.normal-place.result.now c.eq.result
            (c.in_ok-after.ensures cs (rw c.view.ensures.text c.normal-place.ensures)) c.normal-place.ensures
            c.eq.ensures.leads c.if-eq.true;
      },
    )
