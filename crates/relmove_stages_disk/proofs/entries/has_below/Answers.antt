use Rattle.std.proofs.Common.{subst, sym}
use Rattle.relative_path.specs.RelativePath.{path_text}
use Rattle.relmove_trees.specs.FileTrees.{names_of}
use Rattle.relmove_stages_disk.proofs.LookingLemmas.{below-found, below-next}
use Rattle.relmove_stages_disk.specs.Entries.{IsBelow}
use Rattle.relmove_stages_disk.proofs.entries.has_below.Goals as goal

pub returns-then-is_below-clause-below : goal.returns-then-is_below-clause-below
returns-then-is_below-clause-below c =
    λ is.
    below-found c.args.entries.now c.loop-entry.entry-index c.entry-item.result (path_text c.args.path) c.loop-entry-test.true
    c.entry-item.is c.loop-entry.invariant
    (subst (λ text. IsBelow (names_of text) (names_of (path_text c.args.path))) c.as_relative_path.ensures
    (c.is_below.ensures.below c.if-is_below.true))

pub loop-entry-preserved : goal.loop-entry-preserved
loop-entry-preserved c =
    below-next c.args.entries.now c.loop-entry.entry-index c.entry-item.result (path_text c.args.path) c.loop-entry-test.true
    c.entry-item.is c.loop-entry.invariant
    (λ below. c.is_below.ensures.none c.if-is_below.false
    (subst (λ text. IsBelow (names_of text) (names_of (path_text c.args.path))) (sym c.as_relative_path.ensures) below))
