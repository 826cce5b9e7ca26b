use Rattle.std.proofs.Common.{subst, sym, ◌+◌}
use Rattle.relative_path.specs.RelativePath.{path_text}
use Rattle.relmove_trees.specs.FileTrees.{names_of}
use Rattle.relmove_stages_disk.proofs.EntriesLemmas.{AreWithout, without-all, without-keep, without-skip}
use Rattle.relmove_stages_disk.proofs.LookingLemmas.{other_path, same_path}
use Rattle.relmove_stages_disk.proofs.PathsLemmas.{names_of-same, same-names_of}
use Rattle.relmove_stages_disk.proofs.entries.without.Goals as goal

pub loop-entry-preserved-then-eq : goal.loop-entry-preserved-then-eq
loop-entry-preserved-then-eq c =
    without-skip (names_of (path_text c.args.path)) c.args.entries.now c.loop-entry.copies.items c.loop-entry.entry-index
    c.entry-item.result c.loop-entry-test.true c.entry-item.is
    (names_of-same c.entry-item.result.path.text (path_text c.args.path)
    (same_path c.eq.result (path_text c.as_relative_path.result) c.entry-item.result.path.text (path_text c.args.path)
    c.as_relative_path.ensures c.eq.ensures.same c.if-eq.true)) c.loop-entry.invariant

pub loop-entry-preserved : goal.loop-entry-preserved
loop-entry-preserved c =
    subst
    (λ copies. AreWithout (names_of (path_text c.args.path)) c.args.entries.now (c.loop-entry.entry-index + 1) copies)
    (sym c.in_ok-push.ensures.items)
    (without-keep (names_of (path_text c.args.path)) c.args.entries.now c.loop-entry.copies.items c.loop-entry.entry-index
    c.entry-item.result c.in_ok-copy.field-0 c.loop-entry-test.true c.entry-item.is c.in_ok-copy.ensures
    (λ same. other_path c.eq.result (path_text c.as_relative_path.result) c.entry-item.result.path.text (path_text c.args.path)
    c.as_relative_path.ensures c.eq.ensures.same c.if-eq.false
    (same-names_of c.entry-item.result.path.text (path_text c.args.path) same)) c.loop-entry.invariant)

pub returns : goal.returns
returns c =
    without-all (names_of (path_text c.args.path)) c.args.entries.now c.loop-entry.copies.items c.loop-entry.entry-index
    c.loop-entry-test.false c.loop-entry.invariant
