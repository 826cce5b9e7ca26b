use Rattle.std.proofs.Common.{sym}
use Rattle.relative_path.specs.RelativePath.{path_text}
use Rattle.relmove_stages_disk.proofs.LookingLemmas.{differs-next, found, other_path, same_path}
use Rattle.relmove_stages_disk.proofs.entries.find_node.Goals as goal

pub returns-then-eq : goal.returns-then-eq
returns-then-eq c =
    sym (found c.args.entries.now c.loop-entry.entry-index c.entry-item.result (path_text c.args.path) c.loop-entry-test.true
    c.entry-item.is c.loop-entry.invariant
    (same_path c.eq.result (path_text c.as_relative_path.result) c.entry-item.result.path.text (path_text c.args.path)
    c.as_relative_path.ensures c.eq.ensures.same c.if-eq.true))

pub loop-entry-preserved : goal.loop-entry-preserved
loop-entry-preserved c =
    differs-next c.args.entries.now c.loop-entry.entry-index c.entry-item.result (path_text c.args.path) c.loop-entry-test.true
    c.entry-item.is c.loop-entry.invariant
    (other_path c.eq.result (path_text c.as_relative_path.result) c.entry-item.result.path.text (path_text c.args.path)
    c.as_relative_path.ensures c.eq.ensures.same c.if-eq.false)
