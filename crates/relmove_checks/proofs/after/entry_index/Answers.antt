-- Each turn inserts the next path.
use Rattle.relative_path.specs.Steps.{components}
use Rattle.relmove_checks.proofs.TreesLemmas.{Indexes-entries, length-take_entry_paths}
use Rattle.relmove_checks.proofs.after.entry_index.Goals as goal

pub loop-number-preserved : goal.loop-number-preserved
loop-number-preserved c =
    let entry = c.index-entries-number.result in
    Indexes-entries c.args.entries.now entry c.loop-number.number c.insert_normal.new.self c.loop-number-test.true
    c.index-entries-number.is
    (c.in_ok-insert_normal.ensures.indexes _ (components entry.path) c.loop-number.invariant
    (length-take_entry_paths c.args.entries.now c.loop-number.number c.loop-number-test.true)
    c.in_ok-path.ensures.normal)
