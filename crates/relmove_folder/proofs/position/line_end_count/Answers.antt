-- One more block is counted.
use Rattle.std.proofs.Common.{arith, rules}
use Rattle.std.proofs.lemmas.List.Sums.{count_by-le-length}
use Rattle.relmove_folder.specs.Position.{is_line_end}
use Rattle.relmove_folder.proofs.PositionLemmas.{count_by-drop}
use Rattle.relmove_folder.proofs.position.line_end_count.Goals as goal

pub overflow_add-count : goal.overflow_add-count
overflow_add-count c = search (rules, count_by-le-length)

pub loop-start-preserved : goal.loop-start-preserved
loop-start-preserved c = record {
  within = search rules;
  counted = omega (
    arith,
    count_by-drop is_line_end c.args.text.now c.loop-start.start 16,
    c.loop-start.invariant.counted,
    c.line_end_count_in_block-count.ensures,
  );
}
