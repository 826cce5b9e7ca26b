-- Each turn writes the next field into the array. At the end the array is full, or no text remains.
use Rattle.std.proofs.Common.{rules, take}
use Rattle.relpath_lib.specs.Lines.{fields_left}
use Rattle.relpath_lib.proofs.LinesLemmas.{fields-more, fields-some}
use Rattle.relpath_lib.proofs.lines.split_fields.Goals.{else-loop-count-test, then-loop-count-test+in-None-1}
use Rattle.relpath_lib.proofs.lines.split_fields.Goals as goal

pub loop-count-preserved : goal.loop-count-preserved
loop-count-preserved c =
    let room = c.loop-count.room in
    let count = c.loop-count.count in
    let left = fields_left c.loop-count.left in
    let before = c.loop-count.invariant in
    record {
      count = search rules;
      room = search rules;
      fields = fields-more _ room count c.first_field.result.0 left _ (search rules) before.fields
          (rw c.in-Some.is c.first_field.ensures);
    }

pub returns-clause-some : goal.returns-clause-some
returns-clause-some c =
    let moved = take c.loop-count.count c.loop-count.room in
    let left = c.loop-count.left in
    let before = c.loop-count.invariant in
    elim c.loop-count-test.branch [
      | else-loop-count-test w ↦ search rules
      | then-loop-count-test+in-None-1 w ↦ fields-some c.args.line.now moved left before.fields (search rules)
    ]
