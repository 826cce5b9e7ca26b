use Rattle.std.proofs.Common.{◌≡◌, ◌+◌, ◌-◌, length, slice_index, ap, arith}
use Rattle.std.proofs.lemmas.List.{drop_all}
use Rattle.relative_path.specs.Counting.{begun, starts_from}
use Rattle.relative_path.specs.Steps.{is_slash}
use Rattle.relative_path.proofs.counting.starts_by_blocks.Goals as goal

pub returns-clause-count : goal.returns-clause-count
returns-clause-count c =
    let bytes = c.args.bytes.now in
    let last = length bytes - 16 in
    let there : last + (c.loop-at.at - last) ≡ c.loop-at.at = omega (arith, c.loop-at-test.false) in
    let rest = ap (starts_from bytes) there in
    let none = ap (begun (is_slash (slice_index bytes (last + 16 - 1)))) (drop_all (last + 16) bytes (omega arith)) in
    omega (arith, c.starts_in_block.ensures.count, rest, none, c.loop-at.invariant.count)
