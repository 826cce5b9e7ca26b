use Rattle.std.proofs.Common.{ap, arith, length, ◌+◌, ◌*◌}
use Rattle.relative_path.specs.Relating.{IsWayText}
use Rattle.relative_path.specs.RelativePath.{path_text}
use Rattle.relative_path.specs.Steps.{components}
use Rattle.relative_path_c.proofs.LengthLemmas.{length_way_le}
use Rattle.relative_path_c.proofs.MemoryLemmas.{suffices}
use Rattle.relative_path_c.proofs.texts.relative_path_relative.Goals as goal

-- src/texts.rt:192:1
pub returns-clause-suffices : goal.returns-clause-suffices
returns-clause-suffices c fits full =
    let text = path_text c.in-Some-Some.text in
    let to = path_text c.in-Some-Some.to in
    let known = ap length c.in-Some-Some.ensures.1 in
    let given = ap length c.in-Some-Some.ensures'.1 in
    suffices (IsWayText (components text) (components to)) c.relative.result c.write_path.result.status
    c.write_path.result.len (2 * length text + 1 + length to) c.args.out.now c.write_path.new.out (length_way_le text to)
    c.relative.ensures.way c.write_path.ensures.ok c.write_path.ensures.err (omega (arith, fits, known, given)) full
