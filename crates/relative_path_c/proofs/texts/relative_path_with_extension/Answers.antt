use Rattle.std.proofs.Common.{ap, arith, length, ◌+◌}
use Rattle.relative_path.specs.Naming.{IsExtended}
use Rattle.relative_path.specs.RelativePath.{path_text}
use Rattle.relative_path_c.proofs.MemoryLemmas.{length_extended_le, suffices}
use Rattle.relative_path_c.proofs.texts.relative_path_with_extension.Goals as goal

-- src/texts.rt:102:1
pub returns-clause-suffices : goal.returns-clause-suffices
returns-clause-suffices c fits full =
    let text = path_text c.in-Some-Some.text in
    let extension = c.as_str.result.now in
    let whole = ap length c.in-Some-Some.ensures.1 in
    let known = ap length c.as_str.ensures in
    let given = ap length c.in-Some-Some.ensures'.1 in
    suffices (IsExtended text extension) c.with_extension.result c.write_path.result.status c.write_path.result.len
    (length text + 1 + length extension) c.args.out.now c.write_path.new.out (length_extended_le text extension)
    c.with_extension.ensures.text c.write_path.ensures.ok c.write_path.ensures.err
    (omega (arith, fits, whole, known, given)) full
