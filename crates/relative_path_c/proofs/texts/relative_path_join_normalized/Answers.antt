use Rattle.std.proofs.Common.{ap, arith, length, ◌+◌, ◌++◌}
use Rattle.relative_path.specs.Normalizing.{IsNormalTextOf}
use Rattle.relative_path.specs.RelativePath.{path_text}
use Rattle.relative_path.specs.Steps.{components}
use Rattle.relative_path_c.proofs.LengthLemmas.{length_join_normalized_le}
use Rattle.relative_path_c.proofs.MemoryLemmas.{suffices}
use Rattle.relative_path_c.proofs.texts.relative_path_join_normalized.Goals as goal

-- src/texts.rt:42:1
pub returns-clause-suffices : goal.returns-clause-suffices
returns-clause-suffices c fits full =
    let text = path_text c.in-Some-Some.text in
    let path = path_text c.in-Some-Some.path in
    let known = ap length c.in-Some-Some.ensures.1 in
    let given = ap length c.in-Some-Some.ensures'.1 in
    suffices (IsNormalTextOf (components text ++ components path)) c.join_normalized.result c.write_path.result.status
    c.write_path.result.len (length text + 1 + length path) c.args.out.now c.write_path.new.out
    (length_join_normalized_le text path) c.join_normalized.ensures.normal_form c.write_path.ensures.ok
    c.write_path.ensures.err (omega (arith, fits, known, given)) full
