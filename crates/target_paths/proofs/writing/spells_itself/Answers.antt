-- No byte of the path is escaped.
use Rattle.std.proofs.Common.{rules, ◌≡◌, true, false, get_or}
use Rattle.std.specs.List.{list_all}
use Rattle.target_paths.specs.Writing.{is_escaped, is_unescaped, first_position}
use Rattle.target_paths.proofs.PiecesLemmas.{from_byte}
use Rattle.target_paths.proofs.WritingLemmas.{spelling-itself-bytes}
use Rattle.target_paths.proofs.writing.spells_itself.Goals as goal

pub returns-then-not-escapes : goal.returns-then-not-escapes
returns-then-not-escapes c holds =
    let first : is_escaped (first_position c.args.path.now) (get_or c.as_bytes.result.now 0 0) ≡ false = search rules in
    let others : list_all is_unescaped (from_byte 1 c.as_bytes.result.now) ≡ true = search rules in
    spelling-itself-bytes c.args.path.now c.as_bytes.result.now c.as_bytes.ensures.value c.in-len1-up.len_at_least first others
