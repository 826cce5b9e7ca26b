-- One digit more, or the byte before the digits.
use Rattle.std.proofs.Common.{arith, rules}
use Rattle.std.proofs.lemmas.List.{take_all}
use Rattle.std.proofs.lemmas.List.Sums.{suffix_len-take_yes, suffix_len-take_no}
use Rattle.relative_path_files.proofs.names.without_digits.Goals as goal

pub loop-count-init : goal.loop-count-init
loop-count-init c = search (rules, take_all)

pub loop-count-preserved : goal.loop-count-preserved
loop-count-preserved c = grind (arith, suffix_len-take_yes)
