-- What is made so far, and the carry.
use Rattle.std.proofs.Common.{drop}
use Rattle.relmove_steps.specs.Numbers.{number_of, IsCarried}
use Rattle.relmove_steps.proofs.number.next_digits.Given as goal

abbrev pub invariant-loop-digit : goal.invariant-loop-digit
invariant-loop-digit l = IsCarried (number_of l.digits) (drop l.digit-index l.digits) l.next.items l.carry
