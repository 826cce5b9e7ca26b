-- Each turn makes the next digit.
use Rattle.std.proofs.Common.{drop, drop_of_length-le, subst, ◌+◌, arith}
use Rattle.std.proofs.lemmas.List.{drop_more}
use Rattle.relmove_steps.specs.Numbers.{number_of, IsCarried}
use Rattle.relmove_steps.proofs.NumbersLemmas.{IsCarried-last, IsCarried-next, IsCarried-none, IsCarried-small}
use Rattle.relmove_steps.proofs.number.next_digits.Goals as goal
use Rattle.relmove_steps.proofs.number.next_digits.Goals.{then-carry-gt0+in_ok-push-2, else-carry-gt0}

pub overflow_add-sum : goal.overflow_add-sum
overflow_add-sum c =
    let digits = c.args.digits.now in
    let k = c.loop-digit.digit-index in
    let is = subst (λ left. IsCarried (number_of digits) left c.loop-digit.next.items c.loop-digit.carry)
    (drop_more digits k 0 c.loop-digit-test.true) c.loop-digit.invariant in
    let small = IsCarried-small _ _ _ _ _ is in
    omega (arith, small)

pub loop-digit-preserved : goal.loop-digit-preserved
loop-digit-preserved c =
    let digits = c.args.digits.now in
    let k = c.loop-digit.digit-index in
    rw c.in_ok-push.ensures.items
    (IsCarried-next _ _ _ (drop (k + 1) digits) _
    (subst (λ left. IsCarried (number_of digits) left c.loop-digit.next.items c.loop-digit.carry)
    (drop_more digits k 0 c.loop-digit-test.true) c.loop-digit.invariant))

pub returns : goal.returns
returns c =
    let digits = c.args.digits.now in
    let is = subst (λ left. IsCarried (number_of digits) left c.loop-digit.next.items c.loop-digit.carry)
    (drop_of_length-le digits c.loop-digit-test.false) c.loop-digit.invariant in
    elim c.if-carry-gt0.branch [
      | then-carry-gt0+in_ok-push-2 w ↦
          let some = w.if-carry-gt0.true in
          rw (w.next-is, w.in_ok-push-2.ensures.items) (IsCarried-last _ _ _ is (omega (arith, some)))
      | else-carry-gt0 w ↦
          let none = w.if-carry-gt0.false in
          rw w.next-is (IsCarried-none _ _ _ is (omega (arith, none)))
    ]
