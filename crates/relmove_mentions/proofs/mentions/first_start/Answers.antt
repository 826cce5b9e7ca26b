-- Each turn goes back a byte, until a span would have one byte too many.
use Rattle.std.proofs.Common.{arith}
use Rattle.relmove_mentions.proofs.MentionsLemmas.{begins-after_other}
use Rattle.relmove_mentions.proofs.SpansLemmas.{others_in-back}
use Rattle.relmove_mentions.proofs.mentions.first_start.Goals as goal

pub returns-in_default-clause-first : goal.returns-in_default-clause-first
returns-in_default-clause-first c = λ span bounded few later within.
    let inv = c.loop-first.invariant in
    begins-after_other c.args.text.now span c.loop-first.first c.args.end c.loop-first.left c.args.most bounded few
    (omega (arith, c.loop-first-test.true)) inv.before within c.in_default.ensures.none.0 c.in_default.ensures.none.1 inv.others

pub loop-first-preserved : goal.loop-first-preserved
loop-first-preserved c =
    let inv = c.loop-first.invariant in
    record {
      after = omega (arith, c.loop-first-test.true);
      before = omega (arith, inv.before);
      others =
          others_in-back c.args.text.now c.loop-first.first c.args.end c.loop-first.left c.in-Some.more
          c.args.most (omega (arith, c.loop-first-test.true)) inv.before c.requires.within inv.others
          c.in-Some.ensures.some;
    }
