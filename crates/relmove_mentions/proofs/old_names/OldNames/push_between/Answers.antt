-- Each turn appends the mentions that begin at the next offset.
use Rattle.std.proofs.Common.{◌≡◌, ◌+◌, ◌∙◌, arith, inl, inr, subst, sym, true≢false}
use Rattle.std.proofs.lemmas.Bool.{cases_lt}
use Rattle.relmove_mentions.specs.Mentions.{AreMentionsBefore}
use Rattle.relmove_mentions.proofs.MentionsLemmas.{AreMentionsBefore-skip, HaveOthersFrom-later}
use Rattle.relmove_mentions.proofs.old_names.OldNames.push_between.Goals as goal

pub loop-start-init : goal.loop-start-init
loop-start-init c = record {
  after = omega arith;
  before = c.requires.order;
  passed = c.requires.passed;
  so_far = λ olds has before. before;
}

pub push_from-requires-clause-wide : goal.push_from-requires-clause-wide
push_from-requires-clause-wide c = λ olds has.
    HaveOthersFrom-later olds c.args.searched.file c.args.span.start c.loop-start.start c.args.wide c.loop-start.invariant.after
    (c.requires.wide olds has)

pub loop-start-preserved : goal.loop-start-preserved
loop-start-preserved c =
    let next = c.next_start-start in
    record {
      after = omega (arith, c.loop-start.invariant.after, next.ensures.after);
      before = next.ensures.before;
      passed = λ span later. c.count_passed-passed.ensures span (omega (arith, later, next.ensures.after));
      so_far = λ olds has before.
          AreMentionsBefore-skip olds c.args.searched.file c.push_from.new.mentions.items (c.loop-start.start + 1) next.result
          next.ensures.after
          (λ span old is later. elim (cases_lt span.start next.result) [
            | inl less ↦ absurd (true≢false (sym is.bounded.before ∙ next.ensures.none span.start later less))
            | inr more ↦ more
          ])
          (c.in_ok-push_from.ensures olds has (c.loop-start.invariant.so_far olds has before));
    }

pub returns : goal.returns
returns c = λ olds has before.
    let end : c.loop-start.start ≡ c.args.span.end = omega (arith, c.loop-start.invariant.before, c.loop-start-test.false) in
    subst (λ at. AreMentionsBefore olds c.args.searched.file c.loop-start.mentions.items at 0) end
    (c.loop-start.invariant.so_far olds has before)
