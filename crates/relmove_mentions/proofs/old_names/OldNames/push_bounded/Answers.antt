-- Each turn tries the span that is a word longer, until it would have one byte too many, or the text ends.
use Rattle.std.proofs.Common.{◌+◌, ◌-◌, drop, take, ap, arith, sym, ◌∙◌}
use Rattle.std.specs.List.{fold}
use Rattle.relmove_mentions.specs.Endings.{next_ending, no_ending}
use Rattle.relmove_mentions.proofs.MentionsLemmas.{AreMentionsBefore-begin, AreMentionsBefore-inside, AreMentionsBefore-next, ends-before_other}
use Rattle.relmove_mentions.proofs.SpansLemmas.{ending_of-later, fold-none, others_in-inside, others_in-left, others_in-none}
use Rattle.relmove_mentions.proofs.old_names.OldNames.push_bounded.Goals as goal

pub loop-end-init : goal.loop-end-init
loop-end-init c = record {
  order = omega arith;
  within = c.requires.within;
  others = omega (arith, others_in-none c.args.searched.file.text.now c.args.start);
  ending = c.none-ending.ensures ∙ sym (fold-none no_ending c.args.searched.file.text.now c.args.start);
  so_far = λ olds has before. AreMentionsBefore-begin olds c.args.searched.file c.args.mentions.now.items c.args.start before;
}

pub returns-in_default : goal.returns-in_default
returns-in_default c = λ olds has before.
    let inv = c.loop-end.invariant in
    AreMentionsBefore-next olds c.args.searched.file c.loop-end.mentions.items c.args.start (c.loop-end.end + 1)
    (λ span old is same.
    ends-before_other c.args.searched.file.text.now span c.args.start c.loop-end.end c.loop-end.left c.most_at-most.result
    ((c.most_at-most.ensures olds c.args.searched.file has (c.requires.wide olds has)).few span old is same) same inv.order
    c.loop-end-test.true c.in_default.ensures.none.0 c.in_default.ensures.none.1 inv.others)
    (inv.so_far olds has before)

pub push_at-requires-clause-others : goal.push_at-requires-clause-others
push_at-requires-clause-others c =
    let inv = c.loop-end.invariant in
    let text = c.args.searched.file.text.now in
    let word = c.with_word-word in
    let first = others_in-left text c.args.start c.loop-end.end c.loop-end.left c.in-Some.more c.most_at-most.result inv.order
    c.loop-end-test.true inv.others c.in-Some.ensures.some in
    let rest = others_in-inside text c.args.start (c.loop-end.end + 1) word.result.end (omega (arith, inv.order))
    (omega (arith, word.ensures.after)) word.ensures.within (λ at later. word.ensures.inside at (omega (arith, later))) in
    omega (arith, first, rest)

pub push_at-requires-clause-ending : goal.push_at-requires-clause-ending
push_at-requires-clause-ending c =
    let inv = c.loop-end.invariant in
    let text = c.args.searched.file.text.now in
    let word = c.with_word-word in
    word.ensures.ending
    ∙ ap (λ e. fold next_ending e (take (word.result.end - c.loop-end.end) (drop c.loop-end.end text))) inv.ending
    ∙ sym (ending_of-later text c.args.start c.loop-end.end word.result.end inv.order (omega (arith, word.ensures.after)))

pub loop-end-preserved : goal.loop-end-preserved
loop-end-preserved c =
    let inv = c.loop-end.invariant in
    let text = c.args.searched.file.text.now in
    let word = c.with_word-word in
    let first = others_in-left text c.args.start c.loop-end.end c.loop-end.left c.in-Some.more c.most_at-most.result inv.order
    c.loop-end-test.true inv.others c.in-Some.ensures.some in
    let rest = others_in-inside text c.args.start (c.loop-end.end + 1) word.result.end (omega (arith, inv.order))
    (omega (arith, word.ensures.after)) word.ensures.within (λ at later. word.ensures.inside at (omega (arith, later))) in
    record {
      order = omega (arith, inv.order, word.ensures.after);
      within = word.ensures.within;
      others = omega (arith, first, rest);
      ending =
          word.ensures.ending
          ∙ ap (λ e. fold next_ending e (take (word.result.end - c.loop-end.end) (drop c.loop-end.end text))) inv.ending
          ∙ sym (ending_of-later text c.args.start c.loop-end.end word.result.end inv.order (omega (arith, word.ensures.after)));
      so_far = λ olds has before.
          c.in_ok-push_at.ensures olds has
          (AreMentionsBefore-inside olds c.args.searched.file c.loop-end.mentions.items c.args.start (c.loop-end.end + 1)
          word.result.end (omega (arith, word.ensures.after)) (λ at later. word.ensures.inside at (omega (arith, later)))
          (inv.so_far olds has before));
    }

pub returns : goal.returns
returns c = λ olds has before.
    AreMentionsBefore-next olds c.args.searched.file c.loop-end.mentions.items c.args.start (c.loop-end.end + 1)
    (λ span old is same. omega (arith, is.bounded.within, c.loop-end-test.false))
    (c.loop-end.invariant.so_far olds has before)
