-- Each turn appends the mentions that begin before the next end.
use Rattle.std.proofs.Common.{◌∙◌, arith, inl, inr, refl, sym, true≢false}
use Rattle.std.proofs.lemmas.Bool.{cases_lt}
use Rattle.relmove_mentions.proofs.MentionsLemmas.{AreMentionsBefore-nil, AreMentionsBefore-skip, HaveOthersFrom-later}
use Rattle.relmove_mentions.proofs.old_names.OldNames.mentions_in.Goals as goal

pub loop-end-init : goal.loop-end-init
loop-end-init c = record {
  within = omega arith;
  passed = λ span later. refl;
  wide = c.next_with_others-wide.ensures;
  so_far = λ olds has. rw c.new-mentions.ensures.items (AreMentionsBefore-nil olds c.args.searched.file);
}

pub push_between-requires-clause-wide : goal.push_between-requires-clause-wide
push_between-requires-clause-wide c = λ olds has.
    HaveOthersFrom-later olds c.args.searched.file c.loop-end.start c.first_start_of-start.result c.with_others_from-wide.result.start
    c.first_start_of-start.ensures.after (c.with_others_from-wide.ensures olds c.args.searched.file has refl)

pub loop-end-preserved : goal.loop-end-preserved
loop-end-preserved c =
    let next = c.next_start-start in
    record {
      within = next.ensures.before;
      passed = λ span later.
          c.count_passed-passed.ensures span
          (omega (arith, later, c.first_start_of-start.ensures.before, next.ensures.after));
      wide = λ olds file has of.
          HaveOthersFrom-later olds file c.loop-end.start next.result c.with_others_from-wide.result.start
          (omega (arith, c.in-Some.ensures.after, next.ensures.after)) (c.with_others_from-wide.ensures olds file has of);
      so_far = λ olds has.
          AreMentionsBefore-skip olds c.args.searched.file c.push_between.new.mentions.items c.in-Some.end next.result
          next.ensures.after
          (λ span old is later. elim (cases_lt span.start next.result) [
            | inl less ↦ absurd (true≢false (sym is.bounded.before ∙ next.ensures.none span.start later less))
            | inr more ↦ more
          ])
          (c.in_ok-push_between.ensures olds has
          (AreMentionsBefore-skip olds c.args.searched.file c.loop-end.mentions.items c.loop-end.start
          c.first_start_of-start.result c.first_start_of-start.ensures.after
          (λ span old is later.
          c.first_start_of-start.ensures.first span is.bounded
          (λ some. c.with_others_from-wide.ensures olds c.args.searched.file has refl span old is later some) later
          (c.in-Some.ensures.first olds span old has is later)) (c.loop-end.invariant.so_far olds has)));
    }

pub returns-clause-sound : goal.returns-clause-sound
returns-clause-sound c = λ olds has. (c.loop-end.invariant.so_far olds has).sound

pub returns-clause-complete : goal.returns-clause-complete
returns-clause-complete c = λ olds has span old is.
    (c.loop-end.invariant.so_far olds has).complete span old is (inl (c.in_default.ensures.none olds span old has is))

pub returns-clause-in_order : goal.returns-clause-in_order
returns-clause-in_order c = λ olds has. (c.loop-end.invariant.so_far olds has).in_order
