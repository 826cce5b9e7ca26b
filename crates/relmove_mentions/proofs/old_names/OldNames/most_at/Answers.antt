-- A mention that begins before the first with bytes that don't go on a path has none.
use Rattle.std.proofs.Common.{arith, inl, inr}
use Rattle.std.proofs.lemmas.Bool.{cases_lt}
use Rattle.relmove_mentions.specs.Spans.{others_in, span_bytes}
use Rattle.relmove_mentions.proofs.MentionsLemmas.{few-most}
use Rattle.relmove_mentions.proofs.old_names.OldNames.most_at.Goals as goal

pub returns-then-wide-start : goal.returns-then-wide-start
returns-then-wide-start c = λ olds file has from. record {
  few = λ span old is same. omega (arith, few-most olds c.args.self.now file span old has is, c.most_others.ensures);
}

pub returns-else-wide-start : goal.returns-else-wide-start
returns-else-wide-start c = λ olds file has from. record {
  few = λ span old is same. elim (cases_lt 0 (others_in (span_bytes file.text.now span))) [
    | inl some ↦ absurd (omega (arith, from span old is (omega (arith, same)) some, same, c.if-wide-start.false))
    | inr none ↦ none
  ];
}
