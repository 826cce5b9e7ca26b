-- A mention with bytes that don't go on a path ends where a candidate can, and begins as far before that as it has such bytes.
use Rattle.std.proofs.Common.{◌≤◌, arith, subst}
use Rattle.relmove_mentions.specs.Spans.{others_in, span_bytes}
use Rattle.relmove_mentions.proofs.MentionsLemmas.{IsCandidate-with_others, few-most}
use Rattle.relmove_mentions.proofs.old_names.OldNames.next_with_others.Goals as goal

pub returns-then-most_others-eq0 : goal.returns-then-most_others-eq0
returns-then-most_others-eq0 c = λ olds file has of span old is later some.
    absurd (omega (arith, some, few-most olds c.args.self.now file span old has is, c.most_others.ensures, c.if-most_others-eq0.true))

pub returns-in-Some : goal.returns-in-Some
returns-in-Some c = λ olds file has of span old is later some.
    let candidate = IsCandidate-with_others olds c.args.self.now file c.args.text.now span old has of is some in
    c.first_start.ensures.first span candidate.bounded
    (omega (
      arith,
      subst (λ t. others_in (span_bytes t span) ≤ c.args.self.now.most_others) of (few-most olds c.args.self.now file span old has is),
      c.most_others-in-Some.ensures,
    ))
    later (c.in-Some.ensures.first span candidate later)

pub returns-in-None : goal.returns-in-None
returns-in-None c = λ olds file has of span old is later some.
    absurd (omega (
      arith,
      later,
      c.in-None.ensures.none span (IsCandidate-with_others olds c.args.self.now file c.args.text.now span old has of is some),
    ))
