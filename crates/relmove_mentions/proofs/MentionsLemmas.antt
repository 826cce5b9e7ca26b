-- The mentions that come before a span, while spans are tried in order.
use Rattle.std.proofs.Common.{◌≡◌, ◌⊎◌, ℕ, ◌+◌, ◌<◌, ◌≤◌, List, [], ◌∷◌, ◌++◌, length, get_or, inl, inr, refl, sym, true≢false, ap, ap₂, ◌∙◌, subst, arith, take, drop, ◌-◌, false, true, not, ◌&&◌, cond}
use Rattle.std.proofs.lemmas.Bool.{and_from, cases_lt}
use Rattle.std.proofs.lemmas.List.{map-append}
use Rattle.std.proofs.lemmas.List.Elements.{All-map, All-push, All-weaker, Contains-append_left, Contains-push}
use Rattle.std.proofs.lemmas.List.Quantifiers.{all_pairs_push}
use Rattle.std.specs.List.{AllPairs, Contains}
use Rattle.relative_path_places.specs.Views.{view_text}
use Rattle.relmove_mentions.specs.Mentions.{AreMentionsBefore, HaveOthersFrom, IsMention, spans_of}
use Rattle.relmove_mentions.specs.Endings.{IsCandidate, ending_of, may_end}
use Rattle.relmove_mentions.specs.OldNames.{Has}
use Rattle.relmove_mentions.specs.declared.hashes.Hashes.{Hashes}
use Rattle.relmove_mentions.specs.declared.old_names.OldNames.{OldNames}
use Rattle.relmove_mentions.specs.Spans.{ComesBefore, IsBounded, IsEarlier, is_bounded_after, is_path_byte, others_in, span_bytes}
use Rattle.relmove_mentions.proofs.SpansLemmas.{ending_of-after, others_in-before, others_in-more, others_in-next, others_in-within}
use Rattle.relmove_mentions.proofs.OldNamesLemmas.{most_others-Contains}
use Rattle.relmove_mentions.proofs.WrittenLemmas.{has_name-written, may_end-with_others, may_end-written}
use Rattle.relmove_mentions.specs.declared.file_text.FileText.{FileText}
use Rattle.relmove_mentions.specs.declared.mentions.Mention.{Mention}
use Rattle.relmove_mentions.specs.declared.text_span.TextSpan.{TextSpan}

-- ---- spans in order

IsEarlier-more : (span : TextSpan) (start end more : ℕ) → end ≤ more → IsEarlier span start end → IsEarlier span start more
IsEarlier-more span start end more le (inl before) = inl before
IsEarlier-more span start end more le (inr (same, before)) = inr (same, omega (arith, before, le))

IsEarlier-next : (span : TextSpan) (start end : ℕ) → IsEarlier span start end → IsEarlier span (start + 1) 0
IsEarlier-next span start end (inl before) = inl (omega (arith, before))
IsEarlier-next span start end (inr (same, before)) = inl (omega (arith, same))

-- a span that ends before the next offset is the last one, or comes before it
IsEarlier-last : (span last : TextSpan) → IsEarlier span last.start (last.end + 1)
    → IsEarlier span last.start last.end ⊎ (last ≡ span)
IsEarlier-last span last (inl before) = inl (inl before)
IsEarlier-last span last (inr (same, before)) = elim (cases_lt span.end last.end) [
  | inl less ↦ inl (inr (same, less))
  | inr more ↦
      let ends : span.end ≡ last.end = omega (arith, before, more) in
      inr (TextSpan-same last span (sym same) (sym ends))
] where
  span_of : ℕ → ℕ → TextSpan
  span_of start end = record { start = start; end = end }

  TextSpan-same : (a b : TextSpan) → a.start ≡ b.start → a.end ≡ b.end → a ≡ b
  TextSpan-same a b starts ends = ap₂ span_of starts ends

-- ---- mentions

-- before the first span there is none
pub AreMentionsBefore-nil : (olds : List (List ℕ)) (file : FileText) → AreMentionsBefore olds file [] 0 0
AreMentionsBefore-nil olds file = record {
  sound = λ k d within. absurd (omega (arith, within));
  in_order = λ i j d less within. absurd (omega (arith, within));
  before = λ k d within. absurd (omega (arith, within));
  complete = λ span old is earlier. elim earlier [
    | inl before ↦ absurd (omega (arith, before))
    | inr (same, before) ↦ absurd (omega (arith, before))
  ];
}

-- no mention begins and ends at an offset
pub AreMentionsBefore-begin : (olds : List (List ℕ)) (file : FileText) (mentions : List Mention) (start : ℕ)
    → AreMentionsBefore olds file mentions start 0 → AreMentionsBefore olds file mentions start (start + 1)
AreMentionsBefore-begin olds file mentions start are = record {
  sound = are.sound;
  in_order = are.in_order;
  before = All-weaker _ _ (λ m. IsEarlier-more m.span start 0 (start + 1) (omega arith)) mentions are.before;
  complete = λ span old is earlier. elim earlier [
    | inl before ↦ are.complete span old is (inl before)
    | inr (same, before) ↦ absurd (omega (arith, same, before, is.bounded.order))
  ];
}

-- nor ends where no path does
pub AreMentionsBefore-inside : (olds : List (List ℕ)) (file : FileText) (mentions : List Mention) (start end last : ℕ)
    → end ≤ last → ((at : ℕ) → end ≤ at → at < last → is_bounded_after file.text.now at ≡ false)
    → AreMentionsBefore olds file mentions start end → AreMentionsBefore olds file mentions start last
AreMentionsBefore-inside olds file mentions start end last order inside are = record {
  sound = are.sound;
  in_order = are.in_order;
  before = All-weaker _ _ (λ m. IsEarlier-more m.span start end last order) mentions are.before;
  complete = λ span old is earlier. elim earlier [
    | inl before ↦ are.complete span old is (inl before)
    | inr (same, before) ↦ elim (cases_lt span.end end) [
      | inl less ↦ are.complete span old is (inr (same, less))
      | inr more ↦ absurd (true≢false (sym is.bounded.after ∙ inside span.end more before))
    ]
  ];
}

-- at a span without a mention the mentions stay
pub AreMentionsBefore-none : (olds : List (List ℕ)) (file : FileText) (mentions : List Mention) (last : TextSpan)
    → ((old : List ℕ) → Contains olds old → ¬ IsMention olds file last old)
    → AreMentionsBefore olds file mentions last.start last.end
    → AreMentionsBefore olds file mentions last.start (last.end + 1)
AreMentionsBefore-none olds file mentions last none are = record {
  sound = are.sound;
  in_order = are.in_order;
  before = All-weaker _ _ (λ m. IsEarlier-more m.span last.start last.end (last.end + 1) (omega arith)) mentions are.before;
  complete = λ span old is earlier. elim (IsEarlier-last span last earlier) [
    | inl before ↦ are.complete span old is before
    | inr same ↦ absurd (none old is.is_old (subst (λ s. IsMention olds file s old) (sym same) is))
  ];
}

-- a mention at the span is the next one
pub AreMentionsBefore-push : (olds : List (List ℕ)) (file : FileText) (mentions : List Mention) (mention : Mention)
    → IsMention olds file mention.span (view_text mention.path)
    → AreMentionsBefore olds file mentions mention.span.start mention.span.end
    → AreMentionsBefore olds file (mentions ++ mention ∷ []) mention.span.start (mention.span.end + 1)
AreMentionsBefore-push olds file mentions mention is are = record {
  sound = All-push (λ m. IsMention olds file m.span (view_text m.path)) mentions mention are.sound is;
  in_order = subst (AllPairs ComesBefore) (sym spans)
      (all_pairs_push ComesBefore (spans_of mentions) mention.span are.in_order
      (All-map (λ s. ComesBefore s mention.span) (λ m. m.span) mentions are.before));
  before = All-push (λ m. IsEarlier m.span mention.span.start (mention.span.end + 1)) mentions mention
      (All-weaker _ _
      (λ m. IsEarlier-more m.span mention.span.start mention.span.end (mention.span.end + 1) (omega arith)) mentions are.before)
      (inr (refl, omega arith));
  complete = λ span old is earlier. subst (λ list. Contains list span) (sym spans)
      (elim (IsEarlier-last span mention.span earlier) [
        | inl before ↦ Contains-append_left (spans_of mentions) _ span (are.complete span old is before)
        | inr same ↦ subst (Contains (spans_of mentions ++ mention.span ∷ [])) same (Contains-push (spans_of mentions) mention.span)
      ]);
} where
  spans : spans_of (mentions ++ mention ∷ []) ≡ spans_of mentions ++ mention.span ∷ []
  spans = map-append (λ m. m.span) mentions (mention ∷ [])

-- if no mention that begins at an offset ends later, the next begins later
pub AreMentionsBefore-next : (olds : List (List ℕ)) (file : FileText) (mentions : List Mention) (start end : ℕ)
    → ((span : TextSpan) (old : List ℕ) → IsMention olds file span old → span.start ≡ start → span.end < end)
    → AreMentionsBefore olds file mentions start end → AreMentionsBefore olds file mentions (start + 1) 0
AreMentionsBefore-next olds file mentions start end ends are = record {
  sound = are.sound;
  in_order = are.in_order;
  before = All-weaker _ _ (λ m. IsEarlier-next m.span start end) mentions are.before;
  complete = λ span old is earlier. elim earlier [
    | inl before ↦ elim (cases_lt span.start start) [
      | inl less ↦ are.complete span old is (inl less)
      | inr more ↦
          let same : span.start ≡ start = omega (arith, before, more) in
          are.complete span old is (inr (same, ends span old is same))
    ]
    | inr (same, before) ↦ absurd (omega (arith, before))
  ];
}

-- if no mention begins between two offsets, those before the first are those before the second
pub AreMentionsBefore-skip : (olds : List (List ℕ)) (file : FileText) (mentions : List Mention) (start first : ℕ)
    → start ≤ first
    → ((span : TextSpan) (old : List ℕ) → IsMention olds file span old → start ≤ span.start → first ≤ span.start)
    → AreMentionsBefore olds file mentions start 0 → AreMentionsBefore olds file mentions first 0
AreMentionsBefore-skip olds file mentions start first order none are = record {
  sound = are.sound;
  in_order = are.in_order;
  before = All-weaker _ _ (λ m before. begins_before m.span before) mentions are.before;
  complete = λ span old is earlier. elim (cases_lt span.start start) [
    | inl less ↦ are.complete span old is (inl less)
    | inr later ↦ absurd (not_before span (none span old is later) earlier)
  ];
} where
  begins_before : (span : TextSpan) → IsEarlier span start 0 → IsEarlier span first 0
  begins_before span (inl before) = inl (omega (arith, before, order))
  begins_before span (inr (same, before)) = absurd (omega (arith, before))

  not_before : (span : TextSpan) → first ≤ span.start → IsEarlier span first 0 → ⊥
  not_before span later (inl before) = omega (arith, before, later)
  not_before span later (inr (same, before)) = omega (arith, before)

-- if those with bytes that don't go on a path begin at an offset or later, they do from a later one on
pub HaveOthersFrom-later : (olds : List (List ℕ)) (file : FileText) (start later first : ℕ) → start ≤ later
    → HaveOthersFrom olds file start first → HaveOthersFrom olds file later first
HaveOthersFrom-later olds file start later first order from =
    λ span old is after some. from span old is (omega (arith, order, after)) some

-- ---- where a name can stand

-- where an old path is mentioned, one of its names can stand
pub IsCandidate-mention : (olds : List (List ℕ)) (set : OldNames) (file : FileText) (text : List ℕ) (span : TextSpan)
    (old : List ℕ) → Has olds set → file.text.now ≡ text → IsMention olds file span old → IsCandidate set.endings text span
IsCandidate-mention olds set file text span old has of is =
    subst (λ t. IsCandidate set.endings t span) of
    (record {
      bounded = is.bounded;
      named = has_name-written olds file (span_bytes file.text.now span) old is.written;
      ends = may_end-written olds set file (span_bytes file.text.now span) old has is.is_old is.written;
    })

-- and one of those with bytes that don't go on a path, if the mention has some
pub IsCandidate-with_others : (olds : List (List ℕ)) (set : OldNames) (file : FileText) (text : List ℕ) (span : TextSpan)
    (old : List ℕ) → Has olds set → file.text.now ≡ text → IsMention olds file span old
    → 0 < others_in (span_bytes file.text.now span) → IsCandidate set.endings_with_others text span
IsCandidate-with_others olds set file text span old has of is some =
    subst (λ t. IsCandidate set.endings_with_others t span) of
    (record {
      bounded = is.bounded;
      named = has_name-written olds file (span_bytes file.text.now span) old is.written;
      ends =
          may_end-with_others olds set file (span_bytes file.text.now span) old has is.is_old (omega (arith, some, is.few))
          is.written;
    })

-- up to the end of a candidate, the bytes from an offset on end as the candidate
ends-from : (set : Hashes) (text : List ℕ) (span : TextSpan) (start : ℕ) → IsCandidate set text span → start ≤ span.start
    → (is_bounded_after text span.end && may_end set (ending_of (take (span.end - start) (drop start text)))) ≡ true
ends-from set text span start is later = and_from _ _ is.bounded.after (ap (may_end set) same ∙ is.ends) where
  same : ending_of (take (span.end - start) (drop start text)) ≡ ending_of (span_bytes text span)
  same =
      ending_of-after text start span.start span.end later (omega (arith, is.bounded.order)) is.bounded.within
      is.bounded.before is.named

-- so none ends where they can't end
pub ends-later : (set : Hashes) (text : List ℕ) (span : TextSpan) (start end : ℕ) → IsCandidate set text span
    → start ≤ span.start → end ≤ span.end
    → (is_bounded_after text end && may_end set (ending_of (take (end - start) (drop start text)))) ≡ false → end < span.end
ends-later set text span start end is later order none = elim (cases_lt end span.end) [
  | inl less ↦ less
  | inr more ↦
      let same : span.end ≡ end = omega (arith, order, more) in
      absurd (true≢false (sym (subst
      (λ e. (is_bounded_after text e && may_end set (ending_of (take (e - start) (drop start text)))) ≡ true) same
      (ends-from set text span start is later)) ∙ none))
]

-- one that ends after an offset doesn't end before the next one at which a path can end
pub ends-after_word : (set : Hashes) (text : List ℕ) (span : TextSpan) (start end : ℕ) → IsCandidate set text span
    → start < span.end → ((at : ℕ) → start < at → at < end → is_bounded_after text at ≡ false) → end ≤ span.end
ends-after_word set text span start end is later inside = elim (cases_lt span.end end) [
  | inl less ↦ absurd (true≢false (sym is.bounded.after ∙ inside span.end later less))
  | inr more ↦ more
]

-- ---- how many bytes that don't go on a path a span has at most

-- it doesn't begin before bytes of which it could have all but one
pub begins-after_other : (text : List ℕ) (span : TextSpan) (first end left most : ℕ) → IsBounded text span
    → others_in (span_bytes text span) ≤ most → 0 < first → first ≤ end → end ≤ span.end → left ≡ 0
    → is_path_byte (get_or text (first - 1) 0) ≡ false → others_in (take (end - first) (drop first text)) + left ≡ most
    → first ≤ span.start
begins-after_other text span first end left most bounded few some order within none other count =
    elim (cases_lt span.start first) [
      | inr later ↦ later
      | inl less ↦
          let last : first - 1 + 1 ≡ first = omega (arith, some) in
          let more : others_in (take (end - (first - 1)) (drop (first - 1) text))
          ≡ 1 + others_in (take (end - first) (drop first text)) =
          others_in-before text (first - 1) end (omega (arith, some, order)) (omega (arith, within, bounded.within))
          ∙ ap (λ b. cond (not b) 1 0 + others_in (take (end - (first - 1 + 1)) (drop (first - 1 + 1) text))) other
          ∙ ap (λ at. 1 + others_in (take (end - at) (drop at text))) last in
          let longer = others_in-within text span.start (first - 1) end span.end (omega (arith, some, less))
          (omega (arith, order)) within in
          absurd (omega (arith, more, longer, few, none, count))
    ]

-- it doesn't go on past a byte that is one too many
pub ends-before_other : (text : List ℕ) (span : TextSpan) (start end left most : ℕ)
    → others_in (span_bytes text span) ≤ most → span.start ≡ start → start ≤ end → end < length text → left ≡ 0
    → is_path_byte (get_or text end 0) ≡ false → others_in (take (end - start) (drop start text)) + left ≡ most
    → span.end < end + 1
ends-before_other text span start end left most few same order within none other count =
    elim (cases_lt span.end (end + 1)) [
      | inl less ↦ less
      | inr more ↦
          let next = others_in-next text start end order within other in
          let longer = others_in-more (drop start text) (end + 1 - start) (span.end - start) (omega (arith, more)) in
          let at_most : others_in (take (span.end - start) (drop start text)) ≤ most =
          subst (λ at. others_in (take (span.end - at) (drop at text)) ≤ most) same few in
          absurd (omega (arith, next, longer, at_most, none, count))
    ]

-- a mention has no more than the old path that has most
pub few-most : (olds : List (List ℕ)) (set : OldNames) (file : FileText) (span : TextSpan) (old : List ℕ) → Has olds set
    → IsMention olds file span old → others_in (span_bytes file.text.now span) ≤ set.most_others
few-most olds set file span old has is = omega (arith, is.few, most_others-Contains olds old is.is_old, has.most)
