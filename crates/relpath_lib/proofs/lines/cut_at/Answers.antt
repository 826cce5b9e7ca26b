-- The text is cut at the first index of the byte. Characters end before it and after it.
use Rattle.std.proofs.Common.{◌≡◌, ◌<◌, ◌-◌, ◌+◌, ◌∙◌, ◌∷◌, ◌==◌, get_or, take, drop, length, ap, sym, subst, arith}
use Rattle.std.proofs.lemmas.Str.{IsCharBoundary-after_ascii}
use Rattle.std.specs.List.{slice_split}
use Rattle.relpath_lib.proofs.LinesLemmas.{first, first-holds, first-within, slice_split-nowhere, slice_split-first}
use Rattle.relpath_lib.proofs.lines.cut_at.Goals as goal

pub returns-then-at-text-clause-none : goal.returns-then-at-text-clause-none
returns-then-at-text-clause-none c =
    let is = c.len_before_byte-at.ensures ∙ ap (first c.args.byte) c.as_bytes.ensures.value in
    slice_split-nowhere c.args.byte c.args.text.now (sym c.if-at-text.true ∙ is)

pub range-requires-clause-end_boundary : goal.range-requires-clause-end_boundary
range-requires-clause-end_boundary c =
    let is = c.len_before_byte-at.ensures ∙ ap (first c.args.byte) c.as_bytes.ensures.value in (
      omega (arith, is, first-within c.args.byte c.args.text.now),
      λ inside high.
          let holds = ap (λ at. get_or c.args.text.now at 0) is ∙ first-holds c.args.byte c.args.text.now (omega (arith, is, inside)) in
          absurd (omega (arith, high, holds, c.requires)),
    )

pub range_from-requires : goal.range_from-requires
range_from-requires c _ =
    let at = c.len_before_byte-at.result in
    let is = c.len_before_byte-at.ensures ∙ ap (first c.args.byte) c.as_bytes.ensures.value in
    let inside : at < length c.args.text.now = omega (arith, is, first-within c.args.byte c.args.text.now, c.if-at-text.false) in
    let holds = ap (λ at. get_or c.args.text.now at 0) is ∙ first-holds c.args.byte c.args.text.now (omega (arith, is, inside)) in
    IsCharBoundary-after_ascii c.args.text.now at c.utf8.text inside (omega (arith, holds, c.requires))

pub returns-clause-some : goal.returns-clause-some
returns-clause-some c =
    let at = c.len_before_byte-at.result in
    let is = c.len_before_byte-at.ensures ∙ ap (first c.args.byte) c.as_bytes.ensures.value in
    let inside : at < length c.args.text.now = omega (arith, is, first-within c.args.byte c.args.text.now, c.if-at-text.false) in
    let whole : at - 0 ≡ at = omega arith in
    let cut = subst (λ n. slice_split (λ b. b == c.args.byte) c.args.text.now
    ≡ take n c.args.text.now ∷ slice_split (λ b. b == c.args.byte) (drop (n + 1) c.args.text.now))
    (sym is) (slice_split-first c.args.byte c.args.text.now (omega (arith, is, inside))) in
    rw (c.range.ensures.value, c.range_from.ensures.value, whole) cut
