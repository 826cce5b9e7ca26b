use Rattle.std.proofs.Common.{string_bytes, ◌≡◌, ◌∙◌, ap, sym, ◌-◌, fold, length, replicate, lit<, arith}
use Rattle.relative_path.specs.Writing.{with_piece}
use Rattle.relative_path.specs.Steps.{up, step_text}
use Rattle.relative_path.proofs.WritingLemmas.{IsCharBoundary-climbs, with_pieces-some_climbs, some_climbs_fit}
use Rattle.relative_path.proofs.writing.push_climb.Goals as goal

pub range-requires-clause-end_boundary : goal.range-requires-clause-end_boundary
range-requires-clause-end_boundary c =
    let count = c.min-count.ensures in
    IsCharBoundary-climbs 24 _ (omega (arith, count))

pub add_piece-requires : goal.add_piece-requires
add_piece-requires c =
    let fits =
    some_climbs_fit (string_bytes c.loop-left.text) c.range.result.now c.loop-left.left c.min-count.result 24
    c.loop-left-test.true (lit< tt) c.min-count.ensures c.range.ensures.value in
    omega (arith, c.requires, fits, ap length c.loop-left.invariant.text, c.loop-left.invariant.room)

pub loop-left-preserved : goal.loop-left-preserved
loop-left-preserved c =
    let others = replicate (c.loop-left.left - c.min-count.result) (step_text up) in
    record {
      text = ap (λ text. fold with_piece text others) c.add_piece.ensures.text
          ∙ with_pieces-some_climbs (string_bytes c.loop-left.text) c.range.result.now c.loop-left.left c.min-count.result 24
          c.loop-left-test.true (lit< tt) c.min-count.ensures c.range.ensures.value ∙ c.loop-left.invariant.text;
      room = omega (arith, c.loop-left.invariant.room, c.add_piece.ensures.room);
    }

pub returns-clause-text : goal.returns-clause-text
returns-clause-text c =
    let none : c.loop-left.left ≡ 0 = omega (arith, c.loop-left-test.false) in
    ap (λ n. fold with_piece (string_bytes c.loop-left.text) (replicate n (step_text up))) (sym none) ∙ c.loop-left.invariant.text
