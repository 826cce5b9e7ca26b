use Rattle.std.proofs.Common.{◌+◌, ◌-◌, ◌/◌, ◌<◌, ◌≤◌, ◌∙◌, ℕ, Some, length, ap, arith}
use Rattle.character_names.proofs.SearchLemmas.{inside, order, within, step-less, step-equal, step-greater, search-end}
use Rattle.character_names.proofs.names.find.Goals as goal

-- the middle is a row
middle : (low high many : ℕ) → low < high → high ≤ many → low + (high - low) / 2 < many
middle low high many some within = omega (arith, some, within)

pub name_at-requires-clause-inside : goal.name_at-requires-clause-inside
name_at-requires-clause-inside c =
    inside c.args.bounds.now c.args.text.now c.args.pairs.now c.requires (c.loop-low.low + (c.loop-low.high - c.loop-low.low) / 2)
    (middle c.loop-low.low c.loop-low.high (length c.args.pairs.now) c.loop-low-test.true c.loop-low.invariant.within)

pub name_at-requires-clause-order : goal.name_at-requires-clause-order
name_at-requires-clause-order c =
    order c.args.bounds.now c.args.text.now c.args.pairs.now c.requires (c.loop-low.low + (c.loop-low.high - c.loop-low.low) / 2)
    (middle c.loop-low.low c.loop-low.high (length c.args.pairs.now) c.loop-low-test.true c.loop-low.invariant.within)

pub name_at-requires-clause-within : goal.name_at-requires-clause-within
name_at-requires-clause-within c =
    within c.args.bounds.now c.args.text.now c.args.pairs.now c.requires (c.loop-low.low + (c.loop-low.high - c.loop-low.low) / 2)
    (middle c.loop-low.low c.loop-low.high (length c.args.pairs.now) c.loop-low-test.true c.loop-low.invariant.within)

pub loop-low-preserved-in-Less : goal.loop-low-preserved-in-Less
loop-low-preserved-in-Less c =
    let mid = c.loop-low.low + (c.loop-low.high - c.loop-low.low) / 2 in
    let inv = c.loop-low.invariant in
    let at = middle c.loop-low.low c.loop-low.high (length c.args.pairs.now) c.loop-low-test.true inv.within in
    let before_high = middle c.loop-low.low c.loop-low.high c.loop-low.high c.loop-low-test.true (omega arith) in
    record {
      order = omega (arith, before_high);
      within = inv.within;
      before =
          step-less c.args.bounds.now c.args.text.now c.args.pairs.now c.requires c.args.name.now c.name_at.result.now mid at
          c.name_at.ensures c.in-Less.ensures;
      after = inv.after;
    }

pub returns-in-Equal : goal.returns-in-Equal
returns-in-Equal c =
    let mid = c.loop-low.low + (c.loop-low.high - c.loop-low.low) / 2 in
    let at = middle c.loop-low.low c.loop-low.high (length c.args.pairs.now) c.loop-low-test.true c.loop-low.invariant.within in
    ap Some c.characters_at.ensures
    ∙ step-equal c.args.bounds.now c.args.text.now c.args.pairs.now c.requires c.args.name.now c.name_at.result.now mid at
    c.name_at.ensures c.in-Equal.ensures

pub loop-low-preserved : goal.loop-low-preserved
loop-low-preserved c =
    let mid = c.loop-low.low + (c.loop-low.high - c.loop-low.low) / 2 in
    let inv = c.loop-low.invariant in
    let at = middle c.loop-low.low c.loop-low.high (length c.args.pairs.now) c.loop-low-test.true inv.within in
    record {
      order = omega arith;
      within = omega (arith, at);
      before = inv.before;
      after =
          step-greater c.args.bounds.now c.args.text.now c.args.pairs.now c.requires c.args.name.now c.name_at.result.now mid at
          c.name_at.ensures c.in-Greater.ensures;
    }

pub returns : goal.returns
returns c =
    search-end c.args.bounds.now c.args.text.now c.args.pairs.now c.requires c.args.name.now c.loop-low.low c.loop-low.high
    c.loop-low-test.false c.loop-low.invariant.before c.loop-low.invariant.after
