use Rattle.std.proofs.Common.{sym, ◌≡◌, ◌∙◌}
use Rattle.relmove_stages_disk.proofs.StagesLemmas.{comes-after, comes-before, comes-last, is_other}
use Rattle.relmove_stages_disk.proofs.disk.comes_to.Goals as goal

pub returns-in_default : goal.returns-in_default
returns-in_default c =
    let differ : ¬ (c.loop-stage.at ≡ c.args.stage) =
    is_other c.loop-stage.at c.args.stage (sym c.ne.ensures ∙ c.loop-stage-test.true) in (
      λ no. absurd (cc no),
      λ comes. absurd (comes-last c.loop-stage.at c.args.stage (sym c.in_default.ensures.next) differ
          (c.loop-stage.invariant.0 comes)),
    )

pub loop-stage-preserved : goal.loop-stage-preserved
loop-stage-preserved c =
    let differ : ¬ (c.loop-stage.at ≡ c.args.stage) =
    is_other c.loop-stage.at c.args.stage (sym c.ne.ensures ∙ c.loop-stage-test.true) in (
      λ comes. comes-after c.loop-stage.at c.in-Some.next c.args.stage (sym c.in-Some.ensures.next) differ
          (c.loop-stage.invariant.0 comes),
      λ comes. c.loop-stage.invariant.1
          (comes-before c.loop-stage.at c.in-Some.next c.args.stage (sym c.in-Some.ensures.next) comes),
    )
