-- The root is a normal path, and a file in it is its name.
use Rattle.std.proofs.Common.{[], IfOk, Global, string_bytes, subst}
use Rattle.std.proofs.lemmas.Result.{IfOk-weaker}
use Rattle.relative_path.specs.Steps.{components}
use Rattle.relmove_steps.specs.StagingNames.{IsDrawn, IsDrawnIn}
use Rattle.relmove_steps.proofs.DrawingLemmas.{IsDrawn-root, IsNormalText-nil}
use Rattle.relmove_steps.proofs.staging.FreeNames.in_root.Goals as goal

pub draw-requires : goal.draw-requires
draw-requires c = rw c.new.ensures IsNormalText-nil

pub returns : goal.returns
returns c =
    let before = c.args.self.now in
    let after = c.draw.new.self in
    record {
      drawn = IfOk-weaker c.draw.result (λ name. IsDrawnIn (components []) before after (string_bytes {Z = Global} name))
          (λ name. IsDrawn before after (string_bytes name)) (λ name. IsDrawn-root before after (string_bytes name))
          (subst (λ text. IfOk c.draw.result (λ name. IsDrawnIn (components text) before after (string_bytes {Z = Global} name)))
          c.new.ensures c.draw.ensures.drawn);
    }
