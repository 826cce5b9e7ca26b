-- Each turn pushes one `..`.
use Rattle.std.proofs.Common.{◌-◌, replicate, arith}
use Rattle.relative_path.specs.Steps.{up}
use Rattle.relative_path_places.proofs.FrontTextLemmas.{IsFrontText-push}
use Rattle.relative_path_places.proofs.WayLemmas.{SpellsItself-up, replicate-less}
use Rattle.relative_path_places.proofs.way.push_climb.Goals as goal

pub loop-left-preserved : goal.loop-left-preserved
loop-left-preserved c =
    IsFrontText-push _ c.loop-left.way.text c.push.new.self.text up (replicate c.loop-left.left up)
    (replicate (c.loop-left.left - 1) up) c.loop-left.invariant
    (replicate-less c.loop-left.left up (omega (arith, c.loop-left-test.true))) SpellsItself-up
    (rw c.new.ensures at c.in_ok-push.ensures.ok)
