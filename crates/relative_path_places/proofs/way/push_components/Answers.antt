-- Each turn pushes the next component.
use Rattle.relative_path.specs.Components.{text_left, step_of}
use Rattle.relative_path_places.proofs.FrontTextLemmas.{IsFrontText-next}
use Rattle.relative_path_places.proofs.way.push_components.Goals as goal

pub loop-component-preserved : goal.loop-component-preserved
loop-component-preserved c =
    IsFrontText-next _ c.loop-component.way.text c.push.new.self.text (text_left c.loop-component.component-iterator)
    (text_left c.next.new.self) (step_of c.in-Some.component) c.loop-component.invariant c.in-Some.ensures.steps.0
    (rw c.as_relative_path.ensures at c.in_ok-push.ensures.ok)
