use Rattle.relative_path.specs.Components.{text_left}
use Rattle.relative_path.proofs.EditingLemmas.{LosesCurs-cur}
use Rattle.relative_path.proofs.NamingLemmas.{IsEnd, IsEnd-none, IsEnd-up, IsEnd-name}
use Rattle.relative_path.proofs.naming.last_component.Goals as goal
use Rattle.relative_path.proofs.naming.last_component.Goals.{in-Some-Normal, in-Some-ParentDir, in-None}

pub loop-name-preserved : goal.loop-name-preserved
loop-name-preserved c =
    LosesCurs-cur _ _ _ c.loop-name.invariant
    (rw c.in-Some-CurDir.field-0-is at c.in-Some-CurDir.ensures.steps.0) c.in-Some-CurDir.ensures.steps.1

pub returns-in-loop-name : goal.returns-in-loop-name
returns-in-loop-name c =
    let left = c.loop-name.invariant in
    let end : IsEnd c.args.text.now (text_left c.next_back.new.self) c.match-next_back.name
    (text_left c.loop-name.components) = elim c.match-next_back.branch [
      | in-Some-Normal w ↦
          rw w.name-is (IsEnd-name _ _ _ _ left (rw w.in-Some-Normal.field-0-is at w.in-Some-Normal.ensures.steps))
      | in-Some-ParentDir w ↦
          rw w.name-is (IsEnd-up _ _ _ left (rw w.in-Some-ParentDir.field-0-is at w.in-Some-ParentDir.ensures.steps))
      | in-None w ↦ rw w.name-is (IsEnd-none _ _ _ left w.in-None.ensures.steps)
    ] in
    record {
      before = rw c.as_str.ensures end.popped;
      name = end.named;
      up_to_end = rw c.as_str-up_to_end.ensures end.placed;
    }
