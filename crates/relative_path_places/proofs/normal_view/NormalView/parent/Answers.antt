-- What is left of a normal text without its last component is a normal text.
use Rattle.std.proofs.Common.{IsSome, rules}
use Rattle.relative_path.specs.Components.{text_left}
use Rattle.relative_path_places.specs.Views.{view_text}
use Rattle.relative_path_places.proofs.ViewsLemmas.{IsNormalText-taken}
use Rattle.relative_path_places.proofs.normal_view.NormalView.parent.Goals as goal

pub of_normal-requires : goal.of_normal-requires
of_normal-requires c =
    let some : IsSome c.next_back.result = search rules in
    rw c.as_relative_path.ensures
    (IsNormalText-taken (view_text c.args.self) (text_left c.next_back.new.self) c.next_back.result
    (record { spelled = c.args.self.spelled; normal = c.args.self.normal })
    (rw c.components-left.ensures.text at c.next_back.ensures.steps) some)
