use Rattle.std.proofs.Common.{◌≤◌, ◌+◌, ◌++◌, length, subst, sym}
use Rattle.relative_path.specs.RelativePath.{path_components}
use Rattle.relative_path.specs.Steps.{components}
use Rattle.relative_path_bench.proofs.RelatingLemmas.{shortest_through}
use Rattle.relative_path_bench.proofs.relating.triangle.Goals as goal

pub returns-clause-triangle : goal.returns-clause-triangle
returns-clause-triangle c = λ to_b from_b.
    let to = components c.in_ok-a_b.a_b.text in
    let onward = components c.in_ok-relative.field-0.text in
    let first = c.in_ok-a_b.ensures.way.shortest to_b in
    let second = c.in_ok-relative.ensures.way.shortest from_b in
    let middle = path_components c.args.b in
    let through = c.in_ok-a_c.ensures.through middle to onward first.shortest.leads second.shortest.leads in
    let direct = c.in_ok-a_c.ensures.way.shortest (to ++ onward, through) in
    let shorter = shortest_through _ _ _ to onward direct.shortest through in
    subst (λ way. length (components way.text) ≤ length to + length onward) (sym c.a_c.view_is) shorter
