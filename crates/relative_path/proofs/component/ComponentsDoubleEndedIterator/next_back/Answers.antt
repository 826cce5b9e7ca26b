use Rattle.std.proofs.Common.{None, Some, ◌∙◌, ap, subst, sym}
use Rattle.relative_path.specs.Steps.{classed}
use Rattle.relative_path.specs.Components.{TakesLast}
use Rattle.relative_path.proofs.ComponentsLemmas.{IsTrimmedEnd, TakesLast-none, TakesLast-some, MakesProgress-TakesLast}
use Rattle.relative_path.proofs.ListsLemmas.{nil_from_is_empty, some_from_is_empty}
use Rattle.relative_path.proofs.component.ComponentsDoubleEndedIterator.next_back.Goals as goal

pub returns-then-is_empty : goal.returns-then-is_empty
returns-then-is_empty c =
    let trim = c.without_trailing_slashes-text.ensures in
    let trimmed = c.without_trailing_slashes-text.result in
    let empty = nil_from_is_empty trimmed.now _ c.is_empty.ensures c.if-is_empty.true in
    let none : TakesLast c.args.self.now.left.text.now None c.new-self.result.text.now =
    subst (TakesLast c.args.self.now.left.text.now None) (sym c.new-self.ensures)
    (TakesLast-none c.args.self.now.left.text.now trimmed.now
    (record { prefix = record { front = trim.prefix }; end = trim.end; same = trim.same }) empty) in
    record { steps = none; goes = MakesProgress-TakesLast c.args.self.now (record { left = c.new-self.result }) None none }

pub returns : goal.returns
returns c =
    let trim = c.without_trailing_slashes-text.ensures in
    let trim' = c.without_trailing_slashes.ensures in
    let left = c.without_trailing_slashes.result in
    let some = some_from_is_empty _ _ c.is_empty.ensures c.if-is_empty.false in
    let taken : TakesLast c.args.self.now.left.text.now (Some c.component_of.result) c.new-self-2.result.text.now =
    subst (TakesLast c.args.self.now.left.text.now (Some c.component_of.result)) (sym c.new-self-2.ensures)
    (TakesLast-some c.args.self.now.left.text.now c.without_trailing_slashes-text.result.now left.now c.component_of.result
    (record { prefix = record { front = trim.prefix }; end = trim.end; same = trim.same })
    (subst (λ front. IsTrimmedEnd front left.now) c.split_last.ensures.front
    (record { prefix = record { front = trim'.prefix }; end = trim'.end; same = trim'.same }))
    some (c.component_of.ensures ∙ ap classed c.split_last.ensures.piece)) in
    record { steps = taken; goes = MakesProgress-TakesLast c.args.self.now (record { left = c.new-self-2.result }) _ taken }
