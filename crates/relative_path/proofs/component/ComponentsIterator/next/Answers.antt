use Rattle.std.proofs.Common.{None, Some, ◌∙◌, ap, subst}
use Rattle.relative_path.specs.Steps.{classed}
use Rattle.relative_path.specs.Components.{TakesFirst}
use Rattle.relative_path.proofs.SlicesLemmas.{IsSuffix-from}
use Rattle.relative_path.proofs.ComponentsLemmas.{IsTrimmedStart, TakesFirst-none, TakesFirst-some, MakesProgress-TakesFirst}
use Rattle.relative_path.proofs.ListsLemmas.{nil_from_is_empty, some_from_is_empty}
use Rattle.relative_path.proofs.component.ComponentsIterator.next.Goals as goal

pub returns-then-is_empty : goal.returns-then-is_empty
returns-then-is_empty c =
    let trim = c.trim_start.ensures in
    let trimmed = c.trim_start.new.self.text in
    let empty = nil_from_is_empty trimmed.now _ c.is_empty.ensures c.if-is_empty.true in
    let none = TakesFirst-none c.args.self.now.left.text.now trimmed.now
    (record { suffix = IsSuffix-from trim.suffix; start = trim.start; same = trim.same }) empty in
    record { steps = none; goes = MakesProgress-TakesFirst c.args.self.now _ None none }

pub returns : goal.returns
returns c =
    let trim = c.trim_start.ensures in
    let trim' = c.trim_start-2.ensures in
    let trimmed = c.trim_start.new.self.text in
    let left = c.trim_start-2.new.self.text in
    let some = some_from_is_empty _ _ c.is_empty.ensures c.if-is_empty.false in
    let taken : TakesFirst c.args.self.now.left.text.now (Some c.component_of.result) left.now =
    TakesFirst-some c.args.self.now.left.text.now trimmed.now left.now c.component_of.result
    (record { suffix = IsSuffix-from trim.suffix; start = trim.start; same = trim.same })
    (subst (λ rest. IsTrimmedStart rest left.now) c.take_piece-piece.ensures.rest
    (record { suffix = IsSuffix-from trim'.suffix; start = trim'.start; same = trim'.same }))
    some (c.component_of.ensures ∙ ap classed c.take_piece-piece.ensures.piece) in
    record { steps = taken; goes = MakesProgress-TakesFirst c.args.self.now _ _ taken }
