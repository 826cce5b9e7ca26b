use Rattle.std.proofs.Common.{◌≡◌, ◌+◌, ◌++◌, ◌∙◌, Some, sym, ap, subst}
use Rattle.std.specs.Option.{option_copied}
use Rattle.relative_path.specs.Steps.{components}
use Rattle.relative_path.specs.Slices.{IsCut}
use Rattle.relative_path.specs.Editing.{kept_len}
use Rattle.relative_path.specs.Naming.{file_name_of}
use Rattle.relative_path.proofs.NamingLemmas.{IsCharBoundary-stem, slice_range-stem, IsExtended-stem}
use Rattle.relative_path.proofs.naming.without_extension.Goals as goal

pub range-requires-clause-end_boundary : goal.range-requires-clause-end_boundary
range-requires-clause-end_boundary c =
    let placed = rw c.in_ok-name.was at c.last_component-end.ensures.up_to_end in
    IsCharBoundary-stem _ placed.0 c.in_ok-name.name.now
    c.split_name.result.0.now c.split_name.result.1 placed.1 c.split_name.ensures.joined

pub returns-clause-text : goal.returns-clause-text
returns-clause-text c =
    let text = c.args.text.now in
    let n = c.in_ok-name.name.now in
    let placed = rw c.in_ok-name.was at c.last_component-end.ensures.up_to_end in
    let named : file_name_of text ≡ Some n =
    sym c.last_component-end.ensures.name ∙ ap option_copied c.in_ok-name.was in
    let front : c.range.result.now ≡ placed.0 ++ c.split_name.result.0.now =
    c.range.ensures.value
    ∙ slice_range-stem _ placed.0 n c.split_name.result.0.now c.split_name.result.1 placed.1 c.split_name.ensures.joined in
    rw (front, c.split_name.ensures.stem)
    (IsExtended-stem text placed.0 n named (subst (IsCut text (kept_len (components text) + 1)) placed.1 placed.2))
