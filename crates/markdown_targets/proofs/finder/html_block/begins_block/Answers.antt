-- The names of the code are those of the definition.
use Rattle.std.proofs.Common.{ap, ◌∙◌}
use Rattle.std.specs.List.{list_any}
use Rattle.markdown_targets.specs.Tags.{is_block_tag, block_names}
use Rattle.markdown_targets.proofs.finder.html_block.begins_block.Goals as goal

pub returns : goal.returns
returns c =
    c.is_any_block_tag.ensures
    ∙ ap (λ tag. list_any (λ name. is_block_tag name tag) block_names) c.without_slash.ensures
