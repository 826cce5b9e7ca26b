-- The names of the code are those of the definition.
use Rattle.markdown_targets.proofs.finder.html_block.begins_raw.Goals as goal

pub returns : goal.returns
returns c = c.is_any_raw_tag.ensures
