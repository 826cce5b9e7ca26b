use Rattle.target_paths.proofs.NamesLemmas.{longest_name-plain}
use Rattle.target_paths.proofs.source.named_piece.Goals as goal

pub characters_read-requires : goal.characters_read-requires
characters_read-requires c =
    longest_name-plain c.args.text.now c.in_ok-len.len c.in_ok-len.characters c.in_ok-len.ensures.name
