-- The bases are those of the directories so far.
use Rattle.std.proofs.Common.{◌≡◌, map, take}
use Rattle.relative_path.specs.RelativePath.{path_text}
use Rattle.relmove_mentions.specs.Bases.{base_text}
use Rattle.relmove_mentions.proofs.searched_file.bases_of.Given as goal

abbrev pub invariant-loop-directory : goal.invariant-loop-directory
invariant-loop-directory l = map base_text l.bases.items ≡ map path_text (take l.directory-index l.directories)
