-- The list of the directories that were read grows.
use Rattle.std.proofs.Common.{◌-◌, ◌^◌, length}
use Rattle.relmove_folder.proofs.tree.read_tree.Given as goal

abbrev pub decreases-loop-directory : goal.decreases-loop-directory
decreases-loop-directory g l = 2 ^ 64 - length l.directories.items
