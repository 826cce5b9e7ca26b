-- The name of a port past ASCII is computed from its encoding.
use Rattle.std.proofs.Common.{rules}
use Rattle.std.specs.Char.{encode_utf8}
use Rattle.relative_path_files.proofs.names.is_device.Goals as goal

pub returns-then-is_one_of-2 : goal.returns-then-is_one_of-2
unfolding encode_utf8
returns-then-is_one_of-2 c = search rules

pub returns-else-is_one_of-2 : goal.returns-else-is_one_of-2
unfolding encode_utf8
returns-else-is_one_of-2 c = search rules
