-- The name is that of a device exactly if the text before its first space is, and only spaces follow before the dot.
use Rattle.std.proofs.Common.{rules, sym}
use Rattle.relative_path_files.proofs.DevicesLemmas.{names_device-other}
use Rattle.relative_path_files.proofs.names.names_device.Goals as goal

pub returns-then-is_device : goal.returns-then-is_device
returns-then-is_device c =
    rw (← c.before-stem.ensures, ← c.before-word.ensures, ← c.is_device.ensures, c.if-is_device.true) c.is_blank_after.ensures

pub returns-else-is_device : goal.returns-else-is_device
returns-else-is_device c =
    rw (← c.before-stem.ensures, ← c.before-word.ensures, ← c.is_device.ensures, c.if-is_device.false)

pub returns-then-not-begins_as_device : goal.returns-then-not-begins_as_device
returns-then-not-begins_as_device c =
    sym (names_device-other c.args.name.now (search rules))
