use Rattle.std.proofs.Common.{◌≡◌, ◌++◌, map, take}
use Rattle.relmove_stages_disk.specs.Entries.{item_of}
use Rattle.relmove_stages_disk.proofs.entries.push_copies.Given as goal

-- the entries so far are copied
abbrev pub invariant-loop-entry : goal.invariant-loop-entry
invariant-loop-entry l =
    map item_of l.copies.items ≡ map item_of l.fn.copies.items ++ map item_of (take l.entry-index l.entries)
