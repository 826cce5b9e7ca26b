-- The permissions of a file: what its owner, its group and all others may do.
use Rattle.std.specs.Prelude.{ℕ, ◌+◌, ◌*◌, ◌/◌, ◌%◌, ◌==◌, ◌&&◌, if◌then◌else◌}
use Rattle.std.specs.Int.RustNames.{bit_and}
use Rattle.relmove_store.specs.declared.store.Found.{Found}
use Rattle.relmove_store.specs.declared.store.PageFile.{PageFile}

-- what a file's owner may do: three bits
abbrev pub rights_of_owner : ℕ → ℕ
rights_of_owner mode = mode / 64 % 8

-- what its group may do
abbrev pub rights_of_group : ℕ → ℕ
rights_of_group mode = mode / 8 % 8

-- what all others may do
abbrev pub rights_of_others : ℕ → ℕ
rights_of_others mode = mode % 8

-- the permissions with these rights, and without the bits that let a file run as its owner or its group
abbrev pub permissions : ℕ → ℕ → ℕ → ℕ
permissions owner group others = owner * 64 + group * 8 + others

-- the permissions that a new file may have in the place of an old one: with the old owner and the old group all of them;
-- with the old group alone the rights; otherwise the group may do only what all others may do as well
abbrev pub allowed_permissions : PageFile → Found → ℕ
allowed_permissions old new =
    let owner = rights_of_owner old.mode in
    let group = rights_of_group old.mode in
    let others = rights_of_others old.mode in
    if new.owner == old.owner && new.group == old.group then old.mode
    else if new.group == old.group then permissions owner group others
    else permissions owner (bit_and group others) others
