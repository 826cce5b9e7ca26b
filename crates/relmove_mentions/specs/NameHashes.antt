-- Hashes of the last names of paths.
use Rattle.std.specs.Prelude.{ℕ, ◌+◌, ◌*◌, ◌%◌, ◌^◌, List, Option, None, if◌then◌else◌}
use Rattle.std.specs.List.{fold}
use Rattle.std.specs.Option.{option_and_then, option_map}
use Rattle.relative_path.specs.Steps.{Step}
use Rattle.relative_path.specs.Editing.{kept}
use Rattle.relative_path.specs.Naming.{last_name}
use Rattle.relmove_mentions.specs.Names.{has_steps}

-- the hash of a text with one more byte
abbrev pub next_hash : ℕ → ℕ → ℕ
next_hash hash b = (hash * 31 % 2 ^ 64 + b) % 2 ^ 64

-- the hash of a text
abbrev pub hash_of : List ℕ → ℕ
hash_of text = fold next_hash 0 text

-- the hash of a name and the one before it, of which these are the hashes, if there are both
abbrev pub two_hash : Option ℕ → Option ℕ → Option ℕ
two_hash before name = option_and_then (λ n. option_map (λ d. (d * 1000003 % 2 ^ 64 + n) % 2 ^ 64) before) name

-- the hash of the last name of a list
abbrev pub last_hash : List Step → Option ℕ
last_hash cs = option_map hash_of (last_name cs)

-- the hash of the last two names of a list
abbrev pub last_two_hash : List Step → Option ℕ
last_two_hash cs = two_hash (last_hash (kept cs)) (last_hash cs)

-- the hash of the last three names of a list
abbrev pub last_three_hash : List Step → Option ℕ
last_three_hash cs = two_hash (last_hash (kept (kept cs))) (last_two_hash cs)

-- the hash of the name that a list is, apart from each `.`
abbrev pub name_alone : List Step → Option ℕ
name_alone cs = if has_steps (kept cs) then None else last_hash cs

-- the hash of the name or the two names that a list is
abbrev pub short_hash : List Step → Option ℕ
short_hash cs =
    if has_steps (kept cs) then (if has_steps (kept (kept cs)) then None else last_two_hash cs) else last_hash cs
