-- How a call ended. `enum relative_path_status` of the header has the same numbers.
use Rattle.std.specs.Prelude.{ℕ}

-- the answer is there
abbrev pub done : ℕ
done = 0

-- an argument isn't UTF-8
abbrev pub not_utf8 : ℕ
not_utf8 = 1

-- the answer is that there is none
abbrev pub absent : ℕ
absent = 2

-- the caller's memory is too short for the text
abbrev pub no_room : ℕ
no_room = 3

-- an allocation failed
abbrev pub out_of_memory : ℕ
out_of_memory = 4

-- the platform path begins with a slash
abbrev pub non_relative : ℕ
non_relative = 5

-- one of the platform paths begins with a slash, and the other doesn't
abbrev pub prefix_mismatch : ℕ
prefix_mismatch = 6

-- the root climbs above the components that both platform paths begin with
abbrev pub ambiguous_traversal : ℕ
ambiguous_traversal = 7
