-- What the code asks of a name, in one pass over its bytes. The proofs show that the answer is that of `IsPlainName`.
use Rattle.std.specs.Prelude.{ℕ, ◌-◌, Bool, ◌||◌, ◌==◌, true, false, List, [], ◌∷◌, length, get_or}
use Rattle.std.specs.Char.{to_ascii_lowercase}
use Rattle.std.specs.List.{list_any}
use Rattle.relative_path.specs.Steps.{Step, cur, up, name}
use Rattle.relative_path_files.specs.Win32.{is_cut, is_reserved, is_trimmed}
use Rattle.relative_path_files.specs.Names.{is_delete, names_device, is_one_of, forks}

-- no plain name has the byte
abbrev pub is_foreign : ℕ → Bool
is_foreign b = is_reserved b || is_cut b || is_delete b

-- the name has such a byte
abbrev pub holds_foreign : List ℕ → Bool
holds_foreign text = list_any is_foreign text

-- the name ends in a dot or a space
abbrev pub ends_in_dot_or_space : List ℕ → Bool
ends_in_dot_or_space text = is_trimmed (get_or text (length text - 1) 0)

-- the text is empty
abbrev pub is_empty : List ℕ → Bool
is_empty [] = true
is_empty (b ∷ bs) = false

-- the name of a device begins with the byte, in lower case
abbrev pub is_device_letter : ℕ → Bool
is_device_letter b = b == 97 || b == 99 || b == 108 || b == 110 || b == 112

-- the text begins with the letter of a device, in any case
abbrev pub begins_as_device : List ℕ → Bool
begins_as_device [] = false
begins_as_device (b ∷ bs) = is_device_letter (to_ascii_lowercase b)

-- the name isn't plain
abbrev pub is_unportable : List ℕ → Bool
is_unportable text =
    is_empty text || holds_foreign text || ends_in_dot_or_space text || names_device text || is_one_of forks text

-- the component is a name that isn't plain
abbrev pub is_unportable_step : Step → Bool
is_unportable_step cur = false
is_unportable_step up = false
is_unportable_step (name text) = is_unportable text
