-- How Win32 reads a text as names, by two public pages of Microsoft: "Naming Files, Paths, and Namespaces"
-- (learn.microsoft.com/windows/win32/fileio/naming-a-file), on reserved characters and on the end of a name, and "File
-- path formats on Windows systems" (learn.microsoft.com/dotnet/standard/io/file-path-formats), on separators and on the
-- characters that are trimmed. The model reads each name as the last of its path, where every dot and space at the end
-- is trimmed. It says nothing of `.`, `..` and devices.
use Rattle.std.specs.Prelude.{ℕ, ◌-◌, Bool, ◌==◌, ◌||◌, nat_lt, List, length, take, map, Option, Some, None, if◌then◌else◌}
use Rattle.std.specs.List.{list_any, slice_split, suffix_len}
use Rattle.std.specs.Str.{byte}
use Rattle.relative_path.specs.Steps.{is_slash}
use Rattle.relative_path.specs.Naming.{is_dot}

-- the byte is a backslash or a slash, which separate names, or a colon, which ends a drive's letter or a file's name
-- before the name of a stream
abbrev pub is_cut : ℕ → Bool
is_cut b = b == byte "\\" || is_slash b || b == byte ":"

-- the byte is one that no name has: 0 to 31, and `<`, `>`, `"`, `|`, `?`, `*`
abbrev pub is_reserved : ℕ → Bool
is_reserved b =
    nat_lt b 32 || b == byte "<" || b == byte ">" || b == byte "\"" || b == byte "|" || b == byte "?" || b == byte "*"

-- the byte is a space
abbrev pub is_space : ℕ → Bool
is_space b = b == byte " "

-- the byte is a dot or a space, which Win32 trims at the end of a name
abbrev pub is_trimmed : ℕ → Bool
is_trimmed b = is_dot b || is_space b

-- the text without the dots and spaces at its end
abbrev pub trimmed : List ℕ → List ℕ
trimmed text = take (length text - suffix_len is_trimmed text) text

-- the names that Win32 reads: the text cut, each piece trimmed; no names if a byte is reserved
abbrev pub win32_names : List ℕ → Option (List (List ℕ))
win32_names text = if list_any is_reserved text then None else Some (map trimmed (slice_split is_cut text))
