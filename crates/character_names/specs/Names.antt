-- The names of HTML's character references: HTML standard, section 13.5, "Named character references".
use Rattle.std.specs.Prelude.{◌≡◌, ◌≤◌, ◌<◌, ℕ, zero, suc, ◌+◌, ◌-◌, Bool, true, ◌&&◌, ◌==◌, nat_le, not, if◌then◌else◌, List, [], ◌∷◌, map, length, take, drop, slice_index, Option, Some, None}
use Rattle.std.specs.Char.{is_ascii_alphanumeric}
use Rattle.std.specs.Cmp.Lexicographic.{slice_cmp}
use Rattle.std.specs.List.{list_all}
use Rattle.std.specs.Map.{lookup}
use Rattle.std.specs.Ordering.{nat_cmp, is_lt}
use Rattle.std.specs.Str.{bytes_eq}
use Rattle.character_names.specs.declared.characters.Characters.{Characters}
use Rattle.character_names.specs.declared.characters.Characters.TheVariants.{One, Two}
use Rattle.character_names.specs.declared.table.TheConstants.{BOUNDS, CHARACTERS, NAMES}

-- what a pair of the table says: NUL is no second character
abbrev pub characters_at : ℕ × ℕ → Characters
characters_at pair = if pair.1 == 0 then One pair.0 else Two pair.0 pair.1

-- the rows of a table: a name, and what it stands for. The text has the names, and each ends where the next begins
unfoldable pub rows_from : List ℕ → List ℕ → List (ℕ × ℕ) → List (List ℕ × Characters)
rows_from [] text pairs = []
rows_from (start ∷ []) text pairs = []
rows_from (start ∷ end ∷ bounds) text [] = []
rows_from (start ∷ end ∷ bounds) text (pair ∷ pairs) =
    (take (end - start) text, characters_at pair) ∷ rows_from (end ∷ bounds) (drop (end - start) text) pairs

-- the table: each name as it stands after the `&`, with a semicolon at its end or without
unfoldable pub rows : List (List ℕ × Characters)
rows = rows_from BOUNDS NAMES.now CHARACTERS

-- the characters of the first of some rows that has the name
unfoldable pub characters_in : List (List ℕ × Characters) → List ℕ → Option Characters
characters_in rows name = lookup (λ key. bytes_eq key name) rows

-- the characters that a name stands for, if the table has it
unfoldable pub characters_of : List ℕ → Option Characters
characters_of name = characters_in rows name

-- the first result with its length, or the second
abbrev pub or_shorter : ℕ → Option Characters → Option (ℕ × Characters) → Option (ℕ × Characters)
or_shorter n (Some characters) shorter = Some (n, characters)
or_shorter n None shorter = shorter

-- the longest name of at most so many bytes that the text begins with: its length, and what it stands for
abbrev pub longest_within : ℕ → List ℕ → Option (ℕ × Characters)
longest_within zero text = None
longest_within (suc n) text = or_shorter (suc n) (characters_of (take (suc n) text)) (longest_within n text)

-- the longest name that the text begins with
unfoldable pub longest_name : List ℕ → Option (ℕ × Characters)
longest_name text = longest_within (length text) text

-- the text begins with the name that was found, and with no longer name
abbrev pub IsLongest : List ℕ → Option (ℕ × Characters) → Type 0
IsLongest text None = (m : ℕ) → m ≤ length text → characters_of (take m text) ≡ None
IsLongest text (Some (n, characters)) =
    (n ≤ length text) × (characters_of (take n text) ≡ Some characters)
    × ((m : ℕ) → n < m → m ≤ length text → characters_of (take m text) ≡ None)

-- the byte is no letter and no digit
abbrev pub ends_name : ℕ → Bool
ends_name b = not (is_ascii_alphanumeric b)

-- ---- what a binary search needs of a table

-- each text is below the one after it
unfoldable pub ascend : List (List ℕ) → Bool
ascend [] = true
ascend (x ∷ []) = true
ascend (x ∷ y ∷ ys) = is_lt (slice_cmp nat_cmp x y) && ascend (y ∷ ys)

-- no number is above the one after it
unfoldable pub rise : List ℕ → Bool
rise [] = true
rise (m ∷ []) = true
rise (m ∷ n ∷ ns) = nat_le m n && rise (n ∷ ns)

-- no number is above this one
unfoldable pub all_within : ℕ → List ℕ → Bool
all_within most ns = list_all (λ n. nat_le n most) ns

-- the names lie in the text from its start on, one for each pair, and ascend
unfoldable pub is_table : List ℕ → List ℕ → List (ℕ × ℕ) → Bool
is_table bounds text pairs =
    slice_index bounds 0 == 0
    && (length bounds == length pairs + 1
    && (rise bounds && (all_within (length text) bounds && ascend (map (λ row. row.0) (rows_from bounds text pairs)))))
