-- The entries of an index: each is a text with a number.
use Rattle.std.specs.Prelude.{ℕ, List, Option}
use Rattle.std.specs.BTreeMap.{btree_map_len, get_by_text}
use Rattle.relative_path_places.specs.declared.place_index.PlaceIndex.{PlaceIndex}

-- the number that the index has under the text
abbrev pub number_at : PlaceIndex → List ℕ → Option ℕ
number_at index text = get_by_text index.by_text text

-- how many texts the index has a number for
abbrev pub entry_count : PlaceIndex → ℕ
entry_count index = btree_map_len index.by_text
