-- What the table of names says of its characters.
use Rattle.std.proofs.Common.{◌≡◌, ℕ, true, List, take, Some, refl, sym}
use Rattle.std.specs.List.{list_all}
use Rattle.character_names.proofs.ForCallers.{characters_of-passes, longest_name-found}
use Rattle.character_names.specs.declared.characters.Characters.{Characters}
use Rattle.character_names.specs.Names.{longest_name, rows, rows_from}
use Rattle.target_paths.specs.Shown.{is_plain_pair}

rows-plain : list_all (λ row. is_plain_pair row.1) rows ≡ true
unfolding rows rows_from
rows-plain = refl

-- each of two characters of a name is read as itself
pub longest_name-plain : (text : List ℕ) (n : ℕ) (v : Characters) → Some (n, v) ≡ longest_name text → is_plain_pair v ≡ true
longest_name-plain text n v is =
    characters_of-passes (λ row. is_plain_pair row.1) rows-plain (take n text) v (longest_name-found text n v (sym is)).1
