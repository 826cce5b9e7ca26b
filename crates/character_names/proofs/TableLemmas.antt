-- What holds of each row of the table.
use Rattle.std.proofs.Common.{◌≡◌, ℕ, ◌-◌, Bool, true, false, cond, List, [], ◌∷◌, length, take, Some, None, refl, subst}
use Rattle.std.proofs.lemmas.Bool.{and_parts}
use Rattle.std.proofs.lemmas.Slice.Eq.{bytes_eq-Decides}
use Rattle.std.specs.Char.{is_ascii_alphanumeric}
use Rattle.std.specs.List.{list_all}
use Rattle.std.specs.Map.{lookup}
use Rattle.std.specs.Str.{bytes_eq}
use Rattle.character_names.specs.declared.characters.Characters.{Characters}
use Rattle.character_names.specs.declared.table.TheConstants.{BOUNDS, CHARACTERS, NAMES}
use Rattle.character_names.specs.Names.{all_within, ascend, characters_in, characters_of, is_table, rise, rows, rows_from}

-- the table is one
pub is_table-NAMES : is_table BOUNDS NAMES.now CHARACTERS ≡ true
unfolding is_table rise all_within ascend rows_from
is_table-NAMES = refl

-- ---- what each row passes

lookup-passes : (p : List ℕ × Characters → Bool) (es : List (List ℕ × Characters)) (name : List ℕ) (v : Characters)
    → list_all p es ≡ true → lookup (λ key. bytes_eq key name) es ≡ Some v → p (name, v) ≡ true
lookup-passes p [] name v all is = absurd (cc)
lookup-passes p ((key, value) ∷ es) name v all is =
    let (first, rest) = and_parts (p (key, value)) (list_all p es) all in
    of (bytes_eq key name) refl first (lookup-passes p es name v rest) is where
      of : (t : Bool) → bytes_eq key name ≡ t → p (key, value) ≡ true
          → (lookup (λ k. bytes_eq k name) es ≡ Some v → p (name, v) ≡ true)
          → cond t (Some value) (lookup (λ k. bytes_eq k name) es) ≡ Some v → p (name, v) ≡ true
      of true at first later is =
          let same : key ≡ name = (bytes_eq-Decides key name).0 at in
          let found : value ≡ v = cc in
          subst (λ k. p (k, v) ≡ true) same (subst (λ w. p (key, w) ≡ true) found first)
      of false at first later is = later is

-- a test that each row passes is passed by each name that the table has
pub characters_of-passes : (p : List ℕ × Characters → Bool) → list_all p rows ≡ true → (name : List ℕ) (v : Characters)
    → characters_of name ≡ Some v → p (name, v) ≡ true
unfolding characters_of characters_in
characters_of-passes p all name v is = lookup-passes p rows name v all is

-- all bytes of a name but its last are letters and digits
abbrev pub has_form : List ℕ → Bool
has_form name = list_all is_ascii_alphanumeric (take (length name - 1) name)

pub rows-form : list_all (λ row. has_form row.0) rows ≡ true
unfolding rows rows_from
rows-form = refl

pub characters_of-empty : characters_of [] ≡ None
unfolding characters_of characters_in rows rows_from
characters_of-empty = refl
