-- File names, their stems and extensions, and the texts that setting them leaves.
use Rattle.std.specs.Prelude.{◌≡◌, ℕ, ◌+◌, ◌-◌, Bool, not, ◌&&◌, ◌==◌, List, [], ◌∷◌, ◌++◌, Option, Some, None, MatchOption, IsSome, ◌↔◌, is_some, length, slice_get, if◌then◌else◌}
use Rattle.std.specs.Option.{option_and_then}
use Rattle.std.specs.List.{list_all, before_last, after_last}
use Rattle.relative_path.specs.Steps.{Step, cur, up, name, dot, is_slash, is_not_empty, components}
use Rattle.relative_path.specs.Slices.{IsCut}
use Rattle.relative_path.specs.Walk.{walk}
use Rattle.relative_path.specs.Editing.{kept_len, kept, pushed, without_cur_dirs, IsPopped}

-- the name that a component is, if it is a name
abbrev pub name_of : Step → Option (List ℕ)
name_of cur = None
name_of up = None
name_of (name n) = Some n

-- the last component other than `.`, if there is one
abbrev pub last_other : List Step → Option Step
last_other cs = slice_get (without_cur_dirs cs) (length (without_cur_dirs cs) - 1)

-- the file name of a list of components: the last component other than `.`, if it is a name
abbrev pub last_name : List Step → Option (List ℕ)
last_name cs = option_and_then name_of (last_other cs)

-- the file name of a text
abbrev pub file_name_of : List ℕ → Option (List ℕ)
file_name_of text = last_name (components text)

-- the byte is a dot
abbrev pub is_dot : ℕ → Bool
is_dot b = b == dot

-- the name has a byte before its last dot
abbrev pub has_stem : List ℕ → Bool
has_stem n = is_not_empty (before_last is_dot n)

-- the name up to its last dot, or the whole name if it has no dot, or only a leading one
abbrev pub stem_of : List ℕ → List ℕ
stem_of n = if has_stem n then before_last is_dot n else n

-- the part of the name after its last dot; none if the name has no dot, or only a leading one
abbrev pub extension_of : List ℕ → Option (List ℕ)
extension_of n = if has_stem n then Some (after_last is_dot n) else None

-- the name is the stem alone, or the stem, a dot and the extension
abbrev pub IsStemAndExtension : List ℕ → List ℕ → Option (List ℕ) → Type 0
IsStemAndExtension n stem extension = MatchOption extension (n ≡ stem) (λ e. n ≡ stem ++ dot ∷ e)

-- the byte is neither a dot nor a slash
abbrev pub is_plain_byte : ℕ → Bool
is_plain_byte b = not (is_dot b) && not (is_slash b)

-- the text can be a whole extension: it isn't empty, and has no dot and no slash
abbrev pub is_plain_extension : List ℕ → Bool
is_plain_extension e = is_not_empty e && list_all is_plain_byte e

-- the text can come after a dot in a name: it isn't empty, and has no slash
abbrev pub is_extension : List ℕ → Bool
is_extension e = is_not_empty e && list_all (λ b. not (is_slash b)) e

-- the components that a new file name comes after: those that a parent keeps if there is a file name, and all otherwise
abbrev pub base_components : List Step → List Step
base_components cs = if is_some (last_name cs) then kept cs else cs

-- the directories of cs and ds have the same components, and from each base both lead to a place or neither does
pub record IsBeside (cs ds : List Step) : Type 0 where
  pub directory : kept ds ≡ kept cs
  pub leads : (base : List (List ℕ)) → IsSome (walk base cs) ↔ IsSome (walk base ds)

-- front is what a new file name is pushed onto: what `pop` leaves if the text has a file name, and the text otherwise
abbrev pub IsBase : List ℕ → List ℕ → Type 0
IsBase text front = MatchOption (file_name_of text) (front ≡ text) (λ _. IsPopped text front)

-- named is the text with a new file name
abbrev pub IsNamed : List ℕ → List ℕ → List ℕ → Type 0
IsNamed text f named = (front : List ℕ) × IsBase text front × (named ≡ pushed front f)

-- a dot and the extension; nothing for an empty extension
abbrev pub dotted : List ℕ → List ℕ
dotted [] = []
dotted (b ∷ bs) = dot ∷ b ∷ bs

-- extended is the text up to the end of the stem of its file name, followed by a dot and the extension unless the
-- extension is empty; without a file name it is the text
abbrev pub IsExtended : List ℕ → List ℕ → List ℕ → Type 0
IsExtended text e extended = MatchOption (file_name_of text) (extended ≡ text)
    (λ n. (head : List ℕ) × IsCut text (kept_len (components text) + 1) (head ++ n)
    × (extended ≡ head ++ stem_of n ++ dotted e))
