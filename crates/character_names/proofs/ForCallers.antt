-- Theorems that proofs of other crates may cite.
use Rattle.std.proofs.Common.{◌≡◌, ◌≤◌, ℕ, Bool, true, List, length, take, Some, subst}
use Rattle.std.specs.List.{list_all}
use Rattle.character_names.specs.declared.characters.Characters.{Characters}
use Rattle.character_names.specs.Names.{rows, characters_of, longest_name, IsLongest}
use Rattle.character_names.proofs.LongestLemmas.{longest_name-is}
use Rattle.character_names.proofs.TableLemmas as table

-- a test that each row passes is passed by each name that the table has
pub characters_of-passes : (p : List ℕ × Characters → Bool) → list_all p rows ≡ true → (name : List ℕ) (v : Characters)
    → characters_of name ≡ Some v → p (name, v) ≡ true
characters_of-passes p all name v is = table.characters_of-passes p all name v is

-- the longest name is a name that the text begins with
pub longest_name-found : (text : List ℕ) (n : ℕ) (v : Characters) → longest_name text ≡ Some (n, v)
    → (n ≤ length text) × (characters_of (take n text) ≡ Some v)
longest_name-found text n v is =
    let longest = subst (IsLongest text) is (longest_name-is text) in
    (longest.0, longest.1)
