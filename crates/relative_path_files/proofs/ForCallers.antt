-- Theorems that proofs of other crates may cite: what the text of a place says of the place and of its names.
use Rattle.std.proofs.Common.{◌≡◌, ◌≢◌, ℕ, List, [], length, Some}
use Rattle.std.specs.List.{All}
use Rattle.relative_path.specs.Steps.{Step, components}
use Rattle.relative_path.specs.Walk.{place_of}
use Rattle.relative_path_files.specs.FromTop.{SpellsPlace}
use Rattle.relative_path_files.specs.Names.{IfName}
use Rattle.relative_path_files.proofs.FromTopLemmas as from_top
use Rattle.relative_path_files.proofs.NamesLemmas as names

-- the empty text spells the top
pub SpellsPlace-empty : (cs : List Step) (text : List ℕ) → length text ≡ 0 → SpellsPlace cs text
    → place_of cs ≡ Some []
SpellsPlace-empty = from_top.SpellsPlace-empty

-- a text that isn't empty spells a place with a name
pub SpellsPlace-some : (cs : List Step) (text : List ℕ) (spells : SpellsPlace cs text) → text ≢ [] → spells.place ≢ []
SpellsPlace-some = from_top.SpellsPlace-some

-- P holds of each name of a place exactly if it holds of each name among the components of the place's text
pub place-All : (P : List ℕ → Type 0) (cs : List Step) (text : List ℕ) (spells : SpellsPlace cs text)
    → All (IfName P) (components text) → All P spells.place
place-All = names.place-All

pub All-place : (P : List ℕ → Type 0) (cs : List Step) (text : List ℕ) (spells : SpellsPlace cs text)
    → All P spells.place → All (IfName P) (components text)
All-place = names.All-place
