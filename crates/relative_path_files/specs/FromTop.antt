-- The text of a path's place from the top.
use Rattle.std.specs.Prelude.{◌≡◌, ℕ, List, map, Some}
use Rattle.relative_path.specs.Steps.{Step, name, components, spell}
use Rattle.relative_path.specs.Walk.{place_of}

-- the text is the names of the place where the components lead from the top, joined by single slashes
pub record SpellsPlace (cs : List Step) (text : List ℕ) : Type 0 where
  pub place : List (List ℕ)
  pub named : place_of cs ≡ Some place
  pub names : components text ≡ map name place
  pub spelled : text ≡ spell (map name place)
