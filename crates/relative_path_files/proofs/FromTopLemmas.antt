-- The place that a normal text names.
use Rattle.std.proofs.Common.{◌≡◌, ◌≢◌, ℕ, List, [], ◌∷◌, map, length, Option, None, Some, IsSome, refl, sym, ap, ◌∙◌, arith, true≢false}
use Rattle.relative_path.specs.Steps.{Step, name, spell}
use Rattle.relative_path.specs.Normalizing.{IsNormalTextOf}
use Rattle.relative_path.proofs.ForCallers.{components-place}
use Rattle.relative_path.proofs.OnLiterals.{relative_path_on_literals}
use Rattle.relative_path.specs.Walk.{place_of}
use Rattle.relative_path_files.specs.FromTop.{SpellsPlace}

-- the normal text of a list that leads to a place spells the place
pub SpellsPlace-normal : (cs : List Step) (text : List ℕ) → IsNormalTextOf cs text → IsSome (place_of cs)
    → SpellsPlace cs text
SpellsPlace-normal cs text normal some = spells (place_of cs) refl some where
  spells : (found : Option (List (List ℕ))) → place_of cs ≡ found → IsSome found → SpellsPlace cs text
  spells None is some = absurd (true≢false (sym some))
  spells (Some place) is some =
      let names = components-place normal is in
      record { place = place; named = is; names = names; spelled = normal.normal_text.spelled ∙ ap spell names }

-- the empty text spells the top
pub SpellsPlace-empty : (cs : List Step) (text : List ℕ) → length text ≡ 0 → SpellsPlace cs text
    → place_of cs ≡ Some []
unfolding relative_path_on_literals
SpellsPlace-empty cs (b ∷ text) none spells = absurd (omega arith)
SpellsPlace-empty cs [] none spells = tell spells.place spells.names spells.named where
  tell : (place : List (List ℕ)) → [] ≡ map name place → place_of cs ≡ Some place → place_of cs ≡ Some []
  tell [] e named = named
  tell (n ∷ place) e named = absurd (omega (arith, ap length e))

-- a text that isn't empty spells a place with a name
pub SpellsPlace-some : (cs : List Step) (text : List ℕ) (spells : SpellsPlace cs text) → text ≢ [] → spells.place ≢ []
SpellsPlace-some cs text spells some none = some (spells.spelled ∙ ap (λ place. spell (map name place)) none)
