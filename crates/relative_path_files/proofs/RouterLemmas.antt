-- The text of a place, pushed onto a root, and the last component of a request.
use Rattle.std.proofs.Common.{◌≡◌, ◌≢◌, ◌-◌, ℕ, List, [], ◌∷◌, ◌++◌, map, length, get_or, Option, Some, None, refl, sym, ap, subst, ◌∙◌}
use Rattle.std.proofs.lemmas.Option.{same_Some}
use Rattle.std.specs.List.{All}
use Rattle.relative_path.specs.Steps.{Step, name, components, spell, SpellThemselves}
use Rattle.relative_path.specs.Editing.{with_separator, unslashed}
use Rattle.relative_path.specs.Walk.{place_of}
use Rattle.relative_path.proofs.ForCallers.{SpellThemselves-components, name-proper, unslashed-spell}
use Rattle.relative_path_files.specs.FromTop.{SpellsPlace}
use Rattle.relative_path_files.specs.Names.{IfName, IsPlainName}
use Rattle.relative_path_files.specs.Router.{below, added, IsBelowRoot, HasPlainPlace}
use Rattle.relative_path_files.proofs.NamesLemmas.{place-All}

-- a text of names is pushed as it is
added-spell : (root : List ℕ) (place : List (List ℕ)) → SpellThemselves (map name place)
    → added root (spell (map name place)) ≡ below root place
added-spell root [] proper = refl
added-spell root (n ∷ place) proper =
    pushes (spell (map name (n ∷ place))) (unslashed-spell (map name (n ∷ place)) proper)
    (λ e. (name-proper n proper.0).0 (starts_empty n place e)) where
      pushes : (text : List ℕ) → unslashed text ≡ text → text ≢ [] → added root text ≡ with_separator root ++ text
      pushes [] same some = absurd (some refl)
      pushes (b ∷ bs) same some = ap (λ text. with_separator root ++ text) same

      starts_empty : (n : List ℕ) (place : List (List ℕ)) → spell (map name (n ∷ place)) ≡ [] → n ≡ []
      starts_empty [] place e = refl
      starts_empty (b ∷ bs) [] e = absurd (cc)
      starts_empty (b ∷ bs) (m ∷ place) e = absurd (cc)

-- the root, and then the names of the place
pub IsBelowRoot-added : (root : List ℕ) (request : List Step) (text path : List ℕ) → SpellsPlace request text
    → path ≡ added root text → IsBelowRoot root request path
IsBelowRoot-added root request text path spells is =
    let proper : SpellThemselves (map name spells.place) = rw spells.names at (SpellThemselves-components text) in
    record {
      place = spells.place;
      named = spells.named;
      text = is ∙ ap (added root) spells.spelled ∙ added-spell root spells.place proper;
    }

-- a list has one place, and its names are plain if the components of its text are
pub HasPlainPlace-text : (request : List Step) (text : List ℕ) → SpellsPlace request text
    → All (IfName IsPlainName) (components text) → HasPlainPlace request
HasPlainPlace-text request text spells plain = λ place named.
    let same : spells.place ≡ place = same_Some spells.place place (sym spells.named ∙ named) in
    subst (All IsPlainName) same (place-All IsPlainName request text spells plain)
