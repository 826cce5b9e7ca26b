-- The place of a normal text, and places below one another.
use Rattle.std.proofs.Common.{◌≡◌, ◌≢◌, ℕ, List, [], ◌∷◌, ◌++◌, Some, drop, length, map, take, refl, sym, ap, ◌∙◌, append_assoc}
use Rattle.std.proofs.Math.Seq.{drop-append_seam, take-append_seam}
use Rattle.std.proofs.lemmas.List.{drop-map, map-append, take-append-drop, take-map}
use Rattle.std.specs.List.{join_with_byte}
use Rattle.relative_path.specs.Steps.{Step, name, step_text, components, slash, spell}
use Rattle.relative_path.specs.Walk.{place_of}
use Rattle.relative_path.specs.Normalizing.{IsNormalTextOf}
use Rattle.relative_path.proofs.ForCallers.{components-place}
use Rattle.relmove_trees.specs.FileTrees.{names_of}
use Rattle.relmove_steps.specs.Actions.{IsBelow}
use Rattle.relmove_steps.specs.Directories.{HasDirectory}
use Rattle.relmove_plan.proofs.WholeTreesLemmas.{map_none}

map-step_text-names : (place : List (List ℕ)) → map step_text (map name place) ≡ place
map-step_text-names [] = refl
map-step_text-names (n ∷ place) = ap (λ rest. n ∷ rest) (map-step_text-names place)

-- the names of a text with these names as its components
pub names_of-names : (text : List ℕ) (place : List (List ℕ)) → components text ≡ map name place → names_of text ≡ place
names_of-names text place is = ap (map step_text) is ∙ map-step_text-names place

-- a text that spells these names
pub joined-names : (text : List ℕ) (place : List (List ℕ)) → text ≡ spell (components text)
    → components text ≡ map name place → text ≡ join_with_byte slash place
joined-names text place spelled is = spelled ∙ ap (join_with_byte slash) (names_of-names text place is)

module _ (cs : List Step) (text : List ℕ) (place : List (List ℕ)) (is : IsNormalTextOf cs text)
    (leads : place_of cs ≡ Some place)
  where
    -- the names of a normal text are those of its place
    pub names_of-normal : names_of text ≡ place
    names_of-normal = names_of-names text place (components-place is leads)

    -- a normal text spells its place
    pub spelled-place : text ≡ join_with_byte slash place
    spelled-place = is.normal_text.spelled ∙ ap (join_with_byte slash) names_of-normal

-- a place below another, spelled
IsBelow-joined : (top : List (List ℕ)) (n : List ℕ) (rest : List (List ℕ)) → top ≢ []
    → IsBelow (join_with_byte slash (top ++ n ∷ rest)) (join_with_byte slash top)
IsBelow-joined [] n rest some = absurd (some refl)
IsBelow-joined (x ∷ []) n rest some = (join_with_byte slash (n ∷ rest), refl)
IsBelow-joined (x ∷ y ∷ top) n rest some =
    let (below, is) = IsBelow-joined (y ∷ top) n rest (λ none. absurd (let e = none in cc)) in (
      below,
      ap (λ joined. x ++ slash ∷ joined) is
          ∙ sym (append_assoc x (slash ∷ join_with_byte slash (y ∷ top)) (slash ∷ below)),
    )

pub IsBelow-spelled : (one other : List ℕ) (top : List (List ℕ)) (n : List ℕ) (rest : List (List ℕ)) → top ≢ []
    → one ≡ join_with_byte slash top → other ≡ join_with_byte slash (top ++ n ∷ rest) → IsBelow other one
IsBelow-spelled one other top n rest some one_is other_is =
    let (below, is) = IsBelow-joined top n rest some in
    (below, other_is ∙ is ∙ ap (λ joined. joined ++ slash ∷ below) (sym one_is))

-- ---- directories above a path

-- a front of the names of a path is a directory above it
pub HasDirectory-names : (cs : List Step) (text : List ℕ) (front rest : List (List ℕ)) → IsNormalTextOf cs text
    → place_of cs ≡ Some (front ++ rest) → front ≢ [] → rest ≢ [] → HasDirectory (components text) (map name front)
HasDirectory-names cs text front rest is leads some some_rest = record {
  rest = map name rest;
  split = components-place is leads ∙ map-append name front rest;
  some_front = λ none. some (map_none name front none);
  some_rest = λ none. some_rest (map_none name rest none);
}

-- and such a directory has the names of a front
pub HasDirectory-place : (cs ds : List Step) (text : List ℕ) (place : List (List ℕ)) → IsNormalTextOf cs text
    → place_of cs ≡ Some place → HasDirectory (components text) ds
    → (front : List (List ℕ)) × (rest : List (List ℕ)) × (place ≡ front ++ rest) × (ds ≡ map name front) × (front ≢ [])
    × (rest ≢ [])
HasDirectory-place cs ds text place is leads above =
    let split : map name place ≡ ds ++ above.rest = sym (components-place is leads) ∙ above.split in
    let k = length ds in
    let ds_is : ds ≡ map name (take k place) =
    sym (take-append_seam ds above.rest) ∙ ap (take k) (sym split) ∙ take-map name k place in
    let rest_is : above.rest ≡ map name (drop k place) =
    sym (drop-append_seam ds above.rest) ∙ ap (drop k) (sym split) ∙ drop-map name k place in (
      take k place,
      drop k place,
      sym (take-append-drop k place),
      ds_is,
      λ none. above.some_front (ds_is ∙ ap (map name) none),
      λ none. above.some_rest (rest_is ∙ ap (map name) none),
    )
