-- The files of a manifest's entries, one after another, and the first entry that isn't accepted.
use Rattle.std.proofs.Common.{◌≡◌, ◌≢◌, ◌<◌, ◌+◌, ℕ, List, [], ◌∷◌, ◌++◌, map, length, take, get_or, Some, codes, option_map, option_and_then, refl, ap, ◌∙◌}
use Rattle.std.proofs.lemmas.List.{get_or-map, length-map, take_more, map_push}
use Rattle.std.proofs.lemmas.Slice.Zip.{all_zipped_more}
use Rattle.serde_json.specs.Data.{Data, null}
use Rattle.serde_json.specs.Find.{get, as_str, as_array}
use Rattle.serde_json.specs.View.{view, items_of, items_view}
use Rattle.serde_json.specs.declared.value.Value.{Value}
use Rattle.relative_path.specs.Steps.{Step, components}
use Rattle.relative_path.specs.Walk.{LeadsBelow, place_of}
use Rattle.relative_path.specs.Normalizing.{IsNormalTextOf}
use Rattle.relative_path.specs.RelativePathBuf.{Buffer}
use Rattle.relative_path_manifest.specs.declared.manifest.ManifestError.{ManifestError}
use Rattle.relative_path_manifest.specs.declared.manifest.ManifestError.TheVariants.{NoBase, NoFiles, NotAString, ClimbsAbove, LeadsToBase, NotPlain, BaseNotPlain, OutOfMemory}
use Rattle.relative_path_files.specs.FromTop.{SpellsPlace}
use Rattle.std.specs.List.{All}
use Rattle.relative_path_files.specs.Names.{IfName}
use Rattle.relative_path_files.proofs.ForCallers.{SpellsPlace-some, place-All}
use Rattle.relative_path_manifest.specs.Manifest.{base_member, item_list, entries_of, OfManifest, IsRefusedManifest, IsFileOf, AreFiles, IsRefusedFor, file_text}

-- the file of an entry whose path has a place with a name
pub IsFileOf-place : (Accepted : List ℕ → Type 0) (base : List Step) (entry : Data) (path place file : List ℕ)
    → as_str entry ≡ Some path → SpellsPlace (components path) place → place ≢ []
    → All (IfName Accepted) (components place) → IsNormalTextOf (base ++ components path) file
    → ((place : List (List ℕ)) → place_of (components path) ≡ Some place → LeadsBelow base place (components file))
    → IsFileOf Accepted base entry file
IsFileOf-place Accepted base entry path place file string spells some all normal below = record {
  path = path;
  place = spells.place;
  string = string;
  named = spells.named;
  not_base = SpellsPlace-some (components path) place spells some;
  accepted = place-All Accepted (components path) place spells all;
  normal = normal;
  below = below spells.place spells.named;
}

-- the items of a list of JSON values
pub item_list-items_of : (ds : List Data) → item_list (items_of ds) ≡ ds
item_list-items_of [] = refl
item_list-items_of (d ∷ ds) = ap (λ es. d ∷ es) (item_list-items_of ds)

-- the files so far, and the file of the next entry
pub AreFiles-next : (Accepted : List ℕ → Type 0) (base : List Step) (values : List Value) (none : Value)
    (files : List Buffer) (file : Buffer) (k : ℕ)
    → k < length values → AreFiles Accepted (map file_text files) base (take k (map view values))
    → IsFileOf Accepted base (view (get_or values k none)) file.text
    → AreFiles Accepted (map file_text (files ++ file ∷ [])) base (take (k + 1) (map view values))
AreFiles-next Accepted base values none files file k l are is =
    let within : k < length (map view values) = rw (length-map values view) l in
    let entry = get_or-map view values k none null l in
    rw (take_more (map view values) k null within, map_push file_text files file)
    (all_zipped_more (IsFileOf Accepted base) (take k (map view values)) (map file_text files) _ file.text are (rw entry is))

-- what holds of a manifest, by its directory and its entries
pub OfManifest-of : (manifest : Data) (base : List ℕ) (entries : List Data) (P : List Step → List Data → Type 0)
    → base_member manifest ≡ Some base → entries_of manifest ≡ Some entries → P (components base) entries
    → OfManifest manifest P
OfManifest-of manifest base entries P based listed holds = (base, entries, based, listed, holds)

-- a manifest with an entry that isn't accepted
pub IsRefusedManifest-entries : (Accepted : List ℕ → Type 0) (manifest : Data) (base : List ℕ) (entries : List Data)
    (refusal : ManifestError) → base_member manifest ≡ Some base → entries_of manifest ≡ Some entries
    → IsRefusedFor Accepted refusal (components base) entries → IsRefusedManifest Accepted manifest refusal
IsRefusedManifest-entries A manifest base entries NoBase based listed is = absurd is
IsRefusedManifest-entries A manifest base entries NoFiles based listed is = absurd is
IsRefusedManifest-entries A manifest base entries (NotAString k) based listed is = (base, entries, based, listed, is)
IsRefusedManifest-entries A manifest base entries (ClimbsAbove k) based listed is = (base, entries, based, listed, is)
IsRefusedManifest-entries A manifest base entries (LeadsToBase k) based listed is = (base, entries, based, listed, is)
IsRefusedManifest-entries A manifest base entries (NotPlain k) based listed is = (base, entries, based, listed, is)
IsRefusedManifest-entries A manifest base entries BaseNotPlain based listed is = absurd is
IsRefusedManifest-entries A manifest base entries OutOfMemory based listed is = tt

-- the entries of a manifest are these values
pub entries_of-values : (manifest : Data) (values : List Value)
    → option_and_then as_array (get (codes "files") manifest) ≡ Some (items_view values)
    → entries_of manifest ≡ Some (map view values)
entries_of-values manifest values is = ap (option_map item_list) is ∙ ap Some (item_list-items_of (map view values))
