-- The manifest has this directory and these entries, and the files are made from both.
use Rattle.std.proofs.Common.{◌≡◌, rules, map, codes, Some, option_and_then, refl}
use Rattle.std.proofs.lemmas.Bool.{both_ways}
use Rattle.std.proofs.lemmas.Result.{IfOk-weaker, IfErr-weaker}
use Rattle.relative_path.specs.RelativePath.{path_text}
use Rattle.serde_json.specs.Find.{get, as_array}
use Rattle.serde_json.specs.View.{view, items_view}
use Rattle.relative_path_manifest.specs.Manifest.{accepted, base_member, entries_of, AreFiles, file_text, HasOtherBase}
use Rattle.relative_path_manifest.proofs.ManifestLemmas.{OfManifest-of, IsRefusedManifest-entries, entries_of-values}
use Rattle.relative_path_manifest.proofs.manifest.read_files.Goals as goal
use Rattle.relative_path_manifest.proofs.manifest.read_files.Goals.{In_ok-files}

-- the directory and the entries of the manifest
members : (c : In_ok-files) → (base_member (view c.args.manifest.now) ≡ Some (path_text c.in_ok-base.base))
    × (entries_of (view c.args.manifest.now) ≡ Some (map view c.in_ok-files.files.now.items))
members c =
    let base : base_member (view c.args.manifest.now) ≡ Some (path_text c.in_ok-base.base) = search rules in
    let listed : option_and_then as_array (get (codes "files") (view c.args.manifest.now))
    ≡ Some (items_view c.in_ok-files.files.now.items) = search rules in
    (base, entries_of-values (view c.args.manifest.now) c.in_ok-files.files.now.items listed)

pub returns-clause-files : goal.returns-clause-files
returns-clause-files c =
    let manifest = view c.args.manifest.now in
    let (base, entries) = members (goal.at.returns-clause-files c).In_ok-files in
    IfOk-weaker c.files_below.result _ _
    (λ files are. OfManifest-of manifest _ _ (AreFiles (accepted c.args.rule) (map file_text files.items)) base entries are)
    (rw c.deref.ensures.value at c.files_below.ensures.files)

pub returns-clause-refused : goal.returns-clause-refused
returns-clause-refused c =
    let manifest = view c.args.manifest.now in
    let (base, entries) = members (goal.at.returns-clause-refused c).In_ok-files in
    IfErr-weaker c.files_below.result _ _
    (λ refusal is. IsRefusedManifest-entries (accepted c.args.rule) manifest _ _ refusal base entries is)
    (rw c.deref.ensures.value at c.files_below.ensures.refused)

pub returns-then-not-accepts-clause-refused : goal.returns-then-not-accepts-clause-refused
returns-then-not-accepts-clause-refused c =
    let manifest = view c.args.manifest.now in
    let (base, entries) = members (goal.at.returns-then-not-accepts-clause-refused c).In_ok-files in
    OfManifest-of manifest _ _ (HasOtherBase (accepted c.args.rule)) base entries
    (λ all. both_ways c.accepts.result c.if-not-accepts.true (c.accepts.ensures.1 all))

pub returns-then-not-accepts-clause-base_not_plain : goal.returns-then-not-accepts-clause-base_not_plain
returns-then-not-accepts-clause-base_not_plain c =
    let other = returns-then-not-accepts-clause-refused c in
    (λ _. other, λ _. refl)
