use Rattle.std.proofs.Common.{◌≡◌, [], ◌∷◌, Option, Some, None, Bor, List, ℕ, sym}
use Rattle.std.specs.Option.{option_copied}
use Rattle.std.specs.Prelude.{IfSome, slice_get}
use Rattle.relative_path.specs.Steps.{Step, name, components}
use Rattle.relative_path.specs.Editing.{kept_len}
use Rattle.relative_path.specs.Naming.{last_name, file_name_of}
use Rattle.relative_path.specs.RelativePath.{path_text, path_components}
use Rattle.relative_path.proofs.StepsLemmas.{SpellThemselves-components}
use Rattle.relative_path.proofs.NamingExtensionLemmas.{slice_get-last_name}
use Rattle.relative_path.proofs.NamingEditsLemmas.{SpellsItself-last_name}
use Rattle.relative_path.proofs.path.RelativePath.file_name.Goals as goal

placed : (cs : List Step) (found : Option (Bor (List ℕ))) → option_copied found ≡ last_name cs
    → IfSome found (λ n. slice_get cs (kept_len cs) ≡ Some (name n.now))
placed cs None is = tt
placed cs (Some n) is = slice_get-last_name cs n.now (sym is)

-- the file name of a text is one component
alone : (text : List ℕ) (found : Option (Bor (List ℕ))) → option_copied found ≡ file_name_of text
    → IfSome found (λ n. components n.now ≡ name n.now ∷ [])
alone text None is = tt
alone text (Some n) is = SpellsItself-last_name (components text) n.now (SpellThemselves-components text) (sym is)

pub returns-clause-alone : goal.returns-clause-alone
returns-clause-alone c = alone (path_text c.args.self) _ c.last_component.ensures.name

pub returns-clause-placed : goal.returns-clause-placed
returns-clause-placed c = placed (path_components c.args.self) _ c.last_component.ensures.name
