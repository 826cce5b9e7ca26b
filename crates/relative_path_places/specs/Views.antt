-- What a `NormalView` and a `NamePath` show.
use Rattle.std.specs.Prelude.{ℕ, List}
use Rattle.relative_path.specs.Steps.{Step, components}
use Rattle.relative_path.specs.RelativePath.{path_text, path_components}
use Rattle.relative_path_places.specs.declared.normal_view.NormalView.{NormalView}
use Rattle.relative_path_places.specs.declared.name_path.NamePath.{NamePath}

-- the text of a normal path
abbrev pub view_text : NormalView → List ℕ
view_text view = path_text view.path

-- the components of a normal path
abbrev pub view_components : NormalView → List Step
view_components view = components (view_text view)

-- the text of a path of names
abbrev pub name_text : NamePath → List ℕ
name_text names = path_text names.path

-- the names of a path of names
abbrev pub name_components : NamePath → List Step
name_components names = path_components names.path
