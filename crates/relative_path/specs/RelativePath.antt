-- What a `RelativePath` shows.
use Rattle.std.specs.Prelude.{ℕ, List}
use Rattle.relative_path.specs.declared.path.RelativePath.{RelativePath}
use Rattle.relative_path.specs.declared.path.Display.{Display}
use Rattle.relative_path.specs.Steps.{Step, components}

-- the text of a path
abbrev pub path_text : RelativePath → List ℕ
path_text path = path.text.now

-- the components of a path
abbrev pub path_components : RelativePath → List Step
path_components path = components (path_text path)

-- the text that a `Display` prints
abbrev pub display_text : Display → List ℕ
display_text display = path_text display.path
