-- The directories from which the paths in a file lead.
use Rattle.std.specs.Prelude.{ℕ, List}
use Rattle.relative_path.specs.Steps.{Step}
use Rattle.relative_path.specs.RelativePath.{path_components, path_text}
use Rattle.relmove_mentions.specs.declared.bases.Base.{Base}

-- the text of the directory
abbrev pub base_text : Base → List ℕ
base_text base = path_text base.path

-- its components
abbrev pub base_components : Base → List Step
base_components base = path_components base.path
