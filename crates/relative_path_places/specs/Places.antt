-- The directory of a file.
use Rattle.std.specs.Prelude.{List, take}
use Rattle.relative_path.specs.Steps.{Step}
use Rattle.relative_path.specs.Editing.{kept_len}

-- the directory of a file: its components before the last one that is no `.`
abbrev pub directory : List Step → List Step
directory file = take (kept_len file) file
