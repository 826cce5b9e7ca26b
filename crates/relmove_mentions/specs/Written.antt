-- When a text writes a path.
use Rattle.std.specs.Prelude.{◌⊎◌, ℕ, Bool, ◌||◌, nat_lt, List, length, map, ◌++◌, IsSome, IsTrue, not}
use Rattle.std.specs.List.{Contains}
use Rattle.std.specs.Str.{IsUtf8}
use Rattle.percent_encoding.specs.Percent.{percent_decode}
use Rattle.relative_path.specs.Steps.{Step, components}
use Rattle.relative_path.specs.Walk.{IsSame}
use Rattle.relative_path.specs.Naming.{file_name_of}
use Rattle.relative_path.specs.RelativePath.{path_components}
use Rattle.relative_path.specs.Unix.{has_root}
use Rattle.relmove_mentions.specs.First.{IsFirst}
use Rattle.relmove_mentions.specs.Names.{names_of}
use Rattle.relmove_mentions.specs.declared.file_text.FileText.{FileText}

-- the text says more than a name: it begins with a slash, or has a directory before its name
abbrev pub has_directory : List ℕ → Bool
has_directory text = has_root text || nat_lt 1 (length (components text))

-- the components lead to a name of the path
pub record LeadsToName (cs : List Step) (old : List ℕ) : Type 0 where
  pub name : List Step
  pub is_name : Contains (names_of old) name
  pub same : IsSame cs name

-- the components lead to a name that stands for the path: this is the first of the old paths with such a name
abbrev pub LeadsToPath : List (List ℕ) → List Step → List ℕ → Type 0
LeadsToPath olds cs old = IsFirst (LeadsToName cs) olds old

-- from one of the directories, the components lead to a name that stands for the path
pub record LeadsFrom (olds : List (List ℕ)) (directories : List (List Step)) (cs : List Step) (old : List ℕ) : Type 0 where
  pub directory : List Step
  pub is_one : Contains directories directory
  pub leads : LeadsToPath olds (directory ++ cs) old

-- the text leads from a directory of the file; a text with a slash at its start leads from a top alone
abbrev pub LeadsFromDirectory : List (List ℕ) → FileText → List ℕ → List ℕ → Type 0
LeadsFromDirectory olds file text old =
    IsTrue (not (has_root text)) × LeadsFrom olds (map path_components file.directories.now) (components text) old

-- the text leads from a top; a name alone doesn't
abbrev pub LeadsFromTop : List (List ℕ) → FileText → List ℕ → List ℕ → Type 0
LeadsFromTop olds file text old =
    IsTrue (has_directory text) × LeadsFrom olds (map path_components file.tops.now) (components text) old

-- in this file, the text stands for one of the old paths: it ends in a name, and leads to a name that stands for the path
pub record StandsFor (olds : List (List ℕ)) (file : FileText) (text old : List ℕ) : Type 0 where
  pub utf8 : IsUtf8 text
  pub named : IsSome (file_name_of text)
  pub leads : LeadsFromDirectory olds file text old ⊎ LeadsFromTop olds file text old

-- in this file, the bytes write one of the old paths: as they are, or percent-encoded
abbrev pub IsWritten : List (List ℕ) → FileText → List ℕ → List ℕ → Type 0
IsWritten olds file bytes old = StandsFor olds file bytes old ⊎ StandsFor olds file (percent_decode bytes) old
