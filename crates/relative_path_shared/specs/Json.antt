-- JSON strings as paths.
use Rattle.std.specs.Prelude.{ℕ, List, Option, codes}
use Rattle.serde_json.specs.View.{view}
use Rattle.serde_json.specs.Find.{as_str}
use Rattle.serde_json.specs.declared.value.Value.{Value}
use Rattle.relative_path_shared.specs.declared.json.FromValueError.{FromValueError}
use Rattle.relative_path_shared.specs.declared.json.FromValueError.TheVariants.{NotAString, OutOfMemory}

-- the text of a value that is a string
abbrev pub string_text : Value → Option (List ℕ)
string_text value = as_str (view value)

-- what the error prints
abbrev pub error_text : FromValueError → List ℕ
error_text NotAString = codes "expected a relative path"
error_text OutOfMemory = codes "out of memory"
