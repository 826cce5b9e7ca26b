-- What the errors show, and what they print.
use Rattle.std.specs.Prelude.{ℕ, List, codes}
use Rattle.relative_path.specs.declared.error.FromPathError.{FromPathError}
use Rattle.relative_path.specs.declared.error.FromPathErrorKind.{FromPathErrorKind}
use Rattle.relative_path.specs.declared.error.FromPathErrorKind.TheVariants as from_path_kinds
use Rattle.relative_path.specs.declared.error.RelativeToError.{RelativeToError}
use Rattle.relative_path.specs.declared.error.RelativeToErrorKind.{RelativeToErrorKind}
use Rattle.relative_path.specs.declared.error.RelativeToErrorKind.TheVariants as relative_to_kinds
use Rattle.relative_path.specs.declared.error.WriteError.{WriteError}
use Rattle.relative_path.specs.declared.error.WriteError.TheVariants as write_errors

-- the kind of a `FromPathError`
abbrev pub from_path_kind : FromPathError → FromPathErrorKind
from_path_kind error = error.kind

-- what an error of this kind prints
abbrev pub from_path_words : FromPathErrorKind → List ℕ
from_path_words from_path_kinds.NonRelative = codes "path contains non-relative component"
from_path_words from_path_kinds.NonUtf8 = codes "path contains non-utf8 component"
from_path_words from_path_kinds.BadSeparator = codes "path contains platform-specific path separator"
from_path_words from_path_kinds.OutOfMemory = codes "out of memory"

-- the kind of a `RelativeToError`
abbrev pub relative_to_kind : RelativeToError → RelativeToErrorKind
relative_to_kind error = error.kind

-- what an error of this kind prints
abbrev pub relative_to_words : RelativeToErrorKind → List ℕ
relative_to_words relative_to_kinds.NonUtf8 = codes "path contains non-utf8 component"
relative_to_words relative_to_kinds.PrefixMismatch = codes "paths contain different absolute prefixes"
relative_to_words relative_to_kinds.AmbiguousTraversal = codes "path traversal cannot be determined"
relative_to_words relative_to_kinds.IllegalComponent = codes "path contains illegal components"
relative_to_words relative_to_kinds.OutOfMemory = codes "out of memory"

-- what a `WriteError` prints
abbrev pub write_words : WriteError → List ℕ
write_words (write_errors.NoRoom needed) = codes "too few bytes for the text"
write_words write_errors.OutOfMemory = codes "out of memory"
