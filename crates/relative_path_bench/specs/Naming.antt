-- What a parent and a file name are together.
use Rattle.std.specs.Prelude.{◌-◌, List, length, take}
use Rattle.std.specs.List.{suffix_len}
use Rattle.relative_path.specs.Steps.{Step}
use Rattle.relative_path.specs.Editing.{is_cur}

-- the components without each `.` at the end
abbrev pub without_last_curs : List Step → List Step
without_last_curs cs = take (length cs - suffix_len is_cur cs) cs
