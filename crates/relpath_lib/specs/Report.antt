-- What the program prints of how `run` ended, and its exit status.
use Rattle.std.specs.Prelude.{ℕ, List, [], ◌++◌, codes, Result, Ok, Err}
use Rattle.relpath_lib.specs.declared.fault.Fault.{Fault}
use Rattle.relpath_lib.specs.Fault.{fault_name}

-- what the program prints of how `run` ended: nothing, or a line with the fault's name
abbrev pub report_of : Result (Unit {0}) Fault → List ℕ
report_of (Ok _) = []
report_of (Err fault) = codes "relpath: " ++ fault_name fault ++ codes "\n"

-- the program's exit status
abbrev pub status_of : Result (Unit {0}) Fault → ℕ
status_of (Ok _) = 0
status_of (Err fault) = 1
