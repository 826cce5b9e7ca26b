-- The faults' names.
use Rattle.std.specs.Prelude.{ℕ, List, codes}
use Rattle.relpath_lib.specs.declared.fault.Fault.{Fault}
use Rattle.relpath_lib.specs.declared.fault.Fault.TheVariants.{Read, InputTooLong, NotText, OutOfMemory, Write}

-- the fault's name
abbrev pub fault_name : Fault → List ℕ
fault_name Read = codes "Read"
fault_name InputTooLong = codes "InputTooLong"
fault_name NotText = codes "NotText"
fault_name OutOfMemory = codes "OutOfMemory"
fault_name Write = codes "Write"
