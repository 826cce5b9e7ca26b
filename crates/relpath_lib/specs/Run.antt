-- What `run` wrote.
use Rattle.std.specs.Prelude.{◌≡◌, ℕ, ◌≤◌, List, [], length, Option, Result, Ok, Err, OnOk}
use Rattle.relpath_lib.specs.declared.fault.Fault.{Fault}
use Rattle.relpath_lib.specs.declared.fault.Fault.TheVariants.{Read, InputTooLong, NotText, OutOfMemory, Write}
use Rattle.relpath_lib.specs.declared.meter.Meter.{Meter}
use Rattle.relpath_lib.specs.Meter.{calls_of, Appended}
use Rattle.relpath_lib.specs.Output.{IsOutput}

-- what `run` had to write if it ended so: the output of its input, or nothing if it failed before
abbrev pub HasToWrite : Result (Unit {0}) Fault → List ℕ → List ℕ → Type 0
HasToWrite (Ok _) input output = IsOutput input output
HasToWrite (Err Write) input output = IsOutput input output
HasToWrite (Err Read) input output = output ≡ []
HasToWrite (Err InputTooLong) input output = output ≡ []
HasToWrite (Err NotText) input output = output ≡ []
HasToWrite (Err OutOfMemory) input output = output ≡ []

-- the writes of `run`: there is one output that it had to write; it made at most one write for each byte of that, and
-- by an `Ok` the writer gained exactly those bytes
pub record Writes {W : Type 0} (contents : W → Option (List ℕ)) (old new : Meter W)
    (result : Result (Unit {0}) Fault) (input : List ℕ) : Type 0 where
  pub output : List ℕ
  pub answers : HasToWrite result input output
  pub only : (other : List ℕ) → HasToWrite result input other → other ≡ output
  pub calls : calls_of new ≤ length output
  pub gained : OnOk result (Appended contents old new output)
