-- The counts of a `Meter`, what a call adds to them, and the bytes that were read and written.
use Rattle.std.specs.Prelude.{◌≡◌, ℕ, ◌+◌, Bool, true, false, List, [], ◌∷◌, ◌==◌, Option, IfSome, Result, Ok, Err, if◌then◌else◌}
use Rattle.std.specs.Io.KnownBytes.{Consumes, IsAtEnd, Appends, Keeps}
use Rattle.relpath_lib.specs.declared.meter.Meter.{Meter}

-- the reader or the writer
abbrev pub inner_of : {T : Type 0} → Meter T → T
inner_of m = m.inner

-- how many reads or writes were made
abbrev pub calls_of : {T : Type 0} → Meter T → ℕ
calls_of m = m.calls

-- how many flushes were made
abbrev pub flushes_of : {T : Type 0} → Meter T → ℕ
flushes_of m = m.flushes

-- how many calls failed
abbrev pub failures_of : {T : Type 0} → Meter T → ℕ
failures_of m = m.failures

-- no call is counted
pub record IsFresh {T : Type 0} (m : Meter T) : Type 0 where
  pub calls : calls_of m ≡ 0
  pub flushes : flushes_of m ≡ 0
  pub failures : failures_of m ≡ 0

-- the failures grow by one if the call failed, and otherwise stay
abbrev pub CountsFailure : {T : Type 0} → Meter T → Meter T → Bool → Type 0
CountsFailure old new failed =
    failures_of new ≡ (if failed then failures_of old + 1 else failures_of old)

-- one more read or write is counted
pub record CountsCall {T : Type 0} (old new : Meter T) (failed : Bool) : Type 0 where
  pub calls : calls_of new ≡ calls_of old + 1
  pub flushes : flushes_of new ≡ flushes_of old
  pub failures : CountsFailure old new failed

-- one more flush is counted
pub record CountsFlush {T : Type 0} (old new : Meter T) (failed : Bool) : Type 0 where
  pub calls : calls_of new ≡ calls_of old
  pub flushes : flushes_of new ≡ flushes_of old + 1
  pub failures : CountsFailure old new failed

-- a write failed: it returned an error, or it took none of at least one byte
abbrev pub is_failed_write : {E : Type 0} → Result ℕ E → List ℕ → Bool
is_failed_write (Err e) bytes = true
is_failed_write (Ok n) [] = false
is_failed_write (Ok n) (b ∷ bytes) = n == 0

-- the known bytes that the metered reader has left, or that the metered writer holds
abbrev pub bytes_of : {T : Type 0} → (T → Option (List ℕ)) → Meter T → Option (List ℕ)
bytes_of known m = known (inner_of m)

-- P holds of these bytes if they are known
abbrev pub IfKnown : {T : Type 0} → (T → Option (List ℕ)) → Meter T → (List ℕ → Type 0) → Type 0
IfKnown known m P = IfSome (bytes_of known m) P

-- these bytes were read from the metered reader
abbrev pub Consumed : {R : Type 0} → (R → Option (List ℕ)) → Meter R → Meter R → List ℕ → Type 0
Consumed remaining old new bytes = Consumes (bytes_of remaining old) (bytes_of remaining new) bytes

-- the metered reader has nothing left
abbrev pub HasEnded : {R : Type 0} → (R → Option (List ℕ)) → Meter R → Type 0
HasEnded remaining m = IsAtEnd (bytes_of remaining m)

-- these bytes and no others were written to the metered writer
abbrev pub Appended : {W : Type 0} → (W → Option (List ℕ)) → Meter W → Meter W → List ℕ → Type 0
Appended contents old new bytes = Appends (bytes_of contents old) (bytes_of contents new) bytes

-- no byte was read from the metered reader, or no byte was written to the metered writer
abbrev pub KeepsBytes : {T : Type 0} → (T → Option (List ℕ)) → Meter T → Meter T → Type 0
KeepsBytes known old new = Keeps (bytes_of known old) (bytes_of known new)
