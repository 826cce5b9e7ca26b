-- The input of `run`, and how reading it ends.
use Rattle.std.specs.Prelude.{◌≡◌, ℕ, ◌<◌, ◌≤◌, List, length, Option, IsUtf8}
use Rattle.relpath_lib.specs.declared.fault.Fault.{Fault}
use Rattle.relpath_lib.specs.declared.fault.Fault.TheVariants.{Read, InputTooLong, NotText, OutOfMemory, Write}
use Rattle.relpath_lib.specs.declared.meter.Meter.{Meter}
use Rattle.relpath_lib.specs.Meter.{calls_of, failures_of, IfKnown, Consumed, HasEnded}

-- how many bytes an input may have at most
abbrev pub max_input_len : ℕ
max_input_len = 65536

-- the input is within the limit and is UTF-8
pub record IsAccepted (input : List ℕ) : Type 0 where
  pub within : length input ≤ max_input_len
  pub utf8 : IsUtf8 input

-- the input is within the limit and isn't UTF-8
pub record IsNotText (input : List ℕ) : Type 0 where
  pub within : length input ≤ max_input_len
  pub not_utf8 : ¬ IsUtf8 input

-- more bytes than the limit
abbrev pub IsTooLong : List ℕ → Type 0
IsTooLong input = max_input_len < length input

-- a read was made, and none failed
abbrev pub IsRead : {R : Type 0} → Meter R → Type 0
IsRead reader = (0 < calls_of reader) × (failures_of reader ≡ 0)

-- the bytes that were read are within the limit
abbrev pub CameWithin : {R : Type 0} → (R → Option (List ℕ)) → Meter R → Meter R → Type 0
CameWithin remaining old new = (came : List ℕ) × Consumed remaining old new came × (length came ≤ max_input_len)

-- the bytes that were read are more than the limit
abbrev pub CameBeyond : {R : Type 0} → (R → Option (List ℕ)) → Meter R → Meter R → Type 0
CameBeyond remaining old new = (came : List ℕ) × Consumed remaining old new came × IsTooLong came

-- the reader was read to its end without a failure, and P holds of all its bytes if they are known
pub record ReadsAll {R : Type 0} (remaining : R → Option (List ℕ)) (old new : Meter R)
    (P : List ℕ → Type 0) : Type 0 where
  pub end : HasEnded remaining new
  pub failures : failures_of new ≡ 0
  pub input : IfKnown remaining old (λ input. P input × Consumed remaining old new input)

-- what is known if reading ended with this fault
abbrev pub StopsShort : {R : Type 0} → (R → Option (List ℕ)) → Meter R → Meter R → Fault → Type 0
StopsShort remaining old new Read = (failures_of new ≡ 1) × CameWithin remaining old new
StopsShort remaining old new InputTooLong = IsRead new × CameBeyond remaining old new
StopsShort remaining old new NotText = ⊥
StopsShort remaining old new OutOfMemory = new ≡ old
StopsShort remaining old new Write = ⊥
