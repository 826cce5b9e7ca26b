-- What follows from an `Ok`.
use Rattle.std.proofs.Common.{OnOk, Ok, Err, Result}

pub on_ok-map : {T E P Q : Type 0} (r : Result T E) → (P → Q) → OnOk r P → OnOk r Q
on_ok-map (Ok x) next holds = next holds
on_ok-map (Err e) next holds = holds
