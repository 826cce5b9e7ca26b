-- Targets in order in a page.
use Rattle.std.proofs.Common.{ℕ, List, [], ◌∷◌, map, Result, Ok, Err, IfOk}
use Rattle.markdown_targets.specs.Spans.{AreInOrder}
use Rattle.relative_path_links.specs.declared.target.Target.{Target}
use Rattle.relative_path_links.specs.Targets.{HasTargets, span_of}

-- what holds of a value follows for what holds of the value of a result
pub IfOk-all : {T E : Type 0} {P Q : T → Type 0} (result : Result T E) → ((x : T) → P x → Q x) → IfOk result P
    → IfOk result Q
IfOk-all (Ok x) all holds = all x holds
IfOk-all (Err error) all holds = tt

-- a page whose spans are in order has the targets with these spans
pub HasTargets-spans : (page : List ℕ) (at : ℕ) (targets : List Target) → AreInOrder page at (map span_of targets)
    → HasTargets page at targets
HasTargets-spans page at [] are = tt
HasTargets-spans page at (target ∷ targets) (after, is, rest) = (
  after,
  record { order = is.order; within = is.within; start = is.start; end = is.end },
  HasTargets-spans page target.end targets rest,
)
