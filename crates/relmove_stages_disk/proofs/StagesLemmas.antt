-- The order of the stages.
use denote.Enum.Bare.{sameb}
use Rattle.std.proofs.Common.{◌≡◌, ℕ, zero, suc, Some, None, option_and_then, not, true, sym, ◌∙◌, ap}
use Rattle.relmove_journal.specs.contracts.work.Stage.{the_type}
use Rattle.relmove_journal.specs.declared.work.Stage.{Stage}
use Rattle.relmove_stages.proofs.OrderLemmas.{same-itself}
use Rattle.relmove_stages.specs.Stages.{ComesTo, next_stage, stage_after}

-- one stage later
stage_after-next : (k : ℕ) (one next : Stage) → next_stage one ≡ Some next → stage_after (suc k) one ≡ stage_after k next
stage_after-next zero one next some = some
stage_after-next (suc k) one next some = ap (option_and_then next_stage) (stage_after-next k one next some)

stage_after-none : (k : ℕ) (one : Stage) → next_stage one ≡ None → stage_after (suc k) one ≡ None
stage_after-none zero one none = none
stage_after-none (suc k) one none = ap (option_and_then next_stage) (stage_after-none k one none)

-- a run comes to what it comes to from the next stage
pub comes-before : (one next stage : Stage) → next_stage one ≡ Some next → ComesTo next stage → ComesTo one stage
comes-before one next stage some (k, is) = (suc k, stage_after-next k one next some ∙ is)

-- and to nothing else but the stage itself
pub comes-after : (one next stage : Stage) → next_stage one ≡ Some next → ¬ (one ≡ stage) → ComesTo one stage → ComesTo next stage
comes-after one next stage some differ (zero, is) = absurd (differ (let same : one ≡ stage = cc is in same))
comes-after one next stage some differ (suc k, is) = (k, sym (stage_after-next k one next some) ∙ is)

-- after the last stage there is no other
pub comes-last : (one stage : Stage) → next_stage one ≡ None → ¬ (one ≡ stage) → ComesTo one stage → ⊥
comes-last one stage none differ (zero, is) = differ (let same : one ≡ stage = cc is in same)
comes-last one stage none differ (suc k, is) = cc (sym (stage_after-none k one none) ∙ is)

-- ---- stages that the code compares

-- a stage that isn't the same is another
pub is_other : (one other : Stage) → not (sameb the_type one other) ≡ true → ¬ (one ≡ other)
is_other one other differ same =
    cc (sym differ ∙ ap not (ap (λ s. sameb the_type s other) same ∙ same-itself other))
