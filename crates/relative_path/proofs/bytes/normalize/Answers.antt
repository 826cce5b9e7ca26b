-- What is written is the normal text of the path. A path that is normal is its own normal form.
use Rattle.std.proofs.Common.{◌≡◌, ℕ, List, subst}
use Rattle.relative_path.specs.Normalizing.{IsNormalTextOf}
use Rattle.relative_path.specs.Steps.{components}
use Rattle.relative_path.proofs.NormalizingLemmas.{components-IsNormalTextOf, last_name-IsNormalTextOf}
use Rattle.relative_path.proofs.bytes.normalize.Goals as goal

-- the text that was read is the path's
of_path : {text path : List ℕ} (written : List ℕ) → text ≡ path → IsNormalTextOf (components text) written
    → IsNormalTextOf (components path) written
of_path written is normal = subst (λ t. IsNormalTextOf (components t) written) is normal

pub returns-then-text-lt-LONG-clause-normal_stays : goal.returns-then-text-lt-LONG-clause-normal_stays
returns-then-text-lt-LONG-clause-normal_stays c =
    components-IsNormalTextOf _ _ (of_path _ c.as_str-text.ensures c.normalize_within.ensures.normal_form)

pub returns-then-text-lt-LONG-clause-file_name : goal.returns-then-text-lt-LONG-clause-file_name
returns-then-text-lt-LONG-clause-file_name c =
    last_name-IsNormalTextOf _ _ (of_path _ c.as_str-text.ensures c.normalize_within.ensures.normal_form)

pub returns-in-Err-clause-normal_stays : goal.returns-in-Err-clause-normal_stays
returns-in-Err-clause-normal_stays c =
    components-IsNormalTextOf _ _ (of_path _ c.as_str-text.ensures c.normalize_within-in-Err.ensures.normal_form)

pub returns-in-Err-clause-file_name : goal.returns-in-Err-clause-file_name
returns-in-Err-clause-file_name c =
    last_name-IsNormalTextOf _ _ (of_path _ c.as_str-text.ensures c.normalize_within-in-Err.ensures.normal_form)
