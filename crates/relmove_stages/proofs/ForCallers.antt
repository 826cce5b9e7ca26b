-- Theorems that proofs of other crates may cite.
use Rattle.std.proofs.Common.{IsTrue}
use Rattle.relmove_stages.specs.States.{unknown}

-- of nothing it isn't known that it is clean
pub not_clean : {P : Type 0} → IsTrue unknown.is_clean → P
not_clean clean = absurd (cc clean)
