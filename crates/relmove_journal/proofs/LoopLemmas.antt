-- Lemmas on texts that are written piece by piece.
use Rattle.std.proofs.Common.{◌≡◌, ℕ, List, ◌++◌, ap, ◌∙◌, append_assoc}

-- a text that grew twice
pub grows : (old first second before after : List ℕ) → before ≡ old ++ first → after ≡ before ++ second
    → after ≡ old ++ (first ++ second)
grows old first second before after one other = other ∙ ap (λ text. text ++ second) one ∙ append_assoc old first second
