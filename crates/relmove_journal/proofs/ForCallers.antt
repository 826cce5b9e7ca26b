-- What a caller's proof may cite: lemmas on loops that write a text character by character. Other crates can name no other
-- lemma module of this crate.
use Rattle.std.proofs.Common.{◌≡◌, ℕ, ◌+◌, ◌<◌, List, [], ◌++◌, length, drop, get_or, sym, ap, ◌∙◌, arith}
use Rattle.std.proofs.lemmas.List.{at_drop_more, drop_all}
use Rattle.std.specs.List.{flat_map}

-- what is written for the characters that are left begins with what is written for the next one
pub flat_map-turn : (f : ℕ → List ℕ) (cs : List ℕ) (n c more : ℕ) → (n < length cs) × (c ≡ get_or cs n c) → more ≡ n + 1
    → f c ++ flat_map f (drop more cs) ≡ flat_map f (drop n cs)
flat_map-turn f cs n c more (inside, is) count =
    ap (λ k. f c ++ flat_map f (drop k cs)) count
    ∙ ap (λ d. f d ++ flat_map f (drop (n + 1) cs)) is
    ∙ sym (at_drop_more (flat_map f) cs n c inside)

-- nothing is left at the end
pub flat_map-end : (f : ℕ → List ℕ) (cs : List ℕ) (n : ℕ) → n ≡ length cs → flat_map f (drop n cs) ≡ []
flat_map-end f cs n count = ap (flat_map f) (drop_all n cs (omega (arith, count)))
