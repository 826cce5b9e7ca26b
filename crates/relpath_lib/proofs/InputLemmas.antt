-- The bytes that were read, one read after another.
use Rattle.std.proofs.Common.{◌≡◌, ℕ, ◌+◌, ◌≤◌, List, ◌++◌, length, take, drop, sym, ap, ◌∙◌, subst, Option, Result, Ok, Err, IfErr, IsErrAnd}
use Rattle.std.proofs.KnownBytes.{Consumes-trans}
use Rattle.std.proofs.lemmas.List.{take-take}
use Rattle.std.proofs.Math.Seq.{take-add, take-append_seam}
use Rattle.std.specs.Io.KnownBytes.{Consumes}

-- a fact about the error of a result
pub IfErr-at : {X E : Type 0} (r : Result X E) (P : E → Type 0) (e : E)
    → IsErrAnd r (λ f. f ≡ e) → P e → IfErr r P
IfErr-at (Ok x) P e is h = tt
IfErr-at (Err f) P e is h = subst P (sym is) h

-- a list written over the whole of another
take-over : (n : ℕ) (xs ys : List ℕ) → n ≡ length xs → take n (xs ++ ys) ≡ xs
take-over n xs ys e = ap (λ m. take m (xs ++ ys)) e ∙ take-append_seam xs ys

-- after one more read into the buffer, after its filled bytes
pub Consumes-next : (old mid new : Option (List ℕ)) (filled count room : ℕ) (buffer before after : List ℕ)
    → before ≡ buffer → room ≡ length after → take filled after ≡ take filled before
    → Consumes old mid (take filled buffer) → Consumes mid new (take count (drop filled after))
    → Consumes old new (take (filled + count) (take room (after ++ drop (length after) buffer)))
Consumes-next old mid new filled count room buffer before after same whole front came more =
    rw (take-over room after (drop (length after) buffer) whole, take-add filled count after, front, same)
    (Consumes-trans old mid new _ _ came more)

-- the filled bytes are those that were read, also if the buffer grows after them
pub Consumes-widened : (old new : Option (List ℕ)) (filled len : ℕ) (before after : List ℕ)
    → take len after ≡ before → filled ≤ len → Consumes old new (take filled before)
    → Consumes old new (take filled after)
Consumes-widened old new filled len before after kept within came =
    rw (sym (take-take filled len after within), kept) came
