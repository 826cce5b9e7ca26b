-- A text to which a target is appended in part.
use Rattle.std.proofs.Common.{◌≡◌, ℕ, ◌+◌, ◌-◌, ◌≤◌, Err, List, ◌++◌, Ok, OnErr, Result, length, take, drop, sym, ap, ◌∙◌, arith, append-nil, append_assoc, length-append}
use Rattle.std.proofs.lemmas.List.{take-append-drop}
use Rattle.std.proofs.Math.Seq.{take-append_seam, take-append-add}
use Rattle.target_paths.specs.Writing.{IsPartlyAppended}

-- nothing is appended
pub partly-none : (old target new : List ℕ) → new ≡ old → IsPartlyAppended old target new
partly-none old target new is = (0, is ∙ sym (append-nil old))

-- what goes on to the whole is a part
pub partly-cut : (old target new rest : List ℕ) → new ++ rest ≡ old ++ target → length old ≤ length new
    → IsPartlyAppended old target new
partly-cut old target new rest whole longer =
    let count = length new - length old in
    let at : length new ≡ length old + count = omega (arith, longer) in (
      count,
      sym (take-append_seam new rest) ∙ ap (take (length new)) whole ∙ ap (λ n. take n (old ++ target)) at
          ∙ take-append-add old target count,
    )

-- a part of a piece comes after a part
pub partly-next : (old kept target piece rest new : List ℕ) → length old ≤ length kept
    → (kept ++ piece) ++ rest ≡ old ++ target → IsPartlyAppended kept piece new → IsPartlyAppended old target new
partly-next old kept target piece rest new longer whole (count, is) =
    partly-cut old target new (drop count piece ++ rest)
    (ap (λ text. text ++ (drop count piece ++ rest)) is
    ∙ append_assoc kept (take count piece) (drop count piece ++ rest)
    ∙ ap (λ text. kept ++ text) (sym (append_assoc (take count piece) (drop count piece) rest))
    ∙ ap (λ text. kept ++ (text ++ rest)) (take-append-drop count piece) ∙ sym (append_assoc kept piece rest) ∙ whole)
    (omega (arith, longer, ap length is, length-append kept (take count piece)))

-- what holds at all holds of an error
pub on_err : {T E P : Type 0} (r : Result T E) → P → OnErr r P
on_err (Ok x) holds = tt
on_err (Err e) holds = holds
