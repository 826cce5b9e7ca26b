use Rattle.std.specs.Prelude.{◌≡◌, ◌==◌, ℕ, List, ◌++◌, codes, length, true}
use Rattle.std.specs.List.{starts_with}
use Rattle.std.proofs.Common.{inl, inr, sym, ◌∙◌, ap, refl, true≢false}
use Rattle.std.proofs.Math.ListN.{drop}
use Rattle.std.proofs.lemmas.Bool.Decides.{Decides-eqb}
use Rattle.std.proofs.lemmas.Slice.Eq.{starts_is}
use Rattle.relmove_journal.specs.Journals.{CanBegin}
use Rattle.relmove_journal.proofs.journal.begins_as_journal.Goals as goal

-- what the call says of two lists
starts : (text front : List ℕ) → (starts_with (λ x y. x == y) text front ≡ true → text ≡ front ++ drop (length front) text)
    × ((rest : List ℕ) → text ≡ front ++ rest → starts_with (λ x y. x == y) text front ≡ true)
starts text front = starts_is Decides-eqb text front (starts_with (λ x y. x == y) text front) refl

pub returns-then-starts_with : goal.returns-then-starts_with
returns-then-starts_with c =
    let bytes = c.args.bytes.now in
    let head = codes "relmove journal 3\n" in
    let is : starts_with (λ x y. x == y) bytes head ≡ true =
    ap (starts_with (λ x y. x == y) bytes) (sym c.as_bytes.ensures.value) ∙ sym c.starts_with.ensures.value ∙ c.if-starts_with.true in
    record { can_begin = ((λ _. inl (drop (length head) bytes, (starts bytes head).0 is)), λ _. c.if-starts_with.true) }

pub returns-else-starts_with : goal.returns-else-starts_with
returns-else-starts_with c =
    let bytes = c.args.bytes.now in
    let head = codes "relmove journal 3\n" in
    let first = ap (starts_with (λ x y. x == y) bytes) (sym c.as_bytes.ensures.value) ∙ sym c.starts_with.ensures.value in
    let other =
    ap (λ head. starts_with (λ x y. x == y) head bytes) (sym c.as_bytes-else-starts_with.ensures.value)
    ∙ sym c.starts_with-else-starts_with.ensures.value in
    let back : (CanBegin bytes) → c.starts_with-else-starts_with.result ≡ true = elim [
      | inl has ↦ absurd (true≢false (sym ((starts bytes head).1 has.0 has.1) ∙ first ∙ c.if-starts_with.false))
      | inr has ↦ sym other ∙ (starts head bytes).1 has.0 has.1
    ] in
    record { can_begin = ((λ is. inr (drop (length bytes) head, (starts head bytes).0 (other ∙ is))), back) }
