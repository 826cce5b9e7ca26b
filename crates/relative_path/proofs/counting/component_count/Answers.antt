use Rattle.std.proofs.Common.{◌≡◌, ℕ, Bool, true, false, not, cond, refl, sym, ◌∙◌, ap, length, slice_index, arith}
use Rattle.std.proofs.lemmas.List.{nil_from_length}
use mir.Val.{bool_byte}
use Rattle.relative_path.specs.Counting.{begun, starts_from}
use Rattle.relative_path.specs.Steps.{is_slash, components}
use Rattle.relative_path.proofs.StepsLemmas.{components-nil}
use Rattle.relative_path.proofs.CountingLemmas.{begun-components, begun-start}
use Rattle.relative_path.proofs.counting.component_count.Goals as goal
use Rattle.relative_path.proofs.counting.component_count.Goals.{then-bytes-gt-BLOCK, else-bytes-gt-BLOCK}

pub returns-in_default-clause-count : goal.returns-in_default-clause-count
returns-in_default-clause-count c =
    let whole = ap length c.as_bytes-bytes.ensures.value in
    let none : length c.args.text.now ≡ 0 = omega (arith, c.in_default.ensures.item) in
    let empty = nil_from_length c.args.text.now none in
    sym (ap (λ text. length (components text)) empty ∙ ap length components-nil)

as_number : (b : Bool) → bool_byte b ≡ cond b 1 0
as_number true = refl
as_number false = refl

pub returns-clause-count : goal.returns-clause-count
returns-clause-count c =
    let bytes = c.as_bytes-bytes.result.now in
    let rest : c.if-bytes-gt-BLOCK.begun ≡ starts_from bytes 1 =
    elim c.if-bytes-gt-BLOCK.branch [
      | then-bytes-gt-BLOCK w ↦ w.begun-is ∙ w.starts_by_blocks-begun.ensures.count
      | else-bytes-gt-BLOCK w ↦ w.begun-is ∙ w.starts_by_byte-begun.ensures.count
    ] in
    let item = c.in-Some.ensures.item.3 in
    let first : c.from.result ≡ cond (not (is_slash (slice_index bytes 0))) 1 0 =
    c.from.ensures ∙ as_number (not (is_slash c.in-Some.first.now)) ∙ ap {B = ℕ} (λ b. cond (not (is_slash b)) 1 0) (item.1 0) in
    let text = ap (begun true) c.as_bytes-bytes.ensures.value in
    omega (arith, rest, first, text, begun-start bytes item.0, begun-components c.args.text.now)
