-- A push that fails leaves what was appended before it.
use Rattle.std.proofs.Common.{◌<◌, ◌+◌, ◌≡◌, ◌++◌, ◌∷◌, [], ℕ, List, Bool, true, false, ap, ap₂, append_assoc, arith, cond, lit<, nat_lt, string_bytes, subst, sym, ◌∙◌}
use Rattle.target_paths.specs.Writing.{hexadecimal, percent_text}
use Rattle.target_paths.proofs.PartLemmas.{on_err, partly-none}
use Rattle.target_paths.proofs.writing.push_percent.Goals as goal

-- a digit is ASCII
hexadecimal-ascii : (digit : ℕ) → digit < 16 → hexadecimal digit < 128
hexadecimal-ascii digit less = of (nat_lt digit 10) where
  of : (b : Bool) → cond b (48 + digit) (55 + digit) < 128
  of true = omega (arith, less)
  of false = omega (arith, less)

-- two characters of ASCII, one after the other
two_more : (old one two first second : List ℕ) (a b : ℕ) → one ≡ old ++ first → first ≡ a ∷ [] → two ≡ one ++ second
    → second ≡ b ∷ [] → two ≡ old ++ a ∷ b ∷ []
two_more old one two first second a b one_is first_is two_is second_is =
    two_is ∙ ap₂ (λ x y. x ++ y) (one_is ∙ ap (λ x. old ++ x) first_is) second_is ∙ append_assoc old (a ∷ []) (b ∷ [])

pub returns-in_err-push-clause-err : goal.returns-in_err-push-clause-err
returns-in_err-push-clause-err c =
    on_err c.from_residual.result
    (partly-none (string_bytes c.args.target.now) (percent_text c.args.byte) (string_bytes c.push.new.self) c.in_err-push.ensures.bytes)

pub returns-in_err-push-2-clause-err : goal.returns-in_err-push-2-clause-err
returns-in_err-push-2-clause-err c =
    on_err c.from_residual-in_err-push-2.result (
      1,
      c.in_err-push-2.ensures.bytes ∙ c.in_ok-push.ensures.bytes
          ∙ ap (λ text. string_bytes c.args.target.now ++ text) (c.in_ok-push.ensures.ascii (lit< tt)),
    )

pub returns-in_err-push-3-clause-err : goal.returns-in_err-push-3-clause-err
returns-in_err-push-3-clause-err c =
    let digit = c.hexadecimal.result in
    let ascii : digit < 128 =
    subst (λ d. d < 128) (sym c.hexadecimal.ensures) (hexadecimal-ascii _ (omega (arith, c.ranges.byte))) in
    on_err c.from_residual-in_err-push-3.result (
      2,
      c.in_err-push-3.ensures.bytes
          ∙ two_more (string_bytes c.args.target.now) (string_bytes c.push.new.self) (string_bytes c.push-2.new.self) _ _ _ _
          c.in_ok-push.ensures.bytes (c.in_ok-push.ensures.ascii (lit< tt)) c.in_ok-push-2.ensures.bytes
          (c.in_ok-push-2.ensures.ascii ascii ∙ ap (λ d. d ∷ []) c.hexadecimal.ensures),
    )
