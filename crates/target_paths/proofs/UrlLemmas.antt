-- The text of a URL without the control bytes and spaces at its end, and its scheme.
use Rattle.std.proofs.Common.{◌≡◌, ℕ, zero, suc, Bool, not, ◌&&◌, slice_index, ◌-◌, ◌+◌, ◌≤◌, ◌<◌, true, false, if◌then◌else◌, List, [], ◌∷◌, ◌++◌, length, take, get_or, refl, sym, ap, ◌∙◌, arith}
use Rattle.std.proofs.lemmas.Bool.Decides.{nat_tests}
use Rattle.std.proofs.Math.Seq.{take-length}
use Rattle.std.proofs.lemmas.List.{take_more}
use Rattle.std.specs.Char.{is_ascii_alphabetic}
use Rattle.std.specs.List.{before_first, prefix_len, list_any, list_all}
use Rattle.target_paths.specs.Url.{is_blank, before_text, without_trailing, is_colon, is_scheme_byte, has_scheme}

before_text-more : (b : ℕ) (xs : List ℕ) (c : ℕ) → before_text b (xs ++ c ∷ []) ≡ b ∷ (xs ++ c ∷ [])
before_text-more b [] c = refl
before_text-more b (x ∷ xs) c = refl

without_trailing-blank : (xs : List ℕ) (b : ℕ) → is_blank b ≡ true → without_trailing (xs ++ b ∷ []) ≡ without_trailing xs
without_trailing-blank [] b blank = ap (λ t. if t then [] else b ∷ []) blank
without_trailing-blank (x ∷ xs) b blank = ap (before_text x) (without_trailing-blank xs b blank)

without_trailing-kept : (xs : List ℕ) (b : ℕ) → is_blank b ≡ false → without_trailing (xs ++ b ∷ []) ≡ xs ++ b ∷ []
without_trailing-kept [] b kept = ap (λ t. if t then [] else b ∷ []) kept
without_trailing-kept (x ∷ xs) b kept = ap (before_text x) (without_trailing-kept xs b kept) ∙ before_text-more x xs b

-- a text by its last byte
by_last : (xs : List ℕ) → 1 ≤ length xs → take (length xs - 1) xs ++ get_or xs (length xs - 1) 0 ∷ [] ≡ xs
by_last xs some =
    let count : length xs - 1 + 1 ≡ length xs = omega arith in
    sym (take_more xs (length xs - 1) 0 (omega arith)) ∙ ap (λ n. take n xs) count ∙ take-length xs

pub without_trailing-drop : (xs : List ℕ) → 1 ≤ length xs → get_or xs (length xs - 1) 0 ≤ 32
    → without_trailing (take (length xs - 1) xs) ≡ without_trailing xs
without_trailing-drop xs some blank =
    sym (without_trailing-blank (take (length xs - 1) xs) (get_or xs (length xs - 1) 0) (grind (arith, nat_tests)))
    ∙ ap without_trailing (by_last xs some)

pub without_trailing-none : (xs : List ℕ) → 1 ≤ length xs → 32 < get_or xs (length xs - 1) 0 → without_trailing xs ≡ xs
without_trailing-none xs some kept =
    ap without_trailing (sym (by_last xs some))
    ∙ without_trailing-kept (take (length xs - 1) xs) (get_or xs (length xs - 1) 0) (grind (arith, nat_tests))
    ∙ by_last xs some

-- ---- a scheme begins with a letter

letter-take : (n : ℕ) (text : List ℕ) → is_ascii_alphabetic (slice_index text 0) ≡ false
    → is_ascii_alphabetic (slice_index (take n text) 0) ≡ false
letter-take zero text none = refl
letter-take (suc n) [] none = refl
letter-take (suc n) (b ∷ bs) none = none

pub has_scheme-none : (text : List ℕ) → is_ascii_alphabetic (slice_index text 0) ≡ false → has_scheme text ≡ false
has_scheme-none text none =
    let scheme = before_first is_colon text in
    let no_letter = letter-take (prefix_len (λ b. not (is_colon b)) text) text none in
    ap (λ t. list_any is_colon text && (t && list_all is_scheme_byte scheme)) no_letter
    ∙ and_false (list_any is_colon text) where
      and_false : (t : Bool) → (t && false) ≡ false
      and_false true = refl
      and_false false = refl
