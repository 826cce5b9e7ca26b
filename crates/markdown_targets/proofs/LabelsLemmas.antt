-- A label that is normalized byte by byte.
use Rattle.std.proofs.Common.{◌≡◌, ℕ, ◌+◌, ◌<◌, Bool, true, false, not, ◌==◌, ◌&&◌, List, [], ◌∷◌, ◌++◌, length, map, drop, get_or, if◌then◌else◌, refl, sym, ap, ap₂, ◌∙◌, arith, append-nil}
use Rattle.std.proofs.lemmas.Bool.Decides.{nat_tests}
use Rattle.std.proofs.lemmas.List.{append_assoc, drop_more, length-append}
use Rattle.std.specs.Char.{to_ascii_lowercase}
use Rattle.markdown_targets.specs.Classes.{is_space}
use Rattle.markdown_targets.specs.Labels.{drop_spaces, begins_word, collapse_spaces, normalized_label}

-- the space before a word, if a word came before it
abbrev pub gap : Bool → Bool → List ℕ
gap begun apart = if begun && apart then 32 ∷ [] else []

-- what is left of a normalized label: `begun` says whether a word came before, `apart` whether a space came after that
abbrev left_of : Bool → Bool → List ℕ → List ℕ
left_of begun apart [] = []
left_of begun apart (b ∷ bs) =
    if is_space b then left_of begun true bs else gap begun apart ++ (to_ascii_lowercase b ∷ left_of true false bs)

-- what is left of the spaces and words of a label after a word
abbrev left_after_word : Bool → List ℕ → List ℕ
left_after_word apart text = if apart && begins_word text then 32 ∷ collapse_spaces text else collapse_spaces text

left_of-word : (apart : Bool) (text : List ℕ) → left_of true apart text ≡ map to_ascii_lowercase (left_after_word apart text)
left_of-word false [] = refl
left_of-word true [] = refl
left_of-word apart (b ∷ bs) = of apart (is_space b) refl (left_of-word true bs) (left_of-word false bs) where
  of : (a s : Bool) → is_space b ≡ s → left_of true true bs ≡ map to_ascii_lowercase (left_after_word true bs)
      → left_of true false bs ≡ map to_ascii_lowercase (left_after_word false bs)
      → left_of true a (b ∷ bs) ≡ map to_ascii_lowercase (left_after_word a (b ∷ bs))
  of false true is after_space after_byte =
      ap (λ t. if t then left_of true true bs else [] ++ (to_ascii_lowercase b ∷ left_of true false bs)) is
      ∙ after_space
      ∙ sym (ap (λ t. map to_ascii_lowercase (if t then left_after_word true bs else b ∷ collapse_spaces bs)) is)
  of false false is after_space after_byte =
      ap (λ t. if t then left_of true true bs else [] ++ (to_ascii_lowercase b ∷ left_of true false bs)) is
      ∙ ap (λ l. to_ascii_lowercase b ∷ l) after_byte
      ∙ sym (ap (λ t. map to_ascii_lowercase (if t then left_after_word true bs else b ∷ collapse_spaces bs)) is)
  of true true is after_space after_byte =
      ap (λ t. if t then left_of true true bs else (32 ∷ []) ++ (to_ascii_lowercase b ∷ left_of true false bs)) is
      ∙ after_space
      ∙ sym (ap (λ t. map to_ascii_lowercase (if not t then 32 ∷ (if t then left_after_word true bs else b ∷ collapse_spaces bs)
      else (if t then left_after_word true bs else b ∷ collapse_spaces bs))) is)
  of true false is after_space after_byte =
      ap (λ t. if t then left_of true true bs else (32 ∷ []) ++ (to_ascii_lowercase b ∷ left_of true false bs)) is
      ∙ ap (λ l. 32 ∷ to_ascii_lowercase b ∷ l) after_byte
      ∙ sym (ap (λ t. map to_ascii_lowercase (if not t then 32 ∷ (if t then left_after_word true bs else b ∷ collapse_spaces bs)
      else (if t then left_after_word true bs else b ∷ collapse_spaces bs))) is)

left_of-start : (apart : Bool) (text : List ℕ) → left_of false apart text ≡ normalized_label text
left_of-start apart [] = refl
left_of-start apart (b ∷ bs) = of (is_space b) refl (left_of-start true bs) where
  of : (s : Bool) → is_space b ≡ s → left_of false true bs ≡ normalized_label bs
      → left_of false apart (b ∷ bs) ≡ normalized_label (b ∷ bs)
  of true is others =
      ap (λ t. if t then left_of false true bs else [] ++ (to_ascii_lowercase b ∷ left_of true false bs)) is
      ∙ others
      ∙ sym (ap (λ t. map to_ascii_lowercase (collapse_spaces (if t then drop_spaces bs else b ∷ bs))) is)
  of false is others =
      ap (λ t. if t then left_of false true bs else [] ++ (to_ascii_lowercase b ∷ left_of true false bs)) is
      ∙ ap (λ l. to_ascii_lowercase b ∷ l) (left_of-word false bs)
      ∙ sym (ap (λ t. map to_ascii_lowercase (if t then left_after_word true bs else b ∷ collapse_spaces bs)) is)
      ∙ sym (ap (λ t. map to_ascii_lowercase (collapse_spaces (if t then drop_spaces bs else b ∷ bs))) is)

-- these bytes and what is left from an offset on are the normalized label
abbrev pub IsSoFar : List ℕ → List ℕ → Bool → ℕ → Type 0
IsSoFar label items apart k = normalized_label label ≡ items ++ left_of (not (length items == 0)) apart (drop k label)

pub IsSoFar-start : (label : List ℕ) → IsSoFar label [] false 0
IsSoFar-start label = sym (left_of-start false label)

pub IsSoFar-space : (label items : List ℕ) (apart : Bool) (k : ℕ) → k < length label
    → is_space (get_or label k 0) ≡ true → IsSoFar label items apart k → IsSoFar label items true (k + 1)
IsSoFar-space label items apart k inside is so_far =
    let begun = not (length items == 0) in
    so_far
    ∙ ap (λ l. items ++ left_of begun apart l) (drop_more label k 0 inside)
    ∙ ap (λ t. items ++ (if t then left_of begun true (drop (k + 1) label)
    else gap begun apart ++ (to_ascii_lowercase (get_or label k 0) ∷ left_of true false (drop (k + 1) label)))) is

pub IsSoFar-byte : (label items new : List ℕ) (apart : Bool) (k : ℕ) → k < length label
    → is_space (get_or label k 0) ≡ false
    → new ≡ items ++ gap (not (length items == 0)) apart ++ (to_ascii_lowercase (get_or label k 0) ∷ [])
    → IsSoFar label items apart k → IsSoFar label new false (k + 1)
IsSoFar-byte label items new apart k inside is pushed so_far =
    let begun = not (length items == 0) in
    let low = to_ascii_lowercase (get_or label k 0) in
    let left = left_of true false (drop (k + 1) label) in
    let front = gap begun apart in
    let joined : items ++ front ++ (low ∷ []) ++ left ≡ items ++ (front ++ (low ∷ left)) =
    append_assoc (items ++ front) (low ∷ []) left ∙ append_assoc items front (low ∷ left) in
    let some : not (length new == 0) ≡ true =
    ap (λ n. not (n == 0)) (ap length pushed ∙ length-append (items ++ front) (low ∷ [])) ∙ above (length (items ++ front)) in
    so_far
    ∙ ap (λ l. items ++ left_of begun apart l) (drop_more label k 0 inside)
    ∙ ap (λ t. items ++ (if t then left_of begun true (drop (k + 1) label)
    else front ++ (low ∷ left))) is
    ∙ sym joined
    ∙ ap₂ (λ l t. l ++ left_of t false (drop (k + 1) label)) (sym pushed) (sym some) where
      above : (n : ℕ) → not (n + 1 == 0) ≡ true
      above n = grind (arith, nat_tests)

-- the bytes that a branch adds, if it doesn't add the gap that the next word needs
pub no_gap : (items : List ℕ) (apart : Bool) (low : ℕ) → gap (not (length items == 0)) apart ≡ []
    → items ++ (low ∷ []) ≡ items ++ gap (not (length items == 0)) apart ++ (low ∷ [])
no_gap items apart low none =
    ap (λ l. l ++ (low ∷ [])) (sym (append-nil items)) ∙ ap (λ l. items ++ l ++ (low ∷ [])) (sym none)

pub with_gap : (len n : ℕ) (apart : Bool) → len ≡ n → apart ≡ true → (len == 0) ≡ false
    → gap (not (n == 0)) apart ≡ 32 ∷ []
with_gap len n apart counted is some =
    ap₂ (λ t a. gap (not t) a) (ap (λ m. m == 0) (sym counted) ∙ some) is

pub at_start : (len n : ℕ) (apart : Bool) → len ≡ n → (len == 0) ≡ true → gap (not (n == 0)) apart ≡ []
at_start len n apart counted none = ap (λ t. gap (not t) apart) (ap (λ m. m == 0) (sym counted) ∙ none)

pub within_word : (n : ℕ) (apart : Bool) → apart ≡ false → gap (not (n == 0)) apart ≡ []
within_word n apart is = ap (gap (not (n == 0))) is ∙ of (n == 0) where
  of : (t : Bool) → gap (not t) false ≡ []
  of true = refl
  of false = refl
