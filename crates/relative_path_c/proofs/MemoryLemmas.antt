-- What a call needs that couldn't write into the caller's memory, and what always suffices.
use Rattle.std.proofs.Common.{◌≡◌, ◌≤◌, ◌<◌, ◌↔◌, ◌+◌, ◌-◌, ◌==◌, ℕ, Bool, true, false, not, List, [], ◌∷◌, ◌++◌, length, if◌then◌else◌, slice_index, Option, Some, None, MatchOption, Result, Ok, Err, IfOk, IfErr, ◌⊎◌, inl, inr, ap, arith, length-append}
use Rattle.std.specs.List.{suffix_len, before_last}
use Rattle.std.proofs.lemmas.List.{length-take}
use Rattle.relative_path.specs.Editing.{pushed, with_separator, unslashed, kept_len, IsPopped}
use Rattle.relative_path.specs.Naming.{file_name_of, stem_of, has_stem, is_dot, dotted, IsNamed, IsExtended}
use Rattle.relative_path.specs.Slices.{IsCut}
use Rattle.relative_path.specs.Steps.{slash, components}
use Rattle.relative_path.specs.Bytes.{NeedsRoom}
use Rattle.relative_path.specs.declared.error.WriteError.{WriteError}
use Rattle.relative_path.specs.declared.error.WriteError.TheVariants as write_errors
use Rattle.relative_path.specs.RelativePathBuf.{Buffer}
use Rattle.relative_path_c.specs.Memory.{Writes, Needs}
use Rattle.relative_path_c.specs.Status.{done, no_room, out_of_memory}

-- what a call of `relative_path` needed, the call that passes on what it returned needs too
pub Needs-written : {P : List ℕ → Type 0} (memory : List ℕ) (outcome : Result ℕ WriteError) (status len : ℕ)
    → IfErr outcome (λ error. (needed : ℕ) → error ≡ write_errors.NoRoom needed → NeedsRoom P (length memory) needed)
    → IfOk outcome (λ written. (status ≡ done) × (len ≡ written))
    → IfErr outcome (λ error. ((status ≡ no_room) × (error ≡ write_errors.NoRoom len))
    ⊎ ((status ≡ out_of_memory) × (error ≡ write_errors.OutOfMemory)))
    → Needs status len memory P
Needs-written memory (Ok written) status len needed ok err full = absurd (omega (arith, ok.0, full))
Needs-written memory (Err error) status len needed ok (inl short) full =
    let needs = needed len short.1 in (needs.longer, (needs.text, needs.holds, needs.size))
Needs-written memory (Err error) status len needed ok (inr refused) full = absurd (omega (arith, refused.0, full))

-- ---- how much memory always suffices

with_separator_le : (text : List ℕ) → length (with_separator text) ≤ length text + 1
with_separator_le [] = omega arith
with_separator_le (b ∷ bs) = either (slice_index (b ∷ bs) (length bs) == slash)
  where
    either : (ended : Bool) → length (if ended then b ∷ bs else (b ∷ bs) ++ slash ∷ []) ≤ length (b ∷ bs) + 1
    either true = omega arith
    either false = omega (arith, length-append (b ∷ bs) (slash ∷ []))

unslashed_le : (text : List ℕ) → length (unslashed text) ≤ length text
unslashed_le [] = omega arith
unslashed_le (b ∷ bs) = either (b == slash)
  where
    either : (slashed : Bool) → length (if slashed then bs else b ∷ bs) ≤ length (b ∷ bs)
    either true = omega arith
    either false = omega arith

-- a push adds a slash at most
pub length_pushed_le : (text path : List ℕ) → length (pushed text path) ≤ length text + 1 + length path
length_pushed_le text path =
    omega (arith, length-append (with_separator text) (unslashed path), with_separator_le text, unslashed_le path)

base_le : (name : Option (List ℕ)) (text front : List ℕ) → MatchOption name (front ≡ text) (λ _. IsPopped text front)
    → length front ≤ length text
base_le None text front is = omega (arith, ap length is)
base_le (Some n) text front popped =
    omega (arith, ap length popped.prefix, length-take (length front) text)

-- so does a new file name
pub length_named_le : (text name named : List ℕ) → IsNamed text name named → length named ≤ length text + 1 + length name
length_named_le text name named (front, base, is) =
    omega (arith, ap length is, length_pushed_le front name, base_le (file_name_of text) text front base)

stem_le : (n : List ℕ) → length (stem_of n) ≤ length n
stem_le n = either (has_stem n)
  where
    front : length (before_last is_dot n) ≤ length n
    front = omega (arith, length-take (length n - suffix_len (λ b. not (is_dot b)) n - 1) n)

    either : (has : Bool) → length (if has then before_last is_dot n else n) ≤ length n
    either true = front
    either false = omega arith

dotted_le : (e : List ℕ) → length (dotted e) ≤ 1 + length e
dotted_le [] = omega arith
dotted_le (b ∷ bs) = omega arith

extended_le : (name : Option (List ℕ)) (text e extended : List ℕ) (count : ℕ)
    → MatchOption name (extended ≡ text)
    (λ n. (head : List ℕ) × IsCut text count (head ++ n) × (extended ≡ head ++ stem_of n ++ dotted e))
    → length extended ≤ length text + 1 + length e
extended_le None text e extended count is = omega (arith, ap length is)
extended_le (Some n) text e extended count (head, cut, is) =
    omega (
      arith,
      ap length is,
      length-append (head ++ stem_of n) (dotted e),
      length-append head (stem_of n),
      stem_le n,
      dotted_le e,
      length-append head n,
      ap length cut.prefix,
      length-take (length (head ++ n)) text,
    )

-- so does a new extension, with its dot
pub length_extended_le : (text e extended : List ℕ) → IsExtended text e extended
    → length extended ≤ length text + 1 + length e
length_extended_le text e extended is =
    extended_le (file_name_of text) text e extended (kept_len (components text) + 1) is

-- a path that a call made fits memory that is as long as every such path
pub suffices : {E : Type 0} (P : List ℕ → Type 0) (made : Result Buffer E) (status len room : ℕ) (old new : List ℕ)
    → ((text : List ℕ) → P text → length text ≤ room) → IfOk made (λ path. P path.text)
    → IfOk made (λ path. (len ≡ length path.text) × ((status ≡ done) ↔ (length path.text ≤ length old))
    × ((status ≡ no_room) ↔ (length old < length path.text)) × Writes status len new (λ t. t ≡ path.text))
    → IfErr made (λ error. status ≡ out_of_memory) → room ≤ length old → status ≡ no_room → ⊥
suffices P (Ok path) status len room old new most is ok err fits full =
    let shorter = ok.2.0 full in omega (arith, shorter, fits, most path.text is)
suffices P (Err error) status len room old new most is ok err fits full = omega (arith, err, full)
