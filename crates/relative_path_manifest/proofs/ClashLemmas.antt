-- An index of texts in lower case, of which no two clash, and the next text.
use Rattle.std.proofs.Common.{◌≡◌, ◌≢◌, ◌<◌, ◌+◌, ℕ, Bool, true, false, cond, inl, inr, List, [], map, length, get_or, Option, Some, None, unwrap_or, refl, sym, ap, ◌∙◌, subst, arith, true≢false}
use Rattle.std.proofs.lemmas.Bool.{cases_lt}
use Rattle.std.proofs.lemmas.List.{get_or-map}
use Rattle.std.proofs.lemmas.Option.{same_Some, none-some}
use Rattle.std.proofs.lemmas.Slice.Eq.{bytes_eq-Decides}
use Rattle.std.specs.Map.{update}
use Rattle.std.specs.Str.{bytes_eq, str_to_ascii_lowercase}
use Rattle.relative_path.specs.RelativePathBuf.{Buffer}
use Rattle.relative_path_manifest.specs.Clash.{text_at, IsApartBefore, IsFirstClash}
use Rattle.relative_path_manifest.specs.Manifest.{file_text}

-- the index has the first n texts in lower case, each with its number, and no two of them clash
pub record Indexes (texts : List (List ℕ)) (n : ℕ) (get : List ℕ → Option ℕ) : Type 0 where
  pub found : (text : List ℕ) (k : ℕ) → get text ≡ Some k → (k < n) × (str_to_ascii_lowercase (text_at texts k) ≡ text)
  pub all : (k : ℕ) → k < n → get (str_to_ascii_lowercase (text_at texts k)) ≢ None
  pub apart : IsApartBefore texts n

-- the text of a file
pub text_at-file : (files : List Buffer) (none : Buffer) (k : ℕ) → k < length files
    → text_at (map file_text files) k ≡ file_text (get_or files k none)
text_at-file files none k within = get_or-map file_text files k none [] within

module _ (texts : List (List ℕ)) (n : ℕ) (old : List ℕ → Option ℕ) (text : List ℕ) (index : Indexes texts n old)
    (is : str_to_ascii_lowercase (text_at texts n) ≡ text) where
  -- the number in the index is less than that of the next text, if there is one
  absent : (had : Option ℕ) → old text ≡ had → (unwrap_or had n < n → ⊥) → old text ≡ None
  absent None has last = has
  absent (Some k) has last = absurd (last (index.found text k has).0)

  -- the index after the next text, which clashes with none
  pub Indexes-next : (new : List ℕ → Option ℕ) → (unwrap_or (old text) n < n → ⊥)
      → ((other : List ℕ) → new other ≡ update bytes_eq old text (Some (unwrap_or (old text) n)) other)
      → Indexes texts (n + 1) new
  Indexes-next new last inserted = record { found = found; all = all; apart = apart } where
    none : old text ≡ None
    none = absent (old text) refl last

    here : (b : Bool) (other : List ℕ) → bytes_eq text other ≡ b
        → new other ≡ cond b (Some n) (old other)
    here b other same =
        inserted other ∙ ap (λ b. cond b (Some (unwrap_or (old text) n)) (old other)) same
        ∙ ap (λ had. cond b (Some (unwrap_or had n)) (old other)) none

    found : (other : List ℕ) (k : ℕ) → new other ≡ Some k
        → (k < n + 1) × (str_to_ascii_lowercase (text_at texts k) ≡ other)
    found other k has = tell (bytes_eq text other) refl where
      tell : (b : Bool) → bytes_eq text other ≡ b → (k < n + 1) × (str_to_ascii_lowercase (text_at texts k) ≡ other)
      tell true same =
          let number : n ≡ k = same_Some n k (sym (here true other same) ∙ has) in (
            omega (arith, number),
            subst (λ k. str_to_ascii_lowercase (text_at texts k) ≡ other) number
                (is ∙ (bytes_eq-Decides text other).0 same),
          )
      tell false same =
          let (within, lower) = index.found other k (sym (here false other same) ∙ has) in
          (omega (arith, within), lower)

    all : (k : ℕ) → k < n + 1 → new (str_to_ascii_lowercase (text_at texts k)) ≢ None
    all k within missing = tell (bytes_eq text (str_to_ascii_lowercase (text_at texts k))) refl where
      tell : (b : Bool) → bytes_eq text (str_to_ascii_lowercase (text_at texts k)) ≡ b → ⊥
      tell true same =
          none-some n (sym missing ∙ here true (str_to_ascii_lowercase (text_at texts k)) same)
      tell false same = elim (cases_lt k n) [
        | inl before ↦ index.all k before (sym (here false (str_to_ascii_lowercase (text_at texts k)) same) ∙ missing)
        | inr past ↦
            let number : n ≡ k = omega (arith, within, past) in
            let equal = sym is ∙ ap (λ k. str_to_ascii_lowercase (text_at texts k)) number in
            true≢false (sym ((bytes_eq-Decides text (str_to_ascii_lowercase (text_at texts k))).1 equal) ∙ same)
      ]

    apart : IsApartBefore texts (n + 1)
    apart i j before within clash = elim (cases_lt j n) [
      | inl inside ↦ index.apart i j before inside clash
      | inr past ↦
          let number : j ≡ n = omega (arith, within, past) in
          let earlier : i < n = omega (arith, before, number) in
          let equal : str_to_ascii_lowercase (text_at texts i) ≡ text =
          clash ∙ ap (λ k. str_to_ascii_lowercase (text_at texts k)) number ∙ is in
          index.all i earlier (ap old equal ∙ none)
    ]

  -- the first clash
  pub IsFirstClash-next : (first : ℕ) → first ≡ unwrap_or (old text) n → first < n → n < length texts
      → IsFirstClash texts first n
  IsFirstClash-next first value before within = tell (old text) refl where
    tell : (had : Option ℕ) → old text ≡ had → IsFirstClash texts first n
    tell None has =
        absurd (let last = value ∙ ap (λ had. unwrap_or had n) has in omega (arith, last, before))
    tell (Some k) has =
        let number : first ≡ k = value ∙ ap (λ had. unwrap_or had n) has in
        let clash = (index.found text k has).1 in record {
          before = before;
          within = within;
          clash = ap (λ k. str_to_ascii_lowercase (text_at texts k)) number ∙ clash ∙ sym is;
          first = index.apart;
        }
