-- Texts that are written a piece at a time: components in turn, and climbs in turn or some at once.
use Rattle.std.proofs.Common.{◌≡◌, ℕ, zero, suc, ◌+◌, ◌-◌, ◌*◌, ◌<◌, ◌≤◌, List, [], ◌∷◌, length, get_or, take, map, fold, replicate, sym, refl, ap, ◌∙◌, arith, ◌++◌, append_assoc, length-append, min}
use Rattle.std.specs.List.{slice_range}
use Rattle.std.specs.Str.{IsCharBoundary}
use Rattle.std.proofs.lemmas.List.{replicate-append-replicate}
use Rattle.std.proofs.lemmas.List.Sums.{fold-append}
use Rattle.std.proofs.lemmas.Str.{IsCharBoundary-from_ascii}
use Rattle.relative_path.specs.Steps.{up, slash, dot, step_text, spell, Step, SpellThemselves, slashed_len}
use Rattle.relative_path.specs.Writing.{with_piece}
use Rattle.relative_path.proofs.StepsLemmas.{nonempty_proper, SpellThemselves-ups}

-- ---- pieces after a text

length-with_piece_le : (text p : List ℕ) → length text ≤ length (with_piece text p)
length-with_piece_le [] p = omega arith
length-with_piece_le (b ∷ bs) p = omega (arith, length-append bs (slash ∷ p))

pub length-with_pieces_le : (text : List ℕ) (ps : List (List ℕ)) → length text ≤ length (fold with_piece text ps)
length-with_pieces_le text [] = omega arith
length-with_pieces_le text (p ∷ ps) =
    omega (arith, length-with_piece_le text p, length-with_pieces_le (with_piece text p) ps)

pub length-with_step_le : (text : List ℕ) (c : Step)
    → length (with_piece text (step_text c)) ≤ length text + slashed_len (c ∷ [])
length-with_step_le [] c = omega arith
length-with_step_le (b ∷ bs) c = omega (arith, length-append (b ∷ bs) (slash ∷ step_text c))

pub with_pieces-non_slash : (b : ℕ) (bs : List ℕ) (c : Step) (cs : List Step)
    → fold with_piece (b ∷ bs) (map step_text (c ∷ cs)) ≡ (b ∷ bs) ++ slash ∷ spell (c ∷ cs)
with_pieces-non_slash b bs c [] = refl
with_pieces-non_slash b bs c (d ∷ cs) =
    with_pieces-non_slash b (bs ++ slash ∷ step_text c) d cs
    ∙ append_assoc (b ∷ bs) (slash ∷ step_text c) (slash ∷ spell (d ∷ cs))

-- the texts of components that spell themselves, written in turn, spell them
pub with_pieces-spell : (cs : List Step) → SpellThemselves cs → fold with_piece [] (map step_text cs) ≡ spell cs
with_pieces-spell [] proper = refl
with_pieces-spell (c ∷ []) proper = refl
with_pieces-spell (c ∷ d ∷ cs) proper = after (step_text c) (nonempty_proper c proper.0)
  where
    after : (p : List ℕ) → 0 < length p → fold with_piece p (map step_text (d ∷ cs)) ≡ p ++ slash ∷ spell (d ∷ cs)
    after [] none = absurd (omega arith)
    after (b ∷ bs) some = with_pieces-non_slash b bs d cs

-- ---- the table that climbs are cut out of

-- this many `..`, with a slash after each
abbrev pub climbs : ℕ → List ℕ
climbs zero = []
climbs (suc n) = dot ∷ dot ∷ slash ∷ climbs n

-- a front of that text spells as many climbs
pub climbs_front : (n m : ℕ) → n < m → take (3 * (n + 1) - 1) (climbs m) ≡ spell (replicate (n + 1) up)
climbs_front n zero less = absurd (omega (arith, less))
climbs_front zero (suc m) less = refl
climbs_front (suc n) (suc m) less =
    let index : 3 * (suc n + 1) - 1 ≡ suc (suc (suc (3 * (n + 1) - 1))) = omega arith in
    let count : suc n + 1 ≡ suc (n + 1) = omega arith in
    let count' : n + 1 ≡ suc n = omega arith in
    ap (λ k. take k (climbs (suc m))) index
    ∙ ap (λ x. dot ∷ dot ∷ slash ∷ x) (climbs_front n m (omega (arith, less)))
    ∙ ap (λ k. dot ∷ dot ∷ slash ∷ spell (replicate k up)) count'
    ∙ sym (ap (λ k. spell (replicate k up)) (count ∙ ap suc count'))

-- each of its indices is a character boundary
pub IsCharBoundary-climbs : (m n : ℕ) → n ≤ length (climbs m) → IsCharBoundary (climbs m) n
IsCharBoundary-climbs m n fits = IsCharBoundary-from_ascii (climbs m) n (ascii m) fits
  where
    ascii : (k i : ℕ) → get_or (climbs k) i 0 < 128
    ascii zero i = omega arith
    ascii (suc k) zero = omega arith
    ascii (suc k) (suc zero) = omega arith
    ascii (suc k) (suc (suc zero)) = omega arith
    ascii (suc k) (suc (suc (suc i))) = ascii k i

-- a slice of it spells as many climbs
pub climbs_cut : (n m : ℕ) (run : List ℕ) → 0 < n → n ≤ m → run ≡ slice_range (climbs m) 0 (3 * n - 1)
    → run ≡ spell (replicate n up)
climbs_cut n m run some few cut =
    let index : (3 * n - 1) - 0 ≡ 3 * ((n - 1) + 1) - 1 = omega (arith, some) in
    let count : (n - 1) + 1 ≡ n = omega (arith, some) in
    cut ∙ ap (λ k. take k (climbs m)) index ∙ climbs_front (n - 1) m (omega (arith, some, few))
    ∙ ap (λ k. spell (replicate k up)) count

-- ---- climbs after a text

pub map_step_text-ups : (n : ℕ) → map step_text (replicate n up) ≡ replicate n (step_text up)
map_step_text-ups zero = refl
map_step_text-ups (suc n) = ap (λ ps. step_text up ∷ ps) (map_step_text-ups n)

-- climbs in turn are spelled
pub with_pieces-climb : (n : ℕ) → fold with_piece [] (replicate n (step_text up)) ≡ spell (replicate n up)
with_pieces-climb n = ap (fold with_piece []) (sym (map_step_text-ups n)) ∙ with_pieces-spell (replicate n up) (SpellThemselves-ups n)

-- climbs at once, or in turn
with_piece-climb : (text : List ℕ) (n : ℕ) → 0 < n
    → with_piece text (spell (replicate n up)) ≡ fold with_piece text (replicate n (step_text up))
with_piece-climb text zero some = absurd (omega (arith, some))
with_piece-climb [] (suc n) some = sym (with_pieces-climb (suc n))
with_piece-climb (b ∷ bs) (suc n) some =
    sym (with_pieces-non_slash b bs up (replicate n up)) ∙ ap (fold with_piece (b ∷ bs)) (map_step_text-ups (suc n))

-- some of the climbs that are left at once, and then the others
module _ (text run : List ℕ) (left n most : ℕ) (some : 0 < left) (within : 0 < most) (count : n ≡ min left most)
    (cut : run ≡ slice_range (climbs most) 0 (3 * n - 1)) where
  first : fold with_piece text (replicate n (step_text up)) ≡ with_piece text run
  first =
      let spelled = climbs_cut n most run (omega (arith, count, some, within)) (omega (arith, count)) cut in
      sym (ap (with_piece text) spelled ∙ with_piece-climb text n (omega (arith, count, some, within)))

  pub with_pieces-some_climbs : fold with_piece (with_piece text run) (replicate (left - n) (step_text up))
      ≡ fold with_piece text (replicate left (step_text up))
  with_pieces-some_climbs =
      let others = replicate (left - n) (step_text up) in
      let all : n + (left - n) ≡ left = omega (arith, count) in
      ap (λ x. fold with_piece x others) (sym first)
      ∙ sym (fold-append with_piece text (replicate n (step_text up)) others)
      ∙ ap (fold with_piece text) (replicate-append-replicate n (left - n) (step_text up))
      ∙ ap (λ k. fold with_piece text (replicate k (step_text up))) all

  pub some_climbs_fit : length (with_piece text run) ≤ length (fold with_piece text (replicate left (step_text up)))
  some_climbs_fit =
      let shorter = length-with_pieces_le (with_piece text run) (replicate (left - n) (step_text up)) in
      omega (arith, shorter, ap length with_pieces-some_climbs)
