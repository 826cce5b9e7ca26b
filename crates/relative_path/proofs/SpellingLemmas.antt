-- The text that spells components: its components, its ends and its length.
use Rattle.std.proofs.Common.{◌≡◌, ◌≢◌, ◌-◌, ◌<◌, List, [], ◌++◌, length, get_or, sym, ap, ap₂, ◌∙◌, append_assoc, arith, length-append, refl, ℕ, ◌≤◌, append-nil, ◌+◌, zero, suc, ◌*◌, Bool, replicate, map, drop, ⊎_elim, ◌∷◌}
use Rattle.std.specs.List.{filter, join_with_byte, slice_split}
use Rattle.std.proofs.lemmas.Bool.{cases_Bool, cond-true, cond-false}
use Rattle.std.proofs.lemmas.List.Splits.{join_with_byte-slice_split}
use Rattle.relative_path.specs.Steps.{slash, Step, step_text, components, spell, SpellsItself, SpellThemselves, slashed_len, up, name, is_slash, is_not_empty, pieces, classed}
use Rattle.relative_path.proofs.StepsLemmas.{components-nil, end-append, components-append, HasNoSlash-proper, nonempty_proper, HasNoSlash-end, step_text-classed, parts_len, parts_len-filter}
use Rattle.relative_path.proofs.SlicesLemmas.{IsPrefix, IsPrefix-append}
use Rattle.relative_path.proofs.ListsLemmas.{length-filter_le}

-- ---- components and ends

pub components-spell : (cs : List Step) → SpellThemselves cs → components (spell cs) ≡ cs
components-spell [] proper = components-nil
components-spell (c ∷ []) proper = proper.0
components-spell (c ∷ d ∷ cs) proper =
    components-append (step_text c) (spell (d ∷ cs))
    ∙ ap₂ (λ xs ys. xs ++ ys) proper.0 (components-spell (d ∷ cs) proper.1)

pub spell_nonempty : (c : Step) (cs : List Step) → SpellsItself c → 0 < length (spell (c ∷ cs))
spell_nonempty c [] proper = nonempty_proper c proper
spell_nonempty c (d ∷ cs) proper = omega (arith, length-append (step_text c) (slash ∷ spell (d ∷ cs)))

-- the text doesn't end in a slash
pub spell_end : (cs : List Step) → SpellThemselves cs → get_or (spell cs) (length (spell cs) - 1) 0 ≢ slash
spell_end [] proper = HasNoSlash-end [] tt
spell_end (c ∷ []) proper = HasNoSlash-end (step_text c) (HasNoSlash-proper c proper.0)
spell_end (c ∷ d ∷ cs) proper = λ e.
    let longer = end-append (step_text c ++ slash ∷ []) (spell (d ∷ cs)) (spell_nonempty d cs proper.1.0) in
    let same : step_text c ++ slash ∷ spell (d ∷ cs) ≡ (step_text c ++ slash ∷ []) ++ spell (d ∷ cs) =
    sym (append_assoc (step_text c) (slash ∷ []) (spell (d ∷ cs))) in
    spell_end (d ∷ cs) proper.1 (sym longer ∙ ap (λ x. get_or x (length x - 1) 0) (sym same) ∙ e)

-- a slash joins the texts of two lists that have components
pub spell-append : (c : Step) (cs : List Step) (d : Step) (ds : List Step)
    → spell ((c ∷ cs) ++ (d ∷ ds)) ≡ spell (c ∷ cs) ++ slash ∷ spell (d ∷ ds)
spell-append c [] d ds = refl
spell-append c (e ∷ es) d ds =
    ap (λ x. step_text c ++ slash ∷ x) (spell-append e es d ds)
    ∙ sym (append_assoc (step_text c) (slash ∷ spell (e ∷ es)) (slash ∷ spell (d ∷ ds)))

pub IsPrefix-spell : (cs : List Step) (c : Step) → IsPrefix (spell (cs ++ c ∷ [])) (spell cs)
IsPrefix-spell [] c = record { front = refl }
IsPrefix-spell (d ∷ cs) c = rw (spell-append d cs c []) (IsPrefix-append (spell (d ∷ cs)) (slash ∷ step_text c))

-- ---- length

-- more components make the text no shorter
pub length-spell-append_le : (cs ds : List Step) → length (spell cs) ≤ length (spell (cs ++ ds))
length-spell-append_le [] ds = omega arith
length-spell-append_le (c ∷ cs) [] = rw (append-nil cs) (omega arith)
length-spell-append_le (c ∷ cs) (d ∷ ds) =
    rw (spell-append c cs d ds) (omega (arith, length-append {A = ℕ}))

-- one component less makes the text no longer
pub length-spell-drop_one : (cs ds : List Step) (c : Step) → length (spell (cs ++ ds)) ≤ length (spell (cs ++ c ∷ ds))
length-spell-drop_one [] [] c = omega arith
length-spell-drop_one [] (d ∷ ds) c = omega (arith, length-append {A = ℕ})
length-spell-drop_one (e ∷ es) [] c = rw (append-nil es) (length-spell-append_le (e ∷ es) (c ∷ []))
length-spell-drop_one (e ∷ es) (d ∷ ds) c =
    rw (spell-append e es d ds, spell-append e es c (d ∷ ds)) (omega (arith, length-append {A = ℕ}))

pub slashed_len-append : (cs ds : List Step) → slashed_len (cs ++ ds) ≡ slashed_len cs + slashed_len ds
slashed_len-append [] ds = omega arith
slashed_len-append (c ∷ cs) ds = omega (arith, slashed_len-append cs ds)

length-spell_slashed : (c : Step) (cs : List Step) → length (spell (c ∷ cs)) + 1 ≡ slashed_len (c ∷ cs)
length-spell_slashed c [] = omega arith
length-spell_slashed c (d ∷ cs) =
    omega (arith, length-append (step_text c) (slash ∷ spell (d ∷ cs)), length-spell_slashed d cs)

-- the text has one byte less than the components with a slash after each
pub length-spell : (cs : List Step) → length (spell cs) ≡ slashed_len cs - 1
length-spell [] = omega arith
length-spell (c ∷ cs) = omega (arith, length-spell_slashed c cs)

pub length-spell-append : (cs ds : List Step) → length (spell (cs ++ ds)) ≤ length (spell cs) + 1 + length (spell ds)
length-spell-append cs ds =
    omega (arith, length-spell (cs ++ ds), length-spell cs, length-spell ds, slashed_len-append cs ds)

pub length_le_slashed_len : (cs : List Step) → length cs ≤ slashed_len cs
length_le_slashed_len [] = omega arith
length_le_slashed_len (c ∷ cs) = omega (arith, length_le_slashed_len cs)

pub slashed_len-filter : (p : Step → Bool) (cs : List Step) → slashed_len (filter p cs) ≤ slashed_len cs
slashed_len-filter p [] = omega arith
slashed_len-filter p (c ∷ cs) = ⊎_elim
    (λ e. rw (cond-true (p c) (c ∷ filter p cs) (filter p cs) e) (omega (arith, slashed_len-filter p cs)))
    (λ e. rw (cond-false (p c) (c ∷ filter p cs) (filter p cs) e) (omega (arith, slashed_len-filter p cs)))
    (cases_Bool (p c))

slashed_len-replicate : (n : ℕ) → slashed_len (replicate n up) ≡ 3 * n
slashed_len-replicate zero = refl
slashed_len-replicate (suc n) = omega (arith, slashed_len-replicate n)

pub length-spell-ups : (n : ℕ) (cs : List Step) → length (spell (replicate n up ++ cs)) ≡ 3 * n + slashed_len cs - 1
length-spell-ups n cs =
    omega (arith, length-spell (replicate n up ++ cs), slashed_len-append (replicate n up) cs, slashed_len-replicate n)

-- some of the names have no more bytes than all
pub slashed_len-drop_le : (n : ℕ) (names : List (List ℕ))
    → slashed_len (map name (drop n names)) ≤ slashed_len (map name names)
slashed_len-drop_le zero names = omega arith
slashed_len-drop_le (suc n) [] = omega arith
slashed_len-drop_le (suc n) (x ∷ names) = omega (arith, slashed_len-drop_le n names)

-- ---- a text is no shorter than what spells its components

length-join_with_byte : (c : ℕ) (p : List ℕ) (ps : List (List ℕ))
    → suc (length (join_with_byte c (p ∷ ps))) ≡ parts_len (p ∷ ps) + length (p ∷ ps)
length-join_with_byte c p [] = omega arith
length-join_with_byte c p (q ∷ ps) =
    omega (arith, length-append p (c ∷ join_with_byte c (q ∷ ps)), length-join_with_byte c q ps)

length-join-filter : (c : ℕ) (ps : List (List ℕ))
    → length (join_with_byte c (filter is_not_empty ps)) ≤ length (join_with_byte c ps)
length-join-filter c [] = omega arith
length-join-filter c (p ∷ ps) =
    shorter (filter is_not_empty (p ∷ ps)) (parts_len-filter (p ∷ ps)) (length-filter_le (p ∷ ps))
  where
    shorter : (qs : List (List ℕ)) → parts_len qs ≡ parts_len (p ∷ ps) → length qs ≤ length (p ∷ ps)
        → length (join_with_byte c qs) ≤ length (join_with_byte c (p ∷ ps))
    shorter [] same fewer = omega arith
    shorter (q ∷ qs) same fewer = omega (arith, length-join_with_byte c q qs, length-join_with_byte c p ps)

step_texts : (ps : List (List ℕ)) → map step_text (map classed ps) ≡ ps
step_texts [] = refl
step_texts (p ∷ ps) = ap₂ (λ x xs. x ∷ xs) (step_text-classed p) (step_texts ps)

pub length-spell-components : (text : List ℕ) → length (spell (components text)) ≤ length text
unfolding components pieces
length-spell-components text =
    let spelled = ap (λ ps. length (join_with_byte slash ps)) (step_texts (pieces text)) in
    let shorter = length-join-filter slash (slice_split is_slash text) in
    omega (arith, spelled, shorter, ap length (join_with_byte-slice_split slash text))

pub slashed_len-components : (text : List ℕ) → slashed_len (components text) ≤ length text + 1
slashed_len-components text = omega (arith, length-spell (components text), length-spell-components text)
