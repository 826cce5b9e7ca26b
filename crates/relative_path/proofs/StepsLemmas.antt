-- How the components of a text follow from its slashes.
use Rattle.std.proofs.Common.{◌≡◌, ◌≢◌, ℕ, suc, ◌+◌, ◌-◌, ◌<◌, ◌≤◌, false, cond, List, [], ◌∷◌, ◌++◌, map, length, get_or, filter, get_or-append-add, bytes_eq, sym, refl, ap, ◌∙◌, eqb-true, append-nil, arith, length-append, zero, Bool, replicate, drop, ⊎_elim}
use Rattle.std.specs.List.{slice_split, onto_first, AllByRecursion}
use Rattle.std.proofs.lemmas.Bool.{cond-true, cond-false, cond_both, cases_Bool, eqb-false}
use Rattle.std.proofs.lemmas.List.Elements.{filter-append, All-from_recursion}
use Rattle.std.proofs.lemmas.List.{map-append, get_or_at}
use Rattle.std.proofs.lemmas.Slice.Eq.{bytes_eq-Decides}
use Rattle.std.proofs.lemmas.List.Splits.{length-slice_split, slice_split_none}
use Rattle.relative_path.specs.Steps.{slash, dot, is_slash, is_not_empty, pieces, Step, cur, up, name, step_text, classed, components, SpellsItself, SpellThemselves}

-- no byte of the text is a slash
abbrev pub HasNoSlash : List ℕ → Type 0
HasNoSlash bs = AllByRecursion (λ b. is_slash b ≡ false) bs

pub HasNoSlash-append : (xs ys : List ℕ) → HasNoSlash xs → HasNoSlash ys → HasNoSlash (xs ++ ys)
HasNoSlash-append [] ys none none' = none'
HasNoSlash-append (b ∷ bs) ys none none' = (none.0, HasNoSlash-append bs ys none.1 none')

pub HasNoSlash-append_left : (xs ys : List ℕ) → HasNoSlash (xs ++ ys) → HasNoSlash xs
HasNoSlash-append_left [] ys none = tt
HasNoSlash-append_left (b ∷ bs) ys none = (none.0, HasNoSlash-append_left bs ys none.1)

-- ---- cutting

onto_first-append : (b : ℕ) (ps qs : List (List ℕ)) → 0 < length ps → onto_first b (ps ++ qs) ≡ onto_first b ps ++ qs
onto_first-append b [] qs nonempty = absurd (omega arith)
onto_first-append b (p ∷ ps) qs nonempty = refl

slice_split_nonempty : (bs : List ℕ) → 0 < length (slice_split is_slash bs)
slice_split_nonempty bs = omega (arith, length-slice_split is_slash bs)

slice_split-append : (xs ys : List ℕ)
    → slice_split is_slash (xs ++ slash ∷ ys) ≡ slice_split is_slash xs ++ slice_split is_slash ys
slice_split-append [] ys = refl
slice_split-append (x ∷ xs) ys =
    let rest = slice_split-append xs ys in
    let joined = onto_first-append x (slice_split is_slash xs) (slice_split is_slash ys) (slice_split_nonempty xs) in
    ⊎_elim
    (λ e. rw (cond-true (is_slash x) _ _ e, cond-true (is_slash x) _ _ e) (ap (λ ps. [] ∷ ps) rest))
    (λ e. rw (cond-false (is_slash x) _ _ e, cond-false (is_slash x) _ _ e) (ap (onto_first x) rest ∙ joined))
    (cases_Bool (is_slash x))

pieces-append : (xs ys : List ℕ) → pieces (xs ++ slash ∷ ys) ≡ pieces xs ++ pieces ys
unfolding pieces
pieces-append xs ys =
    ap (filter is_not_empty) (slice_split-append xs ys)
    ∙ filter-append is_not_empty (slice_split is_slash xs) (slice_split is_slash ys)

-- a non-empty text without a slash is one piece
pieces_whole : (b : ℕ) (bs : List ℕ) → HasNoSlash (b ∷ bs) → pieces (b ∷ bs) ≡ (b ∷ bs) ∷ []
unfolding pieces
pieces_whole b bs h =
    rw (slice_split_none is_slash (b ∷ bs) (All-from_recursion (λ x. is_slash x ≡ false) (b ∷ bs) h)) refl

pub components-nil : components [] ≡ []
unfolding components pieces
components-nil = refl

pub components-append : (xs ys : List ℕ) → components (xs ++ slash ∷ ys) ≡ components xs ++ components ys
unfolding components
components-append xs ys = ap (map classed) (pieces-append xs ys) ∙ map-append classed (pieces xs) (pieces ys)

pub components-slash : (ys : List ℕ) → components (slash ∷ ys) ≡ components ys
components-slash ys = components-append [] ys ∙ ap (λ cs. cs ++ components ys) components-nil

pub components-trailing_slash : (xs : List ℕ) → components (xs ++ slash ∷ []) ≡ components xs
components-trailing_slash xs =
    components-append xs [] ∙ ap (λ cs. components xs ++ cs) components-nil ∙ append-nil (components xs)

-- a non-empty text without a slash is one component
pub components_whole : (p : List ℕ) → 0 < length p → HasNoSlash p → components p ≡ classed p ∷ []
unfolding components
components_whole [] nonempty h = absurd (omega arith)
components_whole (b ∷ bs) nonempty h = ap (map classed) (pieces_whole b bs h)

-- ---- classing

pub step_text-classed : (p : List ℕ) → step_text (classed p) ≡ p
step_text-classed p =
    cond_both (bytes_eq p (dot ∷ [])) cur (cond (bytes_eq p (dot ∷ dot ∷ [])) up (name p)) (λ c. step_text c ≡ p)
    (λ e. sym ((bytes_eq-Decides p (dot ∷ [])).0 e))
    (λ _. cond_both (bytes_eq p (dot ∷ dot ∷ [])) up (name p) (λ c. step_text c ≡ p)
    (λ e. sym ((bytes_eq-Decides p (dot ∷ dot ∷ [])).0 e)) (λ _. refl))

-- ---- components that spell themselves

pub SpellsItself-up : SpellsItself up
SpellsItself-up = components_whole (step_text up) (omega arith) (refl, (refl, tt))

pub SpellThemselves-append : (cs ds : List Step) → SpellThemselves cs → SpellThemselves ds → SpellThemselves (cs ++ ds)
SpellThemselves-append [] ds proper proper' = proper'
SpellThemselves-append (c ∷ cs) ds proper proper' = (proper.0, SpellThemselves-append cs ds proper.1 proper')

pub SpellThemselves-append_left : (cs ds : List Step) → SpellThemselves (cs ++ ds) → SpellThemselves cs
SpellThemselves-append_left [] ds proper = tt
SpellThemselves-append_left (c ∷ cs) ds proper = (proper.0, SpellThemselves-append_left cs ds proper.1)

pub SpellThemselves-drop : (n : ℕ) (cs : List Step) → SpellThemselves cs → SpellThemselves (drop n cs)
SpellThemselves-drop zero cs proper = proper
SpellThemselves-drop (suc n) [] proper = tt
SpellThemselves-drop (suc n) (c ∷ cs) proper = SpellThemselves-drop n cs proper.1

pub SpellThemselves-filter : (p : Step → Bool) (cs : List Step) → SpellThemselves cs → SpellThemselves (filter p cs)
SpellThemselves-filter p [] proper = tt
SpellThemselves-filter p (c ∷ cs) proper = ⊎_elim
    (λ e. rw (cond-true (p c) (c ∷ filter p cs) (filter p cs) e) (proper.0, SpellThemselves-filter p cs proper.1))
    (λ e. rw (cond-false (p c) (c ∷ filter p cs) (filter p cs) e) (SpellThemselves-filter p cs proper.1))
    (cases_Bool (p c))

pub SpellThemselves-ups : (n : ℕ) → SpellThemselves (replicate n up)
SpellThemselves-ups zero = tt
SpellThemselves-ups (suc n) = (SpellsItself-up, SpellThemselves-ups n)

pub SpellThemselves-names : (names : List (List ℕ)) → AllByRecursion (λ n. SpellsItself (name n)) names
    → SpellThemselves (map name names)
SpellThemselves-names [] proper = tt
SpellThemselves-names (n ∷ ns) proper = (proper.0, SpellThemselves-names ns proper.1)

-- ---- counting bytes

-- how many bytes are no slash
abbrev pub solid_len : List ℕ → ℕ
solid_len [] = 0
solid_len (b ∷ bs) = cond (is_slash b) (solid_len bs) (suc (solid_len bs))

-- how many bytes the components have
abbrev pub total_len : List Step → ℕ
total_len [] = 0
total_len (c ∷ cs) = length (step_text c) + total_len cs

-- how many bytes the pieces have
abbrev pub parts_len : List (List ℕ) → ℕ
parts_len [] = 0
parts_len (p ∷ ps) = length p + parts_len ps

parts_len-onto_first : (b : ℕ) (ps : List (List ℕ)) → parts_len (onto_first b ps) ≡ suc (parts_len ps)
parts_len-onto_first b [] = refl
parts_len-onto_first b (p ∷ ps) = omega arith

parts_len-slice_split : (bs : List ℕ) → parts_len (slice_split is_slash bs) ≡ solid_len bs
parts_len-slice_split [] = refl
parts_len-slice_split (b ∷ bs) =
    ⊎_elim
    (λ e. rw (cond-true (is_slash b) _ _ e, cond-true (is_slash b) _ _ e) (omega (arith, parts_len-slice_split bs)))
    (λ e. rw (cond-false (is_slash b) _ _ e, cond-false (is_slash b) _ _ e)
    (omega (arith, parts_len-onto_first b (slice_split is_slash bs), parts_len-slice_split bs)))
    (cases_Bool (is_slash b))

pub parts_len-filter : (ps : List (List ℕ)) → parts_len (filter is_not_empty ps) ≡ parts_len ps
parts_len-filter [] = refl
parts_len-filter ([] ∷ ps) = omega (arith, parts_len-filter ps)
parts_len-filter ((b ∷ bs) ∷ ps) = omega (arith, parts_len-filter ps)

total_len-classed : (ps : List (List ℕ)) → total_len (map classed ps) ≡ parts_len ps
total_len-classed [] = refl
total_len-classed (p ∷ ps) = omega (arith, ap length (step_text-classed p), total_len-classed ps)

pub total_len-components : (bs : List ℕ) → total_len (components bs) ≡ solid_len bs
unfolding components pieces
total_len-components bs =
    total_len-classed (pieces bs) ∙ parts_len-filter (slice_split is_slash bs) ∙ parts_len-slice_split bs

-- ---- the components of a text spell themselves

-- a piece is non-empty and has no slash
abbrev IsPiece : List ℕ → Type 0
IsPiece p = (0 < length p) × HasNoSlash p

HasNoSlash-onto_first : (b : ℕ) (ps : List (List ℕ)) → is_slash b ≡ false → AllByRecursion HasNoSlash ps
    → AllByRecursion HasNoSlash (onto_first b ps)
HasNoSlash-onto_first b [] e h = ((e, tt), tt)
HasNoSlash-onto_first b (p ∷ ps) e h = ((e, h.0), h.1)

HasNoSlash-slice_split : (bs : List ℕ) → AllByRecursion HasNoSlash (slice_split is_slash bs)
HasNoSlash-slice_split [] = (tt, tt)
HasNoSlash-slice_split (b ∷ bs) =
    cond_both (is_slash b) ([] ∷ slice_split is_slash bs) (onto_first b (slice_split is_slash bs))
    (AllByRecursion HasNoSlash)
    (λ _. (tt, HasNoSlash-slice_split bs))
    (λ e. HasNoSlash-onto_first b (slice_split is_slash bs) e (HasNoSlash-slice_split bs))

IsPiece-filter : (ps : List (List ℕ)) → AllByRecursion HasNoSlash ps → AllByRecursion IsPiece (filter is_not_empty ps)
IsPiece-filter [] h = tt
IsPiece-filter ([] ∷ ps) h = IsPiece-filter ps h.1
IsPiece-filter ((b ∷ bs) ∷ ps) h = ((omega arith, h.0), IsPiece-filter ps h.1)

SpellsItself-classed : (p : List ℕ) → IsPiece p → SpellsItself (classed p)
SpellsItself-classed p h = rw (step_text-classed p) (components_whole p h.0 h.1)

SpellThemselves-classed : (ps : List (List ℕ)) → AllByRecursion IsPiece ps → SpellThemselves (map classed ps)
SpellThemselves-classed [] h = tt
SpellThemselves-classed (p ∷ ps) h = (SpellsItself-classed p h.0, SpellThemselves-classed ps h.1)

pub SpellThemselves-components : (bs : List ℕ) → SpellThemselves (components bs)
unfolding components pieces
SpellThemselves-components bs =
    SpellThemselves-classed (pieces bs) (IsPiece-filter (slice_split is_slash bs) (HasNoSlash-slice_split bs))

-- ---- the last byte

-- the last byte of a joined text is that of its non-empty second part
pub end-append : (xs ys : List ℕ) → 0 < length ys
    → get_or (xs ++ ys) (length (xs ++ ys) - 1) 0 ≡ get_or ys (length ys - 1) 0
end-append xs ys nonempty =
    let index : length (xs ++ ys) - 1 ≡ length xs + (length ys - 1) = omega (arith, length-append xs ys) in
    ap (λ i. get_or (xs ++ ys) i 0) index ∙ get_or-append-add xs ys (length ys - 1) 0

-- a text with a slash appended ends in it
pub last-append_slash : (xs : List ℕ) → get_or (xs ++ slash ∷ []) (length (xs ++ slash ∷ []) - 1) 0 ≡ slash
last-append_slash xs =
    let index : length (xs ++ slash ∷ []) - 1 ≡ length xs = omega (arith, length-append xs (slash ∷ [])) in
    ap (λ i. get_or (xs ++ slash ∷ []) i 0) index ∙ get_or_at xs slash [] 0 (length xs) refl

-- ---- non-slash bytes

pub solid_len-append : (xs ys : List ℕ) → solid_len (xs ++ ys) ≡ solid_len xs + solid_len ys
solid_len-append [] ys = omega arith
solid_len-append (x ∷ xs) ys =
    ⊎_elim
    (λ e. rw (cond-true (is_slash x) _ _ e, cond-true (is_slash x) _ _ e) (solid_len-append xs ys))
    (λ e. rw (cond-false (is_slash x) _ _ e, cond-false (is_slash x) _ _ e) (omega (arith, solid_len-append xs ys)))
    (cases_Bool (is_slash x))

pub solid_len_le : (bs : List ℕ) → solid_len bs ≤ length bs
solid_len_le [] = omega arith
solid_len_le (b ∷ bs) =
    cond_both (is_slash b) (solid_len bs) (suc (solid_len bs)) (λ n. n ≤ suc (length bs))
    (λ _. omega (arith, solid_len_le bs)) (λ _. omega (arith, solid_len_le bs))

-- a non-empty text of slashes alone ends in a slash
pub last-not_solid : (bs : List ℕ) → solid_len bs ≡ 0 → 0 < length bs → get_or bs (length bs - 1) 0 ≡ slash
last-not_solid [] none nonempty = absurd (omega arith)
last-not_solid (b ∷ []) none nonempty =
    ⊎_elim
    (λ e. eqb-true b slash e)
    (λ e. absurd (let h = rw (cond-false {A = ℕ} (is_slash b) 0 1 e) at none in omega (arith, h)))
    (cases_Bool (is_slash b))
last-not_solid (b ∷ c ∷ bs) none nonempty =
    let rest : solid_len (c ∷ bs) ≡ 0 = omega (arith, solid_len-append (b ∷ []) (c ∷ bs)) in
    end-append (b ∷ []) (c ∷ bs) (omega arith) ∙ last-not_solid (c ∷ bs) rest (omega arith)

HasNoSlash-from_solid : (bs : List ℕ) → solid_len bs ≡ length bs → HasNoSlash bs
HasNoSlash-from_solid [] non_slash = tt
HasNoSlash-from_solid (b ∷ bs) non_slash =
    ⊎_elim
    (λ e. absurd (let h = rw (cond-true (is_slash b) (solid_len bs) (suc (solid_len bs)) e) at non_slash in
    omega (arith, h, solid_len_le bs)))
    (λ e. (
      e,
      HasNoSlash-from_solid bs
          (let h = rw (cond-false (is_slash b) (solid_len bs) (suc (solid_len bs)) e) at non_slash in omega (arith, h)),
    ))
    (cases_Bool (is_slash b))

-- the text of a component that spells itself has no slash
pub HasNoSlash-proper : (c : Step) → SpellsItself c → HasNoSlash (step_text c)
HasNoSlash-proper c proper =
    let counted = total_len-components (step_text c) in
    let counts = rw proper at counted in
    HasNoSlash-from_solid (step_text c) (omega (arith, counts))

-- the text of a component that spells itself is non-empty
pub nonempty_proper : (c : Step) → SpellsItself c → 0 < length (step_text c)
nonempty_proper c proper = nonempty (step_text c) proper
  where
    nonempty : (p : List ℕ) → components p ≡ c ∷ [] → 0 < length p
    nonempty [] e = let none = components-nil in absurd (cc)
    nonempty (b ∷ bs) e = omega arith

-- ---- ends of texts

-- a non-empty text without a slash doesn't begin with one
pub HasNoSlash-start : (p rest : List ℕ) → 0 < length p → HasNoSlash p → get_or (p ++ rest) 0 0 ≢ slash
HasNoSlash-start [] rest nonempty h = absurd (omega arith)
HasNoSlash-start (b ∷ bs) rest nonempty h = λ e. eqb-false b slash h.0 e

-- a text without a slash doesn't end in one
pub HasNoSlash-end : (p : List ℕ) → HasNoSlash p → get_or p (length p - 1) 0 ≢ slash
HasNoSlash-end [] h = λ e. absurd (omega (arith, e))
HasNoSlash-end (b ∷ []) h = λ e. eqb-false b slash h.0 e
HasNoSlash-end (b ∷ c ∷ bs) h = λ e. HasNoSlash-end (c ∷ bs) h.1 (sym (end-append (b ∷ []) (c ∷ bs) (omega arith)) ∙ e)

length_le_total_len : (cs : List Step) → SpellThemselves cs → length cs ≤ total_len cs
length_le_total_len [] proper = omega arith
length_le_total_len (c ∷ cs) proper = omega (arith, nonempty_proper c proper.0, length_le_total_len cs proper.1)

-- a text has no more components than bytes
pub length-components_le : (text : List ℕ) → length (components text) ≤ length text
length-components_le text =
    let each = length_le_total_len (components text) (SpellThemselves-components text) in
    omega (arith, each, total_len-components text, solid_len_le text)
