-- What pushes and pops do to the components of a text.
use Rattle.std.proofs.Common.{◌≡◌, ◌≢◌, ℕ, suc, ◌+◌, ◌-◌, ◌<◌, ◌≤◌, false, List, [], ◌∷◌, ◌++◌, replicate, length, get_or, take, sym, refl, ap, ap₂, ◌∙◌, subst, append_assoc, append-nil, arith, ne_eqb, eqb, eqb-true, length-append, take_at, zero, add-one, not, ⊎_elim}
use Rattle.std.specs.List.{suffix_len, prefix_len}
use Rattle.std.proofs.lemmas.Bool.{cond-true, cond-false, cases_Bool, cond_both}
use Rattle.std.proofs.lemmas.List.{reverse-append, replicate_more, length-replicate}
use Rattle.std.proofs.lemmas.List.Elements.{filter-append}
use Rattle.relative_path.specs.Steps.{slash, Step, cur, components, up, name, step_text, spell, SpellThemselves, SpellsItself}
use Rattle.relative_path.specs.Slices.{IsShortestPrefix, IsCut, IsFront}
use Rattle.relative_path.specs.Editing.{with_separator, unslashed, pushed, is_cur, kept_len, IsPopped, without_cur_dirs}
use Rattle.relative_path.proofs.StepsLemmas.{components-nil, components-append, components-slash, components-trailing_slash, SpellThemselves-components, HasNoSlash-proper, HasNoSlash-start, nonempty_proper}
use Rattle.relative_path.proofs.SlicesLemmas.{IsPrefix, IsPrefix-trans, IsPrefix-shortest, IsShortestPrefix-from, IsShortestPrefix-trans, end-IsShortestPrefix, ends_separated}
use Rattle.relative_path.proofs.SpellingLemmas.{spell_end, spell_nonempty, spell-append}

-- ---- the components that a parent loses

suffix_len-curs : (cs : List Step) (n : ℕ) → suffix_len is_cur (cs ++ replicate n cur) ≡ n + suffix_len is_cur cs
suffix_len-curs cs zero = ap (suffix_len is_cur) (append-nil cs) ∙ omega arith
suffix_len-curs cs (suc n) =
    let last : cs ++ replicate (suc n) cur ≡ (cs ++ replicate n cur) ++ cur ∷ [] =
    ap (λ x. cs ++ x) (sym (replicate_more n cur ∙ ap (λ k. replicate k cur) (add-one n)))
    ∙ sym (append_assoc cs (replicate n cur) (cur ∷ [])) in
    ap (suffix_len is_cur) last ∙ ap (prefix_len is_cur) (reverse-append (cs ++ replicate n cur) (cur ∷ []))
    ∙ omega (arith, suffix_len-curs cs n)

pub kept_len-curs : (cs : List Step) (n : ℕ) → kept_len (cs ++ replicate n cur) ≡ kept_len cs
kept_len-curs cs n = omega (arith, suffix_len-curs cs n, length-append cs (replicate n cur), length-replicate n cur)

pub kept_len-push : (cs : List Step) (c : Step) → is_cur c ≡ false → kept_len (cs ++ c ∷ []) ≡ length cs
kept_len-push cs c other =
    let last : suffix_len is_cur (cs ++ c ∷ []) ≡ 0 =
    ap (prefix_len is_cur) (reverse-append cs (c ∷ [])) ∙ cond-false (is_cur c) _ _ other in
    omega (arith, last, length-append cs (c ∷ []))

-- left is a prefix of the text that ends in no slash and lacks only `.` components
pub record LosesCurs (text left : List ℕ) : Type 0 where
  pub prefix : IsPrefix text left
  pub end : get_or left (length left - 1) 0 ≢ slash
  pub lost : ℕ
  pub joined : components text ≡ components left ++ replicate lost cur

pub LosesCurs-cur : (text left front : List ℕ) → LosesCurs text left → components left ≡ components front ++ cur ∷ []
    → IsFront left front → LosesCurs text front
LosesCurs-cur text left front h last cut = record {
  prefix = IsPrefix-trans h.prefix (IsPrefix-shortest cut);
  end = end-IsShortestPrefix cut;
  lost = suc h.lost;
  joined =
      h.joined ∙ ap (λ cs. cs ++ replicate h.lost cur) last
      ∙ append_assoc (components front) (cur ∷ []) (replicate h.lost cur);
}

pub IsPopped-none : (text left front : List ℕ) → LosesCurs text left → components left ≡ [] → IsFront left front
    → IsPopped text front
IsPopped-none text left front h none cut =
    let kept = ap kept_len h.joined ∙ kept_len-curs (components left) h.lost ∙ ap kept_len none in
    let nothing = ap (λ cs. take (length cs - 1) cs) none in
    rw kept (subst (λ cs. IsShortestPrefix text cs front) nothing (IsShortestPrefix-trans h.prefix cut))

-- the component before the lost ones
module _ (text left front : List ℕ) (c : Step) (h : LosesCurs text left) (other : is_cur c ≡ false)
    (last : components left ≡ components front ++ c ∷ []) where
  whole : components text ≡ (components front ++ c ∷ []) ++ replicate h.lost cur
  whole = h.joined ∙ ap (λ cs. cs ++ replicate h.lost cur) last

  pub kept_len-front : kept_len (components text) ≡ length (components front)
  kept_len-front =
      ap kept_len whole ∙ kept_len-curs (components front ++ c ∷ []) h.lost ∙ kept_len-push (components front) c other

  -- the text before it is what a parent keeps
  pub IsPopped-front : IsFront left front → IsPopped text front
  IsPopped-front cut =
      let firsts =
      ap₂ take kept_len-front (whole ∙ append_assoc (components front) (c ∷ []) (replicate h.lost cur))
      ∙ take_at (components front) _ (length (components front)) refl in
      let shortest = IsShortestPrefix-trans h.prefix cut in
      subst (λ cs. IsShortestPrefix text cs front) (sym cut.same_components ∙ sym firsts) shortest

  -- the text up to its end has one more component
  pub IsCut-through : IsCut text (kept_len (components text) + 1) left
  IsCut-through =
      let count : kept_len (components text) + 1 ≡ length (components front ++ c ∷ []) =
      omega (arith, kept_len-front, length-append (components front) (c ∷ [])) in
      let firsts = ap₂ take count whole ∙ take_at (components front ++ c ∷ []) _ _ refl in
      IsShortestPrefix-from h.prefix (last ∙ sym firsts) h.end

-- ---- pushing

-- a non-empty text that doesn't end in a slash gets one
pub with_separator-non_slash : (text : List ℕ) → 0 < length text → get_or text (length text - 1) 0 ≢ slash
    → with_separator text ≡ text ++ slash ∷ []
with_separator-non_slash [] nonempty end = absurd (omega arith)
with_separator-non_slash (b ∷ bs) nonempty end =
    let last : length (b ∷ bs) - 1 ≡ length bs = omega arith in
    cond-false _ _ _ (ne_eqb (get_or (b ∷ bs) (length bs) 0) slash (λ e. end (ap (λ i. get_or (b ∷ bs) i 0) last ∙ e)))

components-with_separator : (text rest : List ℕ)
    → components (with_separator text ++ rest) ≡ components text ++ components rest
components-with_separator [] rest = ap (λ cs. cs ++ components rest) (sym components-nil)
components-with_separator (b ∷ bs) rest =
    let last : length (b ∷ bs) - 1 ≡ length bs = omega arith in
    ⊎_elim
    (λ e.
    let front = take (length (b ∷ bs) - 1) (b ∷ bs) in
    let ends = ends_separated (b ∷ bs) (ap (λ i. get_or (b ∷ bs) i 0) last ∙ eqb-true _ slash e) in
    ap (λ x. components (x ++ rest)) (cond-true _ _ _ e ∙ ends) ∙ ap components (append_assoc front (slash ∷ []) rest)
    ∙ components-append front rest
    ∙ ap (λ cs. cs ++ components rest) (sym (components-trailing_slash front) ∙ ap components (sym ends)))
    (λ e. ap (λ x. components (x ++ rest)) (cond-false _ _ _ e)
    ∙ ap components (append_assoc (b ∷ bs) (slash ∷ []) rest) ∙ components-append (b ∷ bs) rest)
    (cases_Bool (eqb (get_or (b ∷ bs) (length bs) 0) slash))

components-unslashed : (path : List ℕ) → components (unslashed path) ≡ components path
components-unslashed [] = refl
components-unslashed (b ∷ bs) =
    ⊎_elim
    (λ e. ap components (cond-true _ _ _ e) ∙ sym (components-slash bs)
    ∙ ap (λ x. components (x ∷ bs)) (sym (eqb-true b slash e)))
    (λ e. ap components (cond-false _ _ _ e))
    (cases_Bool (eqb b slash))

pub components-pushed : (text path : List ℕ) → components (pushed text path) ≡ components text ++ components path
components-pushed text path =
    components-with_separator text (unslashed path) ∙ ap (λ cs. components text ++ cs) (components-unslashed path)

-- a text that doesn't begin with a slash is pushed as it is
pub unslashed-non_slash : (path : List ℕ) → get_or path 0 0 ≢ slash → unslashed path ≡ path
unslashed-non_slash [] start = refl
unslashed-non_slash (b ∷ bs) start = cond-false _ _ _ (ne_eqb b slash start)

length-with_separator_le : (text : List ℕ) → length text ≤ length (with_separator text)
length-with_separator_le [] = omega arith
length-with_separator_le (b ∷ bs) =
    let separated = (b ∷ bs) ++ slash ∷ [] in
    let longer = length-append (b ∷ bs) (slash ∷ []) in
    cond_both _ (b ∷ bs) separated (λ x. length (b ∷ bs) ≤ length x) (λ _. omega arith) (λ _. omega (arith, longer))

pub length-pushed_le : (text path : List ℕ) → length text ≤ length (pushed text path)
length-pushed_le text path =
    omega (arith, length-with_separator_le text, length-append (with_separator text) (unslashed path))

-- ---- without any `.`

pub without_cur_dirs-curs : (n : ℕ) → without_cur_dirs (replicate n cur) ≡ []
without_cur_dirs-curs zero = refl
without_cur_dirs-curs (suc n) = without_cur_dirs-curs n

-- a component other than `.`, before `.` components at the end, stays last
pub without_cur_dirs-at : (cs : List Step) (c : Step) (n : ℕ) → is_cur c ≡ false
    → without_cur_dirs (cs ++ c ∷ replicate n cur) ≡ without_cur_dirs cs ++ c ∷ []
without_cur_dirs-at cs c n other =
    filter-append (λ d. not (is_cur d)) cs (c ∷ replicate n cur)
    ∙ ap (λ ds. without_cur_dirs cs ++ ds) (cond-true _ _ _ (ap not other) ∙ ap (λ ds. c ∷ ds) (without_cur_dirs-curs n))

pub without_cur_dirs-twice : (cs : List Step) → without_cur_dirs (without_cur_dirs cs) ≡ without_cur_dirs cs
without_cur_dirs-twice [] = refl
without_cur_dirs-twice (cur ∷ cs) = without_cur_dirs-twice cs
without_cur_dirs-twice (up ∷ cs) = ap (λ ds. up ∷ ds) (without_cur_dirs-twice cs)
without_cur_dirs-twice (name n ∷ cs) = ap (λ ds. name n ∷ ds) (without_cur_dirs-twice cs)

-- a component of two bytes or more isn't `.`
pub long_other : (c : Step) → 1 < length (step_text c) → is_cur c ≡ false
long_other cur long = absurd (omega arith)
long_other up long = refl
long_other (name n) long = refl

-- ---- a push onto a text that spells components

-- a component that is pushed onto a text that spells others
pushed-spell : (cs : List Step) (c : Step) → SpellThemselves cs → SpellsItself c
    → pushed (spell cs) (step_text c) ≡ spell (cs ++ c ∷ [])
pushed-spell cs c propers proper = ap (λ x. with_separator (spell cs) ++ x) non_slash ∙ after cs propers
  where
    non_slash : unslashed (step_text c) ≡ step_text c
    non_slash =
        unslashed-non_slash (step_text c)
        (subst (λ x. get_or x 0 0 ≢ slash) (append-nil (step_text c))
        (HasNoSlash-start (step_text c) [] (nonempty_proper c proper) (HasNoSlash-proper c proper)))

    after : (ds : List Step) → SpellThemselves ds → with_separator (spell ds) ++ step_text c ≡ spell (ds ++ c ∷ [])
    after [] h = refl
    after (d ∷ ds) h =
        ap (λ x. x ++ step_text c)
        (with_separator-non_slash (spell (d ∷ ds)) (spell_nonempty d ds h.0) (spell_end (d ∷ ds) h))
        ∙ append_assoc (spell (d ∷ ds)) (slash ∷ []) (step_text c) ∙ sym (spell-append d ds c [])

pub spell-pushed : (text : List ℕ) (c : Step) → text ≡ spell (components text) → SpellsItself c
    → pushed text (step_text c) ≡ spell (components text ++ c ∷ [])
spell-pushed text c spelled proper =
    ap (λ x. pushed x (step_text c)) spelled ∙ pushed-spell (components text) c (SpellThemselves-components text) proper
