-- Spans of names: the positions of the components in a text, and the runs of names that are next to each other.
use Rattle.std.proofs.Common.{◌≡◌, ◌≢◌, ◌⊎◌, ◌<◌, ◌≤◌, ℕ, suc, ◌+◌, ◌-◌, List, [], ◌∷◌, ◌++◌, length, append_assoc, fold, map, All, Option, Some, None, Bor, MatchOption, IfSome, get_or, take, drop, slice_range, sym, refl, ap, ap₂, ◌∙◌, subst, inl, inr, append-nil, arith, eqb-true, length-append, length-take, length-drop, get_or-drop, take_at, ⊎_elim}
use Rattle.std.proofs.Math.Seq.{take-add}
use Rattle.std.specs.Str.{IsUtf8, IsCharBoundary}
use Rattle.std.proofs.lemmas.Bool.{cases_Bool}
use Rattle.std.proofs.lemmas.List.Elements.{All-head, All-tail, All-weaker}
use Rattle.std.proofs.lemmas.List.{drop-drop, drop_more, get_or_at}
use Rattle.std.proofs.lemmas.Str.{IsCharBoundary-from_drop}
use Rattle.relative_path.specs.Steps.{slash, is_slash, Step, cur, classed, step_text, components, SpellsItself, SpellThemselves}
use Rattle.relative_path.specs.declared.spans.Source.{Source}
use Rattle.relative_path.specs.declared.spans.Sources.{Sources}
use Rattle.relative_path.specs.declared.spans.Span.{Span}
use Rattle.relative_path.specs.Spans.{source_text, span_text, IsRun, Cuts, CutsName, IsFirstRun, IsOrdered, rest_len, spans_len}
use Rattle.relative_path.proofs.StepsLemmas.{HasNoSlash, SpellThemselves-components, components-append, components-nil, components_whole, nonempty_proper, step_text-classed}
use Rattle.relative_path.proofs.SlashesLemmas.{IsCharBoundary-piece}
use Rattle.relative_path.specs.Writing.{with_piece}

-- ---- the first component

-- the text is what comes before its first slash, followed by that slash and the rest, or by nothing
cut_first : (text : List ℕ) → (p : List ℕ) × (rest : List ℕ) × (text ≡ p ++ rest) × HasNoSlash p
    × ((rest ≡ []) ⊎ ((more : List ℕ) × (rest ≡ slash ∷ more)))
cut_first [] = ([], [], refl, tt, inl refl)
cut_first (b ∷ bs) =
    ⊎_elim
    (λ e. ([], b ∷ bs, refl, tt, inr (bs, ap (λ x. x ∷ bs) (eqb-true b slash e))))
    (λ e. let (p, rest, joined, whole, after) = cut_first bs in
    (b ∷ p, rest, ap (λ x. b ∷ x) joined, (e, whole), after))
    (cases_Bool (is_slash b))

-- a text that doesn't begin with a slash begins with the text of its first component, followed by a slash or the end
begins : (text : List ℕ) (c : Step) (cs : List Step) → components text ≡ c ∷ cs → get_or text 0 0 ≢ slash
    → (rest : List ℕ) × (text ≡ step_text c ++ rest) × ((rest ≡ []) ⊎ ((more : List ℕ) × (rest ≡ slash ∷ more)))
begins text c cs first start = let (p, rest, joined, whole, after) = cut_first text in cut p rest joined whole after
  where
    is : (p : List ℕ) (ds : List Step) → components text ≡ classed p ∷ ds → p ≡ step_text c
    is p ds found = sym (step_text-classed p) ∙ ap step_text (ap (λ es. get_or es 0 cur) (sym found ∙ first))

    cut : (p rest : List ℕ) → text ≡ p ++ rest → HasNoSlash p → (rest ≡ []) ⊎ ((more : List ℕ) × (rest ≡ slash ∷ more))
        → (rest : List ℕ) × (text ≡ step_text c ++ rest) × ((rest ≡ []) ⊎ ((more : List ℕ) × (rest ≡ slash ∷ more)))
    cut [] rest joined whole (inl none) =
        let empty = sym components-nil ∙ ap components (sym (joined ∙ none)) ∙ first in absurd (cc)
    cut [] rest joined whole (inr (more, slashed)) = absurd (start (ap (λ x. get_or x 0 0) (joined ∙ slashed)))
    cut (b ∷ bs) rest joined whole (inl none) =
        let alone = ap components (joined ∙ ap (λ x. (b ∷ bs) ++ x) none ∙ append-nil (b ∷ bs))
        ∙ components_whole (b ∷ bs) (omega arith) whole in
        (rest, joined ∙ ap (λ x. x ++ rest) (is (b ∷ bs) [] alone), inl none)
    cut (b ∷ bs) rest joined whole (inr (more, slashed)) =
        let two = ap components (joined ∙ ap (λ x. (b ∷ bs) ++ x) slashed) ∙ components-append (b ∷ bs) more
        ∙ ap (λ ds. ds ++ components more) (components_whole (b ∷ bs) (omega arith) whole) in
        (rest, joined ∙ ap (λ x. x ++ rest) (is (b ∷ bs) (components more) two), inr (more, slashed))

-- a suffix of a text that doesn't begin with a slash begins with its first component, which a span cuts out of the text
pub Cuts-first : (sources : Sources) (source : Source) (text left : List ℕ) (c : Step) (cs : List Step)
    → text ≡ source_text sources source → left ≡ drop (length text - length left) text → IsUtf8 left
    → get_or left 0 0 ≢ slash → components left ≡ c ∷ cs
    → Cuts sources (record {
      source = source;
      start = length text - length left;
      end = length text - length left + length (step_text c);
    }) c
Cuts-first sources source text left c cs same suffix utf8 start first =
    let (rest, joined, after) = begins left c cs first start in
    let n = length text - length left in
    let len = length (step_text c) in
    let inside : length left ≤ length text = omega (arith, ap length suffix, length-drop n text) in
    let proper : SpellsItself c = (subst SpellThemselves first (SpellThemselves-components left)).0 in
    let at : (k : ℕ) → get_or text (n + k) 0 ≡ get_or left k 0 =
    λ k. sym (get_or-drop n text k 0) ∙ ap (λ x. get_or x k 0) (sym suffix) in
    let whole = ap length joined ∙ length-append (step_text c) rest in
    let slashed : n + len < length text → get_or text (n + len) 0 ≡ slash = λ more.
    ⊎_elim
    (λ none. absurd (omega (arith, whole, ap length none, more, inside)))
    (λ found. at len ∙ ap (λ x. get_or x len 0) joined ∙ ap (λ x. get_or (step_text c ++ x) len 0) found.1
    ∙ get_or_at (step_text c) slash found.0 0 len refl)
    after in
    let end : n + len ≤ length text = omega (arith, whole, inside) in
    let cut : n + len - n ≡ len = omega arith in
    let boundary = IsCharBoundary-from_drop text n (omega arith) (subst IsUtf8 suffix utf8) in
    record {
      run = record {
        not_empty = let some = nonempty_proper c proper in omega (arith, some);
        start = subst (λ x. IsCharBoundary x n) same boundary;
        end = subst (λ x. IsCharBoundary x (n + len)) same (IsCharBoundary-piece text (n + len) end slashed);
        after = subst (λ x. n + len < length x → get_or x (n + len) 0 ≡ slash) same slashed;
      };
      text =
          ap (λ x. slice_range x n (n + len)) (sym same) ∙ ap (λ k. take k (drop n text)) cut
          ∙ ap (take len) (sym suffix ∙ joined) ∙ take_at (step_text c) rest len refl;
      whole = proper;
    }

-- ---- runs that are next to each other

-- the run from the start of one run to the end of another
abbrev pub through : Span → Span → Span
through run span = record { source = run.source; start = run.start; end = span.end }

-- two slices with one byte between
slice_through : (text : List ℕ) (i j k : ℕ) (b : ℕ) → i ≤ j → j < k → k ≤ length text → get_or text j 0 ≡ b
    → slice_range text i k ≡ slice_range text i j ++ b ∷ slice_range text (j + 1) k
slice_through text i j k b first second inside between =
    let left = drop i text in
    let cut : k - i ≡ (j - i) + (k - j) = omega arith in
    let at : i + (j - i) ≡ j = omega arith in
    let rest = drop-drop (j - i) i text ∙ ap (λ n. drop n text) at in
    let one : k - j ≡ suc (k - (j + 1)) = omega arith in
    ap (λ n. take n left) cut ∙ take-add (j - i) (k - j) left
    ∙ ap (λ x. take (j - i) left ++ take (k - j) x) (rest ∙ drop_more text j 0 (omega arith))
    ∙ ap₂ (λ n x. take (j - i) left ++ take n (x ∷ drop (j + 1) text)) one between

-- a run that begins one byte after the end of another is joined to it by a slash
pub span_text-through : (sources : Sources) (run span : Span) → IsRun sources run → IsRun sources span
    → span.source ≡ run.source → span.start ≡ run.end + 1
    → span_text sources (through run span) ≡ span_text sources run ++ slash ∷ span_text sources span
span_text-through sources run span first second same meets =
    let text = source_text sources run.source in
    let start = first.not_empty in
    let end = second.not_empty in
    let inside = subst (λ x. span.end ≤ length (source_text sources x)) same second.end.0 in
    let after = first.after (omega arith) in
    let whole = slice_through text run.start run.end span.end slash (omega arith) (omega arith) inside after in
    whole ∙ ap₂ (λ x n. slice_range text run.start run.end ++ slash ∷ slice_range (source_text sources x) n span.end)
    (sym same) (sym meets)

pub IsRun-through : (sources : Sources) (run span : Span) → IsRun sources run → IsRun sources span
    → span.source ≡ run.source → span.start ≡ run.end + 1
    → IsRun sources (through run span)
IsRun-through sources run span first second same meets = record {
  not_empty = let start = first.not_empty in let end = second.not_empty in omega arith;
  start = first.start;
  end = subst (λ x. IsCharBoundary (source_text sources x) span.end) same second.end;
  after = subst (λ x. span.end < length (source_text sources x) → get_or (source_text sources x) span.end 0 ≡ slash)
      same second.after;
}

pub length-run : {sources : Sources} {span : Span} → IsRun sources span
    → length (span_text sources span) ≡ span.end - span.start
length-run {sources} {span} run =
    let text = source_text sources span.source in
    let inside = run.end.0 in
    omega (arith, length-take (span.end - span.start) (drop span.start text), length-drop span.start text)

-- two pieces joined by a slash, written at once or in turn
with_piece-joined : (text p q : List ℕ) → 0 < length p
    → with_piece text (p ++ slash ∷ q) ≡ with_piece (with_piece text p) q
with_piece-joined [] [] q some = absurd (omega arith)
with_piece-joined [] (b ∷ bs) q some = refl
with_piece-joined (b ∷ bs) p q some = sym (append_assoc (b ∷ bs) (slash ∷ p) (slash ∷ q))

-- two runs that are next to each other, written at once or in turn
pub with_piece-through : (sources : Sources) (text : List ℕ) (run span : Span) → IsRun sources run → IsRun sources span
    → span.source ≡ run.source → span.start ≡ run.end + 1
    → with_piece text (span_text sources (through run span))
    ≡ with_piece (with_piece text (span_text sources run)) (span_text sources span)
with_piece-through sources text run span first second same meets =
    let start = first.not_empty in
    ap (with_piece text) (span_text-through sources run span first second same meets)
    ∙ with_piece-joined text (span_text sources run) (span_text sources span) (omega (arith, length-run first))

-- ---- the run of the first names

module _ (sources : Sources) where
  pub IsFirstRun-one : (first : Span) (rest : List Span) → All (CutsName sources) (first ∷ rest)
      → IsFirstRun sources (first ∷ rest) first rest
  IsFirstRun-one first rest cut =
      record {
        is_run = (All-head (CutsName sources) first rest cut).run;
        cut = All-tail (CutsName sources) first rest cut;
        fewer = omega arith;
        len = omega arith;
        text = λ text. refl;
      }

  -- a name that is next to the run joins it
  pub IsFirstRun-through : (names : List Span) (run next : Span) (rest : List Span)
      → IsFirstRun sources names run (next ∷ rest) → next.source ≡ run.source → next.start ≡ run.end + 1
      → IsFirstRun sources names (through run next) rest
  IsFirstRun-through names run next rest first same meets =
      let f = span_text sources in
      let here = (All-head (CutsName sources) next rest first.cut).run in
      record {
        is_run = IsRun-through sources run next first.is_run here same meets;
        cut = All-tail (CutsName sources) next rest first.cut;
        fewer = omega (arith, first.fewer);
        len = omega (arith, first.len, first.is_run.not_empty, here.not_empty, meets);
        text = λ text. first.text text
            ∙ ap (λ x. fold with_piece x (map f rest))
            (sym (with_piece-through sources text run next first.is_run here same meets));
      }

-- what is still to be written: a run and the names after it, if there are any
abbrev pub Unwritten : Type 0
Unwritten = Option (Span × Bor (List Span))

-- the largest number of pieces that are still to be written
abbrev pub unwritten_count : Unwritten → ℕ
unwritten_count None = 0
unwritten_count (Some (run, rest)) = suc (length rest.now)

module _ (sources : Sources) where
  -- the text with everything that is still to be written
  abbrev pub with_unwritten : List ℕ → Unwritten → List ℕ
  with_unwritten text None = text
  with_unwritten text (Some (run, rest)) =
      fold with_piece (with_piece text (span_text sources run)) (map (span_text sources) rest.now)

  -- the run and the names are cut out of their sources
  abbrev pub IsCutUnwritten : Unwritten → Type 0
  IsCutUnwritten unwritten = IfSome unwritten (λ found. IsRun sources found.0 × All (CutsName sources) found.1.now)

  module _ (names : List Span) where
    -- the names are the run and the names after it
    abbrev pub AreUnwritten : Unwritten → Type 0
    AreUnwritten unwritten = MatchOption unwritten (names ≡ []) (λ found. IsFirstRun sources names found.0 found.1.now)

    pub with_unwritten-names : (unwritten : Unwritten) (text : List ℕ) → AreUnwritten unwritten
        → with_unwritten text unwritten ≡ fold with_piece text (map (span_text sources) names)
    with_unwritten-names None text none = ap (λ xs. fold with_piece text (map (span_text sources) xs)) (sym none)
    with_unwritten-names (Some (run, rest)) text first = sym (first.text text)

    pub IsCutUnwritten-names : (unwritten : Unwritten) → AreUnwritten unwritten → IsCutUnwritten unwritten
    IsCutUnwritten-names None none = tt
    IsCutUnwritten-names (Some (run, rest)) first = (first.is_run, first.cut)

    pub unwritten_count-names : (unwritten : Unwritten) → AreUnwritten unwritten → unwritten_count unwritten ≤ length names
    unwritten_count-names None none = omega arith
    unwritten_count-names (Some (run, rest)) first = omega (arith, first.fewer)

    pub rest_len-names : (unwritten : Unwritten) → AreUnwritten unwritten → rest_len unwritten ≡ spans_len names
    rest_len-names None none = ap spans_len (sym none)
    rest_len-names (Some (run, rest)) first = sym first.len

  -- the spans of names end no earlier than they start
  AreOrdered-cut : (spans : List Span) → All (CutsName sources) spans → All IsOrdered spans
  AreOrdered-cut spans cut = All-weaker (CutsName sources) IsOrdered
      (λ span c. let some = c.run.not_empty in omega (arith, some)) spans cut

  pub AreOrdered-unwritten : (unwritten : Unwritten) → IsCutUnwritten unwritten
      → IfSome unwritten (λ found. (found.0.start ≤ found.0.end) × All IsOrdered found.1.now)
  AreOrdered-unwritten None cut = tt
  AreOrdered-unwritten (Some (run, rest)) cut =
      (let some = cut.0.not_empty in omega (arith, some), AreOrdered-cut rest.now cut.1)
