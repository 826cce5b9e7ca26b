-- Climbs and names: their normality, the effect of one more component, and the text that spells them.
use Rattle.std.proofs.Common.{◌≡◌, ℕ, zero, suc, ◌+◌, ◌-◌, ◌<◌, ◌≤◌, true, List, [], ◌∷◌, ◌++◌, All, Option, Some, None, map, replicate, length, drop, sym, refl, ap, ◌∙◌, subst, append_assoc, append-nil, arith, fold, ◌*◌, take}
use Rattle.std.specs.List.{AllByRecursion}
use Rattle.std.specs.Option.{is_some, option_to_list}
use Rattle.std.proofs.lemmas.List.Elements.{recursion_from_All, All-from_recursion, All-drop, All-head, All-tail}
use Rattle.std.proofs.lemmas.List.Sums.{fold-append}
use Rattle.std.proofs.lemmas.List.{nil_from_length, map_push, replicate-append-replicate}
use Rattle.relative_path.specs.Steps.{Step, cur, up, name, step_text, components, spell, SpellsItself, SpellThemselves, slashed_len}
use Rattle.relative_path.specs.Writing.{with_piece}
use Rattle.relative_path.specs.Walk.{IsSame, walk}
use Rattle.relative_path.specs.Normalizing.{IsNormal, IsNormalTextOf, climb}
use Rattle.relative_path.specs.declared.normal_form.NormalForm.{NormalForm}
use Rattle.relative_path.specs.declared.spans.Sources.{Sources}
use Rattle.relative_path.specs.declared.spans.Span.{Span}
use Rattle.relative_path.specs.Spans.{span_text, spans_len, rest_len, CutsName}
use Rattle.relative_path.specs.NormalForm.{ups_then_names, form_names, form_steps, Reduces, IsSpellableNormalForm}
use Rattle.relative_path.proofs.StepsLemmas.{SpellsItself-up, components-nil, SpellThemselves-names}
use Rattle.relative_path.proofs.NormalStepsLemmas.{normal_unique, AreNames-map, names_of, walk-normal, walk-normal_none}
use Rattle.relative_path.proofs.SpansLemmas.{length-run, AreUnwritten, Unwritten, rest_len-names}
use Rattle.relative_path.proofs.WalkLemmas.{IsSame-refl, IsSame-sym, IsSame-trans, IsSame-append_right, IsSame-cur, IsSame-name_up}
use Rattle.relative_path.proofs.SpellingLemmas.{components-spell, slashed_len-append, length-spell, slashed_len-drop_le}
use Rattle.relative_path.proofs.WritingLemmas.{with_pieces-spell}

-- ---- reducing a list of components

pub Reduces-refl : (cs : List Step) → Reduces cs cs
Reduces-refl cs = record { same = IsSame-refl cs; no_longer = omega arith }

pub Reduces-trans : {cs ds es : List Step} → Reduces cs ds → Reduces ds es → Reduces cs es
Reduces-trans {cs} {ds} {es} h i = record {
  same = IsSame-trans cs ds es h.same i.same;
  no_longer = let first = h.no_longer in let second = i.no_longer in omega arith;
}

-- the same components after both lists
pub Reduces-append_right : {cs ds : List Step} (es : List Step) → Reduces cs ds → Reduces (cs ++ es) (ds ++ es)
Reduces-append_right {cs} {ds} es h = record {
  same = IsSame-append_right cs ds es h.same;
  no_longer = let shorter = h.no_longer in omega (arith, slashed_len-append cs es, slashed_len-append ds es);
}

-- a `.` is dropped
pub Reduces-cur : (cs : List Step) → Reduces (cs ++ cur ∷ []) cs
Reduces-cur cs = record {
  same = subst (IsSame (cs ++ cur ∷ [])) (append-nil cs) (IsSame-cur cs []);
  no_longer = omega (arith, slashed_len-append cs (cur ∷ []));
}

-- a `..` drops the name before it
pub Reduces-name_up : (cs : List Step) (n : List ℕ) → Reduces ((cs ++ name n ∷ []) ++ up ∷ []) cs
Reduces-name_up cs n = record {
  same =
      let dropped = subst (IsSame (cs ++ name n ∷ up ∷ [])) (append-nil cs) (IsSame-name_up cs [] n) in
      rw (append_assoc cs (name n ∷ []) (up ∷ [])) dropped;
  no_longer = omega (arith, slashed_len-append (cs ++ name n ∷ []) (up ∷ []), slashed_len-append cs (name n ∷ []));
}

-- one more component is taken off what is left
pub Reduces-step : (source cs ds : List Step) (c : Step) (left rest : List Step)
    → Reduces source (cs ++ left) → left ≡ c ∷ rest → Reduces (cs ++ c ∷ []) ds → Reduces source (ds ++ rest)
Reduces-step source cs ds c left rest h first step =
    let joined = ap (λ x. cs ++ x) first ∙ sym (append_assoc cs (c ∷ []) rest) in
    Reduces-trans (subst (Reduces source) joined h) (Reduces-append_right rest step)

-- ---- one more component

-- a name is appended
pub ups_then_names-push : (climb : ℕ) (names : List (List ℕ)) (n : List ℕ)
    → ups_then_names climb names ++ name n ∷ [] ≡ ups_then_names climb (names ++ n ∷ [])
ups_then_names-push climb names n =
    append_assoc (replicate climb up) (map name names) (name n ∷ [])
    ∙ ap (λ ds. replicate climb up ++ ds) (sym (map_push name names n))

-- a `..` drops the last name of a table
pub Reduces-pop : {X : Type 0} (f : X → List ℕ) (climb : ℕ) (xs ys : List X) (r : Option X)
    → xs ≡ ys ++ option_to_list r → is_some r ≡ true
    → Reduces (ups_then_names climb (map f xs) ++ up ∷ []) (ups_then_names climb (map f ys))
Reduces-pop f climb xs ys None joined some = absurd (cc)
Reduces-pop f climb xs ys (Some x) joined some =
    let last = ap (λ zs. ups_then_names climb (map f zs)) joined ∙ ap (ups_then_names climb) (map_push f ys x)
    ∙ sym (ups_then_names-push climb (map f ys) (f x)) in
    subst (λ cs. Reduces (cs ++ up ∷ []) (ups_then_names climb (map f ys))) (sym last) (Reduces-name_up _ (f x))

-- ---- climbs and names are normal

pub IsNormal-ups_then_names : (climb : ℕ) (names : List (List ℕ)) → IsNormal (ups_then_names climb names)
IsNormal-ups_then_names zero [] = tt
IsNormal-ups_then_names zero (n ∷ ns) = AreNames-map ns
IsNormal-ups_then_names (suc climb) names = IsNormal-ups_then_names climb names

-- ---- where climbs and names lead

pub climb-ups_then_names : (ups : ℕ) (ns : List (List ℕ)) → climb (ups_then_names ups ns) ≡ ups
climb-ups_then_names zero [] = refl
climb-ups_then_names zero (n ∷ ns) = refl
climb-ups_then_names (suc ups) ns = ap (λ k. suc k) (climb-ups_then_names ups ns)

names_of-ups_then_names : (ups : ℕ) (ns : List (List ℕ)) → names_of (ups_then_names ups ns) ≡ ns
names_of-ups_then_names zero [] = refl
names_of-ups_then_names zero (n ∷ ns) = ap (λ x. n ∷ x) (names_of-ups_then_names zero ns)
names_of-ups_then_names (suc ups) ns = names_of-ups_then_names ups ns

pub ups_then_names-ups : (ups more : ℕ) (ns : List (List ℕ))
    → replicate ups up ++ ups_then_names more ns ≡ ups_then_names (ups + more) ns
ups_then_names-ups ups more ns =
    let joined = replicate-append-replicate ups more up in
    sym (append_assoc (replicate ups up) (replicate more up) (map name ns)) ∙ ap (λ x. x ++ map name ns) joined

pub walk-ups_then_names_none : (base : List (List ℕ)) (ups : ℕ) (ns : List (List ℕ)) → length base < ups
    → walk base (ups_then_names ups ns) ≡ None
walk-ups_then_names_none base ups ns short =
    let climbs = climb-ups_then_names ups ns in
    walk-normal_none base (ups_then_names ups ns) (IsNormal-ups_then_names ups ns) (omega arith)

pub walk-ups_then_names : (base : List (List ℕ)) (ups : ℕ) (ns : List (List ℕ)) → ups ≤ length base
    → walk base (ups_then_names ups ns) ≡ Some (take (length base - ups) base ++ ns)
walk-ups_then_names base ups ns long =
    let climbs = climb-ups_then_names ups ns in
    let names = names_of-ups_then_names ups ns in
    let leads = walk-normal base (ups_then_names ups ns) (IsNormal-ups_then_names ups ns) (omega arith) in
    rw (climbs, names) at leads

-- from a base with as many names as its `..`, a normal list leads to its own names
pub walk-ups_then_names_level : (base : List (List ℕ)) (ups : ℕ) (ns : List (List ℕ)) → length base ≡ ups
    → walk base (ups_then_names ups ns) ≡ Some ns
walk-ups_then_names_level base ups ns level =
    let none : length base - ups ≡ zero = omega arith in
    walk-ups_then_names base ups ns (omega arith) ∙ ap (λ k. Some (take k base ++ ns)) none

-- ---- the text that spells climbs and names

pub SpellThemselves-ups_then_names : (climb : ℕ) (names : List (List ℕ)) → AllByRecursion (λ n. SpellsItself (name n)) names
    → SpellThemselves (ups_then_names climb names)
SpellThemselves-ups_then_names zero names proper = SpellThemselves-names names proper
SpellThemselves-ups_then_names (suc climb) names proper = (SpellsItself-up, SpellThemselves-ups_then_names climb names proper)

-- climbs and names that spell themselves, and to which a list reduces, are the list's normal form
pub IsSpellableNormalForm-Reduces : (cs : List Step) (climb : ℕ) (names : List (List ℕ))
    → Reduces cs (ups_then_names climb names) → AllByRecursion (λ n. SpellsItself (name n)) names
    → IsSpellableNormalForm cs (ups_then_names climb names)
IsSpellableNormalForm-Reduces cs climb names reduces proper = record {
  normal = IsNormal-ups_then_names climb names;
  same = reduces.same;
  of_text = components-spell (ups_then_names climb names) (SpellThemselves-ups_then_names climb names proper);
  no_longer = let shorter = reduces.no_longer in omega (arith, length-spell cs, length-spell (ups_then_names climb names));
}

-- the normal form of no components has no components
pub IsSpellableNormalForm-nil : (cs ds : List Step) → cs ≡ [] → IsSpellableNormalForm cs ds → ds ≡ []
IsSpellableNormalForm-nil cs ds none form =
    let shorter = form.no_longer in
    let empty = nil_from_length (spell ds) (omega (arith, shorter, ap (λ es. length (spell es)) none)) in
    sym form.of_text ∙ ap components empty ∙ components-nil

-- the names of a table spell themselves
SpellThemselves-cut : (sources : Sources) (spans : List Span) → AllByRecursion (CutsName sources) spans
    → AllByRecursion (λ n. SpellsItself (name n)) (map (span_text sources) spans)
SpellThemselves-cut sources [] cut = tt
SpellThemselves-cut sources (span ∷ spans) cut = (cut.0.whole, SpellThemselves-cut sources spans cut.1)

pub SpellThemselves-names_of_form : (form : NormalForm) → AllByRecursion (λ n. SpellsItself (name n)) (form_names form)
SpellThemselves-names_of_form form =
    SpellThemselves-cut form.sources form.names.items (recursion_from_All (CutsName form.sources) form.names.items form.cut)

pub SpellThemselves-names_past : (form : NormalForm) (skipped : ℕ)
    → AllByRecursion (λ n. SpellsItself (name n)) (drop skipped (form_names form))
SpellThemselves-names_past form skipped =
    let P : List ℕ → Type 0 = λ n. SpellsItself (name n) in
    let all = All-from_recursion P (form_names form) (SpellThemselves-names_of_form form) in
    recursion_from_All P _ (All-drop P skipped (form_names form) all)

-- the components of a form to which a list reduces are the list's normal form
pub IsSpellableNormalForm-form : (cs : List Step) (form : NormalForm) → Reduces cs (form_steps form)
    → IsSpellableNormalForm cs (form_steps form)
IsSpellableNormalForm-form cs form reduces =
    IsSpellableNormalForm-Reduces cs form.climb (form_names form) reduces (SpellThemselves-names_of_form form)

-- ---- climbs and names written in turn

map_step_text-names : (names : List (List ℕ)) → map step_text (map name names) ≡ names
map_step_text-names [] = refl
map_step_text-names (n ∷ ns) = ap (λ ps. n ∷ ps) (map_step_text-names ns)

map_step_text-ups_then_names : (climb : ℕ) (names : List (List ℕ))
    → map step_text (ups_then_names climb names) ≡ replicate climb (step_text up) ++ names
map_step_text-ups_then_names zero names = map_step_text-names names
map_step_text-ups_then_names (suc climb) names = ap (λ ps. step_text up ∷ ps) (map_step_text-ups_then_names climb names)

-- the climbs, and then the names
pub with_pieces-ups_then_names : (climb : ℕ) (names : List (List ℕ)) → AllByRecursion (λ n. SpellsItself (name n)) names
    → fold with_piece (fold with_piece [] (replicate climb (step_text up))) names ≡ spell (ups_then_names climb names)
with_pieces-ups_then_names climb names proper =
    sym (fold-append with_piece [] (replicate climb (step_text up)) names)
    ∙ ap (fold with_piece []) (sym (map_step_text-ups_then_names climb names))
    ∙ with_pieces-spell (ups_then_names climb names) (SpellThemselves-ups_then_names climb names proper)

-- ---- counting bytes

pub slashed_len-ups_then_names : (climb : ℕ) (names : List (List ℕ))
    → slashed_len (ups_then_names climb names) ≡ 3 * climb + slashed_len (map name names)
slashed_len-ups_then_names zero names = omega arith
slashed_len-ups_then_names (suc climb) names = omega (arith, slashed_len-ups_then_names climb names)

-- the names of a table, counted by their spans
pub spans_len-padded : (sources : Sources) (spans : List Span) → All (CutsName sources) spans
    → spans_len spans ≡ slashed_len (map name (map (span_text sources) spans))
spans_len-padded sources [] cut = refl
spans_len-padded sources (span ∷ spans) cut =
    let rest = spans_len-padded sources spans (All-tail (CutsName sources) span spans cut) in
    omega (arith, rest, length-run (All-head (CutsName sources) span spans cut).run)

-- how many bytes the unwritten climbs and names have, joined by single slashes
pub length-spell-unwritten : (form : NormalForm) (climb skipped : ℕ) (names : List Span) (unwritten : Unwritten)
    → All (CutsName form.sources) names → map (span_text form.sources) names ≡ drop skipped (form_names form)
    → AreUnwritten form.sources names unwritten
    → (length (spell (ups_then_names climb (drop skipped (form_names form)))) ≡ 3 * climb + rest_len unwritten - 1)
    × (rest_len unwritten ≤ slashed_len (form_steps form))
length-spell-unwritten form climb skipped names unwritten cut is first =
    let counted = rest_len-names form.sources names unwritten first ∙ spans_len-padded form.sources names cut
    ∙ ap (λ ns. slashed_len (map name ns)) is in
    let past = drop skipped (form_names form) in (
      omega (arith, counted, length-spell (ups_then_names climb past), slashed_len-ups_then_names climb past),
      omega (arith, counted, slashed_len-ups_then_names form.climb (form_names form), slashed_len-drop_le skipped (form_names form)),
    )

-- the text that spells a normal form is the only normal text that leads where the components lead
pub IsNormalTextOf-spell : (cs ds : List Step) (text : List ℕ) → IsSpellableNormalForm cs ds → text ≡ spell ds
    → IsNormalTextOf cs text
IsNormalTextOf-spell cs ds text form spelled =
    let is : components text ≡ ds = ap components spelled ∙ form.of_text in
    record {
      normal_text = record { spelled = spelled ∙ ap spell (sym is); normal = rw is form.normal };
      same = rw is form.same;
      only = λ other normal leads.
          let back = IsSame-trans _ _ _ (IsSame-sym _ _ leads) form.same in
          normal.spelled ∙ ap spell (normal_unique (components other) ds normal.normal form.normal back) ∙ sym spelled;
    }
