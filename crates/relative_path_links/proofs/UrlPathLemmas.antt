-- How a target that is written for components resolves: as a walk from the directory of the base.
use Rattle.std.proofs.Common.{◌≡◌, ◌≢◌, ℕ, zero, suc, ◌-◌, Bool, true, false, if◌then◌else◌, List, [], ◌∷◌, ◌++◌, map, length, take, drop, Some, Ok, Err, codes, refl, sym, ap, ap₂, ◌∙◌, subst, arith, append_assoc, append-nil}
use Rattle.std.specs.List.{slice_split, list_any, AllByRecursion, AllZip, onto_first}
use Rattle.std.specs.Str.{bytes_eq}
use Rattle.std.proofs.lemmas.Bool.{cond_both, or_parts}
use Rattle.std.proofs.lemmas.List.{map-append}
use Rattle.std.proofs.lemmas.List.Elements.{All-from_recursion, recursion_from_All, AllZip-push, length_all_zip}
use Rattle.std.proofs.lemmas.List.Splits.{slice_split_none, slice_split_at}
use Rattle.std.proofs.lemmas.Slice.Eq.{bytes_eq-Decides}
use Rattle.relative_path.specs.Steps.{Step, cur, up, name, slash, is_slash, step_text, classed, spell, SpellsItself, SpellThemselves}
use Rattle.relative_path.specs.Walk.{walk}
use Rattle.relative_path.proofs.ForCallers.{no_slash-proper, name-proper}
use Rattle.target_paths.specs.declared.target.WhyUnknown.TheVariants.{EncodedNul}
use Rattle.target_paths.specs.Writing.{path_written, target_of, is_nul, without_slashes, some_path}
use Rattle.target_paths.proofs.ForCallers.{IsWrittenAs, target_of-segments}
use Rattle.relative_path_links.specs.UrlPath.{url_path, segments_of, without_last, without_dots, resolved, decoded, HasSegments}

-- ---- names that are segments

-- no byte of the text is a slash
abbrev pub HasNoSlash : List ℕ → Type 0
HasNoSlash text = AllByRecursion (λ b. is_slash b ≡ false) text

-- the text is one segment, and no dot segment
pub record IsSegment (n : List ℕ) : Type 0 where
  pub no_slash : HasNoSlash n
  pub no_dot : n ≢ codes "."
  pub no_dots : n ≢ codes ".."

-- if the component is a name, the name is a segment
abbrev pub IsSegmentStep : Step → Type 0
IsSegmentStep cur = Unit {0}
IsSegmentStep up = Unit {0}
IsSegmentStep (name n) = IsSegment n

abbrev pub AreSegments : List Step → Type 0
AreSegments cs = AllByRecursion IsSegmentStep cs

-- the empty text is a segment
pub IsSegment-empty : IsSegment []
IsSegment-empty = record { no_slash = tt; no_dot = λ e. absurd (cc); no_dots = λ e. absurd (cc) }

-- so is a name that spells itself
pub IsSegment-proper : (n : List ℕ) → SpellsItself (name n) → IsSegment n
IsSegment-proper n proper =
    let (some, no_dot, no_dots) = name-proper n proper in
    record {
      no_slash = recursion_from_All (λ b. is_slash b ≡ false) n (no_slash-proper (name n) proper);
      no_dot = no_dot;
      no_dots = no_dots;
    }

IsSegmentStep-proper : (c : Step) → SpellsItself c → IsSegmentStep c
IsSegmentStep-proper cur proper = tt
IsSegmentStep-proper up proper = tt
IsSegmentStep-proper (name n) proper = IsSegment-proper n proper

pub AreSegments-proper : (cs : List Step) → SpellThemselves cs → AreSegments cs
AreSegments-proper [] proper = tt
AreSegments-proper (c ∷ cs) (first, rest) = (IsSegmentStep-proper c first, AreSegments-proper cs rest)

pub AreSegments-push : (cs : List Step) (n : List ℕ) → AreSegments cs → IsSegment n → AreSegments (cs ++ name n ∷ [])
AreSegments-push [] n are is = (is, tt)
AreSegments-push (c ∷ cs) n (first, rest) is = (first, AreSegments-push cs n rest is)

-- where segments lead, there are segments
Segments-push : (ns : List (List ℕ)) (n : List ℕ) → AllByRecursion IsSegment ns → IsSegment n
    → AllByRecursion IsSegment (ns ++ n ∷ [])
Segments-push [] n are is = (is, tt)
Segments-push (m ∷ ns) n (first, rest) is = (first, Segments-push ns n rest is)

Segments-take : (k : ℕ) (ns : List (List ℕ)) → AllByRecursion IsSegment ns → AllByRecursion IsSegment (take k ns)
Segments-take zero ns are = tt
Segments-take (suc k) [] are = tt
Segments-take (suc k) (n ∷ ns) (first, rest) = (first, Segments-take k ns rest)

pub Segments-walk : (cs : List Step) (base target : List (List ℕ)) → AreSegments cs → AllByRecursion IsSegment base
    → walk base cs ≡ Some target → AllByRecursion IsSegment target
Segments-walk [] base target steps are leads =
    let same : base ≡ target = cc in subst (AllByRecursion IsSegment) same are
Segments-walk (cur ∷ cs) base target (first, rest) are leads = Segments-walk cs base target rest are leads
Segments-walk (name n ∷ cs) base target (first, rest) are leads =
    Segments-walk cs (base ++ n ∷ []) target rest (Segments-push base n are first) leads
Segments-walk (up ∷ cs) [] target (first, rest) are leads = absurd (cc)
Segments-walk (up ∷ cs) (b ∷ base) target (first, rest) are leads =
    Segments-walk cs (take (length base) (b ∷ base)) target rest (Segments-take (length base) (b ∷ base) are) leads

HasNoSlash-step : (c : Step) → IsSegmentStep c → HasNoSlash (step_text c)
HasNoSlash-step cur is = (refl, tt)
HasNoSlash-step up is = (refl, (refl, tt))
HasNoSlash-step (name n) is = is.no_slash

-- a text other than `.` and `..` is classed as a name
classed-other : (n : List ℕ) → n ≢ codes "." → n ≢ codes ".." → classed n ≡ name n
classed-other n no_dot no_dots =
    cond_both (bytes_eq n (step_text cur)) cur (if bytes_eq n (step_text up) then up else name n) (λ c. c ≡ name n)
    (λ e. absurd (no_dot ((bytes_eq-Decides n (step_text cur)).0 e)))
    (λ _. cond_both (bytes_eq n (step_text up)) up (name n) (λ c. c ≡ name n)
    (λ e. absurd (no_dots ((bytes_eq-Decides n (step_text up)).0 e))) (λ _. refl))

-- ---- segments and the names that they are decoded to

-- the segment is no dot segment, and is decoded to the name unless this has a NUL
record IsRaw (raw n : List ℕ) : Type 0 where
  no_slash : HasNoSlash raw
  classes : classed raw ≡ name raw
  decodes : list_any is_nul n ≡ false → decoded raw ≡ Ok n

decoded-no_dot : (raw n dots : List ℕ) → decoded raw ≡ Ok n → decoded dots ≡ Ok dots → n ≢ dots → raw ≢ dots
decoded-no_dot raw n dots is kept other e =
    let same : Ok n ≡ Ok dots = sym is ∙ ap decoded e ∙ kept in other (cc)

IsRaw-decoded : (raw n : List ℕ) → HasNoSlash raw → decoded raw ≡ Ok n → IsSegment n → IsRaw raw n
IsRaw-decoded raw n none is segment = record {
  no_slash = none;
  classes =
      classed-other raw (decoded-no_dot raw n (codes ".") is refl segment.no_dot)
      (decoded-no_dot raw n (codes "..") is refl segment.no_dots);
  decodes = λ _. is;
}

-- a text that is decoded to another, unless this has a NUL
decoded_to : (nul : Bool) (n m : List ℕ) → Ok m ≡ (if nul then Err EncodedNul else Ok n) → n ≡ m
decoded_to true n m is = absurd (cc)
decoded_to false n m is = cc

written-no_dot : (raw n dots : List ℕ) → IsWrittenAs raw n → decoded dots ≡ Ok dots → n ≢ dots → raw ≢ dots
written-no_dot raw n dots is kept other e =
    other (decoded_to (list_any is_nul n) n dots (sym kept ∙ sym (ap decoded e) ∙ is.decoded))

IsRaw-written : (raw n : List ℕ) → HasNoSlash raw → IsWrittenAs raw n → IsSegment n → IsRaw raw n
IsRaw-written raw n none is segment = record {
  no_slash = none;
  classes =
      classed-other raw (written-no_dot raw n (codes ".") is refl segment.no_dot)
      (written-no_dot raw n (codes "..") is refl segment.no_dots);
  decodes = λ nul. is.decoded ∙ ap (λ t. if t then Err EncodedNul else Ok n) nul;
}

AreRaw-decoded : (raws ns : List (List ℕ)) → AllByRecursion HasNoSlash raws → map decoded raws ≡ map Ok ns
    → AllByRecursion IsSegment ns → AllZip IsRaw raws ns
AreRaw-decoded [] [] none is are = tt
AreRaw-decoded [] (n ∷ ns) none is are = absurd (cc)
AreRaw-decoded (raw ∷ raws) [] none is are = absurd (cc)
AreRaw-decoded (raw ∷ raws) (n ∷ ns) (first, rest) is (segment, others) =
    let here : decoded raw ≡ Ok n = cc in
    let after : map decoded raws ≡ map Ok ns = cc in
    (IsRaw-decoded raw n first here segment, AreRaw-decoded raws ns rest after others)

AreRaw-take : (k : ℕ) (raws ns : List (List ℕ)) → AllZip IsRaw raws ns → AllZip IsRaw (take k raws) (take k ns)
AreRaw-take zero raws ns are = tt
AreRaw-take (suc k) [] [] are = tt
AreRaw-take (suc k) [] (n ∷ ns) are = absurd are
AreRaw-take (suc k) (raw ∷ raws) [] are = absurd are
AreRaw-take (suc k) (raw ∷ raws) (n ∷ ns) (first, rest) = (first, AreRaw-take k raws ns rest)

AreRaw-without_last : (raws ns : List (List ℕ)) → AllZip IsRaw raws ns → AllZip IsRaw (without_last raws) (without_last ns)
AreRaw-without_last raws ns are =
    subst (λ k. AllZip IsRaw (take (k - 1) raws) (without_last ns)) (sym (length_all_zip IsRaw raws ns are))
    (AreRaw-take (length ns - 1) raws ns are)

classed-raw : (raws ns : List (List ℕ)) → AllZip IsRaw raws ns → map classed raws ≡ map name raws
classed-raw [] [] are = refl
classed-raw [] (n ∷ ns) are = absurd are
classed-raw (raw ∷ raws) [] are = absurd are
classed-raw (raw ∷ raws) (n ∷ ns) (first, rest) = ap₂ (λ c cs. c ∷ cs) first.classes (classed-raw raws ns rest)

decoded-raw : (raws ns : List (List ℕ)) → AllZip IsRaw raws ns → list_any (list_any is_nul) ns ≡ false
    → map decoded raws ≡ map Ok ns
decoded-raw [] [] are none = refl
decoded-raw [] (n ∷ ns) are none = absurd are
decoded-raw (raw ∷ raws) [] are none = absurd are
decoded-raw (raw ∷ raws) (n ∷ ns) (first, rest) none =
    let (here, after) = or_parts (list_any is_nul n) (list_any (list_any is_nul) ns) none in
    ap₂ (λ r rs. r ∷ rs) (first.decodes here) (decoded-raw raws ns rest after)

-- ---- components and how they are written

-- the component is written as the other: a name as a segment that is decoded to it
abbrev IsStepWrittenAs : Step → Step → Type 0
IsStepWrittenAs written cur = written ≡ cur
IsStepWrittenAs written up = written ≡ up
IsStepWrittenAs written (name n) = (raw : List ℕ) × (written ≡ name raw) × IsRaw raw n

step_written : (raw : List ℕ) (c : Step) → HasNoSlash raw → IsWrittenAs raw (step_text c) → IsSegmentStep c
    → IsStepWrittenAs (classed raw) c
step_written raw cur none is segment = ap classed (is.dot refl)
step_written raw up none is segment = ap classed (is.dots refl)
step_written raw (name n) none is segment =
    let written = IsRaw-written raw n none is segment in (raw, written.classes, written)

steps_written : (raws : List (List ℕ)) (cs : List Step) → AllByRecursion HasNoSlash raws
    → AllZip IsWrittenAs raws (map step_text cs) → AreSegments cs → AllZip IsStepWrittenAs (map classed raws) cs
steps_written [] [] none are segments = tt
steps_written [] (c ∷ cs) none are segments = absurd are
steps_written (raw ∷ raws) [] none are segments = absurd are
steps_written (raw ∷ raws) (c ∷ cs) (first, rest) (is, others) (segment, segments) =
    (step_written raw c first is segment, steps_written raws cs rest others segments)

-- if a list ends in a name, so does the list as which it is written
written-ends : (es cs : List Step) (n : List ℕ) → AllZip IsStepWrittenAs es (cs ++ name n ∷ [])
    → (front : List Step) × (raw : List ℕ) × (es ≡ front ++ name raw ∷ [])
written-ends [] [] n are = absurd are
written-ends [] (c ∷ cs) n are = absurd are
written-ends (e ∷ []) [] n ((raw, is, _), _) = ([], raw, ap (λ e. e ∷ []) is)
written-ends (e ∷ d ∷ es) [] n (_, are) = absurd are
written-ends (e ∷ es) (c ∷ cs) n (_, are) =
    let (front, raw, is) = written-ends es cs n are in (e ∷ front, raw, ap (λ es. e ∷ es) is)

-- the written names lead where the names lead
walk-written : (es cs : List Step) (raws base target : List (List ℕ)) → AllZip IsStepWrittenAs es cs
    → AllZip IsRaw raws base → walk base cs ≡ Some target
    → (there : List (List ℕ)) × (walk raws es ≡ Some there) × AllZip IsRaw there target
walk-written [] [] raws base target written are leads =
    let same : base ≡ target = cc in (raws, refl, subst (AllZip IsRaw raws) same are)
walk-written [] (c ∷ cs) raws base target written are leads = absurd written
walk-written (e ∷ es) [] raws base target written are leads = absurd written
walk-written (e ∷ es) (cur ∷ cs) raws base target (first, rest) are leads =
    let (there, lands, is) = walk-written es cs raws base target rest are leads in
    (there, ap (λ e. walk raws (e ∷ es)) first ∙ lands, is)
walk-written (e ∷ es) (name n ∷ cs) raws base target ((raw, same, first), rest) are leads =
    let (there, lands, is) = walk-written es cs (raws ++ raw ∷ []) (base ++ n ∷ []) target rest
    (AllZip-push IsRaw raws base raw n are first) leads in
    (there, ap (λ e. walk raws (e ∷ es)) same ∙ lands, is)
walk-written (e ∷ es) (up ∷ cs) raws [] target (first, rest) are leads = absurd (cc)
walk-written (e ∷ es) (up ∷ cs) [] (b ∷ base) target (first, rest) are leads = absurd are
walk-written (e ∷ es) (up ∷ cs) (raw ∷ raws) (b ∷ base) target (first, rest) are leads =
    let same : length raws ≡ length base = length_all_zip IsRaw raws base are.1 in
    let (there, lands, is) = walk-written es cs (take (length raws) (raw ∷ raws)) (take (length base) (b ∷ base)) target rest
    (subst (λ k. AllZip IsRaw (take k (raw ∷ raws)) (take (length base) (b ∷ base))) (sym same)
    (AreRaw-take (length base) (raw ∷ raws) (b ∷ base) are)) leads in
    (there, ap (λ e. walk (raw ∷ raws) (e ∷ es)) first ∙ lands, is)

-- ---- removing dot segments

without_last-cons : (n : List ℕ) (ns : List (List ℕ)) → without_last (n ∷ ns) ≡ take (length ns) (n ∷ ns)
without_last-cons n ns =
    let count : length (n ∷ ns) - 1 ≡ length ns = omega arith in ap (λ k. take k (n ∷ ns)) count

-- if the list ends in a name, dot segments are removed as a walk removes them
without_dots-walk : (cs : List Step) (n : List ℕ) (base target : List (List ℕ))
    → walk base (cs ++ name n ∷ []) ≡ Some target → without_dots base (cs ++ name n ∷ []) ≡ target
without_dots-walk [] n base target leads = cc
without_dots-walk (cur ∷ []) n base target leads = without_dots-walk [] n base target leads
without_dots-walk (cur ∷ c ∷ cs) n base target leads = without_dots-walk (c ∷ cs) n base target leads
without_dots-walk (name m ∷ cs) n base target leads = without_dots-walk cs n (base ++ m ∷ []) target leads
without_dots-walk (up ∷ []) n [] target leads = absurd (cc)
without_dots-walk (up ∷ []) n (b ∷ base) target leads =
    without_dots-walk [] n (without_last (b ∷ base)) target
    (ap (λ base. walk base (name n ∷ [])) (without_last-cons b base) ∙ leads)
without_dots-walk (up ∷ c ∷ cs) n [] target leads = absurd (cc)
without_dots-walk (up ∷ c ∷ cs) n (b ∷ base) target leads =
    without_dots-walk (c ∷ cs) n (without_last (b ∷ base)) target
    (ap (λ base. walk base (c ∷ cs ++ name n ∷ [])) (without_last-cons b base) ∙ leads)

-- names are their own segments
without_dots-names : (ns before : List (List ℕ)) (cs : List Step)
    → without_dots before (map name ns ++ cs) ≡ without_dots (before ++ ns) cs
without_dots-names [] before cs = ap (λ ns. without_dots ns cs) (sym (append-nil before))
without_dots-names (n ∷ ns) before cs =
    without_dots-names ns (before ++ n ∷ []) cs
    ∙ ap (λ ns. without_dots ns cs) (append_assoc before (n ∷ []) ns)

-- one step up from a place is what the merge keeps
pub without_last-up : (base place : List (List ℕ)) → walk base (up ∷ []) ≡ Some place → without_last base ≡ place
without_last-up [] place leads = absurd (cc)
without_last-up (b ∷ base) place leads = without_last-cons b base ∙ cc

-- ---- the segments of a URL path

onto_first-no_slash : (b : ℕ) (texts : List (List ℕ)) → is_slash b ≡ false → AllByRecursion HasNoSlash texts
    → AllByRecursion HasNoSlash (onto_first b texts)
onto_first-no_slash b [] none are = ((none, tt), tt)
onto_first-no_slash b (text ∷ texts) none (first, rest) = ((none, first), rest)

-- they have no slash
slice_split-no_slash : (path : List ℕ) → AllByRecursion HasNoSlash (slice_split is_slash path)
slice_split-no_slash [] = (tt, tt)
slice_split-no_slash (b ∷ bs) =
    cond_both (is_slash b) ([] ∷ slice_split is_slash bs) (onto_first b (slice_split is_slash bs))
    (AllByRecursion HasNoSlash)
    (λ _. (tt, slice_split-no_slash bs))
    (λ none. onto_first-no_slash b (slice_split is_slash bs) none (slice_split-no_slash bs))

drop_one-no_slash : (texts : List (List ℕ)) → AllByRecursion HasNoSlash texts → AllByRecursion HasNoSlash (drop 1 texts)
drop_one-no_slash [] are = tt
drop_one-no_slash (text ∷ texts) (first, rest) = rest

-- slashes cut a URL path into an empty text and its segments
slice_split-url_path : (raws ns : List (List ℕ)) → AllZip IsRaw raws ns → slice_split is_slash (url_path raws) ≡ [] ∷ raws
slice_split-url_path [] ns are = refl
slice_split-url_path (raw ∷ raws) [] are = absurd are
slice_split-url_path (raw ∷ []) (n ∷ ns) (first, rest) =
    ap (λ text. [] ∷ slice_split is_slash text) (append-nil raw)
    ∙ ap (λ ps. [] ∷ ps)
    (slice_split_none is_slash raw (All-from_recursion (λ b. is_slash b ≡ false) raw first.no_slash))
slice_split-url_path (raw ∷ next ∷ raws) (n ∷ ns) (first, rest) =
    ap (λ ps. [] ∷ ps)
    (slice_split_at is_slash raw slash (next ++ url_path raws)
    (All-from_recursion (λ b. is_slash b ≡ false) raw first.no_slash) refl
    ∙ ap (λ ps. raw ∷ drop 1 ps) (slice_split-url_path (next ∷ raws) ns rest))

-- ---- how a target resolves

-- the base's segments, without the last, as segments of the directory's names
AreRaw-base : (path : List ℕ) (base directory : List (List ℕ)) → HasSegments path base → AllByRecursion IsSegment base
    → without_last base ≡ directory → AllZip IsRaw (without_last (segments_of path)) directory
AreRaw-base path base directory has are keeps =
    subst (AllZip IsRaw (without_last (segments_of path))) keeps
    (AreRaw-without_last (segments_of path) base
    (AreRaw-decoded (segments_of path) base (drop_one-no_slash (slice_split is_slash path) (slice_split-no_slash path)) has are))

-- slashes cut a text that spells components into the components' texts
slice_split-spell : (c : Step) (cs : List Step) → AreSegments (c ∷ cs)
    → slice_split is_slash (spell (c ∷ cs)) ≡ map step_text (c ∷ cs)
slice_split-spell c [] (first, rest) =
    slice_split_none is_slash (step_text c)
    (All-from_recursion (λ b. is_slash b ≡ false) (step_text c) (HasNoSlash-step c first))
slice_split-spell c (d ∷ cs) (first, rest) =
    slice_split_at is_slash (step_text c) slash (spell (d ∷ cs))
    (All-from_recursion (λ b. is_slash b ≡ false) (step_text c) (HasNoSlash-step c first)) refl
    ∙ ap (λ ps. step_text c ∷ ps) (slice_split-spell d cs rest)

slice_split-ends : (cs : List Step) (n : List ℕ) → AreSegments (cs ++ name n ∷ [])
    → slice_split is_slash (spell (cs ++ name n ∷ [])) ≡ map step_text (cs ++ name n ∷ [])
slice_split-ends [] n are = slice_split-spell (name n) [] are
slice_split-ends (c ∷ cs) n are = slice_split-spell c (cs ++ name n ∷ []) are

-- the target for a path that spells a list which ends in a name resolves to where the list leads from the base's directory
pub resolved-walk : (path text : List ℕ) (base directory target : List (List ℕ)) (cs : List Step) (n : List ℕ)
    → HasSegments path base → AllByRecursion IsSegment base → without_last base ≡ directory
    → AreSegments (cs ++ name n ∷ []) → path_written text ≡ spell (cs ++ name n ∷ [])
    → walk directory (cs ++ name n ∷ []) ≡ Some target → list_any (list_any is_nul) target ≡ false
    → HasSegments (resolved path (target_of text)) target
resolved-walk path text base directory target cs n has are keeps steps spells leads none =
    let whole : List Step = cs ++ name n ∷ [] in
    let raws = without_last (segments_of path) in
    let pieces = slice_split is_slash (target_of text) in
    let raw = AreRaw-base path base directory has are keeps in
    let cut : slice_split is_slash (path_written text) ≡ map step_text whole =
    ap (slice_split is_slash) spells ∙ slice_split-ends cs n steps in
    let written = steps_written pieces whole (slice_split-no_slash (target_of text))
    (subst (AllZip IsWrittenAs pieces) cut (target_of-segments text)) steps in
    let (there, lands, raw_there) = walk-written (map classed pieces) whole raws directory target written raw leads in
    let (front, last, ends) = written-ends (map classed pieces) cs n written in
    let classes : map classed (raws ++ pieces) ≡ map name raws ++ map classed pieces =
    map-append classed raws pieces ∙ ap (λ xs. xs ++ map classed pieces) (classed-raw raws directory raw) in
    let removed : without_dots raws (map classed pieces) ≡ there =
    ap (without_dots raws) ends ∙ without_dots-walk front last raws there (ap (walk raws) (sym ends) ∙ lands) in
    let is : resolved path (target_of text) ≡ url_path there =
    ap (λ ss. url_path (without_dots [] ss)) classes
    ∙ ap url_path (without_dots-names raws [] (map classed pieces) ∙ removed) in
    ap (λ path. map decoded (segments_of path)) is
    ∙ ap (λ texts. map decoded (drop 1 texts)) (slice_split-url_path there target raw_there)
    ∙ decoded-raw there target raw_there none

-- ---- the path that is written

-- a path that begins with a byte other than a slash is written as it is
path_written-kept : (n rest : List ℕ) → HasNoSlash n → n ≢ [] → path_written (n ++ rest) ≡ n ++ rest
path_written-kept [] rest none some = absurd (some refl)
path_written-kept (b ∷ bs) rest (first, others) some =
    ap (λ t. some_path (if t then without_slashes (bs ++ rest) else b ∷ bs ++ rest)) first

nonempty-step : (c : Step) → SpellsItself c → step_text c ≢ []
nonempty-step cur proper = λ e. absurd (cc)
nonempty-step up proper = λ e. absurd (cc)
nonempty-step (name n) proper = (name-proper n proper).0

-- the path that is written for a list that ends in a name is the list's text, or `./` if that text is empty
pub path_written-spell : (cs : List Step) (n : List ℕ) → SpellThemselves cs → IsSegment n
    → (ds : List Step) × AreSegments (ds ++ name n ∷ [])
    × (path_written (spell (cs ++ name n ∷ [])) ≡ spell (ds ++ name n ∷ []))
    × ((base : List (List ℕ)) → walk base (ds ++ name n ∷ []) ≡ walk base (cs ++ name n ∷ []))
path_written-spell [] [] proper is = (cur ∷ [], (tt, (is, tt)), refl, λ base. refl)
path_written-spell [] (b ∷ bs) proper is = (
  [],
  (is, tt),
  ap path_written (sym (append-nil (b ∷ bs)))
      ∙ path_written-kept (b ∷ bs) [] is.no_slash (λ e. absurd (cc)) ∙ append-nil (b ∷ bs),
  λ base. refl,
)
path_written-spell (c ∷ []) n (first, rest) is = (
  c ∷ [],
  (IsSegmentStep-proper c first, (is, tt)),
  path_written-kept (step_text c) (slash ∷ n) (HasNoSlash-step c (IsSegmentStep-proper c first)) (nonempty-step c first),
  λ base. refl,
)
path_written-spell (c ∷ d ∷ cs) n (first, rest) is = (
  c ∷ d ∷ cs,
  (IsSegmentStep-proper c first, AreSegments-push (d ∷ cs) n (AreSegments-proper (d ∷ cs) rest) is),
  path_written-kept (step_text c) (slash ∷ spell (d ∷ cs ++ name n ∷ [])) (HasNoSlash-step c (IsSegmentStep-proper c first))
      (nonempty-step c first),
  λ base. refl,
)
