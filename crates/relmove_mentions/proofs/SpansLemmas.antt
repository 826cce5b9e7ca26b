-- Spans in order, and the bytes of a span that aren't path bytes.
use Rattle.std.proofs.Common.{◌≡◌, ◌==◌, ◌++◌, inl, inr, ℕ, zero, suc, cond, ◌+◌, ◌-◌, ◌<◌, ◌≤◌, Bool, true, false, not, ◌||◌, ◌&&◌, List, [], ◌∷◌, length, take, drop, get_or, refl, sym, ap, ◌∙◌, subst, arith, length-drop, drop-cons}
use Rattle.std.specs.Prelude.{nat_le}
use Rattle.std.specs.List.{fold, list_all, list_any}
use Rattle.std.proofs.lemmas.Bool.{cases_lt, eqb-true, le-leb, lt-leb, or_cases, or_parts}
use Rattle.std.proofs.lemmas.List.{drop-drop, get_or-drop, take-take}
use Rattle.std.proofs.lemmas.List.Sums.{fold-append, fold_more, sum_by-append, sum_by-cons, sum_by-take-le, sum_by_more}
use Rattle.std.proofs.Math.ListN.{drop_of_length-le}
use Rattle.std.proofs.Math.Seq.{take-add}
use Rattle.relmove_mentions.proofs.EndingsLemmas.{fold-ended, next-other, other-not_slash}
use Rattle.relmove_mentions.specs.Endings.{ending_of, has_name, next_ending, no_ending}
use Rattle.relmove_mentions.specs.Spans.{ArePassed, FollowFrom, is_apart, is_bounded_after, is_bounded_at, is_bounded_before, is_other_byte, is_path_byte, others_in}
use Rattle.relmove_mentions.specs.declared.endings.Ending.{Ending}
use Rattle.relmove_mentions.specs.declared.text_span.TextSpan.{TextSpan}

-- ---- spans in order

pub FollowFrom-less : (at less : ℕ) (spans : List TextSpan) → less ≤ at → FollowFrom at spans → FollowFrom less spans
FollowFrom-less at less [] le follow = tt
FollowFrom-less at less (span ∷ spans) le (start, order, follow) = (omega (arith, le, start), order, follow)

-- the spans after the first one are in order
pub FollowFrom-rest : (at : ℕ) (span : TextSpan) (spans : List TextSpan) → FollowFrom at (span ∷ spans) → FollowFrom 0 spans
FollowFrom-rest at span spans (start, order, follow) = FollowFrom-less span.end 0 spans (omega arith) follow

or_true : (b : Bool) → (b || true) ≡ true
or_true true = refl
or_true false = refl

-- spans that end before each other
pub is_apart-before : (span other : TextSpan) → span.end ≤ other.start → is_apart span other ≡ true
is_apart-before span other le =
    ap (λ b. nat_le other.end other.start || (b || nat_le other.end span.start)) (le-leb span.end other.start le)
    ∙ or_true (nat_le other.end other.start)

pub is_apart-after : (span other : TextSpan) → other.end ≤ span.start → is_apart span other ≡ true
is_apart-after span other le =
    ap (λ b. nat_le other.end other.start || (nat_le span.end other.start || b)) (le-leb other.end span.start le)
    ∙ ap (λ b. nat_le other.end other.start || b) (or_true (nat_le span.end other.start))
    ∙ or_true (nat_le other.end other.start)

-- a span that is apart from the first is apart from all exactly if it is from the rest
pub list_all-passed : (span first : TextSpan) (rest : List TextSpan) → is_apart span first ≡ true
    → list_all (is_apart span) (first ∷ rest) ≡ list_all (is_apart span) rest
list_all-passed span first rest apart = ap (λ b. b && list_all (is_apart span) rest) apart

-- a span that ends before all others is apart from them
pub list_all-before : (span : TextSpan) (at : ℕ) (spans : List TextSpan) → span.end ≤ at → FollowFrom at spans
    → list_all (is_apart span) spans ≡ true
list_all-before span at [] le follow = refl
list_all-before span at (other ∷ spans) le (start, order, follow) =
    ap (λ b. b && list_all (is_apart span) spans) (is_apart-before span other (omega (arith, le, start)))
    ∙ list_all-before span other.end spans (omega (arith, le, start, order)) follow

-- a span that isn't apart from the first isn't apart from all
pub list_all-first : (span first : TextSpan) (rest : List TextSpan) → is_apart span first ≡ false
    → list_all (is_apart span) (first ∷ rest) ≡ false
list_all-first span first rest apart = ap (λ b. b && list_all (is_apart span) rest) apart

-- ---- bytes that aren't path bytes

-- a longer text has no fewer of them
pub others_in-more : (text : List ℕ) (n m : ℕ) → n ≤ m → others_in (take n text) ≤ others_in (take m text)
others_in-more text n m le =
    subst (λ part. others_in part ≤ others_in (take m text)) (take-take n m text le) (sum_by-take-le _ (take m text) n)

-- with one more byte
others_in-step : (text : List ℕ) (start end : ℕ) → start ≤ end → end < length text
    → others_in (take (end + 1 - start) (drop start text))
    ≡ others_in (take (end - start) (drop start text)) + cond (is_other_byte (get_or text end 0)) 1 0
others_in-step text start end order within =
    let len : end + 1 - start ≡ end - start + 1 = omega (arith, order) in
    let at : start + (end - start) ≡ end = omega (arith, order) in
    let inside : end - start < length (drop start text) = omega (arith, order, within, length-drop start text) in
    ap (λ n. others_in (take n (drop start text))) len
    ∙ sum_by_more (λ b. cond (is_other_byte b) 1 0) (drop start text) (end - start) 0 inside
    ∙ ap (λ b. others_in (take (end - start) (drop start text)) + cond (is_other_byte b) 1 0)
    (get_or-drop start text (end - start) 0 ∙ ap (λ k. get_or text k 0) at)

-- with one more of them
pub others_in-next : (text : List ℕ) (start end : ℕ) → start ≤ end → end < length text
    → is_path_byte (get_or text end 0) ≡ false
    → others_in (take (end + 1 - start) (drop start text)) ≡ others_in (take (end - start) (drop start text)) + 1
others_in-next text start end order within other =
    others_in-step text start end order within
    ∙ ap (λ b. others_in (take (end - start) (drop start text)) + cond (not b) 1 0) other

-- with one more byte, as many may still come as it leaves
pub others_in-left : (text : List ℕ) (start end left more most : ℕ) → start ≤ end → end < length text
    → others_in (take (end - start) (drop start text)) + left ≡ most
    → cond (is_other_byte (get_or text end 0)) 1 0 + more ≡ left
    → others_in (take (end + 1 - start) (drop start text)) + more ≡ most
others_in-left text start end left more most order within count is =
    omega (arith, others_in-step text start end order within, count, is)

-- no byte is none of them
pub others_in-none : (text : List ℕ) (start : ℕ) → others_in (take (start - start) (drop start text)) ≡ 0
others_in-none text start =
    let none : start - start ≡ 0 = omega arith in ap (λ n. others_in (take n (drop start text))) none

-- the bytes of a span, from an offset in it on
take-after : (text : List ℕ) (start mid end : ℕ) → start ≤ mid → mid ≤ end
    → take (end - start) (drop start text) ≡ take (mid - start) (drop start text) ++ take (end - mid) (drop mid text)
take-after text start mid end order within =
    let len : end - start ≡ mid - start + (end - mid) = omega (arith, order, within) in
    let at : start + (mid - start) ≡ mid = omega (arith, order) in
    ap (λ n. take n (drop start text)) len ∙ take-add (mid - start) (end - mid) (drop start text)
    ∙ ap (λ rest. take (mid - start) (drop start text) ++ take (end - mid) rest)
    (drop-drop (mid - start) start text ∙ ap (λ n. drop n text) at)

-- a span within another one has no more of them
pub others_in-within : (text : List ℕ) (start mid end last : ℕ) → start ≤ mid → mid ≤ end → end ≤ last
    → others_in (take (end - mid) (drop mid text)) ≤ others_in (take (last - start) (drop start text))
others_in-within text start mid end last order within more =
    let parts = ap others_in (take-after text start mid last order (omega (arith, within, more)))
    ∙ sum_by-append (λ b. cond (is_other_byte b) 1 0) (take (mid - start) (drop start text)) (take (last - mid) (drop mid text)) in
    let longer = others_in-more (drop mid text) (end - mid) (last - mid) (omega (arith, more)) in
    omega (arith, parts, longer)

-- with one more byte before
pub others_in-before : (text : List ℕ) (first end : ℕ) → first < end → end ≤ length text
    → others_in (take (end - first) (drop first text))
    ≡ cond (is_other_byte (get_or text first 0)) 1 0 + others_in (take (end - (first + 1)) (drop (first + 1) text))
others_in-before text first end order within =
    let len : end - first ≡ suc (end - (first + 1)) = omega (arith, order) in
    let next : suc first ≡ first + 1 = omega arith in
    ap (λ n. others_in (take n (drop first text))) len
    ∙ ap (λ rest. others_in (take (suc (end - (first + 1))) rest))
    (drop-cons text first 0 (omega (arith, order, within)) ∙ ap (λ n. get_or text first 0 ∷ drop n text) next)
    ∙ sum_by-cons (λ b. cond (is_other_byte b) 1 0) (get_or text first 0) (take (end - (first + 1)) (drop (first + 1) text))

-- with one more byte before, as many may still come as it leaves
pub others_in-back : (text : List ℕ) (first end left more most : ℕ) → 0 < first → first ≤ end → end ≤ length text
    → others_in (take (end - first) (drop first text)) + left ≡ most
    → cond (is_other_byte (get_or text (first - 1) 0)) 1 0 + more ≡ left
    → others_in (take (end - (first - 1)) (drop (first - 1) text)) + more ≡ most
others_in-back text first end left more most some order within count is =
    let last : first - 1 + 1 ≡ first = omega (arith, some) in
    let next : others_in (take (end - (first - 1)) (drop (first - 1) text))
    ≡ cond (is_other_byte (get_or text (first - 1) 0)) 1 0 + others_in (take (end - first) (drop first text)) =
    others_in-before text (first - 1) end (omega (arith, some, order)) within
    ∙ ap (λ at. cond (is_other_byte (get_or text (first - 1) 0)) 1 0 + others_in (take (end - at) (drop at text))) last in
    omega (arith, next, count, is)

-- ---- what the bytes of a span end in

-- after an ending, with one more byte
pub fold-next : (e : Ending) (text : List ℕ) (start end : ℕ) → start ≤ end → end < length text
    → fold next_ending e (take (end + 1 - start) (drop start text))
    ≡ next_ending (fold next_ending e (take (end - start) (drop start text))) (get_or text end 0)
fold-next e text start end order within =
    let len : end + 1 - start ≡ end - start + 1 = omega (arith, order) in
    let at : start + (end - start) ≡ end = omega (arith, order) in
    let inside : end - start < length (drop start text) = omega (arith, order, within, length-drop start text) in
    ap (λ n. fold next_ending e (take n (drop start text))) len
    ∙ fold_more next_ending e (drop start text) (end - start) 0 inside
    ∙ ap (next_ending (fold next_ending e (take (end - start) (drop start text))))
    (get_or-drop start text (end - start) 0 ∙ ap (λ k. get_or text k 0) at)

-- no byte
pub fold-none : (e : Ending) (text : List ℕ) (start : ℕ) → fold next_ending e (take (start - start) (drop start text)) ≡ e
fold-none e text start = let none : start - start ≡ 0 = omega arith in ap (λ n. fold next_ending e (take n (drop start text))) none

-- with one byte
fold-first : (e : Ending) (text : List ℕ) (start : ℕ) → start < length text
    → fold next_ending e (take (start + 1 - start) (drop start text)) ≡ next_ending e (get_or text start 0)
fold-first e text start within =
    fold-next e text start start (omega arith) within ∙ ap (λ f. next_ending f (get_or text start 0)) (fold-none e text start)

-- with the first of some bytes, and then the others
pub fold-rest : (e : Ending) (text : List ℕ) (start end : ℕ) → start < end → start < length text
    → fold next_ending e (take (end - start) (drop start text))
    ≡ fold next_ending (next_ending e (get_or text start 0)) (take (end - (start + 1)) (drop (start + 1) text))
fold-rest e text start end order within =
    ap (fold next_ending e) (take-after text start (start + 1) end (omega arith) (omega (arith, order)))
    ∙ fold-append next_ending e (take (start + 1 - start) (drop start text)) (take (end - (start + 1)) (drop (start + 1) text))
    ∙ ap (λ f. fold next_ending f (take (end - (start + 1)) (drop (start + 1) text))) (fold-first e text start within)

-- with all bytes up to a later offset
pub ending_of-later : (text : List ℕ) (start mid end : ℕ) → start ≤ mid → mid ≤ end
    → ending_of (take (end - start) (drop start text))
    ≡ fold next_ending (ending_of (take (mid - start) (drop start text))) (take (end - mid) (drop mid text))
ending_of-later text start mid end order within =
    ap ending_of (take-after text start mid end order within)
    ∙ fold-append next_ending no_ending (take (mid - start) (drop start text)) (take (end - mid) (drop mid text))

-- bytes before a bound don't matter
pub ending_of-after : (text : List ℕ) (start mid end : ℕ) → start ≤ mid → mid ≤ end → end ≤ length text
    → is_bounded_before text mid ≡ true → has_name (take (end - mid) (drop mid text)) ≡ true
    → ending_of (take (end - start) (drop start text)) ≡ ending_of (take (end - mid) (drop mid text))
ending_of-after text start mid end order within inside bounded named = elim (cases_lt start mid) [
  | inr same ↦
      let is : start ≡ mid = omega (arith, order, same) in
      ap (λ at. ending_of (take (end - at) (drop at text))) is
  | inl less ↦ elim (or_cases (mid == 0) (is_other_byte (get_or text (mid - 1) 0)) bounded) [
    | inl none ↦ absurd (let is = eqb-true mid 0 none in omega (arith, less, is))
    | inr other ↦
        let last : mid - 1 + 1 ≡ mid = omega (arith, less) in
        let before : ending_of (take (mid - start) (drop start text))
        ≡ next_ending (ending_of (take (mid - 1 - start) (drop start text))) (get_or text (mid - 1) 0) =
        ap (λ at. ending_of (take (at - start) (drop start text))) (sym last)
        ∙ fold-next no_ending text start (mid - 1) (omega (arith, less)) (omega (arith, less, within, inside)) in
        let ended : (ending_of (take (mid - start) (drop start text))).ended ≡ true =
        ap (λ (e : Ending). e.ended) before
        ∙ next-other _ (get_or text (mid - 1) 0) (other-not_slash (get_or text (mid - 1) 0) other) other in
        ending_of-later text start mid end order within
        ∙ fold-ended (take (end - mid) (drop mid text)) (ending_of (take (mid - start) (drop start text))) no_ending ended refl named
  ]
]

-- no path ends before a plain byte
pub is_bounded_after-plain : (text : List ℕ) (end : ℕ) → end < length text
    → is_path_byte (get_or text end 0) ≡ true → (get_or text end 0 == 46) ≡ false → is_bounded_after text end ≡ false
is_bounded_after-plain text end within path plain =
    ap (λ b. (b || not (is_path_byte (get_or text end 0))) || (get_or text end 0 == 46 && is_bounded_at text (end + 1)))
    (lt-leb (length text) end within)
    ∙ ap (λ b. not b || (get_or text end 0 == 46 && is_bounded_at text (end + 1))) path
    ∙ ap (λ b. b && is_bounded_at text (end + 1)) plain

-- so many bytes without a property have none with it
none-so_many : (p : ℕ → Bool) (text : List ℕ) (n start : ℕ) → start + n ≤ length text
    → ((at : ℕ) → start ≤ at → at < start + n → p (get_or text at 0) ≡ false)
    → list_any p (take n (drop start text)) ≡ false
none-so_many p text zero start within none = refl
none-so_many p text (suc n) start within none =
    let next : suc start ≡ start + 1 = omega arith in
    let cut : drop start text ≡ get_or text start 0 ∷ drop (start + 1) text =
    drop-cons text start 0 (omega (arith, within)) ∙ ap (λ k. get_or text start 0 ∷ drop k text) next in
    ap (λ rest. list_any p (take (suc n) rest)) cut
    ∙ ap (λ b. b || list_any p (take n (drop (start + 1) text))) (none start (omega arith) (omega arith))
    ∙ none-so_many p text n (start + 1) (omega (arith, within))
    (λ at later before. none at (omega (arith, later)) (omega (arith, before)))

-- nor have those of a span
pub list_any-none : (p : ℕ → Bool) (text : List ℕ) (start end : ℕ) → start ≤ end → end ≤ length text
    → ((at : ℕ) → start ≤ at → at < end → p (get_or text at 0) ≡ false)
    → list_any p (take (end - start) (drop start text)) ≡ false
list_any-none p text start end order within none =
    none-so_many p text (end - start) start (omega (arith, order, within))
    (λ at later before. none at later (omega (arith, before, order)))

-- a byte before which no path ends goes on a path
goes_on-inside : (text : List ℕ) (at : ℕ) → is_bounded_after text at ≡ false → is_other_byte (get_or text at 0) ≡ false
goes_on-inside text at inside =
    let (open_, stop) = or_parts (is_bounded_at text at) (get_or text at 0 == 46 && is_bounded_at text (at + 1)) inside in
    let (within, goes_on) = or_parts (nat_le (length text) at) (is_other_byte (get_or text at 0)) open_ in
    goes_on

-- a text without bytes that don't go on a path has none of them
others_in-zero : (text : List ℕ) → list_any is_other_byte text ≡ false → others_in text ≡ 0
others_in-zero [] none = refl
others_in-zero (b ∷ bs) none =
    let (path, rest) = or_parts (is_other_byte b) (list_any is_other_byte bs) none in
    let more : others_in (b ∷ bs) ≡ cond (is_other_byte b) 1 0 + others_in bs =
    sum_by-cons (λ c. cond (is_other_byte c) 1 0) b bs in
    let first : cond {A = ℕ} (is_other_byte b) 1 0 ≡ 0 = ap (λ t. cond t 1 0) path in
    omega (arith, more, first, others_in-zero bs rest)

-- nor have the bytes before which no path ends
pub others_in-inside : (text : List ℕ) (start mid end : ℕ) → start ≤ mid → mid ≤ end → end ≤ length text
    → ((at : ℕ) → mid ≤ at → at < end → is_bounded_after text at ≡ false)
    → others_in (take (end - start) (drop start text)) ≡ others_in (take (mid - start) (drop start text))
others_in-inside text start mid end order later within inside =
    let none : others_in (take (end - mid) (drop mid text)) ≡ 0 =
    others_in-zero (take (end - mid) (drop mid text))
    (list_any-none is_other_byte text mid end later within (λ at after before. goes_on-inside text at (inside at after before))) in
    omega (
      arith,
      ap others_in (take-after text start mid end order later)
          ∙ sum_by-append (λ b. cond (is_other_byte b) 1 0) (take (mid - start) (drop start text)) (take (end - mid) (drop mid text)),
      none,
    )

-- ---- the spans after so many

-- they are in order
pub FollowFrom-drop : (n : ℕ) (spans : List TextSpan) → FollowFrom 0 spans → FollowFrom 0 (drop n spans)
FollowFrom-drop zero spans follow = follow
FollowFrom-drop (suc n) [] follow = tt
FollowFrom-drop (suc n) (span ∷ spans) follow = FollowFrom-drop n spans (FollowFrom-rest 0 span spans follow)

-- the first of them
drop-next : (spans : List TextSpan) (n : ℕ) (none : TextSpan) → n < length spans
    → drop n spans ≡ get_or spans n none ∷ drop (n + 1) spans
drop-next spans n none within =
    let next : suc n ≡ n + 1 = omega arith in
    drop-cons spans n none within ∙ ap (λ k. get_or spans n none ∷ drop k spans) next

-- a first one from which the span is apart is passed
pub list_all-drop_passed : (span none : TextSpan) (spans : List TextSpan) (n : ℕ) → n < length spans
    → is_apart span (get_or spans n none) ≡ true
    → list_all (is_apart span) (drop (n + 1) spans) ≡ list_all (is_apart span) (drop n spans)
list_all-drop_passed span none spans n within apart =
    sym (ap (list_all (is_apart span)) (drop-next spans n none within)
    ∙ list_all-passed span (get_or spans n none) (drop (n + 1) spans) apart)

pub ArePassed-next : (spans : List TextSpan) (n at : ℕ) (none : TextSpan) → n < length spans
    → (get_or spans n none).end ≤ at → ArePassed spans n at → ArePassed spans (n + 1) at
ArePassed-next spans n at none within le passed = λ span later.
    list_all-drop_passed span none spans n within
    (is_apart-after span (get_or spans n none) (omega (arith, le, later))) ∙ passed span later

-- if the span ends before the first of them, it is apart from all of them
pub list_all-drop_before : (span none : TextSpan) (spans : List TextSpan) (n : ℕ) → n < length spans
    → span.end ≤ (get_or spans n none).start → FollowFrom 0 spans → list_all (is_apart span) (drop n spans) ≡ true
list_all-drop_before span none spans n within le follow =
    let next = drop-next spans n none within in
    let other = get_or spans n none in
    let (start, order, later) = subst (FollowFrom 0) next (FollowFrom-drop n spans follow) in
    ap (list_all (is_apart span)) next
    ∙ list_all-before span other.start (other ∷ drop (n + 1) spans) le (omega arith, order, later)

-- if it isn't apart from the first of them, it isn't from all
pub list_all-drop_first : (span none : TextSpan) (spans : List TextSpan) (n : ℕ) → n < length spans
    → is_apart span (get_or spans n none) ≡ false → list_all (is_apart span) (drop n spans) ≡ false
list_all-drop_first span none spans n within apart =
    ap (list_all (is_apart span)) (drop-next spans n none within)
    ∙ list_all-first span (get_or spans n none) (drop (n + 1) spans) apart

-- after all of them none is left
pub list_all-drop_end : (span : TextSpan) (spans : List TextSpan) (n : ℕ) → length spans ≤ n
    → list_all (is_apart span) (drop n spans) ≡ true
list_all-drop_end span spans n le = ap (list_all (is_apart span)) (drop_of_length-le spans le)
