-- The file name of a text, its position and its stem.
use Rattle.std.proofs.Common.{◌≡◌, ◌≢◌, ℕ, ◌+◌, ◌-◌, ◌<◌, ◌≤◌, Bool, true, false, not, cond, List, [], ◌∷◌, ◌++◌, All, length, get_or, take, drop, replicate, Option, Some, None, Bor, inl, inr, sym, refl, ap, ap₂, ◌∙◌, arith, ne_eqb, append_assoc, append-nil, length-append, take_at, take_all}
use Rattle.std.specs.List.{slice_range, suffix_len, before_last, after_last}
use Rattle.std.specs.Str.{IsCharBoundary}
use Rattle.std.proofs.lemmas.List.{get_or_at, get_or-append_right, drop_at, append_cancel_right}
use Rattle.std.proofs.lemmas.Str.{IsCharBoundary-end, IsCharBoundary-before_ascii}
use Rattle.std.proofs.lemmas.List.Sums.{suffix_len_is}
use Rattle.std.specs.Prelude.{slice_get, is_some, IsSome, IfSome, MatchOption}
use Rattle.std.specs.Option.{option_and_then, option_copied}
use Rattle.std.proofs.lemmas.Bool.{cond_both, cond-true, cond-false}
use Rattle.relative_path.specs.Steps.{slash, dot, is_not_empty, Step, cur, up, name, step_text, classed, components}
use Rattle.relative_path.specs.Slices.{IsCut, IsFront}
use Rattle.relative_path.specs.Editing.{is_cur, kept_len, pushed, without_cur_dirs, IsPopped}
use Rattle.relative_path.specs.Naming.{name_of, last_other, last_name, file_name_of, is_dot, has_stem, stem_of, extension_of, dotted, base_components, IsBase, IsNamed, IsExtended}
use Rattle.relative_path.specs.RelativePathBuf.{ExceedsRoom}
use Rattle.relative_path.proofs.StepsLemmas.{HasNoSlash, components-nil, components-append, components_whole, step_text-classed, last-append_slash}
use Rattle.relative_path.proofs.SlicesLemmas.{IsPrefix, IsPrefix-take, IsPrefix-append_left, IsPrefix-trans, IsPrefix-shortest, IsShortestPrefix-unique}
use Rattle.relative_path.proofs.EditingLemmas.{LosesCurs, IsPopped-none, IsPopped-front, IsCut-through, components-pushed, without_cur_dirs-at, without_cur_dirs-curs}
use Rattle.relative_path.proofs.ListsLemmas.{last_same, slice_get-at}
use Rattle.relative_path.proofs.SlashesLemmas.{last_slash}

-- ---- a name cut at its last dot

-- the byte is no dot
abbrev pub no_dot : ℕ → Bool
no_dot b = not (is_dot b)

-- the bytes after the last dot are no dots
after_dot : (xs ys : List ℕ) → All (λ b. b ≢ dot) ys → (k : ℕ) → length xs + 1 ≤ k → k < length (xs ++ dot ∷ ys)
    → no_dot (get_or (xs ++ dot ∷ ys) k 0) ≡ true
after_dot xs ys other k from below =
    let regroup = append_assoc xs (dot ∷ []) ys in
    let front = length-append xs (dot ∷ []) in
    let whole = length-append xs (dot ∷ ys) in
    let at = get_or-append_right (xs ++ dot ∷ []) ys (length xs + 1) k 0 (omega arith) from in
    ap (λ l. no_dot (get_or l k 0)) (sym regroup) ∙ ap no_dot at
    ∙ ap not (ne_eqb _ dot (other (k - (length xs + 1)) 0 (omega arith)))

suffix_len-last_dot : (xs ys : List ℕ) → All (λ b. b ≢ dot) ys → suffix_len no_dot (xs ++ dot ∷ ys) ≡ length ys
suffix_len-last_dot xs ys other =
    let whole = length-append xs (dot ∷ ys) in
    let start : length xs + 1 - 1 ≡ length xs = omega arith in
    let here =
    ap (λ i. no_dot (get_or (xs ++ dot ∷ ys) i 0)) start ∙ ap no_dot (get_or_at xs dot ys 0 (length xs) refl) in
    let counted =
    suffix_len_is no_dot (xs ++ dot ∷ ys) (length xs + 1) 0 (omega arith) (after_dot xs ys other) (λ _. here) in
    omega arith

suffix_len-no_dot : (xs : List ℕ) → All (λ b. b ≢ dot) xs → suffix_len no_dot xs ≡ length xs
suffix_len-no_dot xs other =
    let counted =
    suffix_len_is no_dot xs 0 0 (omega arith) (λ k from below. ap not (ne_eqb _ dot (other k 0 below)))
    (λ none. absurd (omega arith)) in
    omega arith

before_last-dot : (xs ys : List ℕ) → All (λ b. b ≢ dot) ys → before_last is_dot (xs ++ dot ∷ ys) ≡ xs
before_last-dot xs ys other =
    let count : length (xs ++ dot ∷ ys) - suffix_len no_dot (xs ++ dot ∷ ys) - 1 ≡ length xs =
    omega (arith, suffix_len-last_dot xs ys other, length-append xs (dot ∷ ys)) in
    ap (λ n. take n (xs ++ dot ∷ ys)) count ∙ take_at xs (dot ∷ ys) (length xs) refl

after_last-dot : (xs ys : List ℕ) → All (λ b. b ≢ dot) ys → after_last is_dot (xs ++ dot ∷ ys) ≡ ys
after_last-dot xs ys other =
    let front = length-append xs (dot ∷ []) in
    let count : length (xs ++ dot ∷ ys) - suffix_len no_dot (xs ++ dot ∷ ys) ≡ length (xs ++ dot ∷ []) =
    omega (arith, suffix_len-last_dot xs ys other, length-append xs (dot ∷ ys)) in
    ap₂ drop count (sym (append_assoc xs (dot ∷ []) ys)) ∙ drop_at (xs ++ dot ∷ []) ys (length (xs ++ dot ∷ [])) refl

before_last-no_dot : (xs : List ℕ) → All (λ b. b ≢ dot) xs → before_last is_dot xs ≡ []
before_last-no_dot xs other =
    let count : length xs - suffix_len no_dot xs - 1 ≡ 0 = omega (arith, suffix_len-no_dot xs other) in
    ap (λ n. take n xs) count

-- the name has this stem and this extension
pub record IsSplit (n stem : List ℕ) (extension : Option (List ℕ)) : Type 0 where
  pub stem_is : stem_of n ≡ stem
  pub extension_is : extension_of n ≡ extension

IsSplit-whole : (n : List ℕ) → before_last is_dot n ≡ [] → IsSplit n n None
IsSplit-whole n nothing = record {
  stem_is = ap (λ x. cond (is_not_empty x) x n) nothing;
  extension_is = ap (λ x. cond (is_not_empty x) (Some (after_last is_dot n)) None) nothing;
}

pub IsSplit-no_dot : (n : List ℕ) → All (λ b. b ≢ dot) n → IsSplit n n None
IsSplit-no_dot n other = IsSplit-whole n (before_last-no_dot n other)

pub IsSplit-leading_dot : (n stem extension : List ℕ) → (n ≡ stem ++ dot ∷ extension) × All (λ b. b ≢ dot) extension
    → length stem ≡ 0 → IsSplit n n None
IsSplit-leading_dot n [] extension (joined, other) empty =
    IsSplit-whole n (ap (before_last is_dot) joined ∙ before_last-dot [] extension other)
IsSplit-leading_dot n (b ∷ bs) extension split empty = absurd (omega arith)

pub IsSplit-dot : (n stem extension : List ℕ) → (n ≡ stem ++ dot ∷ extension) × All (λ b. b ≢ dot) extension
    → length stem ≢ 0 → IsSplit n stem (Some extension)
IsSplit-dot n [] extension split nonempty = absurd (nonempty refl)
IsSplit-dot n (b ∷ bs) extension (joined, other) nonempty =
    let before = ap (before_last is_dot) joined ∙ before_last-dot (b ∷ bs) extension other in
    let after = ap (after_last is_dot) joined ∙ after_last-dot (b ∷ bs) extension other in
    record {
      stem_is = ap (λ x. cond (is_not_empty x) x n) before;
      extension_is = ap₂ (λ x y. cond (is_not_empty x) (Some y) None) before after;
    }

-- ---- the text of the last component

-- a text that doesn't end in a slash ends in the text of its last component
pub ends_in_last : (text : List ℕ) (cs : List Step) (c : Step) → get_or text (length text - 1) 0 ≢ slash
    → components text ≡ cs ++ c ∷ [] → (head : List ℕ) × (text ≡ head ++ step_text c)
ends_in_last text cs c end last = elim (last_slash text) [
  | inl none ↦ ([], whole text none last)
  | inr (xs, [], joined, none) ↦ absurd (end (ap (λ x. get_or x (length x - 1) 0) joined ∙ last-append_slash xs))
  | inr (xs, b ∷ bs, joined, none) ↦
      let parts =
      ap components joined ∙ components-append xs (b ∷ bs)
      ∙ ap (λ ds. components xs ++ ds) (components_whole (b ∷ bs) (omega arith) none) in
      let same = last_same cs (components xs) c (classed (b ∷ bs)) (sym last ∙ parts) in (
        xs ++ slash ∷ [],
        joined ∙ sym (append_assoc xs (slash ∷ []) (b ∷ bs))
            ∙ ap (λ x. (xs ++ slash ∷ []) ++ x) (sym (step_text-classed (b ∷ bs)) ∙ ap step_text (sym same)),
      )
]
  where
    whole : (bs : List ℕ) → HasNoSlash bs → components bs ≡ cs ++ c ∷ [] → bs ≡ step_text c
    whole [] none parts =
        absurd (let e = ap length (sym components-nil ∙ parts) in omega (arith, e, length-append cs (c ∷ [])))
    whole (b ∷ bs) none parts =
        let same = last_same cs [] c (classed (b ∷ bs)) (sym parts ∙ components_whole (b ∷ bs) (omega arith) none) in
        sym (step_text-classed (b ∷ bs)) ∙ ap step_text (sym same)

-- ---- the end of a path

pub last_other-at : (cs : List Step) (c : Step) (n : ℕ) → is_cur c ≡ false
    → last_other (cs ++ c ∷ replicate n cur) ≡ Some c
last_other-at cs c n other =
    let index : length (without_cur_dirs cs ++ c ∷ []) - 1 ≡ length (without_cur_dirs cs) =
    omega (arith, length-append (without_cur_dirs cs) (c ∷ [])) in
    ap (λ ds. slice_get ds (length ds - 1)) (without_cur_dirs-at cs c n other)
    ∙ ap (slice_get (without_cur_dirs cs ++ c ∷ [])) index ∙ slice_get-at (without_cur_dirs cs) c []

last_name-none : (text left : List ℕ) → LosesCurs text left → components left ≡ [] → file_name_of text ≡ None
last_name-none text left h none =
    ap last_name (h.joined ∙ ap (λ cs. cs ++ replicate h.lost cur) none)
    ∙ ap (λ cs. option_and_then name_of (slice_get cs (length cs - 1))) (without_cur_dirs-curs h.lost)

last_name-at : (text left front : List ℕ) (c : Step) → LosesCurs text left → is_cur c ≡ false
    → components left ≡ components front ++ c ∷ [] → file_name_of text ≡ name_of c
last_name-at text left front c h other last =
    let whole = h.joined ∙ ap (λ cs. cs ++ replicate h.lost cur) last
    ∙ append_assoc (components front) (c ∷ []) (replicate h.lost cur) in
    ap last_name whole ∙ ap (option_and_then name_of) (last_other-at (components front) c h.lost other)

-- the text before the last component other than `.`, the name that this component is, and the text up to its end
pub record IsEnd (text before : List ℕ) (last : Option (Bor (List ℕ))) (through : List ℕ) : Type 0 where
  pub popped : IsPopped text before
  pub named : option_copied last ≡ file_name_of text
  pub placed : IfSome last (λ n. (head : List ℕ) × (through ≡ head ++ n.now) × IsCut text (kept_len (components text) + 1) through)

pub IsEnd-none : (text left front : List ℕ) → LosesCurs text left → (components left ≡ []) × IsFront left front
    → IsEnd text front None left
IsEnd-none text left front h (none, cut) =
    record {
      popped = IsPopped-none text left front h none cut;
      named = sym (last_name-none text left h none);
      placed = tt;
    }

pub IsEnd-up : (text left front : List ℕ) → LosesCurs text left
    → (components left ≡ components front ++ up ∷ []) × IsFront left front → IsEnd text front None left
IsEnd-up text left front h (last, cut) =
    record {
      popped = IsPopped-front text left front up h refl last cut;
      named = sym (last_name-at text left front up h refl last);
      placed = tt;
    }

pub IsEnd-name : (text left front : List ℕ) (n : Bor (List ℕ)) → LosesCurs text left
    → (components left ≡ components front ++ name n.now ∷ []) × IsFront left front → IsEnd text front (Some n) left
IsEnd-name text left front n h (last, cut) =
    let ends = ends_in_last left (components front) (name n.now) h.end last in
    record {
      popped = IsPopped-front text left front (name n.now) h refl last cut;
      named = sym (last_name-at text left front (name n.now) h refl last);
      placed = (ends.0, ends.1, IsCut-through text left front (name n.now) h refl last);
    }

-- ---- the stem in its text

-- a name is its stem alone, or its stem, a dot and the extension
abbrev pub IsJoined : List ℕ → List ℕ → Option (Bor (List ℕ)) → Type 0
IsJoined n stem extension = MatchOption extension (n ≡ stem) (λ e. n ≡ stem ++ dot ∷ e.now)

-- what comes after the stem
after_stem : Option (Bor (List ℕ)) → List ℕ
after_stem None = []
after_stem (Some e) = dot ∷ e.now

IsJoined-after : (n stem : List ℕ) (extension : Option (Bor (List ℕ))) → IsJoined n stem extension
    → n ≡ stem ++ after_stem extension
unfolding after_stem
IsJoined-after n stem None joined = joined ∙ sym (append-nil stem)
IsJoined-after n stem (Some e) joined = joined

IsCharBoundary-after : (front : List ℕ) (extension : Option (Bor (List ℕ)))
    → IsCharBoundary (front ++ after_stem extension) (length front)
unfolding after_stem
IsCharBoundary-after front None = rw (append-nil front) (IsCharBoundary-end front)
IsCharBoundary-after front (Some e) =
    IsCharBoundary-before_ascii (front ++ dot ∷ e.now) (length front) (omega (
      arith,
      length-append front
          (dot ∷ e.now),
    )) (let at = get_or_at front dot e.now 0 (length front) refl in omega (arith, at))

module _ (through head n stem : List ℕ) (extension : Option (Bor (List ℕ))) (placed : through ≡ head ++ n)
    (joined : IsJoined n stem extension) where
  whole : through ≡ (head ++ stem) ++ after_stem extension
  whole =
      placed ∙ ap (λ x. head ++ x) (IsJoined-after n stem extension joined)
      ∙ sym (append_assoc head stem (after_stem extension))

  stem_end : length through - length n + length stem ≡ length (head ++ stem)
  stem_end = omega (arith, ap length placed, length-append head n, length-append head stem)

  -- the end of the stem is a character boundary
  pub IsCharBoundary-stem : IsCharBoundary through (length through - length n + length stem)
  IsCharBoundary-stem = rw (stem_end, whole) (IsCharBoundary-after (head ++ stem) extension)

  pub slice_range-stem : slice_range through 0 (length through - length n + length stem) ≡ head ++ stem
  slice_range-stem =
      let count : length through - length n + length stem - 0 ≡ length (head ++ stem) = omega (arith, stem_end) in
      ap₂ take count whole ∙ take_at (head ++ stem) (after_stem extension) (length (head ++ stem)) refl

-- ---- the texts that the setters leave

-- the text with this extension, if its file name is this one
abbrev pub IsExtendedAt : List ℕ → List ℕ → List ℕ → Option (List ℕ) → Type 0
IsExtendedAt text e extended named = MatchOption named (extended ≡ text)
    (λ n. (head : List ℕ) × IsCut text (kept_len (components text) + 1) (head ++ n) × (extended ≡ head ++ stem_of n ++ dotted e))

-- what a new file name is pushed onto, if the file name is this one
abbrev IsBaseAt : List ℕ → List ℕ → Option (List ℕ) → Type 0
IsBaseAt text base named = MatchOption named (base ≡ text) (λ _. IsPopped text base)

-- the text up to the end of the stem is the text without its extension
pub IsExtended-stem : (text head n : List ℕ) → file_name_of text ≡ Some n
    → IsCut text (kept_len (components text) + 1) (head ++ n) → IsExtended text [] (head ++ stem_of n)
IsExtended-stem text head n named cut = rw named (head, cut, sym (append-nil (head ++ stem_of n)))

-- an extension appended to that text gives the extended text
pub IsExtended-push : (text e front : List ℕ) → IsSome (file_name_of text) → IsExtended text [] front
    → IsExtended text e (front ++ dotted e)
IsExtended-push text e front found extended = push (file_name_of text) found extended
  where
    push : (o : Option (List ℕ)) → IsSome o → IsExtendedAt text [] front o → IsExtendedAt text e (front ++ dotted e) o
    push None some is = absurd (cc)
    push (Some n) some (head, cut, is) = (head, cut, ap (λ x. x ++ dotted e) (is ∙ append-nil (head ++ stem_of n)))

pub IsExtended-unique : (text e x y : List ℕ) → IsExtended text e x → IsExtended text e y → x ≡ y
IsExtended-unique text e x y is_x is_y = same (file_name_of text) is_x is_y
  where
    same : (o : Option (List ℕ)) → IsExtendedAt text e x o → IsExtendedAt text e y o → x ≡ y
    same None is_x is_y = is_x ∙ sym is_y
    same (Some n) (head, cut, is_x) (head', cut', is_y) =
        let heads = append_cancel_right head head' n (IsShortestPrefix-unique cut cut') in
        is_x ∙ ap (λ h. h ++ stem_of n ++ dotted e) heads ∙ sym is_y

IsBase-unique : (text x y : List ℕ) → IsBase text x → IsBase text y → x ≡ y
IsBase-unique text x y is_x is_y = same (file_name_of text) is_x is_y
  where
    same : (o : Option (List ℕ)) → IsBaseAt text x o → IsBaseAt text y o → x ≡ y
    same None is_x is_y = is_x ∙ sym is_y
    same (Some n) is_x is_y = IsShortestPrefix-unique is_x is_y

pub IsNamed-unique : (text f x y : List ℕ) → IsNamed text f x → IsNamed text f y → x ≡ y
IsNamed-unique text f x y (base, is, is_x) (base', is', is_y) =
    is_x ∙ ap (λ b. pushed b f) (IsBase-unique text base base' is is') ∙ sym is_y

-- the components of the new name come after those that the text keeps
pub components-IsNamed : (text f named : List ℕ) → IsNamed text f named
    → components named ≡ base_components (components text) ++ components f
components-IsNamed text f named (front, is, joined) =
    ap components joined ∙ components-pushed front f ∙ ap (λ cs. cs ++ components f) (front_components (file_name_of text) refl is)
  where
    front_components : (o : Option (List ℕ)) → file_name_of text ≡ o → IsBaseAt text front o
        → components front ≡ base_components (components text)
    front_components None none is = ap components is ∙ sym (cond-false _ _ _ (ap is_some none))
    front_components (Some n) found is = is.same_components ∙ sym (cond-true _ _ _ (ap is_some found))

-- ---- the prefixes that the setters keep

IsPrefix-stem : (n : List ℕ) → IsPrefix n (stem_of n)
IsPrefix-stem n =
    cond_both
    (has_stem n)
    (before_last is_dot n) n (IsPrefix n) (λ _. IsPrefix-take _ n)
    (λ _. record { front = sym (take_all (length n) n (omega arith)) })

pub IsPrefix-IsExtended : (text front : List ℕ) → IsSome (file_name_of text) → IsExtended text [] front
    → IsPrefix text front
IsPrefix-IsExtended text front found extended = prefix (file_name_of text) found extended
  where
    prefix : (o : Option (List ℕ)) → IsSome o → IsExtendedAt text [] front o → IsPrefix text front
    prefix None some is = absurd (cc)
    prefix (Some n) some (head, cut, is) =
        rw (is, append-nil (head ++ stem_of n))
        (IsPrefix-trans (IsPrefix-shortest cut) (IsPrefix-append_left head (IsPrefix-stem n)))

pub IsPrefix-IsBase : (text base : List ℕ) → IsBase text base → IsPrefix text base
IsPrefix-IsBase text base is = front (file_name_of text) is
  where
    front : (o : Option (List ℕ)) → IsBaseAt text base o → IsPrefix text base
    front None same = record { front = same ∙ sym (take_all (length base) text (omega (arith, ap length same))) }
    front (Some n) popped = IsPrefix-shortest popped

-- ---- the only text that a setter could leave, if the room is too small

pub ExceedsRoom-named : (text f base : List ℕ) (room len : ℕ) → IsBase text base → len ≡ length (pushed base f)
    → room < len → ExceedsRoom (IsNamed text f) room
ExceedsRoom-named text f base room len is count longer = record {
  text = pushed base f;
  holds = (base, is, refl);
  only = λ other named. IsNamed-unique text f other (pushed base f) named (base, is, refl);
  longer = omega arith;
}

pub ExceedsRoom-extended : (text e extended : List ℕ) (room len : ℕ) → IsExtended text e extended
    → len ≡ length extended → room < len → ExceedsRoom (IsExtended text e) room
ExceedsRoom-extended text e extended room len is count longer =
    record {
      text = extended;
      holds = is;
      only = λ other is_other. IsExtended-unique text e other extended is_other is;
      longer = omega arith;
    }
