-- Prefixes and suffixes of a text that their components determine.
use Rattle.std.proofs.Common.{◌≡◌, ◌≢◌, ℕ, ◌+◌, ◌-◌, ◌<◌, ◌≤◌, List, [], ◌++◌, length, get_or, take, drop, sym, refl, ap, ◌∙◌, subst, append_assoc, arith, take-append-drop, length-drop, length-take, take-take, take_at, get_or-drop, take_all, ⊎_elim, ◌∷◌}
use Rattle.std.proofs.lemmas.Bool.{cases_lt}
use Rattle.std.proofs.lemmas.List.Prefix.{end_rest}
use Rattle.std.specs.Str.{IsUtf8, IsCharBoundary}
use Rattle.std.proofs.lemmas.Str.{IsCharBoundary-from_take}
use Rattle.std.proofs.lemmas.List.{take_more}
use Rattle.relative_path.specs.Steps.{slash, Step, components}
use Rattle.relative_path.specs.Slices.{IsShortestPrefix}
use Rattle.relative_path.proofs.StepsLemmas.{components-nil, total_len-components, solid_len, solid_len-append, last-not_solid, components-trailing_slash}

-- p is a prefix of the text
pub record IsPrefix (text p : List ℕ) : Type 0 where
  pub front : p ≡ take (length p) text

pub IsPrefix-append : (p rest : List ℕ) → IsPrefix (p ++ rest) p
IsPrefix-append p rest = record { front = sym (take_at p rest (length p) refl) }

pub IsPrefix-take : (k : ℕ) (text : List ℕ) → IsPrefix text (take k text)
IsPrefix-take k text =
    subst (λ x. IsPrefix x (take k text)) (take-append-drop k text) (IsPrefix-append (take k text) (drop k text))

-- the same text before both
pub IsPrefix-append_left : (head : List ℕ) {text p : List ℕ} → IsPrefix text p → IsPrefix (head ++ text) (head ++ p)
IsPrefix-append_left head {text} {p} h =
    let rest = drop (length p) text in
    let whole : (head ++ p) ++ rest ≡ head ++ text =
    append_assoc head p rest ∙ ap (λ x. head ++ (x ++ rest)) h.front
    ∙ ap (λ x. head ++ x) (take-append-drop (length p) text) in
    subst (λ x. IsPrefix x (head ++ p)) whole (IsPrefix-append (head ++ p) rest)

pub length-IsPrefix : {text p : List ℕ} → IsPrefix text p → length p ≤ length text
length-IsPrefix {text} {p} h = let e = ap length h.front ∙ length-take (length p) text in omega (arith, e)

-- a prefix of the prefix
pub take-IsPrefix : {text p : List ℕ} → IsPrefix text p → (k : ℕ) → k ≤ length p → take k p ≡ take k text
take-IsPrefix {text} {p} h k short = ap (take k) h.front ∙ take-take k (length p) text short

pub IsPrefix-trans : {text p q : List ℕ} → IsPrefix text p → IsPrefix p q → IsPrefix text q
IsPrefix-trans {text} {p} {q} h i = record { front = i.front ∙ take-IsPrefix h (length q) (length-IsPrefix i) }

-- texts with the same components have equally many non-slash bytes
solid_len-components : (xs ys : List ℕ) → components xs ≡ components ys → solid_len xs ≡ solid_len ys
solid_len-components xs ys e =
    let p = total_len-components xs in
    let q = total_len-components ys in
    let r = rw e at p in
    omega (arith, q, r)

-- a shorter prefix with the same components leaves out only slashes, so the longer one ends in a slash
ends_in_slash_after : (p : List ℕ) (k : ℕ) → k < length p → components (take k p) ≡ components p
    → get_or p (length p - 1) 0 ≡ slash
ends_in_slash_after p k short same =
    let counts = solid_len-components (take k p) p same in
    let whole = ap solid_len (sym (take-append-drop k p)) ∙ solid_len-append (take k p) (drop k p) in
    let left : 0 < length (drop k p) = omega (arith, length-drop k p) in
    let last = last-not_solid (drop k p) (omega (arith, counts, whole)) left in
    let index : length p - 1 ≡ k + (length (drop k p) - 1) = omega (arith, length-drop k p) in
    ap (λ i. get_or p i 0) index ∙ sym (get_or-drop k p (length (drop k p) - 1) 0) ∙ last

-- a prefix that doesn't end in a slash is the shortest with its components
pub IsShortestPrefix-from : {text p : List ℕ} {cs : List Step} → IsPrefix text p → components p ≡ cs
    → get_or p (length p - 1) 0 ≢ slash → IsShortestPrefix text cs p
IsShortestPrefix-from {text} {p} {cs} h same end = record {
  prefix = h.front;
  same_components = same;
  shortest = λ k e. ⊎_elim
      (λ short. absurd (end (ends_in_slash_after p k short (ap components (take-IsPrefix h k (omega arith)) ∙ e ∙ sym same))))
      (λ long. long)
      (cases_lt k (length p));
}

-- the end of a prefix that is UTF-8 is a character boundary
pub IsCharBoundary-IsPrefix : {text p : List ℕ} → IsPrefix text p → IsUtf8 text → IsUtf8 p
    → IsCharBoundary text (length p)
IsCharBoundary-IsPrefix {text} {p} h whole part =
    IsCharBoundary-from_take text (length p) whole (length-IsPrefix h) (subst IsUtf8 h.front part)

pub IsPrefix-shortest : {text p : List ℕ} {cs : List Step} → IsShortestPrefix text cs p → IsPrefix text p
IsPrefix-shortest h = record { front = h.prefix }

-- the shortest prefix of a prefix is the shortest prefix of the text
pub IsShortestPrefix-trans : {text q p : List ℕ} {cs : List Step} → IsPrefix text q → IsShortestPrefix q cs p
    → IsShortestPrefix text cs p
IsShortestPrefix-trans {text} {q} {p} {cs} h s = record {
  prefix = (IsPrefix-trans h (IsPrefix-shortest s)).front;
  same_components = s.same_components;
  shortest = λ k e. ⊎_elim
      (λ short. s.shortest k (ap components (take-IsPrefix h k (omega arith)) ∙ e))
      (λ long. let fits = length-IsPrefix (IsPrefix-shortest s) in omega arith)
      (cases_lt k (length q));
}

pub IsShortestPrefix-unique : {text p q : List ℕ} {cs : List Step} → IsShortestPrefix text cs p
    → IsShortestPrefix text cs q → p ≡ q
IsShortestPrefix-unique {text} {p} {q} s t =
    let at_most = s.shortest (length q) (ap components (sym t.prefix) ∙ t.same_components) in
    let at_least = t.shortest (length p) (ap components (sym s.prefix) ∙ s.same_components) in
    let same : length p ≡ length q = omega arith in
    s.prefix ∙ ap (λ k. take k text) same ∙ sym t.prefix

-- the empty prefix has no components
pub IsShortestPrefix-nil : (text : List ℕ) → IsShortestPrefix text [] []
IsShortestPrefix-nil text = record { prefix = refl; same_components = components-nil; shortest = λ k e. omega arith }

-- a text that ends in a slash is its front and a slash
pub ends_separated : (text : List ℕ) → get_or text (length text - 1) 0 ≡ slash
    → text ≡ take (length text - 1) text ++ slash ∷ []
ends_separated [] e = absurd (omega (arith, e))
ends_separated (b ∷ bs) e =
    let long : length (b ∷ bs) ≤ length (b ∷ bs) - 1 + 1 = omega arith in
    sym (take_all (length (b ∷ bs) - 1 + 1) (b ∷ bs) long) ∙ take_more (b ∷ bs) (length (b ∷ bs) - 1) 0 (omega arith)
    ∙ ap (λ x. take (length (b ∷ bs) - 1) (b ∷ bs) ++ x ∷ []) e

-- the shortest prefix with its components doesn't end in a slash
pub end-IsShortestPrefix : {text p : List ℕ} {cs : List Step} → IsShortestPrefix text cs p
    → get_or p (length p - 1) 0 ≢ slash
end-IsShortestPrefix {text} {p} {cs} s = λ e.
    let front = take (length p - 1) p in
    let same =
    ap components (sym (take-IsPrefix (IsPrefix-shortest s) (length p - 1) (omega arith)))
    ∙ sym (components-trailing_slash front) ∙ ap components (sym (ends_separated p e)) ∙ s.same_components in
    let shorter = s.shortest (length p - 1) same in
    empty p (omega arith) e
  where
    empty : (q : List ℕ) → length q ≡ 0 → get_or q (length q - 1) 0 ≢ slash
    empty [] none = λ e. absurd (omega (arith, e))
    empty (b ∷ bs) none = absurd (omega arith)

-- r is a suffix of the text
pub record IsSuffix (text r : List ℕ) : Type 0 where
  pub front : List ℕ
  pub joined : text ≡ front ++ r

pub IsSuffix-from : {text r : List ℕ} → r ≡ drop (length text - length r) text → IsSuffix text r
IsSuffix-from {text} {r} e =
    record {
      front = take (length text - length r) text;
      joined = sym (ap (λ x. take (length text - length r) text ++ x) e ∙ take-append-drop (length text - length r) text);
    }

pub IsSuffix-of_drop : (n : ℕ) (text : List ℕ) → IsSuffix text (drop n text)
IsSuffix-of_drop n text = record { front = take n text; joined = sym (take-append-drop n text) }

pub IsSuffix-drop : {text r : List ℕ} → IsSuffix text r → r ≡ drop (length text - length r) text
IsSuffix-drop {text} {r} h = sym (end_rest text r h.front h.joined)

pub IsSuffix-trans : {text q r : List ℕ} → IsSuffix text q → IsSuffix q r → IsSuffix text r
IsSuffix-trans {text} {q} {r} h i =
    record {
      front = h.front ++ i.front;
      joined = h.joined ∙ ap (λ x. h.front ++ x) i.joined ∙ sym (append_assoc h.front i.front r);
    }
