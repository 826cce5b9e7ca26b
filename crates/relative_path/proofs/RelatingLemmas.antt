-- The shortest way from one place to another and from one normal list to another, and the bases from which two normal
-- lists lead apart.
use Rattle.std.proofs.Common.{◌≡◌, ◌≢◌, ◌⊎◌, ◌↔◌, ℕ, zero, suc, ◌+◌, ◌-◌, ◌<◌, ◌≤◌, cond, bytes_eq, List, [], ◌∷◌, ◌++◌, length, take, map, replicate, Option, Some, None, IsNone, MatchOption, true≢false, option_and_then, refl, sym, ap, ◌∙◌, subst, inl, inr, append_assoc, append-nil, arith, length-append, drop}
use Rattle.std.specs.Prelude.{min}
use Rattle.std.specs.List.{common_prefix_len}
use Rattle.std.proofs.lemmas.Bool.{cond-true, cond-false, cases_Bool, cases_lt}
use Rattle.std.proofs.lemmas.List.{length-replicate, take-replicate}
use Rattle.std.proofs.lemmas.Slice.Eq.{bytes_eq-Decides}
use Rattle.relative_path.specs.Steps.{Step, cur, up, name, components, spell}
use Rattle.relative_path.specs.Walk.{walk, IsSame, StaysBelow}
use Rattle.relative_path.specs.Normalizing.{IsNormalForm, climb}
use Rattle.relative_path.specs.NormalForm.{ups_then_names}
use Rattle.relative_path.specs.Relating.{Leads, IsReachable, IsShortest, IsShortestText, LeadsApart}
use Rattle.relative_path.proofs.WalkLemmas.{walk-append, IsSame-below, IsSame-refl, IsSame-sym, IsSame-trans, IsSame-append_left, IsSame-append_right, IsSame-name_up, above_name}
use Rattle.relative_path.proofs.NormalStepsLemmas.{names_of, IsNormal-parts}
use Rattle.relative_path.proofs.NormalFormLemmas.{walk-ups_then_names_level, walk-ups_then_names_none, ups_then_names-ups, walk-ups_then_names}
use Rattle.relative_path.proofs.ListsLemmas.{bytes_eq-same, length-snoc}

-- ---- the shortest way from a place to a place

-- the way from one place to another: up to the names that both begin with, and then down
abbrev pub way : List (List ℕ) → List (List ℕ) → List Step
way [] ns = map name ns
way (m ∷ ms) [] = replicate (suc (length ms)) up
way (m ∷ ms) (n ∷ ns) = cond (bytes_eq m n) (way ms ns) (replicate (suc (length ms)) up ++ map name (n ∷ ns))

way-same : (ns : List (List ℕ)) → way ns ns ≡ []
way-same [] = refl
way-same (n ∷ ns) = cond-true (bytes_eq n n) _ _ (bytes_eq-same n) ∙ way-same ns

-- with one more name on the source, the way has one more `..` at its start, or one name less
way-push : (ms : List (List ℕ)) (n : List ℕ) (ns : List (List ℕ))
    → (way (ms ++ n ∷ []) ns ≡ up ∷ way ms ns) ⊎ (way ms ns ≡ name n ∷ way (ms ++ n ∷ []) ns)
way-push [] n [] = inl refl
way-push [] n (k ∷ ks) = elim (cases_Bool (bytes_eq n k)) [
  | inl e ↦
      let same : k ≡ n = sym ((bytes_eq-Decides n k).0 e) in
      inr (rw (cond-true (bytes_eq n k) _ _ e) (ap (λ x. name x ∷ map name ks) same))
  | inr e ↦ inl (cond-false (bytes_eq n k) _ _ e)
]
way-push (m ∷ ms) n [] = inl (ap (λ k. replicate (suc k) up) (length-snoc ms n))
way-push (m ∷ ms) n (k ∷ ks) = elim (cases_Bool (bytes_eq m k)) [
  | inl e ↦ rw (cond-true (bytes_eq m k) _ _ e, cond-true (bytes_eq m k) _ _ e) (way-push ms n ks)
  | inr e ↦
      let more = ap (λ x. replicate (suc x) up ++ map name (k ∷ ks)) (length-snoc ms n) in
      inl (rw (cond-false (bytes_eq m k) _ _ e, cond-false (bytes_eq m k) _ _ e) more)
]

-- a list that is no shorter than the way, with one more `..`
way_shortest-up : (place : List (List ℕ)) (n : List ℕ) (ns : List (List ℕ)) (s : List Step)
    → (length (way place ns) < length s) ⊎ (s ≡ way place ns)
    → (length (way (place ++ n ∷ []) ns) < length (up ∷ s)) ⊎ (up ∷ s ≡ way (place ++ n ∷ []) ns)
way_shortest-up place n ns s before = elim (way-push place n ns) [
  | inl more ↦ elim before [
    | inl longer ↦ inl (let e = ap length more in omega arith)
    | inr is ↦ inr (ap (λ x. up ∷ x) is ∙ sym more)
  ]
  | inr less ↦ elim before [
    | inl longer ↦ inl (let e = ap length less in omega arith)
    | inr is ↦ inl (let e = ap length less in let e' = ap length is in omega arith)
  ]
]

-- a list that is no shorter than the way, with one more name
way_shortest-name : (place : List (List ℕ)) (n : List ℕ) (ns : List (List ℕ)) (s : List Step)
    → (length (way (place ++ n ∷ []) ns) < length s) ⊎ (s ≡ way (place ++ n ∷ []) ns)
    → (length (way place ns) < length (name n ∷ s)) ⊎ (name n ∷ s ≡ way place ns)
way_shortest-name place n ns s before = elim (way-push place n ns) [
  | inl more ↦ elim before [
    | inl longer ↦ inl (let e = ap length more in omega arith)
    | inr is ↦ inl (let e = ap length more in let e' = ap length is in omega arith)
  ]
  | inr less ↦ elim before [
    | inl longer ↦ inl (let e = ap length less in omega arith)
    | inr is ↦ inr (ap (λ x. name n ∷ x) is ∙ sym less)
  ]
]

-- each list that leads from one place to another is the way, or longer than the way
pub way_shortest : (ms ns : List (List ℕ)) (s : List Step) → walk ms s ≡ Some ns
    → (length (way ms ns) < length s) ⊎ (s ≡ way ms ns)
way_shortest ms ns [] leads =
    let same : ms ≡ ns = cc in
    inr (sym (ap (λ x. way x ns) same ∙ way-same ns))
way_shortest ms ns (cur ∷ s) leads = elim (way_shortest ms ns s leads) [
  | inl longer ↦ inl (omega arith)
  | inr is ↦ inl (let e = ap length is in omega arith)
]
way_shortest [] ns (up ∷ s) leads = absurd (cc)
way_shortest (m ∷ ms) ns (up ∷ s) leads =
    let place = take (length ms) (m ∷ ms) in
    let last = above_name m ms in
    let stepped = way_shortest-up place last.0 ns s (way_shortest place ns s leads) in
    subst (λ x. (length (way x ns) < length (up ∷ s)) ⊎ (up ∷ s ≡ way x ns)) (sym last.1) stepped
way_shortest ms ns (name n ∷ s) leads = way_shortest-name ms n ns s (way_shortest (ms ++ n ∷ []) ns s leads)

-- the way by the number of names that both places begin with
pub way-common : (ms ns : List (List ℕ))
    → way ms ns ≡ ups_then_names (length ms - common_prefix_len bytes_eq ms ns) (drop (common_prefix_len bytes_eq ms ns) ns)
way-common [] ns = refl
way-common (m ∷ ms) [] =
    let whole : suc (length ms) - 0 ≡ suc (length ms) = omega arith in
    sym (append-nil (replicate (suc (length ms)) up)) ∙ ap (λ k. ups_then_names k []) (sym whole)
way-common (m ∷ ms) (n ∷ ns) = elim (cases_Bool (bytes_eq m n)) [
  | inl e ↦
      let common = common_prefix_len bytes_eq ms ns in
      let next : 1 + common ≡ suc common = omega arith in
      let left : length ms - common ≡ suc (length ms) - suc common = omega arith in
      let rest = way-common ms ns ∙ ap (λ k. ups_then_names k (drop common ns)) left in
      rw (cond-true (bytes_eq m n) _ _ e, cond-true (bytes_eq m n) _ _ e, next) rest
  | inr e ↦
      let whole : suc (length ms) ≡ suc (length ms) - 0 = omega arith in
      rw (cond-false (bytes_eq m n) _ _ e, cond-false (bytes_eq m n) _ _ e) (ap (λ k. ups_then_names k (n ∷ ns)) whole)
]

-- names that both places begin with change nothing
way-append : (front ms ns : List (List ℕ)) → way (front ++ ms) (front ++ ns) ≡ way ms ns
way-append [] ms ns = refl
way-append (n ∷ front) ms ns = cond-true (bytes_eq n n) _ _ (bytes_eq-same n) ∙ way-append front ms ns

-- if the places begin with different names, the way goes all the way up, and then down
way-apart : (ms ns : List (List ℕ)) → ((n : List ℕ) (ms' ns' : List (List ℕ)) → ms ≡ n ∷ ms' → ns ≡ n ∷ ns' → ⊥)
    → way ms ns ≡ ups_then_names (length ms) ns
way-apart [] ns apart = refl
way-apart (m ∷ ms) [] apart = sym (append-nil (replicate (suc (length ms)) up))
way-apart (m ∷ ms) (n ∷ ns) apart = elim (cases_Bool (bytes_eq m n)) [
  | inl e ↦ absurd (apart n ms ns (ap (λ x. x ∷ ms) ((bytes_eq-Decides m n).0 e)) refl)
  | inr e ↦ cond-false (bytes_eq m n) _ _ e
]

-- a name that differs from the first of these
abbrev other_name : List (List ℕ) → List ℕ
other_name [] = []
other_name (n ∷ ns) = 0 ∷ n

-- from below such a name the way goes all the way up, and then down
way-other_name : (ms ns : List (List ℕ)) → way (other_name ns ∷ ms) ns ≡ ups_then_names (suc (length ms)) ns
way-other_name ms [] = sym (append-nil (replicate (suc (length ms)) up))
way-other_name ms (n ∷ ns) = elim (cases_Bool (bytes_eq (0 ∷ n) n)) [
  | inl e ↦ absurd (let same = ap length ((bytes_eq-Decides (0 ∷ n) n).0 e) in omega arith)
  | inr e ↦ cond-false (bytes_eq (0 ∷ n) n) _ _ e
]

-- ---- lists that lead

replicate-up_more : (k : ℕ) (ds : List Step) → replicate (suc k) up ++ ds ≡ replicate k up ++ up ∷ ds
replicate-up_more zero ds = refl
replicate-up_more (suc k) ds = ap (λ x. up ∷ x) (replicate-up_more k ds)

-- names and equally many `..` change nothing
IsSame-names_ups : (ns : List (List ℕ)) (ds : List Step) → IsSame (map name ns ++ (replicate (length ns) up ++ ds)) ds
IsSame-names_ups [] ds = IsSame-refl ds
IsSame-names_ups (n ∷ ns) ds =
    let inner = IsSame-append_left (name n ∷ []) _ _ (IsSame-names_ups ns (up ∷ ds)) in
    let shifted = ap (λ x. name n ∷ (map name ns ++ x)) (replicate-up_more (length ns) ds) in
    subst (λ x. IsSame x ds) (sym shifted) (IsSame-trans _ _ _ inner (IsSame-name_up [] ds n))

-- down the names of a place, and then the way from there to another place
IsSame-way : (ms ns : List (List ℕ)) → IsSame (map name ms ++ way ms ns) (map name ns)
IsSame-way [] ns = IsSame-refl (map name ns)
IsSame-way (m ∷ ms) [] =
    subst (λ x. IsSame (map name (m ∷ ms) ++ x) []) (append-nil _) (IsSame-names_ups (m ∷ ms) [])
IsSame-way (m ∷ ms) (n ∷ ns) = elim (cases_Bool (bytes_eq m n)) [
  | inl e ↦
      let same : name m ≡ name n = ap name ((bytes_eq-Decides m n).0 e) in
      let below = IsSame-append_left (name m ∷ []) _ _ (IsSame-way ms ns) in
      let P : Step → Type 0 = λ c. IsSame (name m ∷ (map name ms ++ way ms ns)) (c ∷ map name ns) in
      rw (cond-true (bytes_eq m n) _ _ e) (subst P same below)
  | inr e ↦ rw (cond-false (bytes_eq m n) _ _ e) (IsSame-names_ups (m ∷ ms) (map name (n ∷ ns)))
]

-- if both climb equally high: the way from the names of the source to those of the target
Leads-level : (ups : ℕ) (ms ns : List (List ℕ)) → Leads (ups_then_names ups ms) (way ms ns) (ups_then_names ups ns)
Leads-level ups ms ns =
    let start = replicate ups up in
    rw (append_assoc start (map name ms) (way ms ns)) (IsSame-append_left start _ _ (IsSame-way ms ns))

-- if the target climbs higher: up the names of the source, up as far as the target climbs higher, and down the names of
-- the target
Leads-higher : (ups more : ℕ) (ms ns : List (List ℕ))
    → Leads (ups_then_names ups ms) (ups_then_names (length ms + more) ns) (ups_then_names (ups + more) ns)
Leads-higher ups more ms ns =
    let start = replicate ups up in
    let cut = ap (λ x. start ++ (map name ms ++ x)) (sym (ups_then_names-ups (length ms) more ns)) in
    let source = append_assoc start (map name ms) (ups_then_names (length ms + more) ns) ∙ cut in
    let onward = IsSame-append_left start _ _ (IsSame-names_ups ms (ups_then_names more ns)) in
    rw (source, ← ups_then_names-ups ups more ns) onward

-- ---- the shortest of these lists

-- from the base, cs leads to ms and ds to ns
record LeadFrom (base ms ns : List (List ℕ)) (cs ds : List Step) : Type 0 where
  source : walk base cs ≡ Some ms
  target : walk base ds ≡ Some ns

walk-LeadFrom : (base ms ns : List (List ℕ)) (cs s ds : List Step) → LeadFrom base ms ns cs ds → Leads cs s ds
    → walk ms s ≡ Some ns
walk-LeadFrom base ms ns cs s ds at leads =
    let first = ap (option_and_then (λ place. walk place s)) (sym at.source) in
    first ∙ sym (walk-append base cs s) ∙ leads.everywhere base ∙ at.target

-- a list that leads is the shortest if it is the way from some base
IsShortest-from : (base ms ns : List (List ℕ)) (cs r ds : List Step) → LeadFrom base ms ns cs ds → way ms ns ≡ r
    → Leads cs r ds → IsShortest cs r ds
IsShortest-from base ms ns cs r ds at is leads = record {
  leads = leads;
  shortest = λ s other.
      let longer = way_shortest ms ns s (walk-LeadFrom base ms ns cs s ds at other) in
      subst (λ x. (length x < length s) ⊎ (s ≡ x)) is longer;
}

pub IsShortest-level : (ups : ℕ) (ms ns : List (List ℕ)) → IsShortest (ups_then_names ups ms) (way ms ns) (ups_then_names ups ns)
IsShortest-level ups ms ns =
    let base : List (List ℕ) = replicate ups [] in
    let len = length-replicate {A = List ℕ} ups [] in
    let at : LeadFrom base ms ns (ups_then_names ups ms) (ups_then_names ups ns) = record {
      source = walk-ups_then_names_level base ups ms len;
      target = walk-ups_then_names_level base ups ns len;
    } in
    IsShortest-from _ _ _ _ _ _ at refl (Leads-level ups ms ns)

pub IsShortest-higher : (ups more : ℕ) (ms ns : List (List ℕ)) → 0 < more
    → IsShortest (ups_then_names ups ms) (ups_then_names (length ms + more) ns) (ups_then_names (ups + more) ns)
IsShortest-higher ups zero ms ns higher = absurd (omega arith)
IsShortest-higher ups (suc k) ms ns higher =
    let other = other_name ns in
    let base : List (List ℕ) = replicate (ups + suc k) other in
    let len = length-replicate {A = List ℕ} (ups + suc k) other in
    let place : List (List ℕ) = replicate (suc k) other ++ ms in
    let above : length base - ups ≡ suc k = omega arith in
    let kept = ap (λ j. Some (take j base ++ ms)) above in
    let names = ap (λ x. Some (x ++ ms)) (take-replicate (suc k) (ups + suc k) other (omega arith)) in
    let at : LeadFrom base place ns (ups_then_names ups ms) (ups_then_names (ups + suc k) ns) = record {
      source = walk-ups_then_names base ups ms (omega arith) ∙ kept ∙ names;
      target = walk-ups_then_names_level base (ups + suc k) ns len;
    } in
    let joined = length-append (replicate (suc k) other) ms in
    let counted : length place ≡ length ms + suc k = omega (arith, joined, length-replicate (suc k) other) in
    let is = way-other_name (replicate k other ++ ms) ns ∙ ap (λ j. ups_then_names j ns) counted in
    IsShortest-from _ _ _ _ _ _ at is (Leads-higher ups (suc k) ms ns)

-- ---- lists between which no list leads

pub unreachable_higher : (ups more : ℕ) (ms ns : List (List ℕ)) → more < ups
    → IsReachable (ups_then_names ups ms) (ups_then_names more ns) → ⊥
unreachable_higher ups more ms ns higher (r, leads) =
    let base : List (List ℕ) = replicate more [] in
    let len = length-replicate {A = List ℕ} more [] in
    let none = walk-ups_then_names_none base ups ms (omega arith) in
    let some = walk-ups_then_names_level base more ns len in
    let joined = walk-append base (ups_then_names ups ms) r in
    let same = leads.everywhere base in
    let lost = joined ∙ ap (option_and_then (λ place. walk place r)) none in
    absurd (cc)

-- ---- where two normal lists lead apart

pub LeadsApart-higher : (ups more : ℕ) (ms ns : List (List ℕ)) → ups < more
    → LeadsApart (ups_then_names ups ms) (ups_then_names more ns) ups
LeadsApart-higher ups more ms ns higher = record {
  apart = λ base level same.
      let some = walk-ups_then_names_level base ups ms level in
      let none = walk-ups_then_names_none base more ns (omega arith) in
      absurd (cc);
  together = λ base short.
      walk-ups_then_names_none base ups ms short ∙ sym (walk-ups_then_names_none base more ns (omega arith));
}

pub LeadsApart-names : (ups : ℕ) (ms ns : List (List ℕ)) → ms ≢ ns
    → LeadsApart (ups_then_names ups ms) (ups_then_names ups ns) ups
LeadsApart-names ups ms ns other = record {
  apart = λ base level same.
      let from_ms = walk-ups_then_names_level base ups ms level in
      let from_ns = walk-ups_then_names_level base ups ns level in
      other (cc);
  together = λ base short. walk-ups_then_names_none base ups ms short ∙ sym (walk-ups_then_names_none base ups ns short);
}

pub LeadsApart-sym : (cs ds : List Step) (n : ℕ) → LeadsApart cs ds n → LeadsApart ds cs n
LeadsApart-sym cs ds n h = record {
  apart = λ base level same. h.apart base level (sym same);
  together = λ base short. sym (h.together base short);
}

-- lists lead apart at one number only
pub LeadsApart-unique : (cs ds : List Step) (m n : ℕ) → LeadsApart cs ds m → LeadsApart cs ds n → m ≡ n
LeadsApart-unique cs ds m n at_m at_n =
    let not_less = not_before m n at_m at_n in
    let not_more = not_before n m at_n at_m in
    omega arith
  where
    not_before : (k l : ℕ) → LeadsApart cs ds k → LeadsApart cs ds l → k < l → ⊥
    not_before k l at_k at_l less =
        let base : List (List ℕ) = replicate k [] in
        let len = length-replicate {A = List ℕ} k [] in
        at_k.apart base len (at_l.together base (omega arith))

pub LeadsApart-not_same : (cs ds : List Step) (n : ℕ) → LeadsApart cs ds n → IsSame cs ds → ⊥
LeadsApart-not_same cs ds n h same =
    let base : List (List ℕ) = replicate n [] in
    h.apart base (length-replicate {A = List ℕ} n []) (same.everywhere base)

-- ---- lists that lead to the same places stand for one another

pub Leads-same : (f g r t u : List Step) → IsSame f g → IsSame t u → Leads f r t → Leads g r u
Leads-same f g r t u from to leads =
    IsSame-trans _ _ _ (IsSame-append_right g f r (IsSame-sym f g from)) (IsSame-trans _ _ _ leads to)

pub IsReachable-same : (f g t u : List Step) → IsSame f g → IsSame t u → IsReachable f t → IsReachable g u
IsReachable-same f g t u from to (r, leads) = (r, Leads-same f g r t u from to leads)

pub IsShortest-same : (f g r t u : List Step) → IsSame f g → IsSame t u → IsShortest f r t → IsShortest g r u
IsShortest-same f g r t u from to h = record {
  leads = Leads-same f g r t u from to h.leads;
  shortest = λ s other. h.shortest s (Leads-same g f s u t (IsSame-sym f g from) (IsSame-sym t u to) other);
}

pub LeadsApart-same : (cs cs' ds ds' : List Step) (n : ℕ) → IsSame cs cs' → IsSame ds ds' → LeadsApart cs ds n
    → LeadsApart cs' ds' n
LeadsApart-same cs cs' ds ds' n first second h = record {
  apart = λ base level same. h.apart base level (first.everywhere base ∙ same ∙ sym (second.everywhere base));
  together = λ base short. sym (first.everywhere base) ∙ h.together base short ∙ second.everywhere base;
}

-- ---- a list leads exactly if the normal form of the source climbs no higher

IsReachable-ups_then_names : (ups more : ℕ) (ms ns : List (List ℕ))
    → IsReachable (ups_then_names ups ms) (ups_then_names more ns) ↔ (ups ≤ more)
IsReachable-ups_then_names ups more ms ns = (
  λ reachable. elim (cases_lt more ups) [
    | inl higher ↦ absurd (unreachable_higher ups more ms ns higher reachable)
    | inr lower ↦ lower
  ],
  λ lower.
      let climbs : ups + (more - ups) ≡ more = omega arith in
      let onward = ups_then_names (length ms + (more - ups)) ns in
      let leads = Leads-higher ups (more - ups) ms ns in
      (onward, subst (λ k. Leads (ups_then_names ups ms) onward (ups_then_names k ns)) climbs leads),
)

pub IsShortestText-same : (f g t u : List Step) (text : List ℕ) → IsSame g f → IsSame u t → IsShortestText f t text
    → IsShortestText g u text
IsShortestText-same f g t u text from to h = record {
  spelled = h.spelled;
  shortest = IsShortest-same f g (components text) t u (IsSame-sym g f from) (IsSame-sym u t to) h.shortest;
}

-- from a list that stays below bs, some list leads to each list that goes on from bs
pub IsReachable-from_below : (bs f t : List Step) → StaysBelow bs f → IsReachable f (bs ++ t)
IsReachable-from_below bs f t inside =
    let place = inside.place in
    let back = replicate (length place) up ++ t in
    let same = IsSame-append_right f (bs ++ map name place) back (IsSame-below bs f place inside.below) in
    let there = subst (λ cs. IsSame cs (bs ++ t)) (sym (append_assoc bs (map name place) back))
    (IsSame-append_left bs (map name place ++ back) t (IsSame-names_ups place t)) in
    (back, IsSame-trans (f ++ back) ((bs ++ map name place) ++ back) (bs ++ t) same there)

-- between two lists that stay below the same list, some list leads
pub IsReachable-below : (bs f t : List Step) → StaysBelow bs f → StaysBelow bs t → IsReachable f t
IsReachable-below bs f t from to =
    let names = map name to.place in
    let (r, leads) = IsReachable-from_below bs f names from in
    let back = IsSame-sym t (bs ++ names) (IsSame-below bs t to.place to.below) in
    (r, IsSame-trans (f ++ r) (bs ++ names) t leads back)

-- some list leads from f to t exactly if the normal form of f climbs no higher than that of t
pub IsReachable-climb : (f t fs ts : List Step) → IsNormalForm f fs → IsNormalForm t ts
    → IsReachable f t ↔ (climb fs ≤ climb ts)
IsReachable-climb f t fs ts from to =
    let source = IsNormal-parts fs from.normal in
    let target = IsNormal-parts ts to.normal in
    let climbs = IsReachable-ups_then_names (climb fs) (climb ts) (names_of fs) (names_of ts) in
    let there = λ (reachable : IsReachable f t). IsReachable-same f fs t ts from.same to.same reachable in
    let back = IsReachable-same fs f ts t (IsSame-sym f fs from.same) (IsSame-sym t ts to.same) in (
      λ reachable. climbs.0 (rw (← source, ← target) (there reachable)),
      λ lower. back (rw (source, target) (climbs.1 lower)),
    )

-- ---- the way as the code finds it

-- if both climb equally high
pub IsShortest-common : (ups : ℕ) (ms ns : List (List ℕ)) → let common = common_prefix_len bytes_eq ms ns in
    IsShortest (ups_then_names ups ms) (ups_then_names (length ms - common) (drop common ns)) (ups_then_names ups ns)
IsShortest-common ups ms ns =
    subst (λ r. IsShortest (ups_then_names ups ms) r (ups_then_names ups ns)) (way-common ms ns) (IsShortest-level ups ms ns)

-- from names to names that begin with the same front, and then with different names
pub IsShortest-apart : (front ms ns : List (List ℕ))
    → ((n : List ℕ) (ms' ns' : List (List ℕ)) → ms ≡ n ∷ ms' → ns ≡ n ∷ ns' → ⊥)
    → IsShortest (map name (front ++ ms)) (replicate (length ms) up ++ map name ns) (map name (front ++ ns))
IsShortest-apart front ms ns apart =
    subst (λ r. IsShortest (map name (front ++ ms)) r (map name (front ++ ns)))
    (way-append front ms ns ∙ way-apart ms ns apart) (IsShortest-level 0 (front ++ ms) (front ++ ns))

-- two normal lists that differ lead apart at the lower of their climbs
pub LeadsApart-lower : (ups more : ℕ) (ms ns : List (List ℕ)) → (ups ≡ more → ms ≢ ns)
    → LeadsApart (ups_then_names ups ms) (ups_then_names more ns) (min ups more)
LeadsApart-lower ups more ms ns other = elim (cases_lt ups more) [
  | inl less ↦
      let lower : ups ≡ min ups more = omega arith in
      subst (LeadsApart _ _) lower (LeadsApart-higher ups more ms ns less)
  | inr no_less ↦ elim (cases_lt more ups) [
    | inl more_less ↦
        let lower : more ≡ min ups more = omega arith in
        subst (LeadsApart _ _) lower (LeadsApart-sym _ _ more (LeadsApart-higher more ups ns ms more_less))
    | inr no_more ↦
        let same : ups ≡ more = omega arith in
        let lower : ups ≡ min ups more = omega arith in
        let names = subst (LeadsApart _ _) lower (LeadsApart-names ups ms ns (other same)) in
        subst (λ k. LeadsApart (ups_then_names ups ms) (ups_then_names k ns) (min ups more)) same names
  ]
]

-- ---- the text of the way

pub IsShortestText-spelled : (f t r : List Step) (text : List ℕ) → components text ≡ r → text ≡ spell r
    → IsShortest f r t → IsShortestText f t text
IsShortestText-spelled f t r text same spelled shortest = record {
  spelled = spelled ∙ ap spell (sym same);
  shortest = rw same shortest;
}

-- ---- the bases from which two lists lead apart, by lists that lead to the same places

pub MatchApart-same : (cs cs' ds ds' : List Step) (r : Option ℕ) → IsSame cs cs' → IsSame ds ds'
    → MatchOption r (IsSame cs' ds') (LeadsApart cs' ds') → MatchOption r (IsSame cs ds) (LeadsApart cs ds)
MatchApart-same cs cs' ds ds' None first second same =
    IsSame-trans _ _ _ first (IsSame-trans _ _ _ same (IsSame-sym ds ds' second))
MatchApart-same cs cs' ds ds' (Some n) first second apart =
    LeadsApart-same cs' cs ds' ds n (IsSame-sym cs cs' first) (IsSame-sym ds ds' second) apart

pub MatchApart-none : (cs ds : List Step) (r : Option ℕ) → MatchOption r (IsSame cs ds) (LeadsApart cs ds)
    → IsNone r ↔ IsSame cs ds
MatchApart-none cs ds None same = (λ _. same, λ _. refl)
MatchApart-none cs ds (Some n) apart =
    (λ none. absurd (true≢false none), λ same. absurd (LeadsApart-not_same cs ds n apart same))

pub MatchApart-some : (cs ds : List Step) (r : Option ℕ) → MatchOption r (IsSame cs ds) (LeadsApart cs ds)
    → (n : ℕ) → (r ≡ Some n) ↔ LeadsApart cs ds n
MatchApart-some cs ds None same n = (λ some. absurd (cc), λ apart. absurd (LeadsApart-not_same cs ds n apart same))
MatchApart-some cs ds (Some m) apart n =
    let is = λ (some : Some m ≡ Some n). let e : m ≡ n = cc in subst (LeadsApart cs ds) e apart in
    (is, λ at_n. ap Some (LeadsApart-unique cs ds m n apart at_n))

-- a list to the middle, followed by a list from the middle to the end, leads to the end
pub Leads-through : (f r middle s t : List Step) → Leads f r middle → Leads middle s t → Leads f (r ++ s) t
Leads-through f r middle s t first second =
    rw (← append_assoc f r s)
    (IsSame-trans ((f ++ r) ++ s) (middle ++ s) t (IsSame-append_right (f ++ r) middle s first) second)
