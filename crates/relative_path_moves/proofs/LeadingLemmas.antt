-- A reference and its target, walked back from their ends: from where the reference leads to the target.
use Rattle.std.proofs.Common.{◌≡◌, ◌≢◌, ◌↔◌, ℕ, zero, suc, ◌+◌, ◌⊎◌, Bool, true, false, not, IsTrue, List, [], ◌∷◌, ◌++◌, length, map, replicate, Option, Some, None, is_some, Bor, refl, sym, ap, ◌∙◌, subst, inl, inr, arith, drop, take-append-drop, append_assoc, append-nil, true≢false}
use Rattle.std.specs.Option.{option_eq, option_copied}
use Rattle.std.specs.Ordering.{on}
use Rattle.std.proofs.lemmas.Bool.{not-true, not-false}
use Rattle.std.proofs.lemmas.List.{same_from_push, append_cancel_left, map-append, replicate-append-replicate}
use Rattle.std.proofs.lemmas.Option.{none-some}
use Rattle.relative_path.specs.declared.component.Component.{Component}
use Rattle.relative_path.specs.Steps.{Step, cur, up, name, components}
use Rattle.relative_path.specs.Walk.{IsSame}
use Rattle.relative_path.specs.Normalizing.{IsNormal, IsNormalForm, climb}
use Rattle.relative_path.specs.Naming.{last_name}
use Rattle.relative_path.specs.Editing.{kept_len, kept}
use Rattle.relative_path.specs.Components.{step_of, TakesLast}
use Rattle.relative_path.specs.Comparing.{step_eq}
use Rattle.relative_path.specs.ComparingLaws.{step_eq-Decides}
use Rattle.relative_path.specs.Relating.{Leads}
use Rattle.relative_path.proofs.ForCallers.{IsSame-refl, IsSame-sym, IsSame-trans, IsSame-append_left, IsSame-append_right, IsSame-name_up, IsNormal-append_left, IsNormal-push_name, IsNormalForm-some, IsSame-last_name, last_name-name, last_name-split}
use Rattle.relative_path_places.proofs.ForCallers.{AreNames-names, IsNormal-end, normal_unique}

-- ---- lists that lead to the same

-- a name at the end of both lists can go
IsSame-name : (cs ds : List Step) (n : List ℕ) → IsSame (cs ++ name n ∷ []) (ds ++ name n ∷ []) → IsSame cs ds
IsSame-name cs ds n same = IsSame-trans (IsSame-sym (IsSame-name_up cs n))
    (IsSame-trans (IsSame-append_right (up ∷ []) same) (IsSame-name_up ds n))

-- a name and then a `..` change nothing within a list
IsSame-name_up_within : (cs ds : List Step) (n : List ℕ) → IsSame ((cs ++ name n ∷ []) ++ up ∷ ds) (cs ++ ds)
IsSame-name_up_within cs ds n =
    subst (λ list. IsSame list (cs ++ ds)) (append_assoc (cs ++ name n ∷ []) (up ∷ []) ds)
    (IsSame-append_right ds (IsSame-name_up cs n))

-- a normal list that leads where a list with a name at its end leads has the same name at its end
pub last_name_same : (cs ts : List Step) (n : List ℕ) → IsNormal ts → IsSame (cs ++ name n ∷ []) ts
    → (ds : List Step) × (ts ≡ ds ++ name n ∷ []) × IsSame cs ds
last_name_same cs ts n normal same =
    let (ds, form) = IsNormalForm-some cs in (
      ds,
      normal_unique ts (ds ++ name n ∷ []) normal (IsNormal-push_name ds n form.normal)
          (IsSame-trans (IsSame-sym same) (IsSame-append_right (name n ∷ []) form.same)),
      form.same,
    )

-- ---- from where lists lead to targets

-- from everywhere, cs leads to ts exactly if ds leads to us
abbrev pub LeadAlike : List Step → List Step → List Step → List Step → Type 0
LeadAlike cs ts ds us = (from : List Step) → Leads from cs ts ↔ Leads from ds us

LeadAlike-trans : (cs ts ds us es vs : List Step) → LeadAlike cs ts ds us → LeadAlike ds us es vs → LeadAlike cs ts es vs
LeadAlike-trans cs ts ds us es vs first second = λ from. (
  λ leads. (second from).0 ((first from).0 leads),
  λ leads. (first from).1 ((second from).1 leads),
)

LeadAlike-same : (cs ds ts : List Step) → IsSame cs ds → LeadAlike cs ts ds ts
LeadAlike-same cs ds ts same = λ from. (
  λ leads. IsSame-trans (IsSame-append_left from (IsSame-sym same)) leads,
  λ leads. IsSame-trans (IsSame-append_left from same) leads,
)

-- a name at the end of the list and of the target can go
LeadAlike-name : (cs ts : List Step) (n : List ℕ) → LeadAlike (cs ++ name n ∷ []) (ts ++ name n ∷ []) cs ts
LeadAlike-name cs ts n = λ from. (
  λ leads.
      IsSame-name (from ++ cs) ts n
      (subst (λ list. IsSame list (ts ++ name n ∷ [])) (sym (append_assoc from cs (name n ∷ []))) leads),
  λ leads.
      subst (λ list. IsSame list (ts ++ name n ∷ [])) (append_assoc from cs (name n ∷ []))
      (IsSame-append_right (name n ∷ []) leads),
)

-- ---- the walk back over a reference

-- what is left of a reference and then that many `..` lead to what is left of the target from where the reference leads to
-- the target
pub record IsBack (reference target left : List Step) (ups : ℕ) (rest : List Step) : Type 0 where
  pub normal : IsNormal rest
  pub alike : LeadAlike reference target (left ++ replicate ups up) rest

IsBack-same : (reference target left front : List Step) (ups now : ℕ) (rest : List Step)
    → IsBack reference target left ups rest → IsSame (left ++ replicate ups up) (front ++ replicate now up)
    → IsBack reference target front now rest
IsBack-same reference target left front ups now rest back same = record {
  normal = back.normal;
  alike = LeadAlike-trans reference target (left ++ replicate ups up) rest (front ++ replicate now up) rest back.alike
      (LeadAlike-same (left ++ replicate ups up) (front ++ replicate now up) rest same);
}

-- a `.` changes nothing
pub IsBack-cur : (reference target left front : List Step) (ups : ℕ) (rest : List Step)
    → IsBack reference target left ups rest → left ≡ front ++ cur ∷ [] → IsBack reference target front ups rest
IsBack-cur reference target left front ups rest back last =
    IsBack-same reference target left front ups ups rest back
    (rw (last, append_assoc front (cur ∷ []) (replicate ups up))
    (IsSame-append_left front (record { everywhere = λ base. refl })))

-- a `..` is one more
pub IsBack-up : (reference target left front : List Step) (ups now : ℕ) (rest : List Step)
    → IsBack reference target left ups rest → left ≡ front ++ up ∷ [] → now ≡ ups + 1
    → IsBack reference target front now rest
IsBack-up reference target left front ups now rest back last more =
    IsBack-same reference target left front ups now rest back
    (let one : now ≡ suc ups = omega (arith, more) in
    rw (last, append_assoc front (up ∷ []) (replicate ups up), one) (IsSame-refl (front ++ up ∷ replicate ups up)))

-- a name takes one off
pub IsBack-name_up : (reference target left front : List Step) (n : List ℕ) (ups now : ℕ) (rest : List Step)
    → IsBack reference target left ups rest → left ≡ front ++ name n ∷ [] → ups ≡ now + 1
    → IsBack reference target front now rest
IsBack-name_up reference target left front n ups now rest back last less =
    IsBack-same reference target left front ups now rest back
    (let one : ups ≡ suc now = omega (arith, less) in
    rw (last, one) (IsSame-name_up_within front (replicate now up) n))

-- the same name at the end of the target goes with it
pub IsBack-name : (reference target left front : List Step) (n : List ℕ) (ups : ℕ) (rest less : List Step)
    → IsBack reference target left ups rest → left ≡ front ++ name n ∷ [] → ups ≡ 0 → rest ≡ less ++ name n ∷ []
    → IsBack reference target front ups less
IsBack-name reference target left front n ups rest less back last none target_last = rw none (record {
  normal = IsNormal-append_left less (name n ∷ []) (subst IsNormal target_last back.normal);
  alike = LeadAlike-trans reference target (front ++ name n ∷ []) (less ++ name n ∷ []) (front ++ []) less
      (rw (last, none, append-nil (front ++ name n ∷ []), target_last) at back.alike)
      (rw (append-nil front) (LeadAlike-name front less n));
})

-- with no such name at the end of the target, the reference leads to the target from nowhere
pub IsBack-other : (reference target left front : List Step) (n : List ℕ) (ups : ℕ) (rest : List Step)
    → IsBack reference target left ups rest → left ≡ front ++ name n ∷ [] → ups ≡ 0
    → ((less : List Step) → rest ≢ less ++ name n ∷ []) → (from : List Step) → ¬ Leads from reference target
IsBack-other reference target left front n ups rest back last none other from leads =
    let there = rw (last, none, append-nil (front ++ name n ∷ [])) at ((back.alike from).0 leads) in
    let (less, is, same) =
    last_name_same (from ++ front) rest n back.normal
    (subst (λ list. IsSame list rest) (sym (append_assoc from front (name n ∷ []))) there) in
    other less is

-- ---- the last component of the target, compared with that of the reference

-- the component that was taken isn't c, or none was taken
abbrev pub is_other : Option Component → Component → Bool
is_other taken c = not (option_eq (on step_of step_eq) taken (Some c))

-- the last component is the same
pub last-same : (taken : Option Component) (c : Component) (text front : List ℕ) → TakesLast text taken front
    → is_other taken c ≡ false → components text ≡ components front ++ step_of c ∷ []
last-same None c text front takes same = absurd (true≢false same)
last-same (Some d) c text front takes same =
    takes.0
    ∙ ap (λ step. components front ++ step ∷ []) ((step_eq-Decides (step_of d) (step_of c)).0 (not-false _ same))

-- the last component is another, or there is none
pub last-other : (taken : Option Component) (c : Component) (text front : List ℕ) → TakesLast text taken front
    → is_other taken c ≡ true → (less : List Step) → components text ≢ less ++ step_of c ∷ []
last-other None c text front takes other less is = none less (step_of c) (sym takes.0 ∙ is) where
  none : (ds : List Step) (d : Step) → [] ≡ ds ++ d ∷ [] → ⊥
  none [] d e = absurd (omega (arith, ap length e))
  none (x ∷ ds) d e = absurd (omega (arith, ap length e))
last-other (Some d) c text front takes other less is =
    let same = (same_from_push (components front) less (step_of d) (step_of c) (sym takes.0 ∙ is)).1 in
    absurd (true≢false (sym ((step_eq-Decides (step_of d) (step_of c)).1 same) ∙ not-true _ other))

-- ---- the walk up from a directory

-- from the top of the walk the `..` that are left lead where they lead from the directory
pub record IsUp (directory above : List Step) (all ups : ℕ) : Type 0 where
  pub normal : IsNormal above
  pub same : IsSame (directory ++ replicate all up) (above ++ replicate ups up)

-- a `..` takes the last name off
pub IsUp-next : (directory above next : List Step) (all ups now : ℕ) (n : List ℕ) → IsUp directory above all ups
    → last_name above ≡ Some n → next ≡ kept above → ups ≡ now + 1 → IsUp directory next all now
IsUp-next directory above next all ups now n is named parent less = rw parent (record {
  normal = IsNormal-append_left (kept above) (drop (kept_len above) above)
      (rw (take-append-drop (kept_len above) above) is.normal);
  same =
      let one : ups ≡ suc now = omega (arith, less) in
      IsSame-trans (rw one at is.same)
      (IsSame-trans (IsSame-append_right (up ∷ replicate now up) (IsSame-last_name above n named))
      (IsSame-name_up_within (kept above) (replicate now up) n));
})

-- the parts of a normal list: its `..` and its names
parts : (cs : List Step) → IsNormal cs → (ns : List (List ℕ)) × (cs ≡ replicate (climb cs) up ++ map name ns)
parts [] normal = ([], refl)
parts (cur ∷ cs) normal = absurd normal
parts (up ∷ cs) normal = let (ns, is) = parts cs normal in (ns, ap (λ ds. up ∷ ds) is)
parts (name n ∷ cs) normal = let (ns, is) = AreNames-names cs normal in (n ∷ ns, ap (λ ds. name n ∷ ds) is)

-- a list of names is empty or ends in a name
pub last_name_of : (ns : List (List ℕ)) → (ns ≡ []) ⊎ ((ms : List (List ℕ)) × (n : List ℕ) × (ns ≡ ms ++ n ∷ []))
last_name_of [] = inl refl
last_name_of (n ∷ ns) = inr (elim (last_name_of ns) [
  | inl none ↦ ([], n, ap (λ ms. n ∷ ms) none)
  | inr (ms, m, is) ↦ (n ∷ ms, m, ap (λ ls. n ∷ ls) is)
])

-- a normal list without a file name is its `..`
ups_of : (cs : List Step) → IsNormal cs → last_name cs ≡ None → cs ≡ replicate (climb cs) up
ups_of cs normal none =
    let (ns, is) = parts cs normal in
    elim (last_name_of ns) [
      | inl empty ↦ is ∙ ap (λ ms. replicate (climb cs) up ++ map name ms) empty ∙ append-nil (replicate (climb cs) up)
      | inr (ms, n, joined) ↦
          let whole : cs ≡ (replicate (climb cs) up ++ map name ms) ++ name n ∷ [] =
          is ∙ ap (λ ls. replicate (climb cs) up ++ ls) (ap (map name) joined ∙ map-append name ms (n ∷ []))
          ∙ sym (append_assoc (replicate (climb cs) up) (map name ms) (name n ∷ [])) in
          absurd (none-some n
          (sym none ∙ ap last_name whole ∙ last_name-name (replicate (climb cs) up ++ map name ms) n))
    ]

climb-ups : (n : ℕ) → climb (replicate n up) ≡ n
climb-ups zero = refl
climb-ups (suc n) = ap suc (climb-ups n)

IsNormal-ups : (n : ℕ) → IsNormal (replicate n up)
IsNormal-ups zero = tt
IsNormal-ups (suc n) = IsNormal-ups n

-- no name is among `..`
ups-no_name : (k : ℕ) (cs ds : List Step) (n : List ℕ) → replicate k up ≡ cs ++ name n ∷ ds → ⊥
ups-no_name zero [] ds n e = absurd (omega (arith, ap length e))
ups-no_name zero (c ∷ cs) ds n e = absurd (omega (arith, ap length e))
ups-no_name (suc k) [] ds n e = absurd (cc e)
ups-no_name (suc k) (c ∷ cs) ds n e = ups-no_name k cs ds n (ap rest e) where
  rest : List Step → List Step
  rest [] = []
  rest (x ∷ xs) = xs

last_name-ups : (k : ℕ) → last_name (replicate k up) ≡ None
last_name-ups k = tell (last_name (replicate k up)) refl where
  tell : (found : Option (List ℕ)) → last_name (replicate k up) ≡ found → found ≡ None
  tell None is = refl
  tell (Some n) is =
      let (count, split) = last_name-split (replicate k up) n is in
      absurd (ups-no_name k (kept (replicate k up)) (replicate count cur) n split)

-- at the top of the walk nothing can go any more
IsNormal-top : (above : List Step) (ups : ℕ) → IsNormal above → (ups ≡ 0) ⊎ (last_name above ≡ None)
    → IsNormal (above ++ replicate ups up)
IsNormal-top above ups normal (inl none) = rw (none, append-nil above) normal
IsNormal-top above ups normal (inr none) =
    let all : above ++ replicate ups up ≡ replicate (climb above + ups) up =
    ap (λ cs. cs ++ replicate ups up) (ups_of above normal none) ∙ replicate-append-replicate (climb above) ups up in
    rw all (IsNormal-ups (climb above + ups))

-- so the `..` lead from the directory to a target exactly if the two lists are equal
pub IsUp-top : (directory above target : List Step) (all ups : ℕ) → IsUp directory above all ups
    → (ups ≡ 0) ⊎ (last_name above ≡ None) → IsNormal target
    → Leads directory (replicate all up) target ↔ (target ≡ above ++ replicate ups up)
IsUp-top directory above target all ups is top normal = (
  λ leads.
      normal_unique target (above ++ replicate ups up) normal (IsNormal-top above ups is.normal top)
      (IsSame-trans (IsSame-sym leads) is.same),
  λ e. IsSame-trans is.same (rw e (IsSame-refl (above ++ replicate ups up))),
)

-- a normal list has a front and then that many `..` exactly if the rest climbs so far and has no file name
pub then_ups : (target front rest : List Step) (ups rest_climb : ℕ) → IsNormal target → target ≡ front ++ rest
    → ((steps : List Step) → IsNormalForm rest steps → rest_climb ≡ climb steps)
    → (target ≡ front ++ replicate ups up) ↔ ((rest_climb ≡ ups) × (last_name rest ≡ None))
then_ups target front rest ups rest_climb normal split climbs =
    let normal_rest = IsNormal-end front rest (subst IsNormal split normal) in
    let count = climbs rest (record { normal = normal_rest; same = IsSame-refl rest }) in (
      λ is.
          let ups_are = append_cancel_left front rest (replicate ups up) (sym split ∙ is) in
          (count ∙ ap climb ups_are ∙ climb-ups ups, ap last_name ups_are ∙ last_name-ups ups),
      λ both.
          split
          ∙ ap (λ ds. front ++ ds)
          (ups_of rest normal_rest both.1 ∙ ap (λ k. replicate k up) (sym count ∙ both.0)),
    )

-- ---- what `file_name` returns

-- `file_name` returns `None` exactly if the list has no file name
pub lacks_name : (found : Option (Bor (List ℕ))) (lacks : Bool) (named : Option (List ℕ)) → option_copied found ≡ named
    → is_some found ≡ not lacks → IsTrue lacks ↔ (named ≡ None)
lacks_name None true named e is = (λ _. sym e, λ _. refl)
lacks_name None false named e is = absurd (true≢false (sym is))
lacks_name (Some n) true named e is = absurd (true≢false is)
lacks_name (Some n) false named e is = (
  λ lacks. absurd (true≢false (sym lacks)),
  λ none. absurd (none-some n.now (sym none ∙ sym e)),
)

-- an option that isn't `None` has a value
pub some_of : (named : Option (List ℕ)) → named ≢ None → (n : List ℕ) × (named ≡ Some n)
some_of None other = absurd (other refl)
some_of (Some n) other = (n, refl)
