-- The names that a set of old paths has, and what it finds by them.
use Rattle.std.proofs.Common.{◌≡◌, ◌⊎◌, ℕ, ◌<◌, Bool, true, false, List, [], ◌∷◌, ◌++◌, map, Option, Some, None, IsSome, unwrap_or, cond, inl, inr, refl, sym, ap, ◌∙◌, subst, true≢false, arith, append_assoc, codes, get_or, length, max, not, ◌||◌, take, ◌+◌, ◌*◌, ◌%◌, ◌^◌, ◌≤◌}
use Rattle.std.specs.BTreeMap.{get_by_text}
use Rattle.std.specs.Prelude.{IfNone, IfSome, MatchOption, ⊤}
use Rattle.std.specs.List.{Contains, fold}
use Rattle.std.specs.Map.{update}
use Rattle.std.specs.Option.{option_map}
use Rattle.std.specs.Str.{bytes_eq}
use Rattle.std.proofs.lemmas.List.{flat_map_more, length-map, map-append, map_more, take_all}
use Rattle.std.proofs.Math.ListN.{get_or-map}
use Rattle.std.proofs.Math.Nat.{le-max_left, le-max_right}
use Rattle.std.proofs.lemmas.List.Sums.{fold-append}
use Rattle.std.proofs.lemmas.List.Elements.{Contains-append_left, Contains-append_right, Contains-get_or, Contains-push_cases}
use Rattle.std.proofs.lemmas.Option.{same_Some}
use Rattle.std.proofs.lemmas.Slice.Eq.{bytes_eq-Decides}
use Rattle.relative_path.specs.Steps.{Step, classed, components, cur, dot, name as named, step_text, up}
use Rattle.relative_path.specs.Editing.{kept}
use Rattle.relative_path.specs.Naming.{file_name_of, last_name, stem_of}
use Rattle.relative_path.specs.Walk.{IsSame}
use Rattle.relative_path.specs.Normalizing.{IsNormal, IsNormalTextOf}
use Rattle.relative_path.specs.RelativePath.{path_components, path_text}
use Rattle.relative_path.specs.declared.path.RelativePath.{RelativePath}
use Rattle.relative_path.proofs.ForCallers.{IsNormal-push_name, IsNormalForm-some, IsSame-append_left, IsSame-append_right, IsSame-last_name, IsSame-refl, IsSame-sym, IsSame-trans, kept-name, last_name-IsNormalTextOf, last_name-name}
use Rattle.relative_path_places.proofs.ForCallers.{IsNormalTextOf-same, normal_unique}
use Rattle.relative_path_places.specs.Views.{view_text}
use Rattle.relative_path_places.specs.declared.normal_view.NormalView.{NormalView}
use Rattle.relmove_mentions.proofs.FirstLemmas.{IsFirst-Contains, IsFirst-append, IsFirst-append_cases, IsFirst-holds, IsFirst-push, IsFirst-unique, first, first_or_rest, rest}
use Rattle.relmove_mentions.specs.Bases.{base_components, base_text}
use Rattle.relmove_mentions.specs.NameHashes.{hash_of, last_hash, last_three_hash, last_two_hash, name_alone, short_hash, two_hash}
use Rattle.relmove_mentions.specs.declared.bases.Base.{Base}
use Rattle.relmove_mentions.specs.First.{IsFirst}
use Rattle.relmove_mentions.specs.Hashes.{may_have}
use Rattle.relmove_mentions.specs.Names.{bare_names, directory_names, has_steps, index_names, is_bare_name, is_index_page, is_page, most_others, names_of, page_names}
use Rattle.relmove_mentions.specs.Spans.{others_in}
use Rattle.relmove_mentions.specs.OldNames.{Finds, Has, HasLastName, HasText, Lists, PathName, WithOthers, all_names, may_end_in, with_names}
use Rattle.relmove_mentions.specs.Written.{LeadsFrom, LeadsToName, LeadsToPath, StandsFor}
use Rattle.relmove_mentions.specs.declared.file_text.FileText.{FileText}
use Rattle.relmove_mentions.specs.declared.old_names.OldNames.{OldNames}

-- ---- an insertion

-- under this text the set has the path that it had, or otherwise the new one
abbrev pub IsInserted : OldNames → OldNames → List ℕ → NormalView → Type 0
IsInserted old new text path = (other : List ℕ) → get_by_text new.by_text other
    ≡ update bytes_eq (get_by_text old.by_text) text (Some (unwrap_or (get_by_text old.by_text text) path)) other

-- the set has the last name of the text as one of this path, and those that it had
abbrev pub HasLast : OldNames → OldNames → List ℕ → List ℕ → Type 0
HasLast old new text path = (n : List ℕ) → (file_name_of text ≡ Some n → HasLastName new path n)
    × ((other : List ℕ) → HasLastName old other n → HasLastName new other n)

-- the set has the hash, if it is that of the name before the last, or of the last two or three names of the text, or if it had it
pub record HasHash (old new : OldNames) (text : List ℕ) (hash : ℕ) : Type 0 where
  pub above : last_hash (kept (components text)) ≡ Some hash → may_have new.last_names hash ≡ true
  pub two : last_two_hash (components text) ≡ Some hash → may_have new.last_names hash ≡ true
  pub three : last_three_hash (components text) ≡ Some hash → may_have new.last_names hash ≡ true
  pub keeps : may_have old.last_names hash ≡ true → may_have new.last_names hash ≡ true

-- it has each such hash
abbrev pub HasLastTwo : OldNames → OldNames → List ℕ → Type 0
HasLastTwo old new text = (hash : ℕ) → HasHash old new text hash

-- the last name of a list that leads to a name is that of the name's normal text
last_name-normal : (steps front : List Step) (n text : List ℕ) → IsNormalTextOf steps text
    → IsSame (front ++ named n ∷ []) steps → file_name_of text ≡ Some n
last_name-normal steps front n text normal same =
    let of : IsNormalTextOf (front ++ named n ∷ []) text =
    IsNormalTextOf-same (front ++ named n ∷ []) text normal.normal_text (IsSame-trans same normal.same) in
    let is = last_name-name front n in
    last_name-IsNormalTextOf of (subst IsSome (sym is) refl) ∙ is

-- the last two names of a list
two_names : (cs : List Step) (d n : List ℕ)
    → last_two_hash ((cs ++ named d ∷ []) ++ named n ∷ []) ≡ two_hash (Some (hash_of d)) (Some (hash_of n))
two_names cs d n =
    ap (λ m. two_hash (last_hash (kept ((cs ++ named d ∷ []) ++ named n ∷ []))) (option_map hash_of m))
    (last_name-name (cs ++ named d ∷ []) n)
    ∙ ap (λ ds. two_hash (last_hash ds) (Some (hash_of n))) (kept-name (cs ++ named d ∷ []) n)
    ∙ ap (λ m. two_hash (option_map hash_of m) (Some (hash_of n))) (last_name-name cs d)

-- the last three names of a list
three_names : (cs : List Step) (d m n : List ℕ)
    → last_three_hash (((cs ++ named d ∷ []) ++ named m ∷ []) ++ named n ∷ [])
    ≡ two_hash (Some (hash_of d)) (two_hash (Some (hash_of m)) (Some (hash_of n)))
three_names cs d m n =
    let two : List Step = (cs ++ named d ∷ []) ++ named m ∷ [] in
    ap (two_hash (last_hash (kept (kept (two ++ named n ∷ []))))) (two_names (cs ++ named d ∷ []) m n)
    ∙ ap (λ ds. two_hash (last_hash (kept ds)) (two_hash (Some (hash_of m)) (Some (hash_of n)))) (kept-name two n)
    ∙ ap (λ ds. two_hash (last_hash ds) (two_hash (Some (hash_of m)) (Some (hash_of n)))) (kept-name (cs ++ named d ∷ []) m)
    ∙ ap (λ a. two_hash (option_map hash_of a) (two_hash (Some (hash_of m)) (Some (hash_of n)))) (last_name-name cs d)

-- the normal text of what ends in two names ends in them
two-normal : (steps front : List Step) (d n text : List ℕ) → IsNormalTextOf steps text
    → IsSame (front ++ named d ∷ named n ∷ []) steps
    → (ds : List Step) × (components text ≡ (ds ++ named d ∷ []) ++ named n ∷ [])
two-normal steps front d n text normal same =
    let (ds, form) = IsNormalForm-some front in
    let two : List Step = (ds ++ named d ∷ []) ++ named n ∷ [] in
    let is_normal : IsNormal two =
    IsNormal-push_name (ds ++ named d ∷ []) n (IsNormal-push_name ds d form.normal) in
    let joined : ds ++ named d ∷ named n ∷ [] ≡ two = sym (append_assoc ds (named d ∷ []) (named n ∷ [])) in
    let leads : IsSame two (components text) =
    IsSame-trans (IsSame-sym (subst (IsSame (front ++ named d ∷ named n ∷ [])) joined
    (IsSame-append_right (named d ∷ named n ∷ []) form.same))) (IsSame-trans same normal.same) in
    (ds, sym (normal_unique two (components text) is_normal normal.normal_text.normal leads))

-- the same for the last two names
last_two-normal : (steps front : List Step) (d n text : List ℕ) → IsNormalTextOf steps text
    → IsSame (front ++ named d ∷ named n ∷ []) steps → last_two_hash (components text) ≡ two_hash (Some (hash_of d)) (Some (hash_of n))
last_two-normal steps front d n text normal same =
    let (ds, is) = two-normal steps front d n text normal same in ap last_two_hash is ∙ two_names ds d n

-- and for the name before the last
above-normal : (steps front : List Step) (d n text : List ℕ) → IsNormalTextOf steps text
    → IsSame (front ++ named d ∷ named n ∷ []) steps → last_hash (kept (components text)) ≡ Some (hash_of d)
above-normal steps front d n text normal same =
    let (ds, is) = two-normal steps front d n text normal same in
    ap (λ cs. last_hash (kept cs)) is ∙ ap last_hash (kept-name (ds ++ named d ∷ []) n) ∙ ap (option_map hash_of) (last_name-name ds d)

-- and for the last three
last_three-normal : (steps front : List Step) (d m n text : List ℕ) → IsNormalTextOf steps text
    → IsSame (front ++ named d ∷ named m ∷ named n ∷ []) steps
    → last_three_hash (components text) ≡ two_hash (Some (hash_of d)) (two_hash (Some (hash_of m)) (Some (hash_of n)))
last_three-normal steps front d m n text normal same =
    let (ds, form) = IsNormalForm-some front in
    let three : List Step = ((ds ++ named d ∷ []) ++ named m ∷ []) ++ named n ∷ [] in
    let is_normal : IsNormal three =
    IsNormal-push_name ((ds ++ named d ∷ []) ++ named m ∷ []) n
    (IsNormal-push_name (ds ++ named d ∷ []) m (IsNormal-push_name ds d form.normal)) in
    let joined : ds ++ named d ∷ named m ∷ named n ∷ [] ≡ three =
    sym (append_assoc ds (named d ∷ []) (named m ∷ named n ∷ []))
    ∙ sym (append_assoc (ds ++ named d ∷ []) (named m ∷ []) (named n ∷ [])) in
    let leads : IsSame three (components text) =
    IsSame-trans (IsSame-sym (subst (IsSame (front ++ named d ∷ named m ∷ named n ∷ [])) joined
    (IsSame-append_right (named d ∷ named m ∷ named n ∷ []) form.same))) (IsSame-trans same normal.same) in
    let is : components text ≡ three =
    sym (normal_unique three (components text) is_normal normal.normal_text.normal leads) in
    ap last_three_hash is ∙ three_names ds d m n

pub Lists-insert : (names : List PathName) (path : NormalView) (name : List Step) (old new : OldNames)
    (text : List ℕ) → IsNormalTextOf name text → IsInserted old new text path → HasLast old new text (view_text path)
    → HasLastTwo old new text → Lists names old → Lists (names ++ (view_text path, name) ∷ []) new
Lists-insert names path name old new text normal inserted has_last has_two lists =
    record { only = only; each = each; last = last; above = above; last_two = last_two; last_three = last_three } where
      new_pair : PathName
      new_pair = (view_text path, name)

      more : List PathName
      more = names ++ new_pair ∷ []

      FirstWith : List ℕ → NormalView → Type 0
      FirstWith other p = (n : List Step) × IsFirst (HasText other) more (view_text p, n)

      -- under a text for which the set has no path, no name came before
      none_before : get_by_text old.by_text text ≡ None → (pair : PathName) → Contains names pair → ¬ HasText text pair
      none_before none (o, n) has of = true≢false (sym (subst IsSome none (lists.each o n text has of)))

      here : (had : Option NormalView) (p : NormalView) → get_by_text old.by_text text ≡ had → Some (unwrap_or had path) ≡ Some p
          → FirstWith text p
      here None p none is =
          subst (FirstWith text) (same_Some path p is)
          (name, IsFirst-push (HasText text) names new_pair (none_before none) normal)
      here (Some q) p had is =
          let (n, first_with) = lists.only text p (had ∙ is) in
          (n, IsFirst-append (HasText text) names (new_pair ∷ []) (view_text p, n) first_with)

      only : (other : List ℕ) (p : NormalView) → get_by_text new.by_text other ≡ Some p → FirstWith other p
      only other p is = tell (bytes_eq text other) (bytes_eq-Decides text other) (sym (inserted other) ∙ is) where
        tell : (b : Bool) → ((b ≡ true → text ≡ other) × (text ≡ other → b ≡ true))
            → cond b (Some (unwrap_or (get_by_text old.by_text text) path)) (get_by_text old.by_text other) ≡ Some p
            → FirstWith other p
        tell true (same, _) is =
            subst (λ t. FirstWith t p) (same refl) (here (get_by_text old.by_text text) p refl is)
        tell false _ is =
            let (n, first_with) = lists.only other p is in
            (n, IsFirst-append (HasText other) names (new_pair ∷ []) (view_text p, n) first_with)

      kept : (other : List ℕ) → IsSome (get_by_text old.by_text other) → IsSome (get_by_text new.by_text other)
      kept other some = rw (inserted other) (tell (bytes_eq text other)) where
        tell : (b : Bool)
            → IsSome (cond b (Some (unwrap_or (get_by_text old.by_text text) path)) (get_by_text old.by_text other))
        tell true = refl
        tell false = some

      new_one : (other : List ℕ) → other ≡ text → IsSome (get_by_text new.by_text other)
      new_one other is = rw (inserted other) (tell (bytes_eq text other) (bytes_eq-Decides text other)) where
        tell : (b : Bool) → ((b ≡ true → text ≡ other) × (text ≡ other → b ≡ true))
            → IsSome (cond b (Some (unwrap_or (get_by_text old.by_text text) path)) (get_by_text old.by_text other))
        tell true _ = refl
        tell false (_, same) = absurd (true≢false (sym (same (sym is))))

      each : (o : List ℕ) (n : List Step) (other : List ℕ) → Contains more (o, n) → IsNormalTextOf n other
          → IsSome (get_by_text new.by_text other)
      each o n other has of = elim (Contains-push_cases names (view_text path, name) (o, n) has) [
        | inl before ↦ kept other (lists.each o n other before of)
        | inr is ↦
            let of_name : IsNormalTextOf name other = subst (λ m. IsNormalTextOf m other) (sym (ap (λ pair. pair.1) is)) of in
            new_one other (normal.only other of_name.normal_text of_name.same)
      ]

      last : (o : List ℕ) (steps front : List Step) (n : List ℕ) → Contains more (o, steps)
          → IsSame (front ++ named n ∷ []) steps → HasLastName new o n
      last o steps front n has same = elim (Contains-push_cases names (view_text path, name) (o, steps) has) [
        | inl before ↦ (has_last n).1 o (lists.last o steps front n before same)
        | inr is ↦
            let of_name : IsSame (front ++ named n ∷ []) name =
            subst (IsSame (front ++ named n ∷ [])) (sym (ap (λ pair. pair.1) is)) same in
            subst (λ p. HasLastName new p n) (ap (λ (pair : PathName). pair.0) is)
            ((has_last n).0 (last_name-normal name front n text normal of_name))
      ]

      above : (o : List ℕ) (steps front : List Step) (d n : List ℕ) → Contains more (o, steps)
          → IsSame (front ++ named d ∷ named n ∷ []) steps → may_end_in new (Some (hash_of d)) ≡ true
      above o steps front d n has same = elim (Contains-push_cases names (view_text path, name) (o, steps) has) [
        | inl before ↦ (has_two (hash_of d)).keeps (lists.above o steps front d n before same)
        | inr is ↦
            let of_name : IsSame (front ++ named d ∷ named n ∷ []) name =
            subst (IsSame (front ++ named d ∷ named n ∷ [])) (sym (ap (λ pair. pair.1) is)) same in
            (has_two (hash_of d)).above (above-normal name front d n text normal of_name)
      ]

      last_two : (o : List ℕ) (steps front : List Step) (d n : List ℕ) → Contains more (o, steps)
          → IsSame (front ++ named d ∷ named n ∷ []) steps → may_end_in new (two_hash (Some (hash_of d)) (Some (hash_of n))) ≡ true
      last_two o steps front d n has same =
          let two = (hash_of d * 1000003 % 2 ^ 64 + hash_of n) % 2 ^ 64 in
          elim (Contains-push_cases names (view_text path, name) (o, steps) has) [
            | inl before ↦ (has_two two).keeps (lists.last_two o steps front d n before same)
            | inr is ↦
                let of_name : IsSame (front ++ named d ∷ named n ∷ []) name =
                subst (IsSame (front ++ named d ∷ named n ∷ [])) (sym (ap (λ pair. pair.1) is)) same in
                (has_two two).two (last_two-normal name front d n text normal of_name)
          ]

      last_three : (o : List ℕ) (steps front : List Step) (d m n : List ℕ) → Contains more (o, steps)
          → IsSame (front ++ named d ∷ named m ∷ named n ∷ []) steps
          → may_end_in new (two_hash (Some (hash_of d)) (two_hash (Some (hash_of m)) (Some (hash_of n)))) ≡ true
      last_three o steps front d m n has same =
          let two = (hash_of m * 1000003 % 2 ^ 64 + hash_of n) % 2 ^ 64 in
          let three = (hash_of d * 1000003 % 2 ^ 64 + two) % 2 ^ 64 in
          elim (Contains-push_cases names (view_text path, name) (o, steps) has) [
            | inl before ↦ (has_two three).keeps (lists.last_three o steps front d m n before same)
            | inr is ↦
                let of_name : IsSame (front ++ named d ∷ named m ∷ named n ∷ []) name =
                subst (IsSame (front ++ named d ∷ named m ∷ named n ∷ [])) (sym (ap (λ pair. pair.1) is)) same in
                (has_two three).three (last_three-normal name front d m n text normal of_name)
          ]

-- ---- each name of each path

Contains-with_names : (old : List ℕ) (names : List (List Step)) (pair : PathName) → Contains (with_names old names) pair
    → (old ≡ pair.0) × Contains names pair.1
Contains-with_names old [] pair (k, within, is) = absurd (omega (arith, within))
Contains-with_names old (name ∷ names) pair has =
    elim (first_or_rest {X = PathName} (old, name) (with_names old names) pair has) [
      | inl is ↦ (
        ap (λ (pair : PathName). pair.0) is,
        subst (Contains (name ∷ names)) (ap (λ (pair : PathName). pair.1) is) (first name names),
      )
      | inr later ↦
          let (same, has) = Contains-with_names old names pair later in (same, rest name names pair.1 has)
    ]

with_names-Contains : (old : List ℕ) (names : List (List Step)) (n : List Step) → Contains names n
    → Contains {X = PathName} (with_names old names) (old, n)
with_names-Contains old [] n (k, within, is) = absurd (omega (arith, within))
with_names-Contains old (name ∷ names) n has = elim (first_or_rest name names n has) [
  | inl is ↦
      subst (λ m. Contains {X = PathName} (with_names old (name ∷ names)) (old, m)) is
      (first {X = PathName} (old, name) (with_names old names))
  | inr later ↦ rest {X = PathName} (old, name) (with_names old names) (old, n) (with_names-Contains old names n later)
]

all_names-Contains : (olds : List (List ℕ)) (o : List ℕ) (n : List Step) → Contains olds o → Contains (names_of o) n
    → Contains {X = PathName} (all_names olds) (o, n)
all_names-Contains [] o n (k, within, is) is_name = absurd (omega (arith, within))
all_names-Contains (old ∷ olds) o n has is_name = elim (first_or_rest old olds o has) [
  | inl is ↦
      Contains-append_left {X = PathName} (with_names old (names_of old)) (all_names olds) (o, n)
      (subst (λ x. Contains {X = PathName} (with_names x (names_of x)) (o, n)) (sym is)
      (with_names-Contains o (names_of o) n is_name))
  | inr later ↦
      Contains-append_right {X = PathName} (with_names old (names_of old)) (all_names olds) (o, n)
      (all_names-Contains olds o n later is_name)
]

-- the normal text of components is that of the name to which they lead
normal_of_name : (cs : List Step) (text old : List ℕ) → IsNormalTextOf cs text → (leads : LeadsToName cs old)
    → IsNormalTextOf leads.name text
normal_of_name cs text old normal leads = record {
  normal_text = normal.normal_text;
  same = IsSame-trans (IsSame-sym leads.same) normal.same;
  only = λ other is_normal same. normal.only other is_normal (IsSame-trans leads.same same);
}

-- the first name with a text is one of the first path with such a name
first_path : (olds : List (List ℕ)) (cs : List Step) (text : List ℕ) (pair : PathName) → IsNormalTextOf cs text
    → IsFirst (HasText text) (all_names olds) pair → LeadsToPath olds cs pair.0
first_path [] cs text pair normal is = absurd is
first_path (old ∷ olds) cs text pair normal is =
    elim (IsFirst-append_cases (HasText text) (with_names old (names_of old)) (all_names olds) pair is) [
      | inl here ↦
          let contains = IsFirst-Contains (HasText text) (with_names old (names_of old)) pair here in
          let of : IsNormalTextOf pair.1 text = IsFirst-holds (HasText text) (with_names old (names_of old)) pair here in
          let (same, has) = Contains-with_names old (names_of old) pair contains in
          let leads : LeadsToName cs old =
          record { name = pair.1; is_name = has; same = IsSame-trans normal.same (IsSame-sym of.same) } in
          inl (leads, same)
      | inr (none, later) ↦ inr (
        (λ leads.
            none (old, leads.name) (with_names-Contains old (names_of old) leads.name leads.is_name)
            (normal_of_name cs text old normal leads)),
        first_path olds cs text pair normal later,
      )
    ]

-- ---- the names that are inserted together

-- a stem that can be a name is one
classed-name : (stem : List ℕ) → is_bare_name (Some stem) ≡ true → classed stem ≡ named stem
classed-name stem bare = of (bytes_eq stem (step_text cur)) (bytes_eq stem (step_text up)) bare where
  of : (a b : Bool) → not (a || b) ≡ true → cond a cur (cond b up (named stem)) ≡ named stem
  of true b is = absurd (true≢false (sym is))
  of false true is = absurd (true≢false (sym is))
  of false false is = refl

-- the stem of a page
pub Lists-bare : (names : List PathName) (old : List ℕ) (directory bare : List Step) (file_name : Option (List ℕ))
    (set : OldNames) → is_bare_name (option_map stem_of file_name) ≡ true
    → ((n : List ℕ) → file_name ≡ Some n → bare ≡ directory ++ classed (stem_of n) ∷ [])
    → Lists (names ++ (old, bare) ∷ []) set
    → Lists (names ++ with_names old (bare_names directory (option_map stem_of file_name))) set
Lists-bare names old directory bare None set stem is_bare lists = absurd (true≢false (sym stem))
Lists-bare names old directory bare (Some n) set stem is_bare lists = of (is_bare_name (Some (stem_of n))) stem where
  one : List (List Step)
  one = (directory ++ named (stem_of n) ∷ []) ∷ []

  listed : Lists (names ++ with_names old one) set
  listed =
      subst (λ c. Lists (names ++ with_names old ((directory ++ c ∷ []) ∷ [])) set) (classed-name (stem_of n) stem)
      (subst (λ b. Lists (names ++ with_names old (b ∷ [])) set) (is_bare n refl) lists)

  of : (b : Bool) → b ≡ true → Lists (names ++ with_names old (cond b one [])) set
  of true is = listed
  of false is = absurd (true≢false (sym is))

-- the further names of a page
pub Lists-page : (names : List PathName) (old : List ℕ) (directory html : List Step) (file_name : Option (List ℕ))
    (set : OldNames) → is_page file_name ≡ true
    → ((n : List ℕ) → file_name ≡ Some n → html ≡ directory ++ named (stem_of n ++ dot ∷ codes "html") ∷ [])
    → Lists ((names ++ (old, html) ∷ []) ++ with_names old (bare_names directory (option_map stem_of file_name))) set
    → Lists (names ++ with_names old (page_names directory file_name)) set
Lists-page names old directory html None set page is_html lists = absurd (true≢false (sym page))
Lists-page names old directory html (Some n) set page is_html lists = of (is_page (Some n)) page where
  bare : List (List Step)
  bare = bare_names directory (Some (stem_of n))

  both : List (List Step)
  both = (directory ++ named (stem_of n ++ dot ∷ codes "html") ∷ []) ∷ bare

  listed : Lists (names ++ with_names old both) set
  listed =
      subst (λ h. Lists (names ++ with_names old (h ∷ bare)) set) (is_html n refl)
      (subst (λ list. Lists list set)
      (append_assoc {A = PathName} names ((old, html) ∷ []) (with_names old bare)) lists)

  of : (b : Bool) → b ≡ true → Lists (names ++ with_names old (cond b both [])) set
  of true is = listed
  of false is = absurd (true≢false (sym is))

-- the further names of a page for which its directory can stand
pub Lists-index : (names : List PathName) (old : List ℕ) (directory html : List Step) (file_name : Option (List ℕ))
    (set : OldNames) → is_index_page file_name ≡ true → html ≡ directory ++ named (codes "index.html") ∷ []
    → Lists ((names ++ (old, html) ∷ []) ++ with_names old (directory_names directory)) set
    → Lists (names ++ with_names old (index_names directory file_name)) set
Lists-index names old directory html file_name set page is_html lists = of (is_index_page file_name) page where
  both : List (List Step)
  both = (directory ++ named (codes "index.html") ∷ []) ∷ directory_names directory

  listed : Lists (names ++ with_names old both) set
  listed =
      subst (λ h. Lists (names ++ with_names old (h ∷ directory_names directory)) set) is_html
      (subst (λ list. Lists list set)
      (append_assoc {A = PathName} names ((old, html) ∷ []) (with_names old (directory_names directory))) lists)

  of : (b : Bool) → b ≡ true → Lists (names ++ with_names old (cond b both [])) set
  of true is = listed
  of false is = absurd (true≢false (sym is))

-- the names of a path, one after another
pub Lists-together : (names : List PathName) (old : List ℕ) (one path : List Step) (pages index : List (List Step))
    (set : OldNames) → one ≡ path
    → Lists (((names ++ (old, one) ∷ []) ++ with_names old pages) ++ with_names old index) set
    → Lists (names ++ with_names old (path ∷ pages ++ index)) set
Lists-together names old one path pages index set is lists =
    subst (λ c. Lists (names ++ with_names old (c ∷ pages ++ index)) set) is
    (subst (λ list. Lists list set) whole lists) where
      with_old : List Step → PathName
      with_old n = (old, n)

      front : List PathName
      front = (old, one) ∷ []

      whole : ((names ++ front) ++ with_names old pages) ++ with_names old index ≡ names ++ with_names old (one ∷ pages ++ index)
      whole =
          append_assoc (names ++ front) (with_names old pages) (with_names old index)
          ∙ append_assoc names front (with_names old pages ++ with_names old index)
          ∙ ap (λ list. names ++ (front ++ list)) (sym (map-append with_old pages index))

-- one more path with all of its names
pub Lists-path : (olds : List (List ℕ)) (old : List ℕ) (set : OldNames)
    → Lists (all_names olds ++ with_names old (names_of old)) set → Lists (all_names (olds ++ old ∷ [])) set
Lists-path olds old set lists =
    subst (λ list. Lists list set) (flat_map_more (λ o. with_names o (names_of o)) [] olds old) lists

-- the most bytes that aren't path bytes, with one more path
pub most_others-push : (olds : List (List ℕ)) (old : List ℕ)
    → most_others (olds ++ old ∷ []) ≡ max (most_others olds) (others_in old)
most_others-push olds old = fold-append (λ most o. max most (others_in o)) 0 olds (old ∷ [])

-- no path has more than the most
most_others-within : (most : ℕ) (olds : List (List ℕ)) → most ≤ fold (λ m o. max m (others_in o)) most olds
most_others-within most [] = omega arith
most_others-within most (o ∷ olds) =
    omega (arith, most_others-within (max most (others_in o)) olds, le-max_left most (others_in o))

most_others-from : (most : ℕ) (olds : List (List ℕ)) (old : List ℕ) → Contains olds old
    → others_in old ≤ fold (λ m o. max m (others_in o)) most olds
most_others-from most [] old (k, within, is) = absurd (omega (arith, within))
most_others-from most (o ∷ olds) old has = elim (first_or_rest o olds old has) [
  | inl is ↦
      omega (
        arith,
        most_others-within (max most (others_in o)) olds,
        le-max_right most (others_in o),
        ap others_in is,
      )
  | inr later ↦ most_others-from (max most (others_in o)) olds old later
]

pub most_others-Contains : (olds : List (List ℕ)) (old : List ℕ) → Contains olds old → others_in old ≤ most_others olds
most_others-Contains olds old has = most_others-from 0 olds old has

-- the paths up to the next one
next-views : (olds : List NormalView) (i : ℕ) (old : NormalView) → i < length olds → old ≡ get_or olds i old
    → map view_text (take (i + 1) olds) ≡ map view_text (take i olds) ++ view_text old ∷ []
next-views olds i old within is =
    map_more view_text olds i old within ∙ ap (λ o. map view_text (take i olds) ++ view_text o ∷ []) (sym is)

pub Lists-next : (olds : List NormalView) (i : ℕ) (old : NormalView) (set : OldNames) → i < length olds
    → old ≡ get_or olds i old
    → Lists (all_names (map view_text (take i olds)) ++ with_names (view_text old) (names_of (view_text old))) set
    → Lists (all_names (map view_text (take (i + 1) olds))) set
Lists-next olds i old set within is lists =
    subst (λ list. Lists (all_names list) set) (sym (next-views olds i old within is))
    (Lists-path (map view_text (take i olds)) (view_text old) set lists)

pub most_others-next : (olds : List NormalView) (i : ℕ) (old : NormalView) → i < length olds → old ≡ get_or olds i old
    → most_others (map view_text (take (i + 1) olds))
    ≡ max (most_others (map view_text (take i olds))) (others_in (view_text old))
most_others-next olds i old within is =
    ap most_others (next-views olds i old within is) ∙ most_others-push (map view_text (take i olds)) (view_text old)

-- after the last path
pub Has-end : (olds : List NormalView) (i : ℕ) (set : OldNames) → length olds ≤ i
    → Lists (all_names (map view_text (take i olds))) set → set.most_others ≡ most_others (map view_text olds)
    → Has (map view_text olds) set
Has-end olds i set end lists most = record {
  lists = subst (λ list. Lists (all_names (map view_text list)) set) (take_all i olds end) lists;
  most = most;
}

-- ---- a search

-- a path under the normal text of components is that to which they lead
leads-get : (olds : List (List ℕ)) (set : OldNames) (cs : List Step) (text : List ℕ) (path : NormalView) → Has olds set
    → IsNormalTextOf cs text → get_by_text set.by_text text ≡ Some path → LeadsToPath olds cs (view_text path)
leads-get olds set cs text path has normal is =
    let (name, is_first) = has.lists.only text path is in
    first_path olds cs text (view_text path, name) normal is_first

-- it is found if it has so many bytes that don't go on a path
Finds-some : (olds : List (List ℕ)) (set : OldNames) (cs : List Step) (text : List ℕ) (others : ℕ) (path : NormalView)
    → Has olds set → IsNormalTextOf cs text → get_by_text set.by_text text ≡ Some path → others ≤ others_in (view_text path)
    → Finds olds (WithOthers others (LeadsToPath olds cs)) (Some path)
Finds-some olds set cs text others path has normal is some =
    let leads = leads-get olds set cs text path has normal is in
    (IsFirst-Contains (LeadsToName cs) olds (view_text path) leads, (some, leads))

-- if it has fewer, or there is none, none is found
Finds-none : (olds : List (List ℕ)) (set : OldNames) (cs : List Step) (text : List ℕ) (others : ℕ) → Has olds set
    → IsNormalTextOf cs text
    → MatchOption (get_by_text set.by_text text) ⊤ (λ path. others_in (view_text path) < others)
    → Finds olds (WithOthers others (LeadsToPath olds cs)) None
Finds-none olds set cs text others has normal few = of (get_by_text set.by_text text) refl few where
  of : (got : Option NormalView) → get_by_text set.by_text text ≡ got
      → MatchOption got ⊤ (λ path. others_in (view_text path) < others)
      → Finds olds (WithOthers others (LeadsToPath olds cs)) None
  of None is few = λ old is_old (some, first_leads).
      let leads : LeadsToName cs old = IsFirst-holds (LeadsToName cs) olds old first_leads in
      let listed = all_names-Contains olds old leads.name is_old leads.is_name in
      let of = normal_of_name cs text old normal leads in
      true≢false (sym (subst IsSome is (has.lists.each old leads.name text listed of)))
  of (Some path) is few = λ old is_old (some, leads).
      let same : view_text path ≡ old =
      IsFirst-unique (LeadsToName cs) olds (view_text path) old (leads-get olds set cs text path has normal is) leads in
      omega (arith, some, few, ap others_in same)

-- what is found under the normal text of components
pub Finds-got : (olds : List (List ℕ)) (set : OldNames) (cs : List Step) (text : List ℕ) (others : ℕ)
    (found : Option NormalView) → Has olds set → IsNormalTextOf cs text
    → IfSome found (λ path. (get_by_text set.by_text text ≡ Some path) × (others ≤ others_in (view_text path)))
    → IfNone found (MatchOption (get_by_text set.by_text text) ⊤ (λ path. others_in (view_text path) < others))
    → Finds olds (WithOthers others (LeadsToPath olds cs)) found
Finds-got olds set cs text others (Some path) has normal some none =
    let (is, enough) = some in Finds-some olds set cs text others path has normal is enough
Finds-got olds set cs text others None has normal some none = Finds-none olds set cs text others has normal none

-- the set has what such a text ends in, if it has that of each name of an old path to which the text leads from a directory
StandsFor-ends : (olds : List (List ℕ)) (file : FileText) (text : List ℕ) (end : List Step) (old : List ℕ) (P : Type 0)
    → Contains olds old → IsSame (components text) end → StandsFor olds file text old
    → ((steps front : List Step) → Contains (all_names olds) (old, steps) → IsSame (front ++ end) steps → P) → P
StandsFor-ends olds file text end old P is_old same stands then = elim stands.leads [
  | inl (below, from) ↦ found from.directory from.leads
  | inr (some, from) ↦ found from.directory from.leads
] where
  found : (directory : List Step) → LeadsToPath olds (directory ++ components text) old → P
  found directory first_leads =
      let leads : LeadsToName (directory ++ components text) old =
      IsFirst-holds (LeadsToName (directory ++ components text)) olds old first_leads in
      then leads.name directory (all_names-Contains olds old leads.name is_old leads.is_name)
      (IsSame-trans (IsSame-sym (IsSame-append_left directory same)) leads.same)

-- the set has the last name of a text that stands for an old path
pub StandsFor-last : (olds : List (List ℕ)) (set : OldNames) (file : FileText) (text n old : List ℕ) → Has olds set
    → Contains olds old → file_name_of text ≡ Some n → StandsFor olds file text old → HasLastName set old n
StandsFor-last olds set file text n old has is_old is stands =
    StandsFor-ends olds file text (kept (components text) ++ named n ∷ []) old (HasLastName set old n) is_old
    (IsSame-last_name (components text) n is) stands
    (λ steps front listed same.
    has.lists.last old steps (front ++ kept (components text)) n listed
    (subst (λ cs. IsSame cs steps) (sym (append_assoc front (kept (components text)) (named n ∷ []))) same))

-- a list that ends so after a list with a last name
IsSame-name_before : (cs front rest : List Step) (d : List ℕ) → IsSame cs (front ++ rest) → last_name front ≡ Some d
    → IsSame cs (kept front ++ named d ∷ rest)
IsSame-name_before cs front rest d same above =
    subst (IsSame cs) (append_assoc (kept front) (named d ∷ []) rest)
    (IsSame-trans same (IsSame-append_right rest (IsSame-last_name front d above)))

-- and its last two names
pub StandsFor-last_two : (olds : List (List ℕ)) (set : OldNames) (file : FileText) (text old : List ℕ) → Has olds set
    → Contains olds old → StandsFor olds file text old → may_end_in set (last_two_hash (components text)) ≡ true
StandsFor-last_two olds set file text old has is_old stands =
    of (last_name (kept cs)) (last_name cs) refl refl where
      cs : List Step
      cs = components text

      of : (b a : Option (List ℕ)) → last_name (kept cs) ≡ b → last_name cs ≡ a
          → may_end_in set (two_hash (option_map hash_of b) (option_map hash_of a)) ≡ true
      of b None above is = refl
      of None (Some n) above is = refl
      of (Some d) (Some n) above is =
          let front = kept (kept cs) in
          let same : IsSame cs (front ++ named d ∷ named n ∷ []) =
          IsSame-name_before cs (kept cs) (named n ∷ []) d (IsSame-last_name cs n is) above in
          StandsFor-ends olds file text (front ++ named d ∷ named n ∷ []) old _ is_old same stands
          (λ steps base listed leads.
          has.lists.last_two old steps (base ++ front) d n listed
          (subst (λ ds. IsSame ds steps) (sym (append_assoc base front (named d ∷ named n ∷ []))) leads))

-- and its last three names
pub StandsFor-last_three : (olds : List (List ℕ)) (set : OldNames) (file : FileText) (text old : List ℕ) → Has olds set
    → Contains olds old → StandsFor olds file text old → may_end_in set (last_three_hash (components text)) ≡ true
StandsFor-last_three olds set file text old has is_old stands =
    of (last_name (kept (kept cs))) (last_name (kept cs)) (last_name cs) refl refl refl where
      cs : List Step
      cs = components text

      of : (c b a : Option (List ℕ)) → last_name (kept (kept cs)) ≡ c → last_name (kept cs) ≡ b → last_name cs ≡ a
          → may_end_in set (two_hash (option_map hash_of c) (two_hash (option_map hash_of b) (option_map hash_of a))) ≡ true
      of c b None first second third = refl
      of c None (Some n) first second third = refl
      of None (Some m) (Some n) first second third = refl
      of (Some d) (Some m) (Some n) first second third =
          let front = kept (kept (kept cs)) in
          let two = IsSame-name_before cs (kept cs) (named n ∷ []) m (IsSame-last_name cs n third) second in
          StandsFor-ends olds file text (front ++ named d ∷ named m ∷ named n ∷ []) old _ is_old
          (IsSame-name_before cs (kept (kept cs)) (named m ∷ named n ∷ []) d two first) stands
          (λ steps base listed leads.
          has.lists.last_three old steps (base ++ front) d m n listed
          (subst (λ ds. IsSame ds steps) (sym (append_assoc base front (named d ∷ named m ∷ named n ∷ []))) leads))

has_steps-none : (cs : List Step) → has_steps cs ≡ false → cs ≡ []
has_steps-none [] is = refl
has_steps-none (c ∷ cs) is = absurd (true≢false is)

-- and the last name of a directory, and then a name alone
pub LeadsToPath-two : (olds : List (List ℕ)) (set : OldNames) (base cs : List Step) (old : List ℕ) → Has olds set
    → Contains olds old → LeadsToPath olds (base ++ cs) old → may_end_in set (two_hash (last_hash base) (name_alone cs)) ≡ true
LeadsToPath-two olds set base cs old has is_old first_leads =
    of (last_name base) (has_steps (kept cs)) (last_name cs) refl refl refl where
      of : (b : Option (List ℕ)) (more : Bool) (a : Option (List ℕ)) → last_name base ≡ b → has_steps (kept cs) ≡ more
          → last_name cs ≡ a
          → may_end_in set (two_hash (option_map hash_of b) (cond more None (option_map hash_of a))) ≡ true
      of b true a above none is = refl
      of b false None above none is = refl
      of None false (Some n) above none is = refl
      of (Some d) false (Some n) above none is =
          let leads : LeadsToName (base ++ cs) old = IsFirst-holds (LeadsToName (base ++ cs)) olds old first_leads in
          let alone : IsSame cs (named n ∷ []) =
          subst (λ front. IsSame cs (front ++ named n ∷ [])) (has_steps-none (kept cs) none) (IsSame-last_name cs n is) in
          let same : IsSame (base ++ cs) (kept base ++ named d ∷ named n ∷ []) =
          IsSame-name_before (base ++ cs) base (named n ∷ []) d (IsSame-append_left base alone) above in
          has.lists.last_two old leads.name (kept base) d n (all_names-Contains olds old leads.name is_old leads.is_name)
          (IsSame-trans (IsSame-sym same) leads.same)

-- and the last name of a directory, if a name alone leads from there
pub LeadsToPath-above : (olds : List (List ℕ)) (set : OldNames) (base : List Step) (n old : List ℕ) → Has olds set
    → Contains olds old → LeadsToPath olds (base ++ named n ∷ []) old → may_end_in set (last_hash base) ≡ true
LeadsToPath-above olds set base n old has is_old first_leads = of (last_name base) refl where
  of : (b : Option (List ℕ)) → last_name base ≡ b → may_end_in set (option_map hash_of b) ≡ true
  of None above = refl
  of (Some d) above =
      let cs : List Step = named n ∷ [] in
      let leads : LeadsToName (base ++ cs) old = IsFirst-holds (LeadsToName (base ++ cs)) olds old first_leads in
      let same : IsSame (base ++ cs) (kept base ++ named d ∷ named n ∷ []) =
      IsSame-name_before (base ++ cs) base (named n ∷ []) d (IsSame-refl (base ++ cs)) above in
      has.lists.above old leads.name (kept base) d n (all_names-Contains olds old leads.name is_old leads.is_name)
      (IsSame-trans (IsSame-sym same) leads.same)

-- and the last name of a directory, and then two names
LeadsToPath-three : (olds : List (List ℕ)) (set : OldNames) (base cs : List Step) (old : List ℕ) → Has olds set
    → Contains olds old → LeadsToPath olds (base ++ cs) old → has_steps (kept (kept cs)) ≡ false
    → may_end_in set (two_hash (last_hash base) (last_two_hash cs)) ≡ true
LeadsToPath-three olds set base cs old has is_old first_leads none =
    of (last_name base) (last_name (kept cs)) (last_name cs) refl refl refl where
      of : (b a l : Option (List ℕ)) → last_name base ≡ b → last_name (kept cs) ≡ a → last_name cs ≡ l
          → may_end_in set (two_hash (option_map hash_of b) (two_hash (option_map hash_of a) (option_map hash_of l))) ≡ true
      of b a None above middle is = refl
      of b None (Some n) above middle is = refl
      of None (Some m) (Some n) above middle is = refl
      of (Some d) (Some m) (Some n) above middle is =
          let leads : LeadsToName (base ++ cs) old = IsFirst-holds (LeadsToName (base ++ cs)) olds old first_leads in
          let two : IsSame cs (named m ∷ named n ∷ []) =
          subst (λ front. IsSame cs (front ++ named m ∷ named n ∷ [])) (has_steps-none (kept (kept cs)) none)
          (IsSame-name_before cs (kept cs) (named n ∷ []) m (IsSame-last_name cs n is) middle) in
          let same : IsSame (base ++ cs) (kept base ++ named d ∷ named m ∷ named n ∷ []) =
          IsSame-name_before (base ++ cs) base (named m ∷ named n ∷ []) d (IsSame-append_left base two) above in
          has.lists.last_three old leads.name (kept base) d m n
          (all_names-Contains olds old leads.name is_old leads.is_name) (IsSame-trans (IsSame-sym same) leads.same)

-- and then one name or two
pub LeadsToPath-short : (olds : List (List ℕ)) (set : OldNames) (base cs : List Step) (old : List ℕ) → Has olds set
    → Contains olds old → LeadsToPath olds (base ++ cs) old → may_end_in set (two_hash (last_hash base) (short_hash cs)) ≡ true
LeadsToPath-short olds set base cs old has is_old leads =
    of (has_steps (kept cs)) (has_steps (kept (kept cs))) refl refl where
      of : (more above : Bool) → has_steps (kept cs) ≡ more → has_steps (kept (kept cs)) ≡ above
          → may_end_in set (two_hash (last_hash base) (cond more (cond above None (last_two_hash cs)) (last_hash cs))) ≡ true
      of true true some above = refl
      of true false some none = LeadsToPath-three olds set base cs old has is_old leads none
      of false above none some =
          ap (λ more. may_end_in set (two_hash (last_hash base) (cond more None (last_hash cs)))) (sym none)
          ∙ LeadsToPath-two olds set base cs old has is_old leads

-- ---- a search from one directory after another

-- bases with the texts of directories have their components
pub base_components-same : (bases : List Base) (paths : List RelativePath) → map base_text bases ≡ map path_text paths
    → map base_components bases ≡ map path_components paths
base_components-same bases paths same =
    of_bases bases ∙ ap (map components) same ∙ sym (of_paths paths) where
      of_bases : (list : List Base) → map base_components list ≡ map components (map base_text list)
      of_bases [] = refl
      of_bases (base ∷ list) = ap (λ rest. base_components base ∷ rest) (of_bases list)

      of_paths : (list : List RelativePath) → map path_components list ≡ map components (map path_text list)
      of_paths [] = refl
      of_paths (path ∷ list) = ap (λ rest. path_components path ∷ rest) (of_paths list)

-- from no directory a path leads
pub LeadsFrom-nil : (olds : List (List ℕ)) (cs : List Step) (old : List ℕ) → LeadsFrom olds [] cs old → ⊥
LeadsFrom-nil olds cs old from = no from.is_one where
  no : Contains {X = List Step} [] from.directory → ⊥
  no (k, within, is) = omega (arith, within)

-- what it leads to from one of them, it leads to from them
pub LeadsFrom-one : (olds : List (List ℕ)) (bases : List Base) (i : ℕ) (none : Base) (cs : List Step)
    (old : List ℕ) → i < length bases → LeadsToPath olds (base_components (get_or bases i none) ++ cs) old
    → LeadsFrom olds (map base_components bases) cs old
LeadsFrom-one olds bases i none cs old within leads = record {
  directory = base_components (get_or bases i none);
  is_one =
      subst (Contains (map base_components bases)) (get_or-map base_components bases i none)
      (Contains-get_or (map base_components bases) i (base_components none)
      (omega (arith, within, length-map bases base_components)));
  leads = leads;
}

-- what it leads to from these bases and the next one, it leads to from these or from that
pub LeadsFrom-next : (olds : List (List ℕ)) (bases : List Base) (i : ℕ) (none : Base) (cs : List Step)
    (old : List ℕ) → i < length bases → LeadsFrom olds (map base_components (take (i + 1) bases)) cs old
    → LeadsFrom olds (map base_components (take i bases)) cs old
    ⊎ LeadsToPath olds (base_components (get_or bases i none) ++ cs) old
LeadsFrom-next olds bases i none cs old within from =
    elim (Contains-push_cases (map base_components (take i bases)) (base_components (get_or bases i none))
    from.directory
    (subst (λ list. Contains list from.directory) (map_more base_components bases i none within) from.is_one)) [
      | inl before ↦ inl (record { directory = from.directory; is_one = before; leads = from.leads })
      | inr same ↦ inr (subst (λ d. LeadsToPath olds (d ++ cs) old) (sym same) from.leads)
    ]

-- what is found for a property is found for one that holds of the same paths
pub Finds-map : (olds : List (List ℕ)) (P Q : List ℕ → Type 0) (found : Option NormalView)
    → ((old : List ℕ) → Contains olds old → P old → Q old) → ((old : List ℕ) → Q old → P old) → Finds olds P found
    → Finds olds Q found
Finds-map olds P Q None to from none = λ old is_old holds. none old is_old (from old holds)
Finds-map olds P Q (Some path) to from (is_old, holds) = (is_old, to (view_text path) is_old holds)

-- if nothing is found for the first, what is found for the second is found for either
pub Finds-second : (olds : List (List ℕ)) (others : ℕ) (P Q : List ℕ → Type 0) (found : Option NormalView)
    → Finds olds (WithOthers others P) None → Finds olds (WithOthers others Q) found
    → Finds olds (WithOthers others (λ old. P old ⊎ Q old)) found
Finds-second olds others P Q None none next = λ old is_old (some, holds). elim holds [
  | inl one ↦ none old is_old (some, one)
  | inr other ↦ next old is_old (some, other)
]
Finds-second olds others P Q (Some path) none (is_old, (some, holds)) = (is_old, (some, inr holds))
