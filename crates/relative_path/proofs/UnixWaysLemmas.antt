-- Where relative paths lead between platform paths.
use Rattle.std.proofs.Common.{◌≡◌, ℕ, List, [], ◌++◌, length, take, drop, replicate, sym, refl, ap, ap₂, ◌∙◌, subst, append_assoc, append-nil, take-append-drop, Option, Some, None, option_and_then, option_map}
use Rattle.relative_path.specs.Steps.{Step, up, components, spell, SpellThemselves}
use Rattle.relative_path.specs.Walk.{walk, IsSame}
use Rattle.relative_path.specs.Unix.{has_root, unix_components, shared_len, way_back, way_to}
use Rattle.relative_path.proofs.StepsLemmas.{SpellThemselves-append, SpellThemselves-ups, SpellThemselves-drop}
use Rattle.relative_path.proofs.WalkLemmas.{walk-append, walk-below, IsSame-append_left, walk-replicate}
use Rattle.relative_path.proofs.SpellingLemmas.{components-spell}
use Rattle.relative_path.proofs.UnixComponentsLemmas.{SpellThemselves-counted, take-shared}

-- ---- where lists lead from the top

IsSame-back : (from to : List Step) (place : List (List ℕ)) → walk [] from ≡ Some place
    → IsSame (from ++ (replicate (length place) up ++ to)) to
IsSame-back from to place leads = record {
  everywhere = λ base.
      let down : walk base from ≡ Some (base ++ place) =
      ap (λ p. walk p from) (sym (append-nil base)) ∙ walk-below base [] from place leads in
      walk-append base from (replicate (length place) up ++ to)
      ∙ ap (option_and_then (λ p. walk p (replicate (length place) up ++ to))) down
      ∙ walk-append (base ++ place) (replicate (length place) up) to
      ∙ ap (option_and_then (λ p. walk p to)) (walk-replicate base (length place) place refl);
}

-- ---- the law

-- the way to the path, from what is left of both lists and the place where the rest of the root leads
pub way_to-from : (path root : List ℕ) (own_path own_root : List Step) (place : List (List ℕ))
    → own_path ≡ drop (shared_len (unix_components path) (unix_components root)) (unix_components path)
    → own_root ≡ drop (shared_len (unix_components path) (unix_components root)) (unix_components root)
    → walk [] own_root ≡ Some place → way_to path root ≡ Some (replicate (length place) up ++ own_path)
way_to-from path root own_path own_root place is_path is_root leads =
    ap₂ way_back (sym is_root) (sym is_path) ∙ ap (option_map (λ p. replicate (length p) up ++ own_path)) leads

-- after the root, the way leads where the path leads
pub IsSame-way_to : (path root : List ℕ) (way : List Step) → way_to path root ≡ Some way
    → IsSame (unix_components root ++ components (spell way)) (unix_components path)
IsSame-way_to path root way is = leads (walk [] from) refl is
  where
    shared : ℕ
    shared = shared_len (unix_components path) (unix_components root)

    from : List Step
    from = drop shared (unix_components root)

    to : List Step
    to = drop shared (unix_components path)

    leads : (o : Option (List (List ℕ))) → walk [] from ≡ o
        → option_map (λ place. replicate (length place) up ++ to) o ≡ Some way
        → IsSame (unix_components root ++ components (spell way)) (unix_components path)
    leads None at e = absurd (cc)
    leads (Some place) at e =
        let written : way ≡ replicate (length place) up ++ to = cc in
        let proper : SpellThemselves (replicate (length place) up ++ to) =
        SpellThemselves-append (replicate (length place) up) to (SpellThemselves-ups (length place))
        (SpellThemselves-drop shared (unix_components path) (SpellThemselves-counted (has_root path) path)) in
        let spelled : components (spell way) ≡ replicate (length place) up ++ to =
        ap (λ cs. components (spell cs)) written ∙ components-spell (replicate (length place) up ++ to) proper in
        let front = take shared (unix_components root) in
        let roots : front ++ from ≡ unix_components root = take-append-drop shared (unix_components root) in
        let paths : front ++ to ≡ unix_components path =
        ap (λ cs. cs ++ to) (sym (take-shared (unix_components path) (unix_components root)))
        ∙ take-append-drop shared (unix_components path) in
        let whole : unix_components root ++ components (spell way) ≡ front ++ (from ++ (replicate (length place) up ++ to)) =
        ap₂ (λ cs ds. cs ++ ds) (sym roots) spelled ∙ append_assoc front from (replicate (length place) up ++ to) in
        let leads : IsSame (front ++ (from ++ (replicate (length place) up ++ to))) (front ++ to) =
        IsSame-append_left front (from ++ (replicate (length place) up ++ to)) to (IsSame-back from to place at) in
        subst (λ cs. IsSame cs (unix_components path)) (sym whole)
        (subst (IsSame (front ++ (from ++ (replicate (length place) up ++ to)))) paths leads)
