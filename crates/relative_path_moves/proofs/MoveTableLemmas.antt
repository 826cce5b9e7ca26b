-- The one target of a reference, and the shortest path to it or the error.
use Rattle.std.proofs.Common.{◌≡◌, ◌≢◌, ◌↔◌, ℕ, ◌<◌, List, length, Option, Some, None, IsNone, IfSome, Result, Ok, Err, IfOk, inl, inr, [], ◌++◌, refl, sym, ap, ◌∙◌, arith}
use Rattle.std.proofs.lemmas.List.{length-map}
use Rattle.relative_path.specs.Steps.{Step}
use Rattle.relative_path.specs.Walk.{walk, IsSame, place_of}
use Rattle.relative_path.specs.Relating.{Leads, IsReachable, IsShortestText}
use Rattle.relative_path.specs.RelativePathBuf.{Buffer}
use Rattle.relative_path.proofs.ForCallers.{IsSame-refl, IsSame-sym, IsSame-trans, IsReachable-same, IsShortestText-same}
use Rattle.relative_path_moves.specs.declared.move_error.ReferenceError.{ReferenceError}
use Rattle.relative_path_moves.specs.declared.move_error.ReferenceError.TheVariants.{AboveRoot, NoPath, OutOfMemory}
use Rattle.relative_path_places.specs.Places.{directory}
use Rattle.relative_path_places.specs.PlaceIndex.{IsFirstAt, IsNoneAt}
use Rattle.relative_path_moves.specs.Moves.{Move, move_at, MovesFrom, AreApart, IsUnmoved, IsPathAfter, AtPathAfter, ForFileOfLink, ClimbsAbove, BelowTop}
use Rattle.relative_path_moves.specs.MoveError.{Refuses}
use Rattle.relative_path_moves.specs.MoveTable.{olds_of, LeadToFile, IsWay, IsShortestBuffer, IsLink}
use Rattle.relative_path_moves.proofs.MovesLemmas.{old_at, IsPathAfter-only}

-- the file at the old path of a move moves
pub MovesFrom-found : (moves : List Move) (place : List Step) (j : ℕ) → IsFirstAt (olds_of moves) place j
    → MovesFrom moves place j
MovesFrom-found moves place j first =
    let within : j < length moves = omega (arith, first.within, length-map moves (λ move. move.old)) in
    record { within = within; same = rw (old_at moves j within) at first.same }

-- the file at the old path of a move isn't unmoved
pub IsUnmoved-found : (moves : List Move) (place : List Step) (j : ℕ) → IsFirstAt (olds_of moves) place j
    → ¬ IsUnmoved moves place
IsUnmoved-found moves place j first unmoved = unmoved j (MovesFrom-found moves place j first)

-- the target of the old path of a move is its new path
pub IsPathAfter-found : (moves : List Move) (place : List Step) (j : ℕ) → IsFirstAt (olds_of moves) place j
    → IsPathAfter moves place (move_at moves j).new
IsPathAfter-found moves place j first = inl (j, MovesFrom-found moves place j first, refl)

-- the target of a place is also the target of what leads to the same place
LeadToFile-is : (moves : List Move) (place target cs : List Step) → AreApart moves → IsPathAfter moves place target
    → IsSame target cs → LeadToFile moves place cs
LeadToFile-is moves place target cs apart is same = record {
  path = target;
  is = is;
  only = λ other other_is. IsPathAfter-only moves place target other apart is other_is;
  same = same;
}

-- if the index has a number for a place, the file there moves by the move of this number
pub LeadToFile-found : (moves : List Move) (place cs : List Step) (j : ℕ) → AreApart moves
    → IsFirstAt (olds_of moves) place j → cs ≡ (move_at moves j).new → LeadToFile moves place cs
LeadToFile-found moves place cs j apart first new =
    LeadToFile-is moves place (move_at moves j).new cs apart (IsPathAfter-found moves place j first)
    (record { everywhere = λ base. ap (walk base) (sym new) })

-- if the index has no number for a place, the file there is unmoved
pub IsUnmoved-kept : (moves : List Move) (place : List Step) → IsNoneAt (olds_of moves) place → IsUnmoved moves place
IsUnmoved-kept moves place none j from =
    none j (omega (arith, from.within, length-map moves (λ move. move.old)))
    (rw (old_at moves j from.within) from.same)

pub IsPathAfter-kept : (moves : List Move) (place : List Step) → IsNoneAt (olds_of moves) place → IsPathAfter moves place place
IsPathAfter-kept moves place none = inr (IsUnmoved-kept moves place none, refl)

pub LeadToFile-kept : (moves : List Move) (place cs : List Step) → AreApart moves → IsNoneAt (olds_of moves) place
    → IsSame place cs → LeadToFile moves place cs
LeadToFile-kept moves place cs apart none same =
    LeadToFile-is moves place place cs apart (IsPathAfter-kept moves place none) same

-- if a list has a place from the top, so has every list that leads to the same
place_kept : (target cs : List Step) → IsSame target cs → place_of cs ≢ None → place_of target ≢ None
place_kept target cs same some none = some (sym (same.everywhere []) ∙ none)

module _ (moves : List Move) (place from cs : List Step) (lead : LeadToFile moves place cs)
  where
    -- what holds of every list that leads where the components lead holds of the target
    pub AtPathAfter-all : (P : List Step → Type 0) → ((target : List Step) → IsSame target cs → P target)
        → AtPathAfter moves place P
    AtPathAfter-all P holds = (lead.path, lead.is, holds lead.path lead.same)

    -- what holds of no list that leads where the components lead doesn't hold of the target
    pub AtPathAfter-none : (P : List Step → Type 0) → ((target : List Step) → IsSame target cs → ¬ P target)
        → ¬ AtPathAfter moves place P
    AtPathAfter-none P none (other, is, holds) = none lead.path lead.same (rw (lead.only other is) at holds)

    -- a list leads to the target exactly if it leads to the components
    pub AtPathAfter-leads : (r : List Step) → AtPathAfter moves place (Leads from r) ↔ Leads from r cs
    AtPathAfter-leads r = (
      λ (target, is, leads). IsSame-trans (rw (lead.only target is) at leads) lead.same,
      λ leads. AtPathAfter-all (Leads from r) (λ target same. IsSame-trans leads (IsSame-sym same)),
    )

    -- the target climbs above the top
    climbs : place_of cs ≡ None → AtPathAfter moves place ClimbsAbove
    climbs none = AtPathAfter-all ClimbsAbove (λ path same. same.everywhere [] ∙ none)

    -- a path above the top isn't a path below it
    not_below : place_of cs ≡ None → (P : List Step → Type 0) → ¬ AtPathAfter moves place (BelowTop P)
    not_below none P = AtPathAfter-none (BelowTop P) (λ path same holds. holds.0 (same.everywhere [] ∙ none))

    -- the path has a place from the top
    not_above : place_of cs ≢ None → ¬ AtPathAfter moves place ClimbsAbove
    not_above some = AtPathAfter-none ClimbsAbove (λ path same. place_kept path cs same some)

    -- no list leads to the path
    abbrev IsBeyond : List Step → Type 0
    IsBeyond path = ¬ IsReachable from path

    beyond : place_of cs ≢ None → (¬ IsReachable from cs) → AtPathAfter moves place (BelowTop IsBeyond)
    beyond some none = AtPathAfter-all (BelowTop IsBeyond) (λ path same. (
      place_kept path cs same some,
      λ reach. none (IsReachable-same (IsSame-refl from) same reach),
    ))

    -- a list leads to the path
    not_beyond : IsReachable from cs → ¬ AtPathAfter moves place (BelowTop IsBeyond)
    not_beyond reach = AtPathAfter-none (BelowTop IsBeyond)
        (λ path same holds. holds.1 (IsReachable-same (IsSame-refl from) (IsSame-sym same) reach))

    -- the shortest path to the components is the shortest path to the path
    pub AtPathAfter-shortest : (text : List ℕ) → place_of cs ≢ None → IsShortestText from cs text
        → AtPathAfter moves place (BelowTop (λ path. IsShortestText from path text))
    AtPathAfter-shortest text some way = AtPathAfter-all (BelowTop (λ path. IsShortestText from path text))
        (λ path same. (place_kept path cs same some, IsShortestText-same (IsSame-refl from) (IsSame-sym same) way))

    pub above_root-way : {T : Type 0} (P : T → Type 0) (result : Result T ReferenceError) → IsWay from cs P result
        → Refuses result AboveRoot OutOfMemory (AtPathAfter moves place ClimbsAbove)
    above_root-way P (Ok way) (some, is) =
        record { only = λ e. absurd (cc e); always = λ holds. absurd (not_above some holds) }
    above_root-way P (Err AboveRoot) none = record { only = λ e. climbs none; always = λ holds. inl refl }
    above_root-way P (Err NoPath) (some, none) =
        record { only = λ e. absurd (cc e); always = λ holds. absurd (not_above some holds) }
    above_root-way P (Err OutOfMemory) _ = record { only = λ e. absurd (cc e); always = λ holds. inr refl }

    pub no_path-way : {T : Type 0} (P : T → Type 0) (result : Result T ReferenceError)
        → ((way : T) → P way → IsReachable from cs) → IsWay from cs P result
        → Refuses result NoPath OutOfMemory (AtPathAfter moves place (BelowTop IsBeyond))
    no_path-way P (Ok way) reach (some, is) =
        record { only = λ e. absurd (cc e); always = λ holds. absurd (not_beyond (reach way is) holds) }
    no_path-way P (Err AboveRoot) reach none =
        record { only = λ e. absurd (cc e); always = λ holds. absurd (not_below none IsBeyond holds) }
    no_path-way P (Err NoPath) reach (some, none) =
        record { only = λ e. beyond some none; always = λ holds. inl refl }
    no_path-way P (Err OutOfMemory) reach _ = record { only = λ e. absurd (cc e); always = λ holds. inr refl }

    pub shortest-way : (result : Result Buffer ReferenceError)
        → IsWay from cs (IsShortestBuffer from cs) result
        → IfOk result (λ way. AtPathAfter moves place (BelowTop (λ target. IsShortestText from target way.text)))
    shortest-way (Ok way) (some, leads) = AtPathAfter-shortest way.text some leads
    shortest-way (Err e) _ = tt

-- the one path of a file after the moves
pub IsPathAfter-is : (moves : List Move) (file now target : List Step) → AreApart moves → IsPathAfter moves file now
    → IsPathAfter moves file target ↔ (target ≡ now)
IsPathAfter-is moves file now target apart is =
    (IsPathAfter-only moves file now target apart is, λ e. rw e is)

-- a property of a link is one of its target and the page's new directory
pub ForFileOfLink-now : (moves : List Move) (page reference now : List Step) (P : List Step → List Step → Type 0)
    → ((target : List Step) → IsPathAfter moves page target ↔ (target ≡ now))
    → ForFileOfLink moves page reference P ↔ AtPathAfter moves (directory page ++ reference) (P (directory now))
ForFileOfLink-now moves page reference now P is = (
  λ (other, is_other, holds). rw ((is other).0 is_other) at holds,
  λ holds. (now, (is now).1 refl, holds),
)

-- the shortest list leads
pub reach-way : (directory cs : List Step) (way : Buffer) → IsShortestBuffer directory cs way
    → IsReachable directory cs
reach-way directory cs way is = (_, is.shortest.leads)

-- either the reference leads there, or the shortest list does
pub reach-link : (directory reference cs : List Step) (way : Option Buffer) → IsLink directory reference cs way
    → IsReachable directory cs
reach-link directory reference cs None same = (reference, same)
reach-link directory reference cs (Some way) (other, is) = (_, is.shortest.leads)

-- the result for a reference in a page that is now at this path, if its target is where the components lead
module _ (moves : List Move) (page reference now cs : List Step)
    (is : (target : List Step) → IsPathAfter moves page target ↔ (target ≡ now))
    (lead : LeadToFile moves (directory page ++ reference) cs)
  where
    pub above_root-in : (result : Result (Option Buffer) ReferenceError)
        → IsWay (directory now) cs (IsLink (directory now) reference cs) result
        → Refuses result AboveRoot OutOfMemory (ForFileOfLink moves page reference (λ _. ClimbsAbove))
    above_root-in result link =
        let same = ForFileOfLink-now moves page reference now (λ _. ClimbsAbove) is in
        let refuses =
        above_root-way moves (directory page ++ reference) (directory now) cs lead (IsLink (directory now) reference cs)
        result link in
        record { only = λ e. same.1 (refuses.only e); always = λ holds. refuses.always (same.0 holds) }

    pub no_path-in : (result : Result (Option Buffer) ReferenceError)
        → IsWay (directory now) cs (IsLink (directory now) reference cs) result
        → Refuses result NoPath OutOfMemory
        (ForFileOfLink moves page reference (λ from. BelowTop (λ target. ¬ IsReachable from target)))
    no_path-in result link =
        let same = ForFileOfLink-now moves page reference now (λ from. BelowTop (λ target. ¬ IsReachable from target)) is in
        let refuses =
        no_path-way moves (directory page ++ reference) (directory now) cs lead (IsLink (directory now) reference cs)
        result (reach-link (directory now) reference cs) link in
        record { only = λ e. same.1 (refuses.only e); always = λ holds. refuses.always (same.0 holds) }

    pub stays-in : (result : Result (Option Buffer) ReferenceError)
        → IsWay (directory now) cs (IsLink (directory now) reference cs) result
        → IfOk result (λ way. IsNone way ↔ ForFileOfLink moves page reference (λ from. Leads from reference))
    stays-in (Ok None) (some, same) = (λ _. leads, λ _. refl) where
      leads : ForFileOfLink moves page reference (λ from. Leads from reference)
      leads =
          (ForFileOfLink-now moves page reference now (λ from. Leads from reference) is).1
          ((AtPathAfter-leads moves (directory page ++ reference) (directory now) cs lead reference).1 same)
    stays-in (Ok (Some way)) (some, (other, way_is)) = (λ none. absurd (cc none), λ holds. absurd (other (led holds))) where
      led : ForFileOfLink moves page reference (λ from. Leads from reference) → IsSame (directory now ++ reference) cs
      led holds =
          (AtPathAfter-leads moves (directory page ++ reference) (directory now) cs lead reference).0
          ((ForFileOfLink-now moves page reference now (λ from. Leads from reference) is).0 holds)
    stays-in (Err e) _ = tt

    pub shortest-in : (result : Result (Option Buffer) ReferenceError)
        → IsWay (directory now) cs (IsLink (directory now) reference cs) result
        → IfOk result (λ way. IfSome way (λ way.
        ForFileOfLink moves page reference (λ from. BelowTop (λ target. IsShortestText from target way.text))))
    shortest-in (Ok None) _ = tt
    shortest-in (Ok (Some way)) (some, (other, way_is)) =
        (ForFileOfLink-now moves page reference now (λ from. BelowTop (λ target. IsShortestText from target way.text)) is).1
        (AtPathAfter-shortest moves (directory page ++ reference) (directory now) cs lead way.text some way_is)
    shortest-in (Err e) _ = tt
