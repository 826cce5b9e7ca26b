-- Nothing leaves the same path twice.
use Rattle.std.proofs.Common.{All, AllPairs, Contains, IsPermutation, ◌≡◌, ◌≢◌, ◌⊎◌, ℕ, ◌<◌, ◌+◌, List, [], ◌∷◌, ◌++◌, inl, inr, length, map, take, refl, sym, subst, ◌∙◌, get_or-take, arith}
use Rattle.std.specs.Str.{bytes_eq}
use Rattle.std.proofs.lemmas.List.{get_or-map, length-map, length-take-le}
use Rattle.std.proofs.lemmas.List.Elements.{All-contains, All-contains_itself, All-push, All-weaker}
use Rattle.std.proofs.lemmas.List.Quantifiers.{all_pairs_push}
use Rattle.std.proofs.lemmas.List.Sorted.{IsPermutation-map}
use Rattle.std.proofs.lemmas.Map.Keys.{IsDistinct-IsPermutation}
use Rattle.std.proofs.lemmas.Map.Made.{AllPairs-from_IsDistinct, IsDistinct-from_AllPairs}
use Rattle.std.proofs.lemmas.Slice.Eq.{bytes_eq-Decides}
use Rattle.relative_path.specs.Normalizing.{IsNormalTextOf}
use Rattle.relative_path.specs.Steps.{Step, name, components}
use Rattle.relative_path.specs.Walk.{IsSame}
use Rattle.relative_path.proofs.ForCallers.{IsSame-sym, IsSame-trans}
use Rattle.relative_path_moves.specs.Moves.{Move, move_at, AreApart}
use Rattle.relative_path_places.specs.PlaceIndex.{IsNoneAt, path_at}
use Rattle.relmove_checks.specs.Trees.{AreDistinct}
use Rattle.relmove_steps.specs.StagingNames.{numbered_name}
use Rattle.relmove_steps.specs.NewFiles.{LeaveOnce, EndsUpTo, StaysThere, LeavesToo, LeaveFromEntries}
use Rattle.relmove_steps.specs.Actions.{ActionTexts, with_carried, with_removed, LeavesFrom, of_move, of_page, of_text, OnlyTheseLeave, old_paths}
use Rattle.relmove_steps.proofs.NamesLemmas.{bytes_eq-flips}
use Rattle.relmove_steps.proofs.NewFilesLemmas.{EndsUpTo-other}

-- ---- nothing leaves yet

-- ---- one thing more leaves

LeaveOnce-push : (actions : ActionTexts) (from staging : List ℕ) → All (λ step. step.0 ≢ from) actions.staged → LeaveOnce actions
    → AllPairs (λ one other. one.0 ≢ other.0) (actions.staged ++ (from, staging) ∷ [])
LeaveOnce-push actions from staging others once =
    all_pairs_push (λ (one other : List ℕ × List ℕ). one.0 ≢ other.0) actions.staged (from, staging) once others

pub LeaveOnce-with_file : (actions : ActionTexts) (from staging to : List ℕ) → All (λ step. step.0 ≢ from) actions.staged
    → LeaveOnce actions → LeaveOnce (with_carried actions from staging to)
LeaveOnce-with_file actions from staging to = LeaveOnce-push actions from staging

module _ (actions : ActionTexts) (cs : List Step) (from staging : List ℕ) (is : IsNormalTextOf cs from)
    (stays : StaysThere cs actions)
  where
    others : All (λ step. step.0 ≢ from) actions.staged
    others k d l same = stays k d l (subst (IsNormalTextOf cs) (sym same) is)

    pub LeaveOnce-with_removed : LeaveOnce actions → LeaveOnce (with_removed actions from staging)
    LeaveOnce-with_removed = LeaveOnce-push actions from staging others

    pub LeaveOnce-with_carried : (to : List ℕ) → LeaveOnce actions → LeaveOnce (with_carried actions from staging to)
    LeaveOnce-with_carried to = LeaveOnce-push actions from staging others

pub LeavesToo-same : (from : List ℕ) (actions : ActionTexts) → LeavesToo from actions actions
LeavesToo-same from actions =
    All-weaker (Contains actions.staged) (λ (step : List ℕ × List ℕ). Contains actions.staged step ⊎ (step.0 ≡ from))
    (λ step has. inl has) actions.staged (All-contains_itself actions.staged)

pub LeavesToo-with_removed : (from staging : List ℕ) (actions : ActionTexts)
    → LeavesToo from actions (with_removed actions from staging)
LeavesToo-with_removed from staging actions =
    All-push (λ (step : List ℕ × List ℕ). Contains actions.staged step ⊎ (step.0 ≡ from)) actions.staged (from, staging)
    (LeavesToo-same from actions) (inr refl)

-- the same in another order
pub LeaveOnce-IsPermutation : (actions more : ActionTexts) → IsPermutation actions.staged more.staged → LeaveOnce actions
    → LeaveOnce more
LeaveOnce-IsPermutation actions more moved once =
    let one = λ (step : List ℕ × List ℕ). step.0 in
    let froms : AllPairs (λ one other. one ≢ other) (map one actions.staged) =
    λ i j d l within.
    let count = length-map actions.staged one in
    let first = get_or-map one actions.staged i (d, []) d (omega (arith, l, within, count)) in
    let second = get_or-map one actions.staged j (d, []) d (omega (arith, within, count)) in
    λ same. once i j (d, []) l (omega (arith, within, count)) (sym first ∙ same ∙ second) in
    let distinct = IsDistinct-IsPermutation bytes_eq bytes_eq-flips (map one actions.staged) (map one more.staged)
    (IsPermutation-map one actions.staged more.staged moved)
    (IsDistinct-from_AllPairs bytes_eq-Decides (map one actions.staged) froms) in
    let others = AllPairs-from_IsDistinct bytes_eq-Decides (map one more.staged) distinct in
    λ i j d l within.
    let count = length-map more.staged one in
    let first = get_or-map one more.staged i d d.0 (omega (arith, l, within)) in
    let second = get_or-map one more.staged j d d.0 within in
    λ same. others i j d.0 l (omega (arith, within, count)) (first ∙ same ∙ sym second)

-- ---- an entry is there, or none is

pub IsNoneAt-same : (entries : List (List Step)) (cs ds : List Step) → IsSame cs ds → IsNoneAt entries ds
    → IsNoneAt entries cs
IsNoneAt-same entries cs ds same none = λ k l there. none k l (IsSame-trans (IsSame-sym same) there)

-- no earlier path leads where the next one does
pub IsNoneAt-take : (paths : List (List Step)) (k : ℕ) → AreDistinct paths → k < length paths
    → IsNoneAt (take k paths) (path_at paths k)
IsNoneAt-take paths k distinct within = λ j l same.
    let count = length-take-le k paths (omega (arith, within)) in
    let less : j < k = omega (arith, l, count) in
    (distinct k within).first j less (subst (IsSame (path_at paths k)) (get_or-take k paths j [] less) same)

-- ---- the moves, one after another

module _ (moves : List Move) (k : ℕ) (within : k < length moves) where
  abbrev some : Move
  some = record { old = []; new = [] }

  count : length (take k moves) ≡ k
  count = length-take-le k moves (omega (arith, within))

  pub count_more : length (take (k + 1) moves) ≡ k + 1
  count_more = length-take-le (k + 1) moves (omega (arith, within))

  pub move_at-take_more : move_at (take (k + 1) moves) k ≡ move_at moves k
  move_at-take_more = get_or-take (k + 1) moves k some (omega arith)

  move_at-take : (j : ℕ) → j < k → move_at (take k moves) j ≡ move_at moves j
  move_at-take j less = get_or-take k moves j some less

  -- what leaves by some moves leaves by more moves
  pub OnlyTheseLeave-more_moves : (paths : List (List Step)) (actions : ActionTexts) → OnlyTheseLeave (take k moves) paths actions
      → OnlyTheseLeave (take (k + 1) moves) paths actions
  OnlyTheseLeave-more_moves paths actions =
      All-weaker (λ (step : List ℕ × List ℕ). LeavesFrom (take k moves) paths actions.texts step.0)
      (λ (step : List ℕ × List ℕ). LeavesFrom (take (k + 1) moves) paths actions.texts step.0) (λ step. by step.0) actions.staged
    where
      by : (from : List ℕ) → LeavesFrom (take k moves) paths actions.texts from
          → LeavesFrom (take (k + 1) moves) paths actions.texts from
      by from (of_move j l is) =
          let less : j < k = omega (arith, l, count) in
          let here = move_at-take j less ∙ sym (get_or-take (k + 1) moves j some (omega (arith, less))) in
          of_move j (omega (arith, less, count_more)) (subst (λ (move : Move). IsNormalTextOf move.old from) here is)
      by from (of_page j l is) = of_page j l is
      by from (of_text page text has) = of_text page text has

  -- nothing leaves yet from where the next move leads from
  pub StaysThere-move : (actions : ActionTexts) → AreApart moves → actions.texts ≡ [] → OnlyTheseLeave (take k moves) [] actions
      → StaysThere (move_at moves k).old actions
  StaysThere-move actions apart none =
      All-weaker (λ (step : List ℕ × List ℕ). LeavesFrom (take k moves) [] actions.texts step.0)
      (λ (step : List ℕ × List ℕ). ¬ IsNormalTextOf (move_at moves k).old step.0) (λ step. by step.0) actions.staged
    where
      by : (from : List ℕ) → LeavesFrom (take k moves) [] actions.texts from → ¬ IsNormalTextOf (move_at moves k).old from
      by from (of_move j l is) there =
          let less : j < k = omega (arith, l, count) in
          let old = subst (λ (move : Move). IsNormalTextOf move.old from) (move_at-take j less) is in
          apart j k (record { before = less; within = within; same = IsSame-trans old.same (IsSame-sym there.same) })
      by from (of_page j l is) there = absurd (let w : j < 0 = l in omega (arith, w))
      by from (of_text page text has) there =
          let has_none = subst (λ texts. Contains texts (page, from, text)) none has in
          let w : has_none.0 < 0 = has_none.1 in absurd (omega (arith, w))

-- ---- the pages, one after another

pub OnlyTheseLeave-more_pages : (moves : List Move) (paths : List (List Step)) (k : ℕ) (actions : ActionTexts) → k < length paths
    → OnlyTheseLeave moves (take k paths) actions → OnlyTheseLeave moves (take (k + 1) paths) actions
OnlyTheseLeave-more_pages moves paths k actions within =
    All-weaker (λ (step : List ℕ × List ℕ). LeavesFrom moves (take k paths) actions.texts step.0)
    (λ (step : List ℕ × List ℕ). LeavesFrom moves (take (k + 1) paths) actions.texts step.0) (λ step. by step.0) actions.staged
  where
    by : (from : List ℕ) → LeavesFrom moves (take k paths) actions.texts from
        → LeavesFrom moves (take (k + 1) paths) actions.texts from
    by from (of_move j l is) = of_move j l is
    by from (of_page j l is) =
        let count = length-take-le k paths (omega (arith, within)) in
        let count_more = length-take-le (k + 1) paths (omega (arith, within)) in
        let less : j < k = omega (arith, l, count) in
        let here = get_or-take k paths j [] less ∙ sym (get_or-take (k + 1) paths j [] (omega (arith, less))) in
        of_page j (omega (arith, less, count_more)) (subst (λ path. IsNormalTextOf path from) here is)
    by from (of_text page text has) = of_text page text has

-- nothing leaves yet from where the next page is, if no move leads from there
pub StaysThere-page : (entries before : List (List Step)) (moves : List Move) (actions : ActionTexts) (cs : List Step)
    → IsNoneAt (old_paths moves) cs → IsNoneAt before cs → ¬ IsNoneAt entries cs
    → All (λ new. IsNoneAt entries (components new.1)) actions.texts → OnlyTheseLeave moves before actions
    → StaysThere cs actions
StaysThere-page entries before moves actions cs no_move no_page entry unused =
    All-weaker (λ (step : List ℕ × List ℕ). LeavesFrom moves before actions.texts step.0)
    (λ (step : List ℕ × List ℕ). ¬ IsNormalTextOf cs step.0) (λ step. by step.0) actions.staged
  where
    by : (from : List ℕ) → LeavesFrom moves before actions.texts from → ¬ IsNormalTextOf cs from
    by from (of_move k l is) there =
        let within : k < length (old_paths moves) = rw (length-map moves (λ (move : Move). move.old)) l in
        let here : path_at (old_paths moves) k ≡ (move_at moves k).old =
        get_or-map (λ (move : Move). move.old) moves k (record { old = []; new = [] }) [] l in
        no_move k within (subst (IsSame cs) (sym here) (IsSame-trans there.same (IsSame-sym is.same)))
    by from (of_page k l is) there = no_page k l (IsSame-trans there.same (IsSame-sym is.same))
    by from (of_text page text has) there =
        entry (IsNoneAt-same entries cs (components from) there.same
        (All-contains (λ (new : List ℕ × List ℕ × List ℕ). IsNoneAt entries (components new.1)) actions.texts
        (page, from, text) unused has))

-- a new file isn't what leaves from an entry
module _ (entries : List (List Step)) (file : List ℕ) (unused : IsNoneAt entries (components file)) where
  file-other : (cs : List Step) (from : List ℕ) → IsNormalTextOf cs from → ¬ IsNoneAt entries cs → from ≢ file
  file-other cs from is entry same =
      entry (IsNoneAt-same entries cs (components file) (subst (λ text. IsSame cs (components text)) same is.same) unused)

  -- so nothing leaves yet from a new file
  pub file-leaves : (paths : List (List Step)) (moves : List Move) (before actions more : ActionTexts) (k last number : ℕ)
      (page : List ℕ) (above : List Step) → k < length paths → LeaveFromEntries entries moves paths
      → All (λ new. EndsUpTo last new.1) before.texts → last < number
      → components file ≡ above ++ name (numbered_name number) ∷ []
      → OnlyTheseLeave moves (take k paths) before → actions.staged ≡ before.staged
      → IsNormalTextOf (path_at paths k) page → LeavesToo page actions more → All (λ step. step.0 ≢ file) more.staged
  file-leaves paths moves before actions more k last number page above within leave numbered late ends only same page_is =
      All-weaker (λ (step : List ℕ × List ℕ). Contains actions.staged step ⊎ (step.0 ≡ page))
      (λ (step : List ℕ × List ℕ). step.0 ≢ file) by more.staged
    where
      left : (from : List ℕ) → LeavesFrom moves (take k paths) before.texts from → from ≢ file
      left from (of_move j l is) = file-other (move_at moves j).old from is (leave.olds j l)
      left from (of_page j l is) =
          let count = length-take-le k paths (omega (arith, within)) in
          let less : j < k = omega (arith, l, count) in
          let here = get_or-take k paths j [] less in
          file-other (path_at paths j) from (subst (λ path. IsNormalTextOf path from) here is)
          (leave.pages_there j (omega (arith, less, within)))
      left from (of_text other text has) =
          EndsUpTo-other from file last number
          (All-contains (λ (new : List ℕ × List ℕ × List ℕ). EndsUpTo last new.1) before.texts (other, from, text) numbered
          has) late above ends

      by : (step : List ℕ × List ℕ) → Contains actions.staged step ⊎ (step.0 ≡ page) → step.0 ≢ file
      by step (inl has) =
          left step.0
          (All-contains (λ (step : List ℕ × List ℕ). LeavesFrom moves (take k paths) before.texts step.0) before.staged step
          only (subst (λ staged. Contains staged step) same has))
      by step (inr is) = λ equal.
          file-other (path_at paths k) page page_is (leave.pages_there k within) (sym is ∙ equal)
