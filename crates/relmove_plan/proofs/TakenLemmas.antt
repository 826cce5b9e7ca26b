-- Where the moves take a place, and what is above it and below it.
use Rattle.std.proofs.Common.{◌≡◌, ℕ, ◌≤◌, List, [], ◌++◌, Some, length, map, refl, sym, ap, ◌∙◌, append_assoc, arith}
use Rattle.std.proofs.lemmas.List.{length-append}
use Rattle.relative_path.proofs.ForCallers.{walk-names}
use Rattle.relative_path.specs.Steps.{Step, name}
use Rattle.relative_path.specs.Walk.{place_of}
use Rattle.relative_path_moves.proofs.ForCallers.{AtTreePath-same, IsTreePath-only}
use Rattle.relative_path_moves.specs.Moves.{AreApart, Move, move_at}
use Rattle.relative_path_moves.specs.TreeMoves.{IsLeftInPlace, IsNearest, IsTakenTo, IsTreePath, TakesAlong}
use Rattle.relmove_plan.proofs.WholeTreesLemmas.{IsSame-one_place, some_of}
use Rattle.relmove_plan.specs.MovedTrees.{AreTakenTo}

-- what takes a place along takes along what is below it
pub takes-more : (moves : List Move) (place whole below others : List (List ℕ)) (k : ℕ) → TakesAlong moves place k others
    → whole ≡ place ++ below → TakesAlong moves whole k (others ++ below)
takes-more moves place whole below others k takes is = record {
  within = takes.within;
  top = takes.top;
  old = takes.old;
  down = is ∙ ap (λ top. top ++ below) takes.down ∙ append_assoc takes.top others below;
}

-- if the nearest move takes a place along with what is above it, it is the nearest to what is above too
pub IsNearest-above : (moves : List Move) (place all below others : List (List ℕ)) (j : ℕ) (nearest : IsNearest moves place j all)
    → all ≡ below ++ others → IsNearest moves (nearest.takes.top ++ below) j below
IsNearest-above moves place all below others j nearest is = record {
  takes = record { within = nearest.takes.within; top = nearest.takes.top; old = nearest.takes.old; down = refl };
  nearest = λ k rest takes.
      let place_is : place ≡ (nearest.takes.top ++ below) ++ others =
      nearest.takes.down ∙ ap (λ below. nearest.takes.top ++ below) is ∙ sym (append_assoc nearest.takes.top below others) in
      let more : length all ≤ length (rest ++ others) =
      nearest.nearest k (rest ++ others)
      (takes-more moves (nearest.takes.top ++ below) place others rest k takes place_is) in
      let long = ap length is ∙ length-append below others in
      let long_2 = length-append rest others in
      omega (arith, more, long, long_2);
}

-- so what is above the one is taken along with it
pub IsTakenTo-above : (moves : List Move) (cs ds target : List Step) (taken : IsTakenTo moves cs target)
    (below others : List (List ℕ)) → taken.below ≡ below ++ others → place_of ds ≡ Some (taken.nearest.takes.top ++ below)
    → IsTakenTo moves ds ((move_at moves taken.move).new ++ map name below)
IsTakenTo-above moves cs ds target taken below others is leads = record {
  place = taken.nearest.takes.top ++ below;
  leads = leads;
  move = taken.move;
  below = below;
  nearest = IsNearest-above moves taken.place taken.below below others taken.move taken.nearest is;
  new = refl;
}

-- above what no move takes along is what no move takes along
pub IsLeftInPlace-above : (moves : List Move) (cs ds : List Step) (place top below : List (List ℕ)) → place_of cs ≡ Some place
    → place_of ds ≡ Some top → place ≡ top ++ below → IsLeftInPlace moves cs → IsLeftInPlace moves ds
IsLeftInPlace-above moves cs ds place top below leads leads_2 is left q k others leads_3 takes =
    left place k (others ++ below) leads
    (takes-more moves q place below others k takes
    (is ∙ ap (λ top. top ++ below) (some_of (sym leads_2 ∙ leads_3))))

-- what is where the list leads is taken to where its target leads
pub AreTakenTo-target : (moves : List Move) (cs target : List Step) (from to : List (List ℕ)) → place_of cs ≡ Some from
    → IsTreePath moves cs target → place_of target ≡ Some to → AreTakenTo moves from to
AreTakenTo-target moves cs target from to leads is there =
    AtTreePath-same moves cs (map name from) (λ t. place_of t ≡ Some to) (λ t. place_of t ≡ Some to)
    (IsSame-one_place from leads (walk-names [] from)) (λ t u same e. sym (same.everywhere []) ∙ e) (target, is, there)

-- a place is taken to one place
pub AreTakenTo-only : (moves : List Move) (from one other : List (List ℕ)) → AreApart moves → AreTakenTo moves from one
    → AreTakenTo moves from other → one ≡ other
AreTakenTo-only moves from one other apart (target, is, leads) (target_2, is_2, leads_2) =
    some_of (sym leads ∙ ap place_of (IsTreePath-only moves (map name from) target_2 target apart is_2 is) ∙ leads_2)
