-- The path that `new_path` gives is the only one where the file is after the moves.
use Rattle.std.proofs.Common.{◌↔◌, List, ℕ, Bool, true, false, true≢false, not, IsTrue, inl, inr, refl, sym, subst}
use Rattle.relative_path.proofs.ForCallers.{IsSame-refl, IsSame-sym, IsSame-trans}
use Rattle.relative_path.specs.Normalizing.{IsNormalTextOf}
use Rattle.relative_path.specs.Steps.{Step, components}
use Rattle.relative_path.specs.Walk.{IsSame}
use Rattle.relative_path_moves.proofs.ForCallers.{IsTreePath-only}
use Rattle.relative_path_moves.specs.Moves.{Move, AreApart}
use Rattle.relative_path_moves.specs.TreeMoves.{IsLeftInPlace, IsTakenTo}
use Rattle.relmove_plan.specs.Symlinks.{GetsElsewhere}
use Rattle.relmove_plan.proofs.symlinks.gets_elsewhere.Goals as goal

-- what a move takes along gets elsewhere exactly if the new path isn't the same
elsewhere-taken : (moves : List Move) (file path : List Step) (now : List ℕ) (stays : Bool) → AreApart moves
    → IsTakenTo moves file path → IsNormalTextOf path now → IsTrue stays ↔ IsSame (components now) file
    → IsTrue (not stays) ↔ GetsElsewhere moves file
elsewhere-taken moves file path now true apart taken normal same = (
  λ is. absurd (true≢false (sym is)),
  λ elsewhere. absurd
      (elsewhere.2
      (subst (λ cs. IsSame cs file) (sym (IsTreePath-only moves file path elsewhere.0 apart (inl taken) elsewhere.1))
      (IsSame-trans normal.same (same.0 refl)))),
)
elsewhere-taken moves file path now false apart taken normal same = (
  λ is. (path, inl taken, λ leads. true≢false (sym (same.1 (IsSame-trans (IsSame-sym normal.same) leads)))),
  λ elsewhere. refl,
)

-- what no move takes along doesn't get elsewhere
elsewhere-left : (moves : List Move) (file : List Step) → AreApart moves → IsLeftInPlace moves file
    → IsTrue false ↔ GetsElsewhere moves file
elsewhere-left moves file apart left = (
  λ is. absurd (true≢false (sym is)),
  λ elsewhere. absurd
      (elsewhere.2
      (subst (λ cs. IsSame cs file) (sym (IsTreePath-only moves file file elsewhere.0 apart (inr (left, refl)) elsewhere.1))
      (IsSame-refl file))),
)

pub returns-in-Some : goal.returns-in-Some
returns-in-Some c =
    let file = components c.args.path.now in
    let taken = rw c.in-Some.is at c.in_ok-now.ensures in
    elsewhere-taken c.args.moves.now file taken.0 c.in-Some.now c.eq-stays.result c.requires taken.1 taken.2
    c.eq-stays.ensures.leads

pub returns-in-None : goal.returns-in-None
returns-in-None c =
    elsewhere-left c.args.moves.now (components c.args.path.now) c.requires (rw c.in-None.is at c.in_ok-now.ensures)
