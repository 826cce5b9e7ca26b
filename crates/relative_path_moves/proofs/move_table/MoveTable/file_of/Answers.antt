-- The index has the number of the move whose old path leads to the place, if there is such a move.
use Rattle.relative_path_moves.specs.Moves.{moves_of}
use Rattle.relative_path_moves.specs.MoveTable.{olds_of}
use Rattle.relative_path_moves.proofs.MoveTableLemmas.{LeadToFile-found, LeadToFile-kept}
use Rattle.relative_path_moves.proofs.move_table.MoveTable.file_of.Goals as goal

pub returns-in-Some : goal.returns-in-Some
returns-in-Some c = λ cs same.
    let table = rw c.self.view_is at c.self.invariant in
    LeadToFile-found (moves_of c.args.self.now) cs _ c.in-Some.j table.apart
    (c.in-Some.ensures.found (olds_of (moves_of c.args.self.now)) cs table.olds same)
    c.paths.ensures.new

pub returns-in-None : goal.returns-in-None
returns-in-None c = λ cs same.
    let table = rw c.self.view_is at c.self.invariant in
    LeadToFile-kept (moves_of c.args.self.now) cs _ table.apart
    (c.in-None.ensures.found (olds_of (moves_of c.args.self.now)) cs table.olds same)
    (rw c.as_relative_path.ensures.text same)
