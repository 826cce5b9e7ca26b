-- The moves have file names; and all tests are passed.
use Rattle.relmove_checks.proofs.allowed.leaving_table.Goals as goal

pub table_of-requires : goal.table_of-requires
table_of-requires c = λ k l. ((rw c.deref.ensures.value at c.in_ok-check_paths.ensures.fine) k l).placed.named

pub returns-clause-fine : goal.returns-clause-fine
returns-clause-fine c = record {
  paths = rw (c.deref.ensures.value, c.in_ok-moves.ensures.moves) at c.in_ok-check_paths.ensures.fine;
  apart = rw c.in_ok-moves.ensures.moves at c.in_ok-table.ensures.apart;
  olds =
      (rw (c.moves.ensures.moves, c.in_ok-table.ensures.table, c.in_ok-moves.ensures.moves) at c.in_ok-check_olds.ensures.fine)
      c.args.entries.now c.requires (rw c.deref-2.ensures.value c.in_ok-foreign.ensures.paths);
}
