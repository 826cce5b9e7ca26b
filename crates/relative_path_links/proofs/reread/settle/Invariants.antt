-- New targets were given up with cause alone.
use Rattle.std.specs.List.{AllZip}
use Rattle.relative_path_links.specs.Edits.{IsSettled}
use Rattle.relative_path_links.proofs.EditsLemmas.{HadCause}
use Rattle.relative_path_links.proofs.reread.settle.Given as goal

abbrev pub invariant-loop : goal.invariant-loop
invariant-loop g l = record {
  settled : AllZip IsSettled l.fn.edits.items l.settled.items;
  cause : HadCause (g.F.Finder.finds l.finder) l.page l.fn.edits.items l.settled.items l.counter;
}
