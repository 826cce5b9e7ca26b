-- The edits so far are settled.
use Rattle.std.proofs.Common.{◌≡◌, false, take, IsNone}
use Rattle.std.specs.List.{AllZip, list_any}
use Rattle.relative_path_links.specs.Edits.{IsSettled, is_new}
use Rattle.relative_path_links.proofs.reread.give_up.Given as goal

abbrev pub invariant-loop-k : goal.invariant-loop-k
invariant-loop-k l = record {
  settled : AllZip IsSettled l.fn.edits l.edits;
  all : IsNone l.number → list_any (λ edit. is_new edit.change) (take l.k l.edits) ≡ false;
}
