-- The index has the paths so far.
use Rattle.std.proofs.Common.{◌≡◌, length, take}
use Rattle.relative_path_places.specs.PlaceIndex.{Indexes}
use Rattle.relmove_steps.specs.Pages.{changed_paths}
use Rattle.relmove_steps.proofs.PagesLemmas.{count_changed}
use Rattle.relmove_steps.proofs.changed.changed_index.Given as goal

abbrev pub invariant-loop-page : goal.invariant-loop-page
invariant-loop-page l = record {
  count : l.number ≡ count_changed l.pages l.news (length l.yielded);
  has : Indexes (take l.number (changed_paths l.pages l.news)) l.index;
}
