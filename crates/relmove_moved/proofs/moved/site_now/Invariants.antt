-- There is a page for each one that was passed.
use Rattle.std.proofs.Common.{◌≡◌, length}
use Rattle.relmove_moved.proofs.moved.site_now.Given as goal

abbrev pub invariant-loop-page : goal.invariant-loop-page
invariant-loop-page l = length l.site.items ≡ l.page-index
