-- The map has the texts of the pages so far.
use Rattle.std.proofs.Common.{take}
use Rattle.relmove_planned.specs.Plans.{ArePageTexts, HaveTexts}
use Rattle.relmove_work.specs.Pages.{page_texts}
use Rattle.relmove_planned.proofs.pages.texts_by_path.Given as goal

abbrev pub invariant-loop-page : goal.invariant-loop-page
invariant-loop-page l =
    ArePageTexts (take l.page-index l.pages) (page_texts l.texts) × HaveTexts (take l.page-index l.pages) (page_texts l.texts)
