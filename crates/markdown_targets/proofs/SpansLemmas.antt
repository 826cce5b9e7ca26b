-- Spans in order, one after another.
use Rattle.std.proofs.Common.{ℕ, List, [], ◌++◌, subst, append-nil}
use Rattle.markdown_targets.specs.declared.span.PageSpan.{PageSpan}
use Rattle.markdown_targets.specs.Spans.{AreInOrder}

-- the page has the spans so far, and after them those that it has from byte `at` on
pub record AreSoFar (page : List ℕ) (spans : List PageSpan) (at : ℕ) : Type 0 where
  pub with : (more : List PageSpan) → AreInOrder page at more → AreInOrder page 0 (spans ++ more)

-- after the last span there are no more
pub AreInOrder-whole : (page : List ℕ) (spans : List PageSpan) (at : ℕ) → AreSoFar page spans at
    → AreInOrder page 0 spans
AreInOrder-whole page spans at so_far = subst (AreInOrder page 0) (append-nil spans) (so_far.with [] tt)
