-- Spans of a page.
use Rattle.std.specs.Prelude.{ℕ, ◌≤◌, List, [], ◌∷◌, length, ⊤}
use Rattle.std.specs.Str.{IsCharBoundary}
use Rattle.markdown_targets.specs.declared.span.PageSpan.{PageSpan}

-- the span is within the page, and both its ends are ends of characters
pub record IsSpanOf (page : List ℕ) (span : PageSpan) : Type 0 where
  pub order : span.start ≤ span.end
  pub within : span.end ≤ length page
  pub start : IsCharBoundary page span.start
  pub end : IsCharBoundary page span.end

-- from byte `at` on the page has these spans, each after the end of the one before
abbrev pub AreInOrder : List ℕ → ℕ → List PageSpan → Type 0
AreInOrder page at [] = ⊤
AreInOrder page at (span ∷ spans) = (at ≤ span.start) × IsSpanOf page span × AreInOrder page span.end spans
