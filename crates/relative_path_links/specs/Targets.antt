-- The targets of a page's links: their spans.
use Rattle.std.specs.Prelude.{◌≤◌, ℕ, List, [], ◌∷◌, length, ⊤}
use Rattle.std.specs.List.{between}
use Rattle.std.specs.Str.{IsCharBoundary}
use Rattle.markdown_targets.specs.declared.span.PageSpan.{PageSpan}
use Rattle.relative_path_links.specs.declared.target.Target.{Target}

-- the span of a target
abbrev pub span_of : Target → PageSpan
span_of target = record { start = target.start; end = target.end }

-- the text of a target in a page
abbrev pub target_text : List ℕ → Target → List ℕ
target_text page target = between target.start target.end page

-- the page has the target: its span is within the page, and both its ends are ends of characters
pub record HasTarget (page : List ℕ) (target : Target) : Type 0 where
  pub order : target.start ≤ target.end
  pub within : target.end ≤ length page
  pub start : IsCharBoundary page target.start
  pub end : IsCharBoundary page target.end

-- from byte `at` on the page has these targets, each after the end of the one before
abbrev pub HasTargets : List ℕ → ℕ → List Target → Type 0
HasTargets page at [] = ⊤
HasTargets page at (target ∷ targets) =
    (at ≤ target.start) × HasTarget page target × HasTargets page target.end targets
