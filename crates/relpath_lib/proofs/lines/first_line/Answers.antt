-- The text is cut at its first line feed, or it is its own last line.
use Rattle.std.proofs.Common.{◌≡◌, ℕ, ◌<◌, ◌==◌, List, [], ◌∷◌, length, Option, Some, None, IfSome, IfNone, unwrap_or, Bor, refl, rules}
use Rattle.std.specs.List.{slice_split}
use Rattle.relpath_lib.specs.Lines.{line_feed, lines_of}
use Rattle.relpath_lib.proofs.LinesLemmas.{lines_of-last, lines_of-next}
use Rattle.relpath_lib.proofs.lines.first_line.Goals as goal

first_of_parts : (text : List ℕ) (cut : Option (Bor (List ℕ) × Bor (List ℕ))) (whole end : Bor (List ℕ))
    → 0 < length text → IfNone cut (slice_split (λ b. b == line_feed) text ≡ text ∷ [])
    → IfSome cut (λ parts. slice_split (λ b. b == line_feed) text
    ≡ parts.0.now ∷ slice_split (λ b. b == line_feed) parts.1.now)
    → whole.now ≡ text → end.now ≡ []
    → lines_of text ≡ (unwrap_or cut (whole, end)).0.now ∷ lines_of (unwrap_or cut (whole, end)).1.now
first_of_parts text None whole end some last next is_whole is_end = rw (is_whole, is_end) (lines_of-last text last some)
first_of_parts text (Some (line, rest)) whole end some last next is_whole is_end =
    lines_of-next text line.now rest.now next

pub returns-clause-first : goal.returns-clause-first
returns-clause-first c =
    rw c.unwrap_or.ensures
    (first_of_parts c.args.text.now c.cut_at.result _ _ (search rules) c.cut_at.ensures.none c.cut_at.ensures.some
    refl refl)
