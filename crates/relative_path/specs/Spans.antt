-- Components as spans of a text, or of one of two texts.
use Rattle.std.specs.Borrow.{Bor}
use Rattle.std.specs.Prelude.{◌≡◌, ℕ, ◌+◌, ◌-◌, ◌<◌, ◌≤◌, Option, Some, None, List, [], ◌∷◌, fold, map, length, slice_index, slice_range}
use Rattle.std.specs.List.{All}
use Rattle.std.specs.Str.{IsCharBoundary}
use Rattle.relative_path.specs.declared.spans.Source.{Source}
use Rattle.relative_path.specs.declared.spans.Source.TheVariants.{First, Second}
use Rattle.relative_path.specs.declared.spans.Sources.{Sources}
use Rattle.relative_path.specs.declared.spans.Span.{Span}
use Rattle.relative_path.specs.Writing.{with_piece}
use Rattle.relative_path.specs.Steps.{Step, name, slash, step_text, components}

-- the text of a source
abbrev pub source_text : Sources → Source → List ℕ
source_text sources First = sources.first.now
source_text sources Second = sources.second.now

-- what the span cuts out of its source
abbrev pub span_text : Sources → Span → List ℕ
span_text sources span = slice_range (source_text sources span.source) span.start span.end

-- the span is non-empty, on character boundaries, and followed by a slash or the end of its source
pub record IsRun (sources : Sources) (span : Span) : Type 0 where
  pub not_empty : span.start < span.end
  pub start : IsCharBoundary (source_text sources span.source) span.start
  pub end : IsCharBoundary (source_text sources span.source) span.end
  pub after : span.end < length (source_text sources span.source)
      → slice_index (source_text sources span.source) span.end ≡ slash

-- the span cuts the text of one component out of its source
pub record Cuts (sources : Sources) (span : Span) (c : Step) : Type 0 where
  pub run : IsRun sources span
  pub text : span_text sources span ≡ step_text c
  pub whole : components (step_text c) ≡ c ∷ []

-- the span cuts the text of a name out of its source
abbrev pub CutsName : Sources → Span → Type 0
CutsName sources span = Cuts sources span (name (span_text sources span))

-- the span ends no earlier than it starts
abbrev pub IsOrdered : Span → Type 0
IsOrdered span = span.start ≤ span.end

-- how many bytes the spans have, with a slash after each
abbrev pub spans_len : List Span → ℕ
spans_len [] = 0
spans_len (span ∷ spans) = span.end - span.start + 1 + spans_len spans

-- the same of a run and the spans after it; 0 without a run
abbrev pub rest_len : Option (Span × Bor (List Span)) → ℕ
rest_len None = 0
rest_len (Some (run, rest)) = run.end - run.start + 1 + spans_len rest.now

-- the run has the first names, each one byte after the end of the name before it; the rest of the names come after it
pub record IsFirstRun (sources : Sources) (names : List Span) (run : Span) (rest : List Span) : Type 0 where
  pub is_run : IsRun sources run
  pub cut : All (CutsName sources) rest
  pub fewer : length rest < length names
  pub len : spans_len names ≡ run.end - run.start + 1 + spans_len rest
  pub text : (text : List ℕ) → fold with_piece text (map (span_text sources) names)
      ≡ fold with_piece (with_piece text (span_text sources run)) (map (span_text sources) rest)
