-- The mentions of old paths in a file.
use Rattle.std.specs.Prelude.{◌≡◌, ◌≤◌, ◌<◌, ℕ, List, map}
use Rattle.std.specs.List.{All, AllPairs, Contains}
use Rattle.relative_path_places.specs.Views.{view_text}
use Rattle.relmove_mentions.specs.Spans.{others_in, span_bytes, ComesBefore, IsApartFrom, IsBounded, IsEarlier}
use Rattle.relmove_mentions.specs.Written.{IsWritten}
use Rattle.relmove_mentions.specs.declared.file_text.FileText.{FileText}
use Rattle.relmove_mentions.specs.declared.mentions.Mention.{Mention}
use Rattle.relmove_mentions.specs.declared.text_span.TextSpan.{TextSpan}

-- at this span of a file stands one of the old paths, outside what was read. The span has at most as many bytes that don't
-- go on a path as that path has
pub record IsMention (olds : List (List ℕ)) (file : FileText) (span : TextSpan) (old : List ℕ) : Type 0 where
  pub is_old : Contains olds old
  pub bounded : IsBounded file.text.now span
  pub few : others_in (span_bytes file.text.now span) ≤ others_in old
  pub unread : IsApartFrom file.read.now span
  pub written : IsWritten olds file (span_bytes file.text.now span) old

-- the mentions that begin at an offset or later, and have bytes that don't go on a path, begin at another offset or later
abbrev pub HaveOthersFrom : List (List ℕ) → FileText → ℕ → ℕ → Type 0
HaveOthersFrom olds file start first = (span : TextSpan) (old : List ℕ) → IsMention olds file span old → start ≤ span.start
    → 0 < others_in (span_bytes file.text.now span) → first ≤ span.start

-- the mentions that begin at an offset have at most so many bytes that don't go on a path
pub record HaveAtMost (olds : List (List ℕ)) (file : FileText) (start most : ℕ) : Type 0 where
  pub few : (span : TextSpan) (old : List ℕ) → IsMention olds file span old → span.start ≡ start
      → others_in (span_bytes file.text.now span) ≤ most

-- the spans of mentions
abbrev pub spans_of : List Mention → List TextSpan
spans_of mentions = map (λ mention. mention.span) mentions

-- these are the mentions whose spans come before a span with this start and this end
pub record AreMentionsBefore (olds : List (List ℕ)) (file : FileText) (mentions : List Mention) (start end : ℕ) : Type 0 where
  pub sound : All (λ mention. IsMention olds file mention.span (view_text mention.path)) mentions
  pub in_order : AllPairs ComesBefore (spans_of mentions)
  pub before : All (λ mention. IsEarlier mention.span start end) mentions
  pub complete : (span : TextSpan) (old : List ℕ) → IsMention olds file span old → IsEarlier span start end
      → Contains (spans_of mentions) span
