-- Spans of a text at which a path can be written.
use Rattle.std.specs.Prelude.{◌≡◌, ◌⊎◌, ℕ, ◌<◌, ◌≤◌, ◌+◌, ◌-◌, Bool, not, ◌==◌, ◌||◌, ◌&&◌, nat_lt, nat_le, List, [], ◌∷◌, length, take, drop, slice_index, IsTrue, ⊤}
use Rattle.std.specs.Char.{is_ascii_alphanumeric}
use Rattle.std.specs.List.{count_by, list_all}
use Rattle.percent_encoding.specs.Percent.{percent_sign}
use Rattle.relative_path.specs.Steps.{is_slash}
use Rattle.relmove_mentions.specs.declared.text_span.TextSpan.{TextSpan}

-- the byte goes on a path: an ASCII letter or digit, `%`, `-`, `.`, `/`, `_`, or a byte above 127
abbrev pub is_path_byte : ℕ → Bool
is_path_byte b = is_ascii_alphanumeric b || b == 37 || b == 45 || b == 46 || b == 47 || b == 95 || nat_lt 127 b

-- any other byte
abbrev pub is_other_byte : ℕ → Bool
is_other_byte b = not (is_path_byte b)

-- the byte is a slash, or may begin one that is encoded
abbrev pub may_separate : ℕ → Bool
may_separate b = is_slash b || b == percent_sign

-- how many other bytes a text has
abbrev pub others_in : List ℕ → ℕ
others_in text = count_by is_other_byte text

-- no path goes on across this offset from the byte before it
abbrev pub is_bounded_before : List ℕ → ℕ → Bool
is_bounded_before text start = start == 0 || is_other_byte (slice_index text (start - 1))

-- no path goes on with the byte at this offset
abbrev pub is_bounded_at : List ℕ → ℕ → Bool
is_bounded_at text end = nat_le (length text) end || is_other_byte (slice_index text end)

-- no path goes on across this offset to the byte after it, or that byte is a full stop with which none goes on
abbrev pub is_bounded_after : List ℕ → ℕ → Bool
is_bounded_after text end =
    is_bounded_at text end || (slice_index text end == 46 && is_bounded_at text (end + 1))

-- the span has a byte, and no path goes on across its ends
pub record IsBounded (text : List ℕ) (span : TextSpan) : Type 0 where
  pub order : span.start < span.end
  pub within : span.end ≤ length text
  pub before : IsTrue (is_bounded_before text span.start)
  pub after : IsTrue (is_bounded_after text span.end)

-- the bytes of the span
abbrev pub span_bytes : List ℕ → TextSpan → List ℕ
span_bytes text span = take (span.end - span.start) (drop span.start text)

-- the span has no byte of the other: that one is empty, or one of them ends before the other begins
abbrev pub is_apart : TextSpan → TextSpan → Bool
is_apart span other = nat_le other.end other.start || (nat_le span.end other.start || nat_le other.end span.start)

-- the span has no byte of any of the others
abbrev pub IsApartFrom : List TextSpan → TextSpan → Type 0
IsApartFrom others span = IsTrue (list_all (is_apart span) others)

-- a span that begins at this offset or later is apart from all others exactly if it is apart from those after so many
abbrev pub ArePassed : List TextSpan → ℕ → ℕ → Type 0
ArePassed others passed at = (span : TextSpan) → at ≤ span.start
    → list_all (is_apart span) (drop passed others) ≡ list_all (is_apart span) others

-- the span begins before this start, or begins there and ends before this end
abbrev pub IsEarlier : TextSpan → ℕ → ℕ → Type 0
IsEarlier span start end = (span.start < start) ⊎ (span.start ≡ start) × (span.end < end)

-- the first span begins first, or both begin at once and it ends first
abbrev pub ComesBefore : TextSpan → TextSpan → Type 0
ComesBefore span other = IsEarlier span other.start other.end

-- from this offset on, each span begins where the one before ends, or later
abbrev pub FollowFrom : ℕ → List TextSpan → Type 0
FollowFrom at [] = ⊤
FollowFrom at (span ∷ spans) = (at ≤ span.start) × (span.start ≤ span.end) × FollowFrom span.end spans
