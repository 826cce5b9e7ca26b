-- What a text ends in: its last word. A word has no slash, and at most its last byte isn't a path byte.
use Rattle.std.specs.Prelude.{ℕ, Bool, true, false, ◌==◌, ◌||◌, List, IsTrue, not, if◌then◌else◌}
use Rattle.std.specs.List.{fold, list_any}
use Rattle.percent_encoding.specs.Percent.{percent_sign}
use Rattle.relative_path.specs.Steps.{dot, is_slash}
use Rattle.relmove_mentions.specs.Hashes.{may_have}
use Rattle.relmove_mentions.specs.NameHashes.{next_hash}
use Rattle.relmove_mentions.specs.Spans.{IsBounded, is_other_byte, span_bytes}
use Rattle.relmove_mentions.specs.declared.endings.Ending.{Ending}
use Rattle.relmove_mentions.specs.declared.hashes.Hashes.{Hashes}
use Rattle.relmove_mentions.specs.declared.text_span.TextSpan.{TextSpan}

-- what the empty text ends in
abbrev pub no_ending : Ending
no_ending = record { hash = 0; encoded = false; ended = true }

-- a word with one more byte. A byte that doesn't go on a path ends it
abbrev pub with_byte : Ending → ℕ → Ending
with_byte ending b =
    record { hash = next_hash ending.hash b; encoded = ending.encoded || b == percent_sign; ended = is_other_byte b }

-- what a text ends in with one more byte
abbrev pub next_ending : Ending → ℕ → Ending
next_ending ending b =
    if is_slash b
    then record { hash = ending.hash; encoded = ending.encoded; ended = true }
    else with_byte (if ending.ended then no_ending else ending) b

-- what a text ends in
abbrev pub ending_of : List ℕ → Ending
ending_of text = fold next_ending no_ending text

-- the text has a byte that is no slash
abbrev pub has_name : List ℕ → Bool
has_name text = list_any (λ b. not (is_slash b)) text

-- a name of which the set has the ending may end as a text does
abbrev pub may_end : Hashes → Ending → Bool
may_end set ending = ending.encoded || ending.hash == dot || may_have set ending.hash

-- at this span a name can stand of which the set has the ending
pub record IsCandidate (set : Hashes) (text : List ℕ) (span : TextSpan) : Type 0 where
  pub bounded : IsBounded text span
  pub named : IsTrue (has_name (span_bytes text span))
  pub ends : IsTrue (may_end set (ending_of (span_bytes text span)))
