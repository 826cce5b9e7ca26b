-- The map's entry for the normal text gets the number if it is vacant.
use Rattle.std.proofs.Common.{string_bytes, arith}
use Rattle.std.proofs.lemmas.Map.Text.{text_keys}
use Rattle.relative_path_places.proofs.PlaceIndexLemmas.{Indexes-insert, IsFirstAt-insert}
use Rattle.relative_path_places.proofs.place_index.PlaceIndex.insert_normal.Goals as goal

pub returns-clause-indexes : goal.returns-clause-indexes
returns-clause-indexes c = λ paths cs index next normal.
    Indexes-insert paths cs c.args.self.now _ (string_bytes c.into_string-text.result) c.args.number
    (rw (c.into_string-text.ensures.text, c.into_relative_path_buf.ensures.text) normal)
    (λ other. grind (arith, text_keys)) index next

pub returns-clause-first : goal.returns-clause-first
returns-clause-first c = λ paths cs index next normal.
    IsFirstAt-insert paths cs c.args.self.now (string_bytes c.into_string-text.result) c.args.number
    c.or_insert.result.now (rw (c.into_string-text.ensures.text, c.into_relative_path_buf.ensures.text) normal)
    (grind (arith, text_keys)) index next
