-- The slug gets its number, and the name is taken.
use Rattle.std.proofs.Common.{Some, string_bytes}
use Rattle.std.proofs.lemmas.Map.Text.{btree_map_updates_text}
use Rattle.markdown_anchors.proofs.NamesLemmas.{AddsFirstFree-set}
use Rattle.markdown_anchors.proofs.names.take_name.Goals as goal

pub returns : goal.returns
returns c =
    let slug = c.args.slug.now in
    let number = c.in_ok-number.number in
    let numbers = btree_map_updates_text (string_bytes c.in_ok-from_str.field-0) c.args.taken.now c.insert.new.self
    (Some number) c.in_ok-insert.ensures.updates in
    let adds = btree_map_updates_text (string_bytes c.in_ok-numbered.field-0) c.insert.new.self c.insert-2.new.self
    (Some 0) c.in_ok-insert-2.ensures.updates in
    rw c.in_ok-name.ensures (AddsFirstFree-set c.args.taken.now c.insert.new.self c.insert-2.new.self slug c.next_number-from.result
    number c.requires c.next_number-from.ensures c.in_ok-number.ensures
    (rw c.in_ok-from_str.ensures.ok at numbers) (rw c.in_ok-numbered.ensures at adds))
