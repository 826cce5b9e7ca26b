-- The text so far, and the fields that are left, are all.
use Rattle.std.proofs.Common.{◌≡◌, ◌++◌, drop, map, string_bytes}
use Rattle.std.specs.List.{flat_map}
use Rattle.relmove_journal.specs.Journals.{field_bytes}
use Rattle.relmove_journal.proofs.journal.push_fields.Given as goal

abbrev pub invariant-loop-field : goal.invariant-loop-field
invariant-loop-field l =
    string_bytes l.text ++ flat_map field_bytes (map (λ field. field.now) (drop l.field-index l.fields))
    ≡ string_bytes l.fn.text ++ flat_map field_bytes (map (λ field. field.now) l.fields)
