-- The fields so far, and then those of the remaining text, are the fields of the line.
use Rattle.std.proofs.Common.{◌≡◌, ◌-◌, ◌≤◌, ◌++◌, length, map, take}
use Rattle.relpath_lib.specs.Lines.{fields_of, fields_left}
use Rattle.relpath_lib.specs.declared.lines.TheConstants.{MAX_FIELDS}
use Rattle.relpath_lib.proofs.lines.split_fields.Given as goal

abbrev pub invariant-loop-count : goal.invariant-loop-count
invariant-loop-count l = record {
  count : l.count ≤ MAX_FIELDS;
  room : length l.room ≡ MAX_FIELDS;
  fields : fields_of l.line ≡ map (λ field. field.now) (take l.count l.room) ++ fields_left l.left;
}

abbrev pub decreases-loop-count : goal.decreases-loop-count
decreases-loop-count l = MAX_FIELDS - l.count
