-- What is written is normal; with the components that are left it leads where the path leads, and fits the buffer.
use Rattle.std.proofs.Common.{◌≤◌, ◌≡◌, length, take}
use Rattle.std.specs.Str.{IsUtf8}
use Rattle.relative_path.specs.Components.{components_left}
use Rattle.relative_path.specs.Steps.{components}
use Rattle.relative_path.proofs.NormalizingLemmas.{Normalizes}
use Rattle.relative_path.proofs.bytes.normalize_within.Given as goal

abbrev pub invariant-loop-component : goal.invariant-loop-component
invariant-loop-component l = record {
  normalizes : Normalizes (components l.fn.text) (length l.fn.text) (take l.len l.out)
      (components_left l.component-iterator);
  utf8 : IsUtf8 (take l.len l.out);
  within : l.len ≤ length l.out;
  size : length l.out ≡ length l.fn.out;
}
