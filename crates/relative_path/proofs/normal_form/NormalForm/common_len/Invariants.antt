use Rattle.std.proofs.Common.{◌≡◌, ◌+◌, drop, bytes_eq}
use Rattle.std.specs.List.{common_prefix_len}
use Rattle.relative_path.specs.NormalForm.{form_names}
use Rattle.relative_path.proofs.normal_form.NormalForm.common_len.Given as goal

abbrev pub invariant-loop-index : goal.invariant-loop-index
invariant-loop-index l =
    common_prefix_len bytes_eq (form_names l.self) (form_names l.other)
    ≡ l.index + common_prefix_len bytes_eq (drop l.index (form_names l.self)) (drop l.index (form_names l.other))
