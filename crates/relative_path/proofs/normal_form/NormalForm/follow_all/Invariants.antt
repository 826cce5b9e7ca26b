-- The text that is left is a suffix, doesn't begin with a slash, and comes after what the form has followed.
use Rattle.std.proofs.Common.{◌≡◌, ◌≢◌, ◌+◌, ◌-◌, ◌≤◌, ◌++◌, drop, length, slice_index}
use Rattle.relative_path.specs.Components.{text_left, components_left}
use Rattle.relative_path.specs.NormalForm.{form_steps, form_len, form_room, Reduces}
use Rattle.relative_path.specs.Steps.{slash, components}
use Rattle.relative_path.proofs.normal_form.NormalForm.follow_all.Given as goal

abbrev pub invariant-loop-component : goal.invariant-loop-component
invariant-loop-component l =
    let left = text_left l.left in
    record {
      sources : l.self.sources ≡ l.fn.self.sources;
      suffix : left ≡ drop (length l.text - length left) l.text;
      no_slash : slice_index left 0 ≢ slash;
      steps : Reduces (form_steps l.fn.self ++ components l.text) (form_steps l.self ++ components_left l.left);
      len : form_len l.self + length (components_left l.left) ≤ form_len l.fn.self + length (components l.text);
      room : form_room l.self ≡ form_room l.fn.self;
    }

abbrev pub decreases-loop-component : goal.decreases-loop-component
decreases-loop-component l = length (components_left l.left)
