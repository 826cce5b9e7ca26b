-- One rename to the name is pushed, and the name.
use Rattle.std.proofs.Common.{Global, string_bytes, refl}
use Rattle.relmove_steps.specs.Actions.{to_name}
use Rattle.relmove_steps.proofs.ActionsLemmas.{map_push-same}
use Rattle.relmove_steps.proofs.renames.add_removed.Goals as goal

pub returns : goal.returns
returns c =
    let leaves =
    map_push-same to_name c.args.renames.now.leaving.items c.push.new.self.items _
    (string_bytes c.args.from, c.args.name.now) c.in_ok-push.ensures.items (rw c.in_ok-from_str.ensures.ok refl) in
    let removed =
    map_push-same (string_bytes {Z = Global}) c.args.renames.now.removed.items c.push-2.new.self.items _
    c.args.name.now c.in_ok-push-2.ensures.items c.in_ok-from_str-2.ensures.ok in
    rw (leaves, removed) refl
