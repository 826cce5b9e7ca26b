-- One rename to the name is pushed, and one from it.
use Rattle.std.proofs.Common.{string_bytes, refl}
use Rattle.relmove_steps.specs.Actions.{from_name, to_name}
use Rattle.relmove_steps.proofs.ActionsLemmas.{map_push-same}
use Rattle.relmove_steps.proofs.renames.add_carried.Goals as goal

pub returns : goal.returns
returns c =
    let leaves =
    map_push-same to_name c.args.renames.now.leaving.items c.push.new.self.items _
    (string_bytes c.args.from, c.args.name.now) c.in_ok-push.ensures.items (rw c.in_ok-from_str.ensures.ok refl) in
    let comes =
    map_push-same from_name c.args.renames.now.arrivals.items c.push-2.new.self.items _
    (c.args.name.now, string_bytes c.args.to) c.in_ok-push-2.ensures.items (rw c.in_ok-from_str-2.ensures.ok refl) in
    rw (leaves, comes) refl
