-- One text is pushed.
use Rattle.std.proofs.Common.{map, string_bytes, ap, refl}
use Rattle.relmove_steps.specs.Actions.{from_name, new_text, to_name}
use Rattle.relmove_steps.proofs.ActionsLemmas.{map_push-same}
use Rattle.relmove_steps.proofs.renames.add_text.Goals as goal

pub returns : goal.returns
returns c =
    let page = c.in_ok-from_str.ensures.ok in
    let file = c.in_ok-from_str-2.ensures.ok in
    let text = c.in_ok-from_str-3.ensures.ok in
    let written =
    map_push-same new_text c.args.renames.now.texts.items c.push.new.self.items _
    (c.args.page.now, c.args.file.now, c.args.text.now) c.in_ok-push.ensures.items (rw (page, file, text) refl) in
    ap (λ texts. record {
      texts = texts;
      staged = map to_name c.args.renames.now.leaving.items;
      placed = map from_name c.args.renames.now.arrivals.items;
      removed = map string_bytes c.args.renames.now.removed.items;
    }) written
