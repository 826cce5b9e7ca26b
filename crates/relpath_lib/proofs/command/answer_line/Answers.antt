-- The fields that are read are enough to answer the line.
use Rattle.std.proofs.Common.{◌-◌, drop, length, length-drop, arith}
use Rattle.std.proofs.lemmas.List.{take_all}
use Rattle.relpath_lib.proofs.CommandLemmas.{Adds-take}
use Rattle.relpath_lib.proofs.command.answer_line.Goals as goal

pub returns : goal.returns
returns c =
    let fields = c.split_fields-fields.ensures in
    let shown = c.split_fields-fields.result.now in
    let arguments = take_all (length shown - 1) (drop 1 shown) (omega (arith, length-drop 1 shown)) in
    Adds-take c.args.line.now shown _ c.answer_command.result _ _ fields.fields fields.some
    (rw arguments at c.answer_command.ensures)
