use Rattle.std.proofs.Common.{[], ◌∷◌, ◌++◌, codes, string_bytes}
use Rattle.std.specs.Fmt.{decimal}
use Rattle.relmove_journal.specs.Journals.{line_bytes, stage_name}
use Rattle.relmove_journal.proofs.LoopLemmas.{grows}
use Rattle.relmove_journal.proofs.journal.push_head.Goals as goal

pub returns : goal.returns
returns c =
    let old = string_bytes c.args.text.now in
    let root = line_bytes (codes "root") (decimal c.args.origin.root ∷ []) in
    let file = line_bytes (codes "file") (decimal c.args.origin.file ∷ []) in
    let run = line_bytes (codes "run") (decimal c.args.origin.run ∷ []) in
    let owner = line_bytes (codes "owner") (decimal c.args.origin.owner ∷ []) in
    let time = line_bytes (codes "time") (decimal c.args.origin.time ∷ []) in
    let stage = line_bytes (codes "stage") (stage_name c.args.stage ∷ []) in
    let two = grows old root file _ _ c.in_ok-push_number.ensures c.in_ok-push_number-2.ensures in
    let three = grows old (root ++ file) run _ _ two c.in_ok-push_number-3.ensures in
    let four = grows old (root ++ file ++ run) owner _ _ three c.in_ok-push_number-4.ensures in
    let five = grows old (root ++ file ++ run ++ owner) time _ _ four c.in_ok-push_number-5.ensures in
    grows old (root ++ file ++ run ++ owner ++ time) stage _ _ five (rw c.name.ensures at c.in_ok-push_field.ensures)
