use Rattle.std.proofs.Common.{◌++◌, codes, string_bytes}
use Rattle.std.specs.List.{flat_map}
use Rattle.relmove_journal.specs.Journals.{directory_line, leftover_line, rename_line, text_line}
use Rattle.relmove_journal.proofs.LoopLemmas.{grows}
use Rattle.relmove_journal.proofs.journal.push_work.Goals as goal

pub returns : goal.returns
returns c =
    let old = string_bytes c.args.text.now in
    let work = c.args.work.now in
    let texts = flat_map (text_line (codes "text")) work.texts.items in
    let staged = flat_map (rename_line (codes "staged")) work.staged.items in
    let made = flat_map (λ path. directory_line (codes "made") (string_bytes path)) work.made.items in
    let placed = flat_map (rename_line (codes "placed")) work.placed.items in
    let cleaned = flat_map leftover_line work.cleaned.items in
    let two =
    grows old texts staged _ _ (rw c.deref.ensures.value at c.in_ok-push_texts.ensures)
    (rw c.deref-2.ensures.value at c.in_ok-push_renames.ensures) in
    let three = grows old (texts ++ staged) made _ _ two (rw c.deref-3.ensures.value at c.in_ok-push_made.ensures) in
    let four =
    grows old (texts ++ staged ++ made) placed _ _ three (rw c.deref-4.ensures.value at c.in_ok-push_renames-2.ensures) in
    grows old (texts ++ staged ++ made ++ placed) cleaned _ _ four
    (rw c.deref-5.ensures.value at c.in_ok-push_cleaned.ensures)
