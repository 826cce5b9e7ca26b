use Rattle.std.proofs.Common.{IsTrue, Some, ap, false, inl, inr, length, refl, rules, take, ◌≡◌, ◌∙◌, ◌/◌}
use Rattle.relmove_trees.specs.FileTrees.{File, names_of, with_node}
use Rattle.relmove_stages.specs.StageActions.{place_of}
use Rattle.relmove_stages_disk.proofs.DisksLemmas.{writes-none, writes-on}
use Rattle.relmove_stages_disk.specs.Entries.{entries_tree}
use Rattle.relmove_stages_disk.specs.declared.moment.Moment.{Moment}
use Rattle.relmove_stages_disk.specs.Journals.{said}
use Rattle.relmove_stages_disk.proofs.disk.write_bytes.Goals as goal

pub returns-in_default-clause-moments : goal.returns-in_default-clause-moments
returns-in_default-clause-moments c =
    writes-none c.args.text.now c.args.now.now c.args.now.now c.args.past.now.items c.args.past.now.items refl refl

pub returns-in_default-with_file-clause-moments : goal.returns-in_default-with_file-clause-moments
returns-in_default-with_file-clause-moments c =
    writes-none c.args.text.now c.args.now.now c.args.now.now c.args.past.now.items c.args.past.now.items refl refl

pub returns-in_default-copy_journal-clause-moments : goal.returns-in_default-copy_journal-clause-moments
returns-in_default-copy_journal-clause-moments c =
    writes-none c.args.text.now c.args.now.now c.args.now.now c.args.past.now.items c.args.past.now.items refl refl

pub returns-in_default-copy_journal-2-clause-moments : goal.returns-in_default-copy_journal-2-clause-moments
returns-in_default-copy_journal-2-clause-moments c =
    writes-none c.args.text.now c.args.now.now c.args.now.now c.args.past.now.items c.args.past.now.items refl refl

pub returns-then-not-put-clause-moments : goal.returns-then-not-put-clause-moments
returns-then-not-put-clause-moments c =
    let no : c.put.result ≡ false = search rules in
    writes-none c.args.text.now c.args.now.now c.put.new.now c.args.past.now.items c.put.new.past.items (c.put.ensures.stays no)
    (c.put.ensures.past_stays no)

pub returns-then-fails_midway-clause-moments : goal.returns-then-fails_midway-clause-moments
returns-then-fails_midway-clause-moments c =
    let yes : IsTrue c.put.result = search rules in
    let place = c.new-path.ensures ∙ c.as_str.ensures.value in
    let acts =
    ap (λ (m : Moment). entries_tree m.entries.items) (c.put.ensures.next yes) ∙ c.in-Ok.ensures
    ∙ ap (λ path. with_node (names_of path) (Some (File (take (length c.args.bytes.now / 2) c.args.bytes.now)))
    (entries_tree c.deref.result.now)) place
    ∙ ap (λ entries. with_node (place_of c.args.text.now.path) (Some (File (take (length c.args.bytes.now / 2) c.args.bytes.now)))
    (entries_tree entries)) c.deref.ensures.value in
    writes-on c.args.text.now c.args.bytes.now (length c.args.bytes.now / 2) c.args.now.now
    c.put.new.now c.put.new.now c.args.past.now.items
    c.put.new.past.items c.put.new.past.items c.requires.takes c.requires.whole
    (ap (λ (m : Moment). said m.journal) (c.put.ensures.next yes) ∙ c.in-Ok-copy_journal.ensures) acts
    (c.put.ensures.past yes) (inl (refl, refl))

pub returns-then-not-put-2-clause-moments : goal.returns-then-not-put-2-clause-moments
returns-then-not-put-2-clause-moments c =
    let yes : IsTrue c.put.result = search rules in
    let place = c.new-path.ensures ∙ c.as_str.ensures.value in
    let acts =
    ap (λ (m : Moment). entries_tree m.entries.items) (c.put.ensures.next yes) ∙ c.in-Ok.ensures
    ∙ ap (λ path. with_node (names_of path) (Some (File (take (length c.args.bytes.now / 2) c.args.bytes.now)))
    (entries_tree c.deref.result.now)) place
    ∙ ap (λ entries. with_node (place_of c.args.text.now.path) (Some (File (take (length c.args.bytes.now / 2) c.args.bytes.now)))
    (entries_tree entries)) c.deref.ensures.value in
    let no : c.put-2.result ≡ false = search rules in
    writes-on c.args.text.now c.args.bytes.now (length c.args.bytes.now / 2) c.args.now.now
    c.put.new.now c.put-2.new.now c.args.past.now.items
    c.put.new.past.items c.put-2.new.past.items c.requires.takes c.requires.whole
    (ap (λ (m : Moment). said m.journal) (c.put.ensures.next yes) ∙ c.in-Ok-copy_journal.ensures) acts
    (c.put.ensures.past yes) (inl (c.put-2.ensures.stays no, c.put-2.ensures.past_stays no))

pub returns-clause-moments : goal.returns-clause-moments
returns-clause-moments c =
    let yes : IsTrue c.put.result = search rules in
    let place = c.new-path.ensures ∙ c.as_str.ensures.value in
    let acts =
    ap (λ (m : Moment). entries_tree m.entries.items) (c.put.ensures.next yes) ∙ c.in-Ok.ensures
    ∙ ap (λ path. with_node (names_of path) (Some (File (take (length c.args.bytes.now / 2) c.args.bytes.now)))
    (entries_tree c.deref.result.now)) place
    ∙ ap (λ entries. with_node (place_of c.args.text.now.path) (Some (File (take (length c.args.bytes.now / 2) c.args.bytes.now)))
    (entries_tree entries)) c.deref.ensures.value in
    let yes_2 : IsTrue c.put-2.result = search rules in
    writes-on c.args.text.now c.args.bytes.now (length c.args.bytes.now / 2) c.args.now.now
    c.put.new.now c.put-2.new.now c.args.past.now.items
    c.put.new.past.items c.put-2.new.past.items c.requires.takes c.requires.whole
    (ap (λ (m : Moment). said m.journal) (c.put.ensures.next yes) ∙ c.in-Ok-copy_journal.ensures) acts
    (c.put.ensures.past yes) (inr (c.put-2.ensures.past yes_2))
