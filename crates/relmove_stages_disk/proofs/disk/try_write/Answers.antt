use Rattle.std.proofs.Common.{IsTrue, Some, arith, false, refl, rules, subst, sym, true, true≢false, ◌≡◌, ◌∙◌}
use Rattle.relative_path.specs.RelativePath.{path_text}
use Rattle.relmove_trees.specs.FileTrees.{CanTake, names_of}
use Rattle.std.specs.List.{slice_get}
use Rattle.relmove_stages.specs.StageActions.{IsText}
use Rattle.relmove_stages_disk.proofs.DisksLemmas.{has_written, no_text, other_text, text_at, writes-none}
use Rattle.relmove_stages_disk.specs.Disks.{bytes_of}
use Rattle.relmove_stages_disk.specs.Entries.{entries_tree}
use Rattle.relmove_stages_disk.proofs.disk.try_write.Goals as goal

pub returns-then-fails_before-clause-moments : goal.returns-then-fails_before-clause-moments
returns-then-fails_before-clause-moments c =
    writes-none c.args.text.now c.args.now.now c.args.now.now c.args.past.now.items c.args.past.now.items refl refl

pub returns-then-number-texts-clause-moments : goal.returns-then-number-texts-clause-moments
returns-then-number-texts-clause-moments c =
    writes-none c.args.text.now c.args.now.now c.args.now.now c.args.past.now.items c.args.past.now.items refl refl

pub returns-then-not-is_text-clause-moments : goal.returns-then-not-is_text-clause-moments
returns-then-not-is_text-clause-moments c =
    writes-none c.args.text.now c.args.now.now c.args.now.now c.args.past.now.items c.args.past.now.items refl refl

pub returns-then-not-can_take-clause-moments : goal.returns-then-not-can_take-clause-moments
returns-then-not-can_take-clause-moments c =
    writes-none c.args.text.now c.args.now.now c.args.now.now c.args.past.now.items c.args.past.now.items refl refl

pub returns-then-number-texts-clause-written : goal.returns-then-number-texts-clause-written
returns-then-number-texts-clause-written c = (
  refl,
  no_text c.args.texts.now c.args.number c.args.text.now (entries_tree c.args.now.now.entries.items)
      (omega (arith, c.if-number-texts.true)),
)

pub returns-then-not-is_text-clause-written : goal.returns-then-not-is_text-clause-written
returns-then-not-is_text-clause-written c =
    let no : c.is_text.result ≡ false = search rules in (
      refl,
      other_text (bytes_of c.args.texts.now) c.args.number c.index-texts-number.result.items c.args.text.now
          (entries_tree c.args.now.now.entries.items)
          (text_at c.args.texts.now c.args.number c.index-texts-number.result (omega (arith, c.if-number-texts.false))
          c.index-texts-number.is)
          (λ is. true≢false (sym (c.is_text.ensures.1 (subst (IsText c.args.text.now.digest) (sym c.as_slice-bytes.ensures.value) is))
          ∙ no)),
    )

pub returns-clause-written : goal.returns-clause-written
returns-clause-written c =
    let yes : IsTrue c.is_text.result = search rules in
    let room : c.can_take.result ≡ true = search rules in
    let takes =
    subst (λ path. CanTake (entries_tree c.args.now.now.entries.items) (names_of path)) (c.new.ensures ∙ c.as_str.ensures.value)
    (subst (λ entries. CanTake (entries_tree entries) (names_of (path_text c.new.result))) c.deref.ensures.value
    (c.can_take.ensures.takes room)) in
    has_written (bytes_of c.args.texts.now) c.args.number c.args.text.now c.as_slice-bytes.result.now
    (entries_tree c.args.now.now.entries.items) (entries_tree c.write_bytes.new.now.entries.items) c.write_bytes.result
    takes (subst (λ bytes. slice_get (bytes_of c.args.texts.now) c.args.number ≡ Some bytes) (sym c.as_slice-bytes.ensures.value)
    (text_at c.args.texts.now c.args.number c.index-texts-number.result (omega (arith, c.if-number-texts.false))
    c.index-texts-number.is))
    (c.is_text.ensures.0 yes) c.write_bytes.ensures.written c.write_bytes.ensures.outcome c.write_bytes.ensures.not_refused
