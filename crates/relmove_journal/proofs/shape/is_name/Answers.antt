use Rattle.std.proofs.Common.{not, sym, ap, lit<, ◌∙◌, true≢false}
use Rattle.std.specs.Prelude.{codes}
use Rattle.std.proofs.lemmas.Bool.{not-true}
use Rattle.std.proofs.lemmas.Str.Pattern.{starts_text}
use Rattle.relmove_journal.proofs.ShapeLemmas.{is_name-tested, list_any-contains}
use Rattle.relmove_journal.proofs.shape.is_name.Goals as goal
use Rattle.relmove_journal.proofs.shape.is_name.Goals.{then-not-is_nameless, else-not-is_nameless}

pub returns-then-not-starts_with : goal.returns-then-not-starts_with
returns-then-not-starts_with c = elim c.if-not-is_nameless.branch [
  | then-not-is_nameless w ↦
      let named = sym c.is_nameless.ensures ∙ w.if-not-is_nameless.true in
      let starts = starts_text _ (codes ".relmove") c.args.part.now w.starts_with.ensures.cases in
      let foreign = sym starts ∙ not-true _ (sym w.value-is ∙ c.if-not-starts_with.true) in
      is_name-tested c.args.part.now _ named foreign (list_any-contains 0 c.args.part.now _ c.contains.ensures.cases (lit< tt))
  | else-not-is_nameless w ↦ absurd (true≢false (sym c.if-not-starts_with.true ∙ w.value-is ∙ ap not w.if-not-is_nameless.false))
]
