use Rattle.std.proofs.Common.{◌↔◌, ◌++◌, IfOk, IsTrue, ap₂, subst, ◌∙◌}
use Rattle.relmove_journal.specs.Shape.{AreDifferent}
use Rattle.relmove_journal.proofs.shape.keeps_its_texts.Goals as goal

pub returns : goal.returns
returns c =
    let texts = rw c.deref.ensures.value at c.in_ok-text_paths.ensures in
    let removed = rw c.deref-2.ensures.value at c.in_ok-removed_paths.ensures in
    subst (λ paths. IfOk c.are_different.result (λ yes. IsTrue yes ↔ AreDifferent paths))
    (c.in_ok-both.ensures ∙ ap₂ ◌++◌ texts removed) c.are_different.ensures
