use Rattle.std.proofs.Common.{All, arith, rules, subst, true, ◌≡◌}
use Rattle.std.proofs.lemmas.List.{take_all}
use Rattle.std.proofs.lemmas.List.Elements.{All-more}
use Rattle.relmove_stages_disk.specs.Entries.{entries_tree}
use Rattle.relmove_stages_disk.specs.Texts.{IsNewText}
use Rattle.relmove_stages_disk.proofs.texts.has_new_texts.Goals as goal

pub loop-text-preserved : goal.loop-text-preserved
loop-text-preserved c =
    let is : c.is_new_text.result ≡ true = search rules in
    All-more (IsNewText (entries_tree c.args.entries.now)) c.args.texts.now c.loop-text.text-index c.text-item.result
    c.loop-text-test.true c.loop-text.invariant
    (subst (IsNewText (entries_tree c.args.entries.now)) c.text-item.is (c.is_new_text.ensures.yes is))

pub returns-clause-yes : goal.returns-clause-yes
returns-clause-yes c =
    λ is.
    subst (All (IsNewText (entries_tree c.args.entries.now)))
    (take_all c.loop-text.text-index c.args.texts.now (omega (arith, c.loop-text-test.false))) c.loop-text.invariant
