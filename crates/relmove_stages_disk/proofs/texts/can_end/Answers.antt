use Rattle.relmove_stages_disk.proofs.TextsLemmas.{can_end-texts, texts-can_end}
use Rattle.relmove_stages_disk.specs.Entries.{entries_tree}
use Rattle.relmove_stages_disk.proofs.texts.can_end.Goals as goal

pub returns-in-Staging-clause-yes : goal.returns-in-Staging-clause-yes
returns-in-Staging-clause-yes c =
    λ is.
    texts-can_end c.args.work.now c.args.stage (entries_tree c.args.entries.now) c.deref.result.now c.in-Staging.is c.deref.ensures.value
    (c.has_old_texts.ensures.yes is)

pub returns-in-Staging-clause-no : goal.returns-in-Staging-clause-no
returns-in-Staging-clause-no c =
    λ not can.
    c.has_old_texts.ensures.no not
    (can_end-texts c.args.work.now c.args.stage (entries_tree c.args.entries.now) c.deref.result.now c.in-Staging.is
    c.deref.ensures.value can)
