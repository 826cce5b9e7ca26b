use Rattle.relmove_stages_disk.proofs.TextsLemmas.{can_begin-texts, texts-can_begin}
use Rattle.relmove_stages_disk.specs.Entries.{entries_tree}
use Rattle.relmove_stages_disk.proofs.texts.can_begin.Goals as goal

pub returns-in-Placing-clause-yes : goal.returns-in-Placing-clause-yes
returns-in-Placing-clause-yes c =
    λ is.
    texts-can_begin c.args.work.now c.args.stage (entries_tree c.args.entries.now) c.deref.result.now c.in-Placing.is c.deref.ensures.value
    (c.has_new_texts.ensures.yes is)

pub returns-in-Placing-clause-no : goal.returns-in-Placing-clause-no
returns-in-Placing-clause-no c =
    λ not can.
    c.has_new_texts.ensures.no not
    (can_begin-texts c.args.work.now c.args.stage (entries_tree c.args.entries.now) c.deref.result.now c.in-Placing.is
    c.deref.ensures.value can)
