-- Each turn takes the number of the next path, if it is larger.
use Rattle.std.proofs.Common.{ap, ap₂, max, sym, ◌∙◌}
use Rattle.relmove_mentions.specs.Spans.{others_in}
use Rattle.relmove_mentions.proofs.OldNamesLemmas.{most_others-next}
use Rattle.relmove_mentions.proofs.old_names.most_others_of.Goals as goal

pub loop-old-preserved : goal.loop-old-preserved
loop-old-preserved c =
    c.larger-most.ensures
    ∙ ap₂ max c.loop-old.invariant
    (c.others_in.ensures ∙ ap others_in (c.as_bytes.ensures.value ∙ c.as_str.ensures ∙ c.as_relative_path.ensures.text))
    ∙ sym (most_others-next c.args.olds.now c.loop-old.old-index c.old-item.result c.loop-old-test.true c.old-item.is)
