use Rattle.relmove_stages.specs.States.{journal_text}
use Rattle.relmove_stages_disk.proofs.moment.Journal.of.Goals as goal

pub returns : goal.returns
unfolding journal_text
returns c = record {
  journal = λ i. record { stage = c.args.stage; text = c.in_ok-text.ensures.text i };
}
