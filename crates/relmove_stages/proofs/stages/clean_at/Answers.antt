use Rattle.relmove_stages.proofs.stages.clean_at.Goals as goal

pub returns-clause-kind : goal.returns-clause-kind
returns-clause-kind c = c.clean_action.ensures.kind c.args.number
