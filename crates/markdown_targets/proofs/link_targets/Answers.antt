-- What is kept of what is passed over are spans of the page.
use Rattle.std.proofs.Common.{rules, tests}
use Rattle.std.proofs.lemmas.Fn.{All-from_retain}
use Rattle.markdown_targets.specs.Spans.{IsSpanOf}
use Rattle.markdown_targets.proofs.link_targets.Goals as goal

pub returns-clause-passed_over : goal.returns-clause-passed_over
returns-clause-passed_over c =
    All-from_retain _ (λ passed. IsSpanOf c.args.page.now passed.span) _ (λ x b q k. search (rules, tests)) _ _
    c.retain.ensures.filtered
