-- What is kept of the parts and of the names are spans of the page.
use Rattle.std.proofs.Common.{rules, tests}
use Rattle.std.proofs.lemmas.Fn.{All-from_retain}
use Rattle.markdown_targets.specs.Spans.{IsSpanOf}
use Rattle.markdown_targets.proofs.heading_parts.Goals as goal

pub returns-clause-parts : goal.returns-clause-parts
returns-clause-parts c =
    All-from_retain _ (λ part. IsSpanOf c.args.page.now part.span) _ (λ x b q k. search (rules, tests)) _ _
    c.retain.ensures.filtered

pub returns-clause-names : goal.returns-clause-names
returns-clause-names c =
    All-from_retain _ (λ span. IsSpanOf c.args.page.now span) _ (λ x b q k. search (rules, tests)) _ _
    c.retain-2.ensures.filtered
