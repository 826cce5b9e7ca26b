use Rattle.std.proofs.Common.{◌<◌, ◌^◌, length, ap, arith, rules}
use Rattle.relative_path.specs.Spans.{source_text}
use Rattle.relative_path.specs.declared.spans.Source.TheVariants.{First}
use Rattle.relative_path.proofs.NormalFormLemmas.{IsSpellableNormalForm-form}
use Rattle.relative_path.proofs.SpellingLemmas.{length-spell-components}
use Rattle.relative_path.proofs.normal_form.NormalForm.of.Goals as goal

pub returns-clause-normal_form : goal.returns-clause-normal_form
returns-clause-normal_form c =
    let empty = c.in_ok-form.ensures.steps in
    let text = ap (λ sources. source_text sources First) c.in_ok-form.ensures.sources in
    IsSpellableNormalForm-form _ c.follow_all.result (rw (empty, text) at c.follow_all.ensures.steps)

pub returns-clause-short : goal.returns-clause-short
returns-clause-short c =
    let text = c.args.text.now in
    let bound : length text < 2 ^ 63 = search rules in
    let shorter = (returns-clause-normal_form c).no_longer in
    omega (arith, bound, shorter, length-spell-components text)
