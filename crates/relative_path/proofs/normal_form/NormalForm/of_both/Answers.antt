use Rattle.std.proofs.Common.{◌<◌, ◌^◌, ◌++◌, length, ap, ◌∙◌, subst, arith, rules}
use Rattle.relative_path.specs.NormalForm.{form_steps, Reduces}
use Rattle.relative_path.specs.Spans.{source_text}
use Rattle.relative_path.specs.Steps.{components}
use Rattle.relative_path.specs.declared.spans.Source.TheVariants.{First, Second}
use Rattle.relative_path.proofs.NormalFormLemmas.{Reduces-trans, Reduces-append_right, IsSpellableNormalForm-form}
use Rattle.relative_path.proofs.SpellingLemmas.{length-spell-append, length-spell-components}
use Rattle.relative_path.proofs.normal_form.NormalForm.of_both.Goals as goal

pub returns-clause-normal_form : goal.returns-clause-normal_form
returns-clause-normal_form c =
    let empty = c.in_ok-form.ensures.steps in
    let sources = c.in_ok-form.ensures.sources in
    let first = ap (λ s. source_text s First) sources in
    let second = ap (λ s. source_text s Second) (c.follow_all.ensures.sources ∙ sources) in
    let one = rw (empty, first) at c.follow_all.ensures.steps in
    let both =
    subst (λ text. Reduces (form_steps c.follow_all.result ++ components text) (form_steps c.follow_all-2.result)) second
    c.follow_all-2.ensures.steps in
    IsSpellableNormalForm-form _ c.follow_all-2.result (Reduces-trans (Reduces-append_right _ one) both)

pub returns-clause-short : goal.returns-clause-short
returns-clause-short c =
    let text = c.args.text.now in
    let other = c.args.other.now in
    let bound : length text < 2 ^ 63 = search rules in
    let bound' : length other < 2 ^ 63 = search rules in
    let shorter = (returns-clause-normal_form c).no_longer in
    let both = length-spell-append (components text) (components other) in
    omega (arith, bound, bound', shorter, both, length-spell-components text, length-spell-components other)
