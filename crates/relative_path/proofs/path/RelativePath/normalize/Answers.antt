use Rattle.std.proofs.Common.{rules, ◌∙◌, arith, ap, length}
use Rattle.relative_path.specs.RelativePath.{path_text}
use Rattle.relative_path.proofs.NormalizingLemmas.{components-IsNormalTextOf, last_name-IsNormalTextOf}
use Rattle.relative_path.proofs.NormalFormLemmas.{IsSpellableNormalForm-nil, IsNormalTextOf-spell}
use Rattle.relative_path.proofs.SpellingLemmas.{length-spell-components}
use Rattle.relative_path.proofs.path.RelativePath.normalize.Goals as goal

pub returns-clause-normal_form : goal.returns-clause-normal_form
returns-clause-normal_form c =
    IsNormalTextOf-spell _ _ c.into.result.text c.in_ok-normal.ensures.normal_form (c.into.ensures.0 ∙ c.in_ok-into_text.ensures.text)

pub returns-clause-no_longer : goal.returns-clause-no_longer
returns-clause-no_longer c =
    let spelled = ap length (c.into.ensures.0 ∙ c.in_ok-into_text.ensures.text) in
    let shorter = c.in_ok-normal.ensures.normal_form.no_longer in
    omega (arith, spelled, shorter, length-spell-components (path_text c.args.self))

pub returns-clause-normal_stays : goal.returns-clause-normal_stays
returns-clause-normal_stays c = components-IsNormalTextOf _ _ (returns-clause-normal_form c)

pub returns-clause-file_name : goal.returns-clause-file_name
returns-clause-file_name c = last_name-IsNormalTextOf _ _ (returns-clause-normal_form c)

pub returns-in_err-into_text-clause-succeeds : goal.returns-in_err-into_text-clause-succeeds
returns-in_err-into_text-clause-succeeds c = λ none.
    let ok = c.in_err-into_text.ensures.succeeds (IsSpellableNormalForm-nil _ _ none c.in_ok-normal.ensures.normal_form) in
    search rules
