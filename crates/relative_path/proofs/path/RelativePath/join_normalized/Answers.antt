use Rattle.std.proofs.Common.{rules, ◌∙◌}
use Rattle.relative_path.specs.RelativePath.{path_components}
use Rattle.relative_path.proofs.NormalFormLemmas.{IsSpellableNormalForm-nil, IsNormalTextOf-spell}
use Rattle.relative_path.proofs.NormalizingLemmas.{last_name-IsNormalTextOf_append}
use Rattle.relative_path.proofs.WalkLemmas.{LeadsBelow-in_turn, LeadsInTurn-same, StaysBelow-in_turn}
use Rattle.relative_path.proofs.path.RelativePath.join_normalized.Goals as goal

pub returns-clause-normal_form : goal.returns-clause-normal_form
returns-clause-normal_form c =
    IsNormalTextOf-spell _ _ c.into.result.text c.in_ok-form.ensures.normal_form (c.into.ensures.0 ∙ c.in_ok-into_text.ensures.text)

pub returns-clause-in_turn : goal.returns-clause-in_turn
returns-clause-in_turn c = LeadsInTurn-same _ _ _ (returns-clause-normal_form c).same

pub returns-clause-below : goal.returns-clause-below
returns-clause-below c = λ place is. LeadsBelow-in_turn _ _ _ place (returns-clause-in_turn c) is

pub returns-clause-stays_below : goal.returns-clause-stays_below
returns-clause-stays_below c = StaysBelow-in_turn _ _ _ (returns-clause-in_turn c)

pub returns-clause-file_name : goal.returns-clause-file_name
returns-clause-file_name c =
    last_name-IsNormalTextOf_append (path_components c.args.self) (path_components c.args.path) _
    (returns-clause-normal_form c)

pub returns-in_err-into_text-clause-succeeds : goal.returns-in_err-into_text-clause-succeeds
returns-in_err-into_text-clause-succeeds c = λ none.
    let ok = c.in_err-into_text.ensures.succeeds (IsSpellableNormalForm-nil _ _ none c.in_ok-form.ensures.normal_form) in
    search rules
