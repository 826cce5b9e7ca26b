use Rattle.std.proofs.Common.{sym, ◌∙◌, eq-eqb, eqb-true}
use Rattle.relative_path.specs.NormalForm.{form_names}
use Rattle.relative_path.proofs.ListsLemmas.{common_all}
use Rattle.relative_path.proofs.relating.have_same_names.Goals as goal

pub returns-then-common-names_len : goal.returns-then-common-names_len
returns-then-common-names_len c =
    let all = common_all (form_names c.args.form.now) (form_names c.args.other.now) in
    let common = sym c.common_len-common.ensures in
    let first = common ∙ c.if-common-names_len.true ∙ c.names_len.ensures in (
      λ e. all.0 (first, common ∙ eqb-true _ _ e ∙ c.names_len-then-common-names_len.ensures),
      λ same. eq-eqb _ _ (sym common ∙ (all.1 same).1 ∙ sym c.names_len-then-common-names_len.ensures),
    )

pub returns-else-common-names_len : goal.returns-else-common-names_len
returns-else-common-names_len c =
    let all = common_all (form_names c.args.form.now) (form_names c.args.other.now) in (
      λ e. absurd (c.if-common-names_len.false (eqb-true _ _ e)),
      λ same. eq-eqb _ _ (c.common_len-common.ensures ∙ (all.1 same).0 ∙ sym c.names_len.ensures),
    )
