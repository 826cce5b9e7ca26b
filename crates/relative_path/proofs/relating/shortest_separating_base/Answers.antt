use Rattle.std.proofs.Common.{◌≡◌, sym, ap₂, ◌∙◌, true≢false}
use Rattle.std.specs.Prelude.{min}
use Rattle.relative_path.specs.NormalForm.{form_climb, form_names}
use Rattle.relative_path.proofs.RelatingLemmas.{LeadsApart-lower}
use Rattle.relative_path.proofs.relating.shortest_separating_base.Goals as goal
use Rattle.relative_path.proofs.relating.shortest_separating_base.Goals.{else-climb-via-then-climb+else-have_same_names, else-climb-via-else-climb}

pub returns-else-climb : goal.returns-else-climb
returns-else-climb c =
    let form = c.args.form.now in
    let other = c.args.other.now in
    let names = form_names form in
    let other_names = form_names other in
    let lower = c.min.ensures ∙ ap₂ min c.climb-else-climb.ensures c.climb-else-climb-2.ensures in
    elim c.else-climb.branch [
      | else-climb-via-then-climb+else-have_same_names w ↦
          let told = w.have_same_names.ensures.1 in
          let apart = λ (same : names ≡ other_names). true≢false (sym (told same) ∙ w.if-have_same_names.false) in
          rw lower (LeadsApart-lower _ _ names other_names (λ _. apart))
      | else-climb-via-else-climb w ↦
          let told = λ (level : form_climb form ≡ form_climb other). c.climb.ensures ∙ level ∙ sym c.climb-2.ensures in
          rw lower (LeadsApart-lower _ _ names other_names (λ level _. w.if-climb.false (told level)))
    ]
