use Rattle.std.proofs.Common.{◌≡◌, is_eq, sym, ap, ◌∙◌}
use Rattle.relative_path.specs.Components.{components_left}
use Rattle.relative_path.specs.Comparing.{steps_eq}
use Rattle.relative_path.specs.ComparingLaws.{steps_comparison, steps_eq-Decides}
use Rattle.relative_path.proofs.component.ComponentsPartialEq.eq.Goals as goal

pub returns : goal.returns
returns c =
    let xs = components_left c.args.self.now in
    let ys = components_left c.args.other.now in
    let value : c.is_eq.result ≡ steps_eq xs ys =
    c.is_eq.ensures ∙ ap is_eq c.compare.ensures ∙ sym (steps_comparison.agree xs ys) in
    let decides = steps_eq-Decides xs ys in
    record { value = value; same = (λ e. decides.0 (sym value ∙ e), λ e. value ∙ decides.1 e) }
