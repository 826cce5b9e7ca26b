use Rattle.std.proofs.Common.{◌≡◌, ap, sym, ◌∙◌, refl}
use Rattle.std.proofs.lemmas.Iterator.Search.{cmp_from_yields_List}
use Rattle.std.proofs.lemmas.Slice.Eq.{bytes_eq-Decides}
use Rattle.relative_path.specs.Steps.{components}
use Rattle.relative_path.specs.Components.{text_left}
use Rattle.relative_path.specs.Comparing.{step_cmp, steps_cmp}
use Rattle.relative_path.proofs.component.compare.Goals as goal
use Rattle.relative_path.proofs.ComponentsLemmas.{YieldsList-components, steps_cmp-same}

pub returns-then-eq : goal.returns-then-eq
returns-then-eq c =
    let texts = (bytes_eq-Decides _ _).0 (sym c.eq.ensures ∙ c.if-eq.true) in
    sym (steps_cmp-same (components c.args.text.now)) ∙ ap (λ x. steps_cmp (components c.args.text.now) (components x)) texts

pub returns : goal.returns
returns c =
    cmp_from_yields_List (λ x y. y ≡ x) c.new-2.result step_cmp c.cmp.result c.cmp.ensures.ran
    (YieldsList-components c.new.result _ c.new.ensures)
    (λ it e. YieldsList-components it _ (ap text_left e ∙ c.new-2.ensures)) (λ x y. refl)
