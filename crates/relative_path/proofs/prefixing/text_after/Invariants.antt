use Rattle.relative_path.specs.Components.{text_left}
use Rattle.relative_path.proofs.PrefixingLemmas.{Agrees}
use Rattle.relative_path.proofs.prefixing.text_after.Given as goal

abbrev pub invariant-loop-component : goal.invariant-loop-component
invariant-loop-component l =
    Agrees l.fn.text l.fn.base (text_left l.left) (text_left l.component-iterator)
