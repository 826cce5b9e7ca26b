use Rattle.std.proofs.Common.{◌/◌, ap, ◌∙◌, sym, subst}
use Rattle.relative_path.specs.Steps.{components}
use Rattle.relative_path.specs.Masked.{KnowsSlashes}
use Rattle.relative_path.proofs.MaskedLemmas.{components-drop_slash, KnowsSlashes-drop_slash}
use Rattle.relative_path.proofs.masked.Masked.drop_slash.Goals as goal

pub invariant_of-self : goal.invariant_of-self
invariant_of-self c =
    let now = c.args.self.now in
    record {
      known = subst (KnowsSlashes (now.mask / 2)) (sym c.after_slash.ensures)
          (KnowsSlashes-drop_slash now.mask now.text.now now.known);
    }

pub returns-clause-same : goal.returns-clause-same
returns-clause-same c = ap components c.after_slash.ensures ∙ components-drop_slash c.args.self.now.text.now c.requires
