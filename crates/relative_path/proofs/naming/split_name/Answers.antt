use Rattle.std.proofs.Common.{◌∙◌, Some, None, refl, sym, lit<, eqb-true}
use Rattle.std.proofs.lemmas.Bool.{eqb-false}
use Rattle.relative_path.specs.Steps.{dot}
use Rattle.relative_path.proofs.SlashesLemmas.{rsplit_once_parts}
use Rattle.relative_path.proofs.NamingLemmas.{IsSplit, IsSplit-no_dot, IsSplit-leading_dot, IsSplit-dot}
use Rattle.relative_path.proofs.naming.split_name.Goals as goal
use Rattle.relative_path.proofs.naming.split_name.Goals.{in_default-via-in-Some+else-not-is_empty, in_default-via-in_default}

pub returns-in-Some : goal.returns-in-Some
returns-in-Some c =
    let found =
    rsplit_once_parts dot c.args.name.now (Some (c.in-Some.stem, c.in-Some.extension)) c.in-Some.ensures.cases
    (lit< tt) in
    let split =
    IsSplit-dot _ c.in-Some.stem.now _ found (eqb-false _ 0 (sym c.is_empty.ensures ∙ c.if-not-is_empty.true)) in
    record { stem = sym split.stem_is; extension = sym split.extension_is; joined = found.0 }

pub returns-in_default : goal.returns-in_default
returns-in_default c =
    let split : IsSplit c.args.name.now c.args.name.now None = elim c.in_default.branch [
      | in_default-via-in-Some+else-not-is_empty w ↦
          let found = rsplit_once_parts dot c.args.name.now
          (Some (w.in-Some.stem, w.in-Some.extension)) w.in-Some.ensures.cases
          (lit< tt) in IsSplit-leading_dot _ w.in-Some.stem.now _ found
          (eqb-true _ 0 (sym w.is_empty.ensures ∙ w.if-not-is_empty.false))
      | in_default-via-in_default w ↦
          IsSplit-no_dot _ (rsplit_once_parts dot c.args.name.now None w.in_default.ensures.cases (lit< tt))
    ] in
    record { stem = sym split.stem_is; extension = sym split.extension_is; joined = refl }
