-- Each turn tries the next base.
use Rattle.std.proofs.Common.{◌++◌, inl, inr, map, subst, sym}
use Rattle.std.proofs.lemmas.List.{take_all}
use Rattle.relative_path.specs.RelativePath.{path_components}
use Rattle.relative_path_places.specs.Views.{view_text}
use Rattle.relmove_mentions.specs.Bases.{base_components}
use Rattle.relmove_mentions.specs.Written.{LeadsFrom, LeadsToPath}
use Rattle.relmove_mentions.proofs.OldNamesLemmas.{LeadsFrom-nil, LeadsFrom-next, LeadsFrom-one}
use Rattle.relmove_mentions.proofs.old_names.OldNames.find_from.Goals as goal

pub loop-base-init : goal.loop-base-init
loop-base-init c = λ olds has old is_old (few, from). LeadsFrom-nil olds (path_components c.args.path) old from

pub loop-base-preserved : goal.loop-base-preserved
loop-base-preserved c = λ olds has old is_old (few, from).
    elim (LeadsFrom-next olds c.args.bases.now c.loop-base.base-index c.base-item.result (path_components c.args.path) old
    c.loop-base-test.true from) [
      | inl before ↦ c.loop-base.invariant olds has old is_old (few, before)
      | inr leads ↦
          (rw c.in_default.is at (c.in_ok-old.ensures olds has)) old is_old
          (few, subst (λ base. LeadsToPath olds (base_components base ++ path_components c.args.path) old) (sym c.base-item.is) leads)
    ]

pub returns-in-Some : goal.returns-in-Some
returns-in-Some c = λ olds has.
    let (is_old, (few, leads)) = rw c.in-Some.is at (c.in_ok-old.ensures olds has) in
    let from = LeadsFrom-one olds c.args.bases.now c.loop-base.base-index c.base-item.result (path_components c.args.path)
    (view_text c.in-Some.old) c.loop-base-test.true
    (subst (λ base. LeadsToPath olds (base_components base ++ path_components c.args.path) (view_text c.in-Some.old))
    c.base-item.is leads) in
    (is_old, (few, from))

pub returns : goal.returns
returns c = λ olds has old is_old (few, from).
    c.loop-base.invariant olds has old is_old (
      few,
      subst (λ list. LeadsFrom olds (map base_components list) (path_components c.args.path) old)
          (sym (take_all c.loop-base.base-index c.args.bases.now c.loop-base-test.false)) from,
    )
