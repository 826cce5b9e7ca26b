-- The end of a normal list is normal. If it leads to a place from the top, it is made of names.
use Rattle.std.proofs.Common.{◌∙◌, sym, subst}
use Rattle.std.proofs.lemmas.List.{append_cancel_left}
use Rattle.relative_path.specs.Normalizing.{AreNames, IsNormal}
use Rattle.relative_path.specs.RelativePath.{path_components}
use Rattle.relative_path_places.specs.Views.{view_components}
use Rattle.relative_path_places.proofs.NormalPathLemmas.{IsNormal-end}
use Rattle.relative_path_places.proofs.ViewsLemmas.{IsSome-names}
use Rattle.relative_path_places.proofs.WayLemmas.{AreNames-place}
use Rattle.relative_path_places.proofs.normal_view.NormalView.below.Goals as goal

pub of_normal-requires : goal.of_normal-requires
of_normal-requires c =
    IsNormal-end (view_components c.args.above) (path_components c.in-Ok.rest)
    (subst IsNormal c.in-Ok.ensures.components c.args.self.normal)

pub returns-in-Ok-clause-some : goal.returns-in-Ok-clause-some
returns-in-Ok-clause-some c =
    let above = view_components c.args.above in
    let rest = path_components c.in-Ok.rest in
    let split = c.in-Ok.ensures.components in (
      λ some. (
        rest,
        AreNames-place rest (IsNormal-end above rest (subst IsNormal split c.args.self.normal)) (c.of_normal.ensures.some.0 some),
        split,
      ),
      λ found.
          let is = append_cancel_left above found.0 rest (sym found.2 ∙ split) in
          c.of_normal.ensures.some.1 (IsSome-names rest (subst AreNames is found.1)),
    )
