-- The target begins with a dot and a slash: the dot is a character, and what follows is the target without it.
use Rattle.std.proofs.Common.{◌∙◌, ap, drop, string_bytes, IsSome, rules}
use Rattle.relative_path.specs.Steps.{components}
use Rattle.relative_path.specs.Walk.{place_of}
use Rattle.relative_path_links.specs.Rewriter.{IsChangeByWay}
use Rattle.relative_path_links.specs.declared.edit.Change.TheVariants.{New}
use Rattle.relative_path_links.proofs.SiteRootLemmas.{target-without_dot}
use Rattle.relative_path_links.proofs.rewriter.new_rooted_target.Goals as goal

pub range_from-requires : goal.range_from-requires
range_from-requires c = λ _.
    let place : IsSome (place_of (components c.args.way.text)) = search rules in
    let is : IsChangeByWay c.args.path.now c.args.tail.now c.args.way.text (New c.in-New.text) =
    rw c.in-New.is at c.in_ok-new_target.ensures.change in
    rw c.deref.ensures
    (target-without_dot c.args.path.now c.args.way.text c.args.tail.now (string_bytes c.in-New.text) c.requires place is.1).0

pub returns-in_ok-text-in-New-clause-change : goal.returns-in_ok-text-in-New-clause-change
returns-in_ok-text-in-New-clause-change c =
    let place : IsSome (place_of (components c.args.way.text)) = search rules in
    let is : IsChangeByWay c.args.path.now c.args.tail.now c.args.way.text (New c.in-New.text) =
    rw c.in-New.is at c.in_ok-new_target.ensures.change in (
      place,
      c.in_ok-text-in-New.ensures.ok ∙ c.range_from.ensures.value ∙ ap (drop 1) c.deref.ensures
          ∙ (target-without_dot c.args.path.now c.args.way.text c.args.tail.now (string_bytes c.in-New.text) c.requires place is.1).1,
      is.2,
    )
