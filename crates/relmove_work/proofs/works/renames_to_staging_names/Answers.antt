-- Each turn adds the next rename of a thing, and leaves out the others.
use Rattle.std.proofs.Common.{◌≡◌, ◌++◌, ◌∷◌, [], false, map, string_bytes, ap, subst, sym, ◌∙◌, rules}
use Rattle.std.specs.List.{AllZip}
use Rattle.std.proofs.lemmas.List.{map-append}
use Rattle.relmove_actions.specs.declared.actions.Rename.{Rename}
use Rattle.relmove_work.specs.StagingPaths as paths
use Rattle.relmove_work.specs.Works.{IsStagedAs, rename_text, thing_renames}
use Rattle.relmove_work.proofs.MakingLemmas.{AllZip-more, thing_renames-thing}
use Rattle.relmove_work.proofs.works.renames_to_staging_names.Goals as goal

pub loop-rename-preserved-then-not-is_of_text : goal.loop-rename-preserved-then-not-is_of_text
loop-rename-preserved-then-not-is_of_text c =
    let planned = c.in-Some.rename in
    let before = map rename_text c.loop-rename.yielded in
    let rename : Rename = record { from = planned.from; to = c.in_ok-staging_path.field-0 } in
    let thing : paths.is_text_file (string_bytes planned.from) ≡ false = search rules in
    let yielded = c.loop-rename.yielded in
    let all : thing_renames (map rename_text (yielded ++ planned ∷ [])) ≡ thing_renames before ++ rename_text planned ∷ [] =
    ap thing_renames (map-append rename_text yielded (planned ∷ [])) ∙ thing_renames-thing before (rename_text planned) thing in
    rw c.in_ok-push.ensures.items
    (subst (λ rs. AllZip IsStagedAs rs (c.loop-rename.renames.items ++ rename ∷ [])) (sym all)
    (AllZip-more IsStagedAs (thing_renames before) c.loop-rename.renames.items (rename_text planned) rename
    c.loop-rename.invariant (
      let e : string_bytes rename.from ≡ string_bytes planned.from = search rules in e,
      c.in_ok-staging_path.ensures.path ∙ ap paths.staging_path c.as_str.ensures.value,
    )))
