-- Each turn adds the next rename.
use Rattle.std.proofs.Common.{◌≡◌, Some, None, map, string_bytes, ap, refl, subst, ◌∙◌, rules}
use Rattle.relmove_actions.specs.declared.actions.Rename.{Rename}
use Rattle.relmove_work.specs.Pages.{text_at}
use Rattle.relmove_work.specs.StagingPaths as paths
use Rattle.relmove_work.specs.Works.{IsPathOfLabel, IsPlacedAs, rename_text}
use Rattle.relmove_work.proofs.MakingLemmas.{AllZip-yield, IsPathOfLabel-text, IsPathOfLabel-thing}
use Rattle.relmove_work.proofs.works.renames_from_staging_names.Goals.{in-Some-get+in_ok-from-in-Some-get, in-None-get+in_ok-from-in-None-get}
use Rattle.relmove_work.proofs.works.renames_from_staging_names.Goals as goal

pub loop-from-preserved : goal.loop-from-preserved
loop-from-preserved c =
    let staged = map rename_text c.args.staged.now in
    let planned = c.in-Some.field-0 in
    let rename : Rename = record { from = c.match-get.from; to = planned.to } in
    let files = c.in_ok-files.files in
    let label : c.as_str.result.now ≡ string_bytes planned.from = c.as_str.ensures.value in
    let from : IsPathOfLabel staged (string_bytes planned.from) (string_bytes rename.from) =
    elim c.match-get.branch [
      | in-Some-get+in_ok-from-in-Some-get w ↦
          subst (λ key. IsPathOfLabel staged key (string_bytes rename.from)) label
          (IsPathOfLabel-text staged files c.as_str.result.now (string_bytes rename.from) w.in-Some-get.file.now
          c.in_ok-files.ensures
          (let e : text_at files c.as_str.result.now ≡ Some w.in-Some-get.file.now = search rules in e)
          (ap string_bytes w.from-is ∙ w.in_ok-from-in-Some-get.ensures.path))
      | in-None-get+in_ok-from-in-None-get w ↦
          subst (λ key. IsPathOfLabel staged key (string_bytes rename.from)) label
          (IsPathOfLabel-thing staged files c.as_str.result.now (string_bytes rename.from) c.in_ok-files.ensures
          (let e : text_at files c.as_str.result.now ≡ None = search rules in e)
          (let e : string_bytes rename.from ≡ paths.staging_path c.as_str.result.now = search rules in e))
    ] in
    rw c.in_ok-push.ensures.items
    (AllZip-yield (IsPlacedAs staged) rename_text c.loop-from.yielded planned c.loop-from.renames.items rename
    c.loop-from.invariant (from, refl))
