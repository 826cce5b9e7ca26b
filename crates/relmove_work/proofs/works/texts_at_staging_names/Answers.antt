-- Each turn puts the next text at its staging name.
use Rattle.std.proofs.Common.{get_or, string_bytes, ap, sym, ◌∙◌}
use Rattle.relmove_actions.specs.declared.actions.NewText.{NewText}
use Rattle.relmove_work.specs.StagingPaths as paths
use Rattle.relmove_work.specs.Works.{IsAtStagingName}
use Rattle.relmove_work.proofs.MakingLemmas.{AllZip-set_next}
use Rattle.relmove_work.proofs.works.texts_at_staging_names.Goals as goal

pub loop-text-preserved : goal.loop-text-preserved
loop-text-preserved c =
    let new = c.text-item.result in
    let here = get_or c.loop-text.text-items c.loop-text.text-index new in
    let there : NewText = record { page = here.page; file = c.in_ok-text.field-0; text = here.text } in
    let is : IsAtStagingName new there =
    record {
      page = ap (λ (text : NewText). string_bytes text.page) (sym c.text-item.is);
      file =
          c.in_ok-text.ensures.path
          ∙ ap paths.text_path (c.as_str.ensures.value ∙ ap (λ (text : NewText). string_bytes text.file) (sym c.text-item.is));
      text = ap (λ (text : NewText). string_bytes text.text) (sym c.text-item.is);
    } in
    let next =
    AllZip-set_next IsAtStagingName c.args.texts.items c.loop-text.text-items c.loop-text.text-index new there
    (rw c.loop-text.auto.text-items c.loop-text-test.true) c.text-item.is c.loop-text.invariant.there c.loop-text.invariant.left is in
    record { there = next.0; left = next.1 }
