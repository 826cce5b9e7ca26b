-- Each turn adds the next file.
use Rattle.std.proofs.Common.{ap, subst, sym, ◌∙◌}
use Rattle.relmove_stages.specs.StageActions.{IsText}
use Rattle.relmove_work.specs.StagingPaths as paths
use Rattle.relmove_work.specs.Works.{IsWrittenAt, new_text}
use Rattle.relmove_work.proofs.MakingLemmas.{AllZip-next}
use Rattle.relmove_work.proofs.works.text_files_of.Goals as goal

pub loop-text-preserved : goal.loop-text-preserved
loop-text-preserved c =
    rw c.in_ok-push.ensures.items
    (AllZip-next IsWrittenAt new_text c.args.texts.now c.loop-text.text-index c.text-item.result c.loop-text.files.items
    (record { path = c.in_ok-text_path.field-0; digest = c.of.result }) c.loop-text-test.true c.text-item.is
    c.loop-text.invariant (
      c.in_ok-text_path.ensures.path ∙ ap paths.text_path c.as_str.ensures.value,
      subst (IsText c.of.result) c.as_bytes.ensures.value (sym c.of.ensures.length, sym c.of.ensures.sha256),
    ))
