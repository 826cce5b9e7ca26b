-- Each turn adds the next path.
use Rattle.std.proofs.Common.{◌≡◌, string_bytes, ap, ◌∙◌}
use Rattle.relmove_work.specs.StagingPaths.{staging_path as path_of_label}
use Rattle.relmove_work.proofs.MakingLemmas.{AllZip-next}
use Rattle.relmove_work.proofs.works.paths.Goals as goal

pub loop-label-preserved : goal.loop-label-preserved
loop-label-preserved c =
    rw c.in_ok-push.ensures.items
    (AllZip-next (λ label path. string_bytes path ≡ path_of_label label) string_bytes c.args.labels.now
    c.loop-label.label-index c.label-item.result c.loop-label.paths.items c.in_ok-staging_path.field-0
    c.loop-label-test.true c.label-item.is c.loop-label.invariant
    (c.in_ok-staging_path.ensures.path ∙ ap path_of_label c.as_str.ensures.value))
