-- Each turn adds the next old text.
use Rattle.std.proofs.Common.{◌≡◌, None, MatchOption, map, string_bytes, ap, refl, subst, sym, ◌∙◌, rules}
use Rattle.relmove_journal.specs.declared.work.Leftover.TheVariants.{Text}
use Rattle.relmove_journal.specs.declared.work.TextFile.{TextFile}
use Rattle.relmove_stages.specs.StageActions.{IsText}
use Rattle.relmove_work.specs.Pages.{IsLeftText, IsOldTextAt, LacksTextAt, page_texts}
use Rattle.relmove_work.specs.StagingPaths as paths
use Rattle.relmove_work.specs.Works.{rename_text}
use Rattle.relmove_work.proofs.MakingLemmas.{AllZip-next, map-Contains}
use Rattle.relmove_work.proofs.works.old_texts_of.Goals as goal

pub loop-label-preserved : goal.loop-label-preserved
loop-label-preserved c =
    let renames = map rename_text c.args.staged.now in
    let pages = page_texts c.args.pages.now in
    let label = string_bytes c.label-item.result in
    let file : TextFile = record { path = c.in_ok-path.path; digest = c.of-digest.result } in
    let path : string_bytes file.path ≡ paths.staging_path label =
    c.in_ok-path.ensures.path ∙ ap paths.staging_path c.as_str.ensures.value in
    let found : IsOldTextAt renames pages c.as_str-in-loop-label.result.now c.in-Some.text.now =
    subst (λ o. MatchOption o (LacksTextAt renames pages c.as_str-in-loop-label.result.now)
    (λ text. IsOldTextAt renames pages c.as_str-in-loop-label.result.now text.now)) c.in-Some.is
    (c.text_of.ensures renames c.in_ok-olds.ensures) in
    rw c.in_ok-push.ensures.items
    (AllZip-next (IsLeftText renames pages) string_bytes c.args.removed.now c.loop-label.label-index c.label-item.result
    c.loop-label.left.items (Text file) c.loop-label-test.true c.label-item.is c.loop-label.invariant (record {
      file = file;
      is = refl;
      path = path;
      text = c.in-Some.text.now;
      old = subst (λ p. IsOldTextAt renames pages p c.in-Some.text.now) (c.as_str-in-loop-label.ensures.value ∙ path) found;
      digest =
          subst (IsText c.of-digest.result) c.as_bytes.ensures.value (sym c.of-digest.ensures.length, sym c.of-digest.ensures.sha256);
    }))

pub returns-in_default : goal.returns-in_default
returns-in_default c =
    let renames = map rename_text c.args.staged.now in
    let pages = page_texts c.args.pages.now in
    let at = c.as_str-in-loop-label.result.now in
    let none : c.text_of.result ≡ None = search rules in
    let path : at ≡ paths.staging_path (string_bytes c.label-item.result) =
    c.as_str-in-loop-label.ensures.value ∙ c.in_ok-path.ensures.path ∙ ap paths.staging_path c.as_str.ensures.value in (
      string_bytes c.label-item.result,
      map-Contains string_bytes c.args.removed.now c.loop-label.label-index c.label-item.result c.loop-label-test.true c.label-item.is,
      subst (LacksTextAt renames pages) path
          (subst (λ o. MatchOption o (LacksTextAt renames pages at) (λ text. IsOldTextAt renames pages at text.now)) none
          (c.text_of.ensures renames c.in_ok-olds.ensures)),
    )
