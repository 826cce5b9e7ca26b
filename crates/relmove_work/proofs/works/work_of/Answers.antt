-- Each list is that of the actions. What is left has the old texts, and then the directories.
use Rattle.std.proofs.Common.{◌≡◌, ◌++◌, MatchOption, None, rules, map, string_bytes, ap, refl, subst, ◌∙◌}
use Rattle.std.specs.List.{AllZip}
use Rattle.relmove_journal.specs.declared.work.Leftover.TheVariants.{Directory}
use Rattle.relmove_work.specs.Pages.{IsLeftText, LacksLeftText, page_texts}
use Rattle.relmove_work.specs.StagingPaths as paths
use Rattle.relmove_work.specs.Works.{IsPlacedAs, IsWrittenAt, new_text, plan_texts, rename_text}
use Rattle.relmove_work.proofs.MakingLemmas.{lacks, left-files}
use Rattle.relmove_work.proofs.works.work_of.Goals as goal

pub returns-clause-work : goal.returns-clause-work
returns-clause-work c =
    let plan = plan_texts c.args.actions in
    let pages = page_texts c.args.pages.now in
    let renames = c.in_ok-staged.staged.items in
    let left = c.in-Some.cleaned.items in
    let olds : AllZip (IsLeftText (map rename_text renames) pages) plan.removed left =
    subst (λ rs. AllZip (IsLeftText (map rename_text rs) pages) plan.removed left) c.deref-5.ensures.value
    (subst (λ ls. AllZip (IsLeftText (map rename_text c.deref-5.result.now) pages) (map string_bytes ls) left) c.deref-4.ensures.value
    (subst (λ o. MatchOption o (LacksLeftText (map rename_text c.deref-5.result.now) pages (map string_bytes c.deref-4.result.now))
    (λ left. AllZip (IsLeftText (map rename_text c.deref-5.result.now) pages)
    (map string_bytes c.deref-4.result.now) left.items)) c.in-Some.is c.in_ok-cleaned.ensures)) in
    let (files, same, are) = left-files plan.staged pages renames c.in_ok-staged.ensures plan.removed left olds in
    record {
      texts = subst (λ ts. AllZip IsWrittenAt (map new_text ts) c.in_ok-files.files.items) c.deref.ensures.value c.in_ok-files.ensures;
      staged = c.in_ok-staged.ensures;
      made =
          subst (λ ls. AllZip (λ label path. string_bytes path ≡ paths.staging_path label) (map string_bytes ls)
          c.in_ok-made.made.items) c.deref-2.ensures.value c.in_ok-made.ensures;
      placed =
          subst (λ rs. AllZip (IsPlacedAs (map rename_text rs)) plan.placed c.in_ok-placed.placed.items) c.deref-3.ensures.value
          c.in_ok-placed.ensures;
      files = files;
      directories = c.args.actions.emptied.items;
      cleaned =
          c.in_ok-push_directories.ensures ∙ ap (λ ls. ls ++ map Directory c.args.actions.emptied.items) same;
      removed = are;
      emptied = refl;
    }

pub returns-in_default-clause-lacks : goal.returns-in_default-clause-lacks
returns-in_default-clause-lacks c =
    let plan = plan_texts c.args.actions in
    let pages = page_texts c.args.pages.now in
    let renames = c.in_ok-staged.staged.items in
    let none : c.in_ok-cleaned.field-0 ≡ None = search rules in
    let why : LacksLeftText (map rename_text c.deref-5.result.now) pages (map string_bytes c.deref-4.result.now) =
    subst (λ o. MatchOption o (LacksLeftText (map rename_text c.deref-5.result.now) pages (map string_bytes c.deref-4.result.now))
    (λ left. AllZip (IsLeftText (map rename_text c.deref-5.result.now) pages) (map string_bytes c.deref-4.result.now) left.items)) none
    c.in_ok-cleaned.ensures in
    λ _. lacks plan pages renames c.in_ok-staged.ensures
    (subst (λ rs. LacksLeftText (map rename_text rs) pages plan.removed) c.deref-5.ensures.value
    (subst (λ ls. LacksLeftText (map rename_text c.deref-5.result.now) pages (map string_bytes ls)) c.deref-4.ensures.value why))
