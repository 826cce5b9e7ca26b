-- Each turn adds the notice of the next entry, if it has one.
use Rattle.std.proofs.Common.{◌≡◌, ◌<◌, ◌+◌, ℕ, List, [], ◌∷◌, ◌++◌, Option, Some, None, length, take, get_or, filter_map, option_to_list, sym, ap, subst, ◌∙◌, append-nil, refl}
use Rattle.std.proofs.lemmas.List.{take_more}
use Rattle.std.proofs.lemmas.List.Elements.{filter_map-append}
use Rattle.std.proofs.lemmas.Slice.Zip.{all_zipped_more}
use Rattle.relative_path_moves.specs.Moves.{Move}
use Rattle.relmove_checks.specs.declared.entry.Entry.{Entry}
use Rattle.relmove_plan.specs.Symlinks.{AreNotices, HasNotice}
use Rattle.relmove_plan.specs.declared.symlinks.SymlinkNotice.{SymlinkNotice}
use Rattle.relmove_plan.proofs.symlinks.symlink_notices.Goals as goal
use Rattle.relmove_plan.proofs.symlinks.symlink_notices.Goals.{in-Some+in_ok-push, in_default}

-- the notice of one more entry, or none
AreNotices-next : (moves : List Move) (entries : List Entry) (entry : Entry) (notices : List SymlinkNotice)
    (notice : Option SymlinkNotice) (k : ℕ) → k < length entries → entry ≡ get_or entries k entry
    → AreNotices moves (take k entries) notices → HasNotice moves entry.path entry.kind notice
    → AreNotices moves (take (k + 1) entries) (notices ++ option_to_list notice)
AreNotices-next moves entries entry notices notice k l here (each, have, are) has = (
  each ++ notice ∷ [],
  rw (take_more entries k entry l)
      (all_zipped_more (λ (entry : Entry). HasNotice moves entry.path entry.kind) (take k entries) each (get_or entries k entry)
      notice have (subst (λ (entry : Entry). HasNotice moves entry.path entry.kind notice) here has)),
  ap (λ so_far. so_far ++ option_to_list notice) are ∙ ap (λ more. filter_map (λ notice. notice) each ++ more) (one notice)
      ∙ sym (filter_map-append (λ notice. notice) each (notice ∷ [])),
)
  where
    one : (notice : Option SymlinkNotice) → option_to_list notice ≡ filter_map (λ notice. notice) (notice ∷ [])
    one None = refl
    one (Some notice) = refl

pub loop-entry-preserved : goal.loop-entry-preserved
loop-entry-preserved c =
    let moves = c.args.moves.now in
    let entries = c.args.entries.now in
    let notices = c.loop-entry.notices.items in
    let k = c.loop-entry.entry-index in
    elim c.match-branch-2.branch [
      | in-Some+in_ok-push w ↦
          rw (w.notices-is, w.in_ok-push.ensures.items)
          (AreNotices-next moves entries c.entry-item.result notices (Some w.in-Some.notice) k c.loop-entry-test.true
          c.entry-item.is c.loop-entry.invariant (rw w.in-Some.is at c.in_ok-notice.ensures))
      | in_default w ↦
          rw w.notices-is
          (subst (AreNotices moves (take (k + 1) entries)) (append-nil notices)
          (AreNotices-next moves entries c.entry-item.result notices None k c.loop-entry-test.true
          c.entry-item.is c.loop-entry.invariant (rw w.in_default.is at c.in_ok-notice.ensures)))
    ]
