-- What is there after the calls that plan moves and carry them out.
use Rattle.std.proofs.Common.{◌≡◌, ℕ, List, inl, inr, refl, subst}
use Rattle.relative_path_links.specs.declared.site.MovedSitePage.{MovedSitePage}
use Rattle.relative_path_links.specs.declared.site.SitePage.{SitePage}
use Rattle.relative_path_moves.specs.Moves.{Move}
use Rattle.relmove_checks.specs.declared.entry.Entry.{Entry}
use Rattle.relmove_checks.specs.declared.name_rule.NameRule.{NameRule}
use Rattle.relmove_journal.specs.declared.work.Work.{Work}
use Rattle.relmove_stages.proofs.StateLemmas.{guards-call, guards-none, guards-then}
use Rattle.relmove_stages.specs.Runs.{Guards, IsOnTheWay}
use Rattle.relmove_stages.specs.States.{Disk, IsOneCall, State}
use Rattle.relmove_work.specs.Leading.{trees_of}
use Rattle.relmove_planned.specs.Plans.{HasRun, IsOnTheirWay}

module _ (entries : List Entry) (pages : List SitePage) (moves : List Move) (rule : NameRule) where
  abbrev pub Way : State → Disk → Type 0
  Way old = IsOnTheirWay entries pages moves rule old.disk

  -- no call yet
  pub guards-refused : (old : State) → Guards (Way old) old old
  guards-refused old = guards-none (Way old) old (inl refl)

  -- the call that takes the new texts
  pub guards-taken : (old mid : State) → IsOneCall old mid → mid.disk ≡ old.disk → Guards (Way old) old mid
  guards-taken old mid call same = guards-call (Way old) old old mid (guards-refused old) call (inl same)

  -- and the run
  pub guards-run : (old mid new : State) (news : List MovedSitePage) (work : Work) (texts : List (List ℕ))
      → HasRun entries pages news moves rule work texts → IsOneCall old mid → mid.disk ≡ old.disk
      → Guards (IsOnTheWay work (trees_of work texts mid.disk.tree)) mid new → Guards (Way old) old new
  guards-run old mid new news work texts has call same run =
      guards-then (Way old) (IsOnTheWay work (trees_of work texts mid.disk.tree)) old mid new
      (λ disk way. inr (
        news,
        work,
        texts,
        has,
        subst (λ (now : Disk). IsOnTheWay work (trees_of work texts now.tree) disk) same way,
      ))
      (guards-taken old mid call same) run
