-- The move's page is removed, or what is at its old path is carried.
use Rattle.std.proofs.Common.{sym, ap, subst, string_bytes, ◌∙◌}
use Rattle.std.proofs.lemmas.Result.{on_ok_weaker}
use Rattle.relative_path.specs.Normalizing.{IsNormalTextOf}
use Rattle.relative_path.specs.RelativePath.{path_components}
use Rattle.relmove_checks.specs.Moves.{move_of}
use Rattle.relmove_steps.specs.Actions.{AreAmong, DoesMove, LosesNothing, OnlyTheseLeave, ActionTexts, of_move, staged_names, rename_texts}
use Rattle.relmove_steps.specs.NewFiles.{LeaveOnce}
use Rattle.relmove_steps.proofs.ActionsLemmas.{LosesNothing-with_carried, LosesNothing-with_removed, staged_names-push}
use Rattle.relmove_steps.proofs.CarryLemmas.{AreAmong-with_carried, AreAmong-with_removed, DoesMove-carried, DoesMove-removed}
use Rattle.relmove_steps.proofs.OnlyLemmas.{OnlyTheseLeave-with_carried, OnlyTheseLeave-with_removed}
use Rattle.relmove_steps.proofs.OnceLemmas.{LeaveOnce-with_carried, LeaveOnce-with_removed}
use Rattle.relmove_steps.specs.Directories.{LeavesTo}
use Rattle.relmove_steps.proofs.DirectoriesLemmas.{LeavesTo-with_carried, LeavesTo-with_removed}
use Rattle.relmove_steps.proofs.renames.add_move.Goals as goal

pub returns-then-is_some : goal.returns-then-is_some
returns-then-is_some c =
    let actions = rename_texts c.args.renames.now in
    let from = string_bytes c.in_ok-from.from in
    let name = c.args.name.now in
    let move = move_of (path_components c.args.old.now) (path_components c.args.new.now) in
    let from_is : IsNormalTextOf move.old from = c.in_ok-from.ensures in
    record {
      kept = on_ok_weaker c.add_removed.result
          (λ is. subst LosesNothing (sym is)
          (LosesNothing-with_removed actions from name c.requires)) c.add_removed.ensures;
      among = on_ok_weaker c.add_removed.result
          (λ is. subst (AreAmong actions) (sym is) (AreAmong-with_removed actions from name)) c.add_removed.ensures;
      moved = on_ok_weaker c.add_removed.result
          (λ is paths has. subst (λ all. DoesMove paths all move) (sym is)
          (DoesMove-removed actions paths move c.get.result from name
          (c.get.ensures.found paths move.old has c.normal.ensures.same) from_is (cc))) c.add_removed.ensures;
      left = on_ok_weaker c.add_removed.result
          (λ is. ap staged_names is ∙ staged_names-push actions from name) c.add_removed.ensures;
      only = on_ok_weaker c.add_removed.result
          (λ is moves paths k l here only. subst (OnlyTheseLeave moves paths) (sym is)
          (OnlyTheseLeave-with_removed moves paths actions from name
          (of_move k l (rw here from_is)) only)) c.add_removed.ensures;
      texts = on_ok_weaker c.add_removed.result (λ is. ap (λ (all : ActionTexts). all.texts) is) c.add_removed.ensures;
      once = on_ok_weaker c.add_removed.result
          (λ is stays once.
          subst LeaveOnce (sym is) (LeaveOnce-with_removed actions (path_components c.args.old.now) from name from_is stays once))
          c.add_removed.ensures;
      named = on_ok_weaker c.add_removed.result
          (λ is. subst (λ all. LeavesTo all move.old name) (sym is)
          (LeavesTo-with_removed actions move.old from name from_is)) c.add_removed.ensures;
    }

pub returns : goal.returns
returns c =
    let actions = rename_texts c.args.renames.now in
    let from = string_bytes c.in_ok-from.from in
    let name = c.args.name.now in
    let to = string_bytes c.in_ok-to.to in
    let move = move_of (path_components c.args.old.now) (path_components c.args.new.now) in
    let from_is : IsNormalTextOf move.old from = c.in_ok-from.ensures in
    let to_is : IsNormalTextOf move.new to = c.in_ok-to.ensures in
    record {
      kept = on_ok_weaker c.add_carried.result
          (λ is. subst LosesNothing (sym is)
          (LosesNothing-with_carried actions from name to c.requires)) c.add_carried.ensures;
      among = on_ok_weaker c.add_carried.result
          (λ is. subst (AreAmong actions) (sym is) (AreAmong-with_carried actions from name to)) c.add_carried.ensures;
      moved = on_ok_weaker c.add_carried.result
          (λ is paths has. subst (λ all. DoesMove paths all move) (sym is)
          (DoesMove-carried actions paths move c.get.result from name
          (c.get.ensures.found paths move.old has c.normal.ensures.same) from_is to to_is
          (cc))) c.add_carried.ensures;
      left = on_ok_weaker c.add_carried.result
          (λ is. ap staged_names is ∙ staged_names-push actions from name) c.add_carried.ensures;
      only = on_ok_weaker c.add_carried.result
          (λ is moves paths k l here only. subst (OnlyTheseLeave moves paths) (sym is)
          (OnlyTheseLeave-with_carried moves paths actions from name to
          (of_move k l (rw here from_is)) only)) c.add_carried.ensures;
      texts = on_ok_weaker c.add_carried.result (λ is. ap (λ (all : ActionTexts). all.texts) is) c.add_carried.ensures;
      once = on_ok_weaker c.add_carried.result
          (λ is stays once.
          subst LeaveOnce (sym is) (LeaveOnce-with_carried actions (path_components c.args.old.now) from name from_is stays to once))
          c.add_carried.ensures;
      named = on_ok_weaker c.add_carried.result
          (λ is. subst (λ all. LeavesTo all move.old name) (sym is)
          (LeavesTo-with_carried actions move.old from name to from_is)) c.add_carried.ensures;
    }
