-- The result is that of one move.
use Rattle.std.proofs.Common.{◌≢◌, Ok, Err, refl}
use Rattle.relative_path.specs.Steps.{components}
use Rattle.relpath_lib.specs.Command.{TellsMoved}
use Rattle.relative_path_moves.specs.declared.move_error.MoveError.TheVariants.{OutOfMemory}
use Rattle.relpath_lib.proofs.CommandLemmas.{Adds-three, OnOk-known, IsAnswered-refused}
use Rattle.relpath_lib.proofs.command.answer_move.Goals as goal

pub returns-in-Ok : goal.returns-in-Ok
returns-in-Ok c =
    Adds-three (λ old new reference. TellsMoved (components old) (components new) (components reference))
    c.add_path.result _ _ _ _ _ _ _ _ _ _ c.new.ensures c.new-2.ensures c.new-3.ensures
    (λ _. (Ok _, c.in-Ok.ensures.shortest, refl)) (OnOk-known _ c.add_path.result c.add_path.ensures)

pub returns-in-Err : goal.returns-in-Err
returns-in-Err c =
    let refused = c.in-Err.ensures in
    Adds-three (λ old new reference. TellsMoved (components old) (components new) (components reference))
    c.add_move_error.result (c.in-Err.error ≢ OutOfMemory) _ _ _ _ _ _ _ _ _
    c.new.ensures c.new-2.ensures c.new-3.ensures
    (λ some. (
      Err c.in-Err.error,
      IsAnswered-refused _ 0 _ c.in-Err.error some refused.no_file_name
          refused.same_old refused.above_root refused.no_path,
      refl,
    ))
    c.add_move_error.ensures
