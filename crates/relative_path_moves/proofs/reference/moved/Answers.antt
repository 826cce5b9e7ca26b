-- If there is a table, the result is what the table returns. Otherwise it is the error of making the table.
use Rattle.relative_path_moves.specs.Moves.{moves_of}
use Rattle.relative_path_moves.specs.declared.move_error.MoveError.TheVariants.{AboveRoot, NoPath}
use Rattle.relative_path_moves.specs.declared.move_error.ReferenceError.TheVariants as reference_error
use Rattle.relative_path_moves.proofs.ReferenceLemmas.{is_err_of, no_file_name-moves, same_old-moves, Refuses-moves, Refuses-reference, Refuses-ok, no_file_name-ok, not_above, not_beyond}
use Rattle.relative_path_moves.proofs.reference.moved.Goals as goal

pub returns-in_err-new-clause-no_file_name : goal.returns-in_err-new-clause-no_file_name
returns-in_err-new-clause-no_file_name c = λ k.
    rw (is_err_of c.from_residual.result _ c.from_residual.ensures.1)
    (no_file_name-moves (moves_of c.args.moves.now) c.in_err-new.field-0.0 k (c.in_err-new.ensures.no_file_name k))

pub returns-in_err-new-clause-same_old : goal.returns-in_err-new-clause-same_old
returns-in_err-new-clause-same_old c = λ j k.
    rw (is_err_of c.from_residual.result _ c.from_residual.ensures.1)
    (same_old-moves c.in_err-new.field-0.0 j k _ (c.in_err-new.ensures.same_old j k))

pub returns-in_err-new-clause-above_root : goal.returns-in_err-new-clause-above_root
returns-in_err-new-clause-above_root c =
    rw (is_err_of c.from_residual.result _ c.from_residual.ensures.1)
    (Refuses-moves (moves_of c.args.moves.now) c.in_err-new.field-0.0 AboveRoot _ (not_above c.in_err-new.field-0.0)
    c.in_err-new.ensures.no_file_name c.in_err-new.ensures.same_old)

pub returns-in_err-new-clause-no_path : goal.returns-in_err-new-clause-no_path
returns-in_err-new-clause-no_path c =
    rw (is_err_of c.from_residual.result _ c.from_residual.ensures.1)
    (Refuses-moves (moves_of c.args.moves.now) c.in_err-new.field-0.0 NoPath _ (not_beyond c.in_err-new.field-0.0)
    c.in_err-new.ensures.no_file_name c.in_err-new.ensures.same_old)

pub returns-in_err-moved-clause-above_root : goal.returns-in_err-moved-clause-above_root
returns-in_err-moved-clause-above_root c =
    let table = c.in_ok-new.ensures in
    rw (is_err_of c.from_residual-in_err-moved.result _ c.from_residual-in_err-moved.ensures.1)
    (Refuses-reference (moves_of c.args.moves.now) c.in_err-moved.field-0.0 reference_error.AboveRoot _ table.named
    table.apart (rw table.moves at c.in_err-moved.ensures.above_root))

pub returns-in_err-moved-clause-no_path : goal.returns-in_err-moved-clause-no_path
returns-in_err-moved-clause-no_path c =
    let table = c.in_ok-new.ensures in
    rw (is_err_of c.from_residual-in_err-moved.result _ c.from_residual-in_err-moved.ensures.1)
    (Refuses-reference (moves_of c.args.moves.now) c.in_err-moved.field-0.0 reference_error.NoPath _ table.named
    table.apart (rw table.moves at c.in_err-moved.ensures.no_path))

pub returns-clause-no_file_name : goal.returns-clause-no_file_name
returns-clause-no_file_name c = λ k.
    no_file_name-ok (moves_of c.args.moves.now) c.in_ok-moved.field-0 k c.in_ok-new.ensures.named

pub returns-clause-above_root : goal.returns-clause-above_root
returns-clause-above_root c =
    Refuses-ok (moves_of c.args.moves.now) c.in_ok-moved.field-0 reference_error.AboveRoot _
    (rw c.in_ok-new.ensures.moves at c.in_ok-moved.ensures.above_root)

pub returns-clause-no_path : goal.returns-clause-no_path
returns-clause-no_path c =
    Refuses-ok (moves_of c.args.moves.now) c.in_ok-moved.field-0 reference_error.NoPath _
    (rw c.in_ok-new.ensures.moves at c.in_ok-moved.ensures.no_path)

pub returns-clause-shortest : goal.returns-clause-shortest
returns-clause-shortest c =
    let table = c.in_ok-new.ensures in
    (table.named, table.apart, rw table.moves at c.in_ok-moved.ensures.shortest)
