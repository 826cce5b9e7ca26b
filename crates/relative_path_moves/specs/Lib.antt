pub mod Moves
pub mod MoveError
pub mod MoveTable
pub mod TreeMoves
pub mod Reference
