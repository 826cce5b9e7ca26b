pub mod Moves
pub mod Trees
pub mod Refusals
pub mod Plan
