pub mod StageActions
pub mod Stages
pub mod States
pub mod Runs
pub mod Halts
