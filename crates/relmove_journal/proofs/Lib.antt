mod ShapeLemmas
mod OnceLemmas
pub mod ForCallers
mod LoopLemmas
mod ReadingLemmas
mod FieldLemmas
mod LinesLemmas
mod PartsLemmas
