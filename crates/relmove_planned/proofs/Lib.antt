mod OutcomeLemmas
mod PageTextsLemmas
pub mod LabelledLemmas
mod KnownTreesLemmas
mod MovesLemmas
pub mod ForCallers
mod WorkLemmas
