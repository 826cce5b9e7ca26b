mod MovesLemmas
mod PairsLemmas
mod MoveTableLemmas
mod ReferenceLemmas
mod LeadingLemmas
mod TreeMovesLemmas
pub mod ForCallers
