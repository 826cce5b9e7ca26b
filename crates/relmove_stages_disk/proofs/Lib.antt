mod PathsLemmas
mod NodesLemmas
mod EntriesLemmas
mod LookingLemmas
mod ActingLemmas
mod DisksLemmas
pub mod TextsLemmas
mod StagesLemmas
