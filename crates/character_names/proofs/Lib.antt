pub mod ForCallers
pub mod LongestLemmas
pub mod SearchLemmas
pub mod TableLemmas
