pub mod CommandLemmas
pub mod InputLemmas
pub mod LinesLemmas
pub mod UniquenessLemmas
pub mod OutputLemmas
