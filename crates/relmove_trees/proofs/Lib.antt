pub mod FileTreesLemmas
pub mod LeadToLemmas
