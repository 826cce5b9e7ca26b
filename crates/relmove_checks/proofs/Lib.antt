mod MovesLemmas
mod TreesLemmas
mod AboveLemmas
mod ForeignLemmas
mod PlanLemmas
pub mod ForCallers
