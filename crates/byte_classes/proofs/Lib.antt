mod FirstLemmas
pub mod ForCallers
