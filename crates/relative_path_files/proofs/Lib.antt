mod DevicesLemmas
mod FromTopLemmas
mod NamesLemmas
mod RouterLemmas
pub mod ForCallers
