mod PagesLemmas
mod OrderLemmas
mod ActionsLemmas
mod CarryLemmas
mod OnlyLemmas
mod NumbersLemmas
mod NamesLemmas
mod NewFilesLemmas
mod DrawingLemmas
mod OnceLemmas
mod DirectoriesLemmas
pub mod ForCallers
