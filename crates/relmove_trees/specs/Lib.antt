pub mod FileTrees
pub mod TreeActions
