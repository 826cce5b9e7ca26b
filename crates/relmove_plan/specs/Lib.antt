pub mod WholeTrees
pub mod MovedTrees
pub mod KnownTrees
pub mod ActionPaths
pub mod Symlinks
pub mod MadePaths
