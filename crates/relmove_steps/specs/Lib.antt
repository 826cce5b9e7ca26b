pub mod Pages
pub mod Actions
pub mod Numbers
pub mod StagingNames
pub mod Directories
pub mod NewFiles
