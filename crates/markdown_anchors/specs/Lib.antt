pub mod Names
pub mod Slugs
pub mod Taken
