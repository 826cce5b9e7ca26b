pub mod Shape
pub mod Paths
pub mod Journals
pub mod Reading
