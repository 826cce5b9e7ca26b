pub mod CowRelativePath
pub mod Json
