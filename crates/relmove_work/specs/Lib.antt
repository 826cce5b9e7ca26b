pub mod StagingPaths
pub mod Works
pub mod Pages
pub mod Leading
