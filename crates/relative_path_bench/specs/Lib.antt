pub mod Walking
pub mod Joining
pub mod Naming
pub mod Relating
