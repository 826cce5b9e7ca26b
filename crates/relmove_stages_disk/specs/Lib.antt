pub mod Entries
pub mod Acting
pub mod Journals
pub mod Disks
pub mod Texts
