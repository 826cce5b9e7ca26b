pub mod Manifest
pub mod Clash
