pub mod Meter
pub mod Fault
pub mod Report
pub mod Lines
pub mod Command
pub mod Output
pub mod Input
pub mod Run
