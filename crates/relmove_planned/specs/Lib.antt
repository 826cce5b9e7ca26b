pub mod Plans
pub mod Faults
