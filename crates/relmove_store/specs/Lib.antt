pub mod Printing
pub mod Permissions
pub mod Faults
