pub mod Status
pub mod Memory
pub mod Numbers
