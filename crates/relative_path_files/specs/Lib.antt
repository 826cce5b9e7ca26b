pub mod Win32
pub mod Names
pub mod NameTests
pub mod FromTop
pub mod Router
