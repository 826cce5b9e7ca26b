pub mod Pieces
pub mod CharacterReferences
pub mod Source
pub mod Url
pub mod Reading
pub mod Shown
pub mod Writing
