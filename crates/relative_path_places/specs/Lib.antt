pub mod Places
pub mod OneProof
pub mod Views
pub mod PlaceIndex
pub mod IndexEntries
pub mod Ways
