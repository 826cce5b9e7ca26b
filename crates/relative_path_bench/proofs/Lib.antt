pub mod WalkingLemmas
pub mod JoiningLemmas
pub mod NamingLemmas
pub mod RelatingLemmas
