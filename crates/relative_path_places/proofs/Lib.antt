mod PlacesLemmas
mod NormalPathLemmas
mod ViewsLemmas
mod PlaceIndexLemmas
mod IndexEntriesLemmas
mod FrontTextLemmas
mod WayLemmas
pub mod ForCallers
