mod LabelsLemmas
pub mod SpansLemmas
mod OffsetsLemmas
