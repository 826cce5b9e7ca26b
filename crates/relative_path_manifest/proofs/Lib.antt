mod ManifestLemmas
mod ClashLemmas
