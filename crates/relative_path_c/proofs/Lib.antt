mod LengthLemmas
mod MemoryLemmas
