-- Theorems that proofs of other crates may cite: the bytes before the first one of a class, and the mask of a class.
pub use Rattle.byte_classes.proofs.FirstLemmas.{position_le, list_all-take_before, list_all-length, mask-class}
