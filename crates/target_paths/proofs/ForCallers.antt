-- Theorems that proofs of other crates may cite.
use Rattle.std.proofs.Common.{◌≡◌, ℕ, true, List, ◌∷◌}
use Rattle.std.specs.List.{slice_split, AllZip}
use Rattle.target_paths.specs.declared.target.TargetSyntax.{TargetSyntax}
use Rattle.target_paths.specs.Reading.{is_tail_byte, IsTail}
use Rattle.target_paths.specs.Url.{is_slash}
use Rattle.target_paths.specs.Writing.{path_written, target_of}
use Rattle.target_paths.proofs.RoundTripLemmas as lemmas
use Rattle.target_paths.proofs.SegmentsLemmas as segments
pub use Rattle.target_paths.proofs.SegmentsLemmas.{IsWrittenAs}

-- a text that begins with `?` or `#` is a tail in each syntax
pub IsTail-byte : (syntax : TargetSyntax) (b : ℕ) (bs : List ℕ) → is_tail_byte b ≡ true → IsTail syntax (b ∷ bs)
IsTail-byte syntax b bs is = lemmas.IsTail-byte syntax b bs is

-- slashes cut the target that is written for a path into as many segments as the path, each of them decoded to the
-- path's segment unless that has a NUL
pub target_of-segments : (path : List ℕ)
    → AllZip IsWrittenAs (slice_split is_slash (target_of path)) (slice_split is_slash (path_written path))
target_of-segments = segments.target_of-segments
