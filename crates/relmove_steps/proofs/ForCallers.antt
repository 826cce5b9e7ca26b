-- Theorems that a caller's proof may cite: on the staging names.
use Rattle.std.proofs.Common.{All, IsPermutation, ◌≡◌, ℕ, List, [], ◌∷◌}
use Rattle.relative_path.specs.Steps.{Step, name, components}
use Rattle.relmove_steps.specs.StagingNames.{AreFreeNames}
use Rattle.relmove_steps.proofs.NamesLemmas as names
use Rattle.relmove_steps.proofs.NewFilesLemmas as files

-- names stay free in another order
pub AreFreeNames-IsPermutation : (paths : List (List Step)) (names others : List (List ℕ)) → IsPermutation names others
    → AreFreeNames paths names → AreFreeNames paths others
AreFreeNames-IsPermutation = names.AreFreeNames-IsPermutation

-- staging names are one component each
pub components-free : (paths : List (List Step)) (names : List (List ℕ)) → AreFreeNames paths names
    → All (λ staging. components staging ≡ name staging ∷ []) names
components-free = files.components-free
