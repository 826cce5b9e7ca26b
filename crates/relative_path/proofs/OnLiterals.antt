-- What an answer unfolds to compute the components of a literal.
use Rattle.std.proofs.Common.{◌≡◌, [], ◌∷◌, codes, refl}
use Rattle.std.specs.Prelude.{⊤}
use Rattle.relative_path.specs.Steps.{up, name, pieces, components}

unfoldable pub relative_path_on_literals : ⊤
unfolding pieces components
relative_path_on_literals = tt

-- the example of CALLING.md
pub components-example : components (codes "docs/../a.md") ≡ name (codes "docs") ∷ up ∷ name (codes "a.md") ∷ []
unfolding relative_path_on_literals
components-example = refl
