-- The output of an input.
use Rattle.std.specs.Prelude.{◌≡◌, ℕ, List, [], ◌∷◌, ◌++◌}
use Rattle.relpath_lib.specs.Lines.{line_feed, lines_of}
use Rattle.relpath_lib.specs.Command.{Answers}

-- the output is the answers to the lines, one for each, in order, each with a line feed
abbrev pub AnswersLines : List (List ℕ) → List ℕ → Type 0
AnswersLines [] output = output ≡ []
AnswersLines (line ∷ lines) output =
    (answer : List ℕ) × (rest : List ℕ) × Answers line answer × AnswersLines lines rest
    × (output ≡ answer ++ line_feed ∷ rest)

-- the output is the answers to the lines of the input
abbrev pub IsOutput : List ℕ → List ℕ → Type 0
IsOutput input output = AnswersLines (lines_of input) output
