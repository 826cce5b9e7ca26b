-- The output of an input, a line at a time.
use Rattle.std.proofs.Common.{◌≡◌, ℕ, List, [], ◌∷◌, ◌++◌, refl, append_assoc}
use Rattle.relpath_lib.specs.Command.{Answers, Adds}
use Rattle.relpath_lib.specs.Lines.{line_feed, lines_of}
use Rattle.relpath_lib.specs.Output.{IsOutput}

-- no line, no output
pub IsOutput-none : (input : List ℕ) → lines_of input ≡ [] → IsOutput input []
IsOutput-none input e = rw e refl

-- an answer to the first line, a line feed, and then an output of the rest
IsOutput-first : (input line rest answer output : List ℕ)
    → lines_of input ≡ line ∷ lines_of rest → Answers line answer → IsOutput rest output
    → IsOutput input (answer ++ line_feed ∷ output)
IsOutput-first input line rest answer output e a o = rw e (answer, output, a, o, refl)

-- after the output so far, the answer to the next line and a line feed
pub IsOutput-next : (input left line rest before middle after : List ℕ)
    → lines_of left ≡ line ∷ lines_of rest → Adds (Answers line) before middle → after ≡ middle ++ line_feed ∷ []
    → ((output : List ℕ) → IsOutput left output → IsOutput input (before ++ output))
    → (output : List ℕ) → IsOutput rest output → IsOutput input (after ++ output)
IsOutput-next input left line rest before middle after e (answer, a, added) ended so_far output o =
    rw (ended, added, append_assoc, append_assoc)
    (so_far (answer ++ line_feed ∷ output) (IsOutput-first left line rest answer output e a o))
