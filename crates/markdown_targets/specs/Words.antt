-- Words in a text.
use Rattle.std.specs.Prelude.{ℕ, ◌+◌, Bool, List, [], ◌∷◌, length, take, Option, Some, None, if◌then◌else◌, nat_eq}
use Rattle.std.specs.Cmp.Lexicographic.{pointwise}

-- the text begins with the word
abbrev pub begins_with : List ℕ → List ℕ → Bool
begins_with word text = pointwise nat_eq (take (length word) text) word

-- the end of the first of these words in a text that is left from an offset on
abbrev pub word_end : List ℕ → ℕ → List ℕ → Option ℕ
word_end word at [] = None
word_end word at (b ∷ bs) =
    if begins_with word (b ∷ bs) then Some (at + length word) else word_end word (at + 1) bs
