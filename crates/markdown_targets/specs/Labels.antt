-- Labels, the names of links: CommonMark 0.31.2, section 6.3 ("matches").
use Rattle.std.specs.Prelude.{ℕ, Bool, false, not, List, [], ◌∷◌, map, if◌then◌else◌}
use Rattle.std.specs.Char.{to_ascii_lowercase}
use Rattle.markdown_targets.specs.Classes.{is_space}

-- the text without the spaces, tabs and line ends with which it begins
abbrev pub drop_spaces : List ℕ → List ℕ
drop_spaces [] = []
drop_spaces (b ∷ bs) = if is_space b then drop_spaces bs else b ∷ bs

-- the text begins with a byte that is no space, tab or line end
abbrev pub begins_word : List ℕ → Bool
begins_word [] = false
begins_word (b ∷ bs) = not (is_space b)

-- the text with one space in place of all spaces, tabs and line ends between two words, and none after the last word
abbrev pub collapse_spaces : List ℕ → List ℕ
collapse_spaces [] = []
collapse_spaces (b ∷ bs) =
    if is_space b then (if begins_word bs then 32 ∷ collapse_spaces bs else collapse_spaces bs) else b ∷ collapse_spaces bs

-- the label as it is compared with others: without case as far as ASCII, without spaces at its ends, with one space
-- between two words
abbrev pub normalized_label : List ℕ → List ℕ
normalized_label label = map to_ascii_lowercase (collapse_spaces (drop_spaces label))
