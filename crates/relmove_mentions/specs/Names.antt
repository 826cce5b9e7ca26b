-- The names that a path has in a site.
use Rattle.std.specs.Prelude.{ℕ, Bool, true, false, not, ◌||◌, List, [], ◌∷◌, ◌++◌, map, Option, Some, None, codes, if◌then◌else◌, max}
use Rattle.std.specs.Char.{to_ascii_lowercase}
use Rattle.std.specs.List.{fold}
use Rattle.std.specs.Option.{option_and_then}
use Rattle.std.specs.Str.{bytes_eq}
use Rattle.relative_path.specs.Steps.{Step, cur, up, name, dot, components, step_text}
use Rattle.relative_path.specs.Editing.{kept}
use Rattle.relative_path.specs.Naming.{file_name_of, stem_of, extension_of}
use Rattle.relmove_mentions.specs.Spans.{others_in}

-- the extension is `md` or `markdown`, in any case
abbrev pub is_page_extension : Option (List ℕ) → Bool
is_page_extension None = false
is_page_extension (Some e) =
    bytes_eq (map to_ascii_lowercase e) (codes "md") || bytes_eq (map to_ascii_lowercase e) (codes "markdown")

-- the name is that of a page for which its directory can stand
abbrev pub is_index_name : List ℕ → Bool
is_index_name n = bytes_eq n (codes "README.md") || bytes_eq n (codes "index.md") || bytes_eq n (codes "_index.md")

-- the list isn't empty
abbrev pub has_steps : List Step → Bool
has_steps [] = false
has_steps (c ∷ cs) = true

-- the file name is that of a page
abbrev pub is_page : Option (List ℕ) → Bool
is_page file_name = is_page_extension (option_and_then extension_of file_name)

-- the file name is that of a page for which its directory can stand
abbrev pub is_index_page : Option (List ℕ) → Bool
is_index_page None = false
is_index_page (Some n) = is_index_name n

-- the stem of a file name can be a name: there is one, and it isn't `.` or `..`
abbrev pub is_bare_name : Option (List ℕ) → Bool
is_bare_name None = false
is_bare_name (Some stem) = not (bytes_eq stem (step_text cur) || bytes_eq stem (step_text up))

-- in a directory, the stem of a file name, if it can be a name
abbrev pub bare_names : List Step → Option (List ℕ) → List (List Step)
bare_names directory None = []
bare_names directory (Some stem) = if is_bare_name (Some stem) then (directory ++ name stem ∷ []) ∷ [] else []

-- in a directory, the further names of a file that is a page: with `.html`, and without an extension
abbrev pub page_names : List Step → Option (List ℕ) → List (List Step)
page_names directory None = []
page_names directory (Some n) =
    if is_page (Some n)
    then (directory ++ name (stem_of n ++ dot ∷ codes "html") ∷ []) ∷ bare_names directory (Some (stem_of n))
    else []

-- the directory, unless it is the top
abbrev pub directory_names : List Step → List (List Step)
directory_names directory = if has_steps directory then directory ∷ [] else []

-- in a directory, the further names of a page for which the directory can stand: its `index.html`, and the directory
abbrev pub index_names : List Step → Option (List ℕ) → List (List Step)
index_names directory file_name =
    if is_index_page file_name then (directory ++ name (codes "index.html") ∷ []) ∷ directory_names directory else []

-- the names of a path: itself, those of a page, and those of a page for which its directory can stand
abbrev pub names_of : List ℕ → List (List Step)
names_of old = components old ∷ page_names (kept (components old)) (file_name_of old)
    ++ index_names (kept (components old)) (file_name_of old)

-- the most bytes in a path of these that don't go on a path
abbrev pub most_others : List (List ℕ) → ℕ
most_others olds = fold (λ most old. max most (others_in old)) 0 olds
