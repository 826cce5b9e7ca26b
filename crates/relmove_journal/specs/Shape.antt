-- Which work can be a run's: the paths in its lists, and how the lists fit together.
use Rattle.std.specs.Prelude.{◌≡◌, ◌≢◌, ℕ, nat_eq, Bool, true, false, not, ◌&&◌, ◌||◌, ◌==◌, List, [], ◌∷◌, ◌++◌, AllPairs, IsPermutation, IsTrue, codes, drop, length, map, string_bytes}
use Rattle.std.specs.List.{list_all, list_any, slice_split, starts_with}
use Rattle.std.specs.List.Sorted.{IsStrictlySortedBy}
use Rattle.std.specs.Cmp.Lexicographic.{slice_cmp}
use Rattle.std.specs.Ordering.{nat_cmp}
use Rattle.std.specs.Str.{bytes_eq}
use Rattle.std.specs.Char.{is_ascii_digit}
use Rattle.relmove_actions.specs.declared.actions.Rename.{Rename}
use Rattle.relmove_journal.specs.declared.work.Leftover.{Leftover}
use Rattle.relmove_journal.specs.declared.work.Leftover.TheVariants.{Text, Directory}
use Rattle.relmove_journal.specs.declared.work.TextFile.{TextFile}
use Rattle.relmove_journal.specs.declared.work.Work.{Work}

-- ---- names

-- the byte is a slash
abbrev pub is_slash : ℕ → Bool
is_slash b = b == 47

-- the text has a byte
abbrev pub is_not_empty : List ℕ → Bool
is_not_empty [] = false
is_not_empty (b ∷ bs) = true

-- the text begins with these characters
abbrev pub begins_with : List ℕ → List ℕ → Bool
begins_with start text = starts_with nat_eq text start

-- the text is no name: it is empty, `.` or `..`
abbrev pub is_nameless : List ℕ → Bool
is_nameless text = bytes_eq text [] || bytes_eq text (codes ".") || bytes_eq text (codes "..")

-- the text is a name, and none of a run's own
abbrev pub is_name : List ℕ → Bool
is_name text = not (is_nameless text) && not (begins_with (codes ".relmove") text) && not (list_any (λ b. b == 0) text)

-- the text is the name of a directory that is read: one without a dot at its beginning, or `.github`
abbrev pub is_directory_name : List ℕ → Bool
is_directory_name n = is_name n && (not (begins_with (codes ".") n) || bytes_eq n (codes ".github"))

-- the text is a number
abbrev pub is_number : List ℕ → Bool
is_number text = is_not_empty text && list_all is_ascii_digit text

-- the text leads to the run's own directory, and to something in it
abbrev pub is_in_run_directory : List ℕ → Bool
is_in_run_directory text = begins_with (codes ".relmove-run/") text

-- what follows the name of that directory
abbrev pub below_run_directory : List ℕ → List ℕ
below_run_directory text = drop 13 text

-- the text is `.relmove-run/` and a number
abbrev pub is_staging_name : List ℕ → Bool
is_staging_name text = is_in_run_directory text && is_number (below_run_directory text)

-- ---- paths

-- the names on the way of a path: what its slashes separate
abbrev pub names : List ℕ → List (List ℕ)
names path = slice_split is_slash path

-- the way leads through directories that are read, and its last name passes a test
abbrev pub leads_to : (List ℕ → Bool) → List (List ℕ) → Bool
leads_to test [] = false
leads_to test (last ∷ []) = test last
leads_to test (directory ∷ next ∷ way) = is_directory_name directory && leads_to test (next ∷ way)

-- the way leads from a number through directories that are read
abbrev pub leads_from_number : List (List ℕ) → Bool
leads_from_number [] = false
leads_from_number (number ∷ way) = is_number number && leads_to is_directory_name way

-- the path leads to a file or a directory
abbrev pub is_path : List ℕ → Bool
is_path path = leads_to is_name (names path)

-- the path leads to a directory that is read
abbrev pub is_directory_path : List ℕ → Bool
is_directory_path path = leads_to is_directory_name (names path)

-- the path leads from the staging name of a directory that moves to a directory that is read
abbrev pub is_made_below : List ℕ → Bool
is_made_below path = is_in_run_directory path && leads_from_number (names (below_run_directory path))

-- a run can make a directory at the path: its way begins at the root, or at the staging name of a directory that moves
abbrev pub is_made_path : List ℕ → Bool
is_made_path path = is_directory_path path || is_made_below path

-- ---- the lists of a run's work

-- the text has a staging name
abbrev pub is_written : TextFile → Bool
is_written text = is_staging_name (string_bytes text.path)

-- the rename leads from a path to a staging name
abbrev pub is_staging : Rename → Bool
is_staging rename = is_path (string_bytes rename.from) && is_staging_name (string_bytes rename.to)

-- the rename leads from a staging name to a path
abbrev pub is_placing : Rename → Bool
is_placing rename = is_staging_name (string_bytes rename.from) && is_path (string_bytes rename.to)

-- what is removed is a text under a staging name, or a directory that is read
abbrev pub is_leftover : Leftover → Bool
is_leftover (Text file) = is_staging_name (string_bytes file.path)
is_leftover (Directory path) = is_directory_path (string_bytes path)

-- the old paths of the renames
abbrev pub old_paths : List Rename → List (List ℕ)
old_paths renames = map (λ rename. string_bytes rename.from) renames

-- their new paths
abbrev pub new_paths : List Rename → List (List ℕ)
new_paths renames = map (λ rename. string_bytes rename.to) renames

-- the paths of the texts
abbrev pub text_paths : List TextFile → List (List ℕ)
text_paths texts = map (λ text. string_bytes text.path) texts

-- the paths of the texts that are removed
abbrev pub removed_paths : List Leftover → List (List ℕ)
removed_paths [] = []
removed_paths (Text file ∷ leftovers) = string_bytes file.path ∷ removed_paths leftovers
removed_paths (Directory path ∷ leftovers) = removed_paths leftovers

-- each path comes before the next one, by their bytes
abbrev pub AreAscending : List (List ℕ) → Type 0
AreAscending paths = IsStrictlySortedBy (slice_cmp nat_cmp) paths

-- no two of the paths are equal
abbrev pub AreDifferent : List (List ℕ) → Type 0
AreDifferent paths = AllPairs (λ one other. one ≢ other) paths

-- each path is one that a run has in its list
abbrev pub has_paths_of_run : Work → Bool
has_paths_of_run work = list_all is_written work.texts.items && list_all is_staging work.staged.items
    && list_all (λ path. is_made_path (string_bytes path)) work.made.items
    && list_all is_placing work.placed.items && list_all is_leftover work.cleaned.items

-- the lists have the same paths, each once
pub record HaveSameOnce (paths others : List (List ℕ)) : Type 0 where
  pub same : IsPermutation paths others
  pub different : AreDifferent paths

-- each staging name is given once, and what has one, a new text too, is placed or removed, once
abbrev pub PlacesOrRemoves : Work → Type 0
PlacesOrRemoves work = HaveSameOnce (new_paths work.staged.items ++ text_paths work.texts.items)
    (old_paths work.placed.items ++ removed_paths work.cleaned.items)

-- no new text is removed, so each is placed
abbrev pub KeepsItsTexts : Work → Type 0
KeepsItsTexts work = AreDifferent (text_paths work.texts.items ++ removed_paths work.cleaned.items)

-- as many texts are removed as new texts come
abbrev pub RemovesAsManyTexts : Work → Type 0
RemovesAsManyTexts work = length (removed_paths work.cleaned.items) ≡ length work.texts.items

-- nothing gets two staging names, and no two things get one new path
abbrev pub GoesOnce : Work → Type 0
GoesOnce work = AreDifferent (old_paths work.staged.items) × AreDifferent (new_paths work.placed.items)

-- the work can be a run's
pub record IsOfRun (work : Work) : Type 0 where
  pub paths : IsTrue (has_paths_of_run work)
  pub names : PlacesOrRemoves work
  pub texts : KeepsItsTexts work
  pub removed : RemovesAsManyTexts work
  pub once : GoesOnce work
