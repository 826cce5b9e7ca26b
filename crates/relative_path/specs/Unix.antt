-- Platform paths under the Unix rules that the documentation of Rust's `std::path` gives for the components of a path:
-- a slash at the start is the root, other slashes only separate, and a `.` counts only at the start of a path without a
-- root.
use Rattle.std.specs.Prelude.{◌≡◌, ◌≢◌, ℕ, ◌-◌, ◌≤◌, Bool, false, List, [], ◌∷◌, ◌++◌, length, take, drop, replicate, Option, if◌then◌else◌}
use Rattle.std.specs.List.{common_prefix_len}
use Rattle.std.specs.Option.{option_map}
use Rattle.relative_path.specs.Steps.{Step, cur, up, name, is_slash, step_text, components}
use Rattle.relative_path.specs.Walk.{walk}
use Rattle.relative_path.specs.Editing.{without_cur_dirs}
use Rattle.relative_path.specs.Writing.{with_piece}
use Rattle.relative_path.specs.Comparing.{step_eq}

-- the text begins with a slash
abbrev pub has_root : List ℕ → Bool
has_root [] = false
has_root (b ∷ bs) = is_slash b

-- the components without any `.` after the first component
abbrev pub without_inner_cur_dirs : List Step → List Step
without_inner_cur_dirs [] = []
without_inner_cur_dirs (c ∷ cs) = c ∷ without_cur_dirs cs

-- the components that count: under a root all but each `.`; without a root also a `.` that comes first
abbrev pub counted : (rooted : Bool) → List Step → List Step
counted rooted cs = if rooted then without_cur_dirs cs else without_inner_cur_dirs cs

-- the components of the text under the Unix rules, after its root if it has one
abbrev pub unix_components : List ℕ → List Step
unix_components text = counted (has_root text) (components text)

-- all of the components but the last
abbrev pub but_last : List Step → List Step
but_last cs = take (length cs - 1) cs

-- p is what going up from the text leaves: the text itself if it has no component, and otherwise the shortest prefix
-- with the same root and all its components but the last
pub record IsAbove (text p : List ℕ) : Type 0 where
  pub at_top : unix_components text ≡ [] → p ≡ text
  pub prefix : p ≡ take (length p) text
  pub same_root : has_root p ≡ has_root text
  pub components : unix_components p ≡ but_last (unix_components text)
  pub shortest : unix_components text ≢ [] → (k : ℕ) → has_root (take k text) ≡ has_root text
      → unix_components (take k text) ≡ unix_components p → length p ≤ k

-- the root, followed by the text of each component; a slash precedes each of them, except at the start of the whole
abbrev pub onto : List ℕ → List Step → List ℕ
onto root [] = root
onto root (c ∷ cs) = onto (with_piece root (step_text c)) cs

-- text is where the components lead from the root: each `.` is skipped, each `..` goes up, and each name is added as
-- `onto` adds it
abbrev pub IsLogical : List ℕ → List Step → List ℕ → Type 0
IsLogical root [] text = text ≡ root
IsLogical root (cur ∷ cs) text = IsLogical root cs text
IsLogical root (up ∷ cs) text = (p : List ℕ) × IsAbove root p × IsLogical p cs text
IsLogical root (name n ∷ cs) text = IsLogical (with_piece root n) cs text

-- one `..` for each name of the place where from leads from the top, and then to; none if from climbs above the top
abbrev pub way_back : (from to : List Step) → Option (List Step)
way_back from to = option_map (λ place. replicate (length place) up ++ to) (walk [] from)

-- how many components both lists begin with
abbrev pub shared_len : List Step → List Step → ℕ
shared_len = common_prefix_len step_eq

-- both lists without the components that both begin with
abbrev pub without_shared : List Step → List Step → List Step × List Step
without_shared cs ds = (drop (shared_len cs ds) cs, drop (shared_len cs ds) ds)

-- the way from the root to the path, after the components that both begin with; none if the rest of the root climbs
-- above those
abbrev pub way_to : (path root : List ℕ) → Option (List Step)
way_to path root =
    let shared = shared_len (unix_components path) (unix_components root) in
    way_back (drop shared (unix_components root)) (drop shared (unix_components path))
