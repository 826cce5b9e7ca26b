-- Lemmas on work of which the same is written: it can be a run's, or can't, alike.
use Rattle.std.proofs.Common.{◌≡◌, ℕ, Bool, ◌&&◌, List, [], ◌∷◌, ◌++◌, length, map, refl, sym, ap, ap₂, subst, ◌∙◌, string_bytes}
use Rattle.std.proofs.lemmas.List.{length-map}
use Rattle.std.proofs.lemmas.List.Folds.{list_all-map}
use Rattle.std.proofs.lemmas.Simd.{map-map}
use Rattle.std.specs.List.{list_all}
use Rattle.relmove_journal.specs.declared.work.Leftover.{Leftover}
use Rattle.relmove_journal.specs.declared.work.Leftover.TheVariants.{Text, Directory}
use Rattle.relmove_journal.specs.declared.work.Work.{Work}
use Rattle.relmove_journal.specs.Reading.LeftoverParts.{Emptied, Removed}
use Rattle.relmove_journal.specs.Reading.{LeftoverParts, WorkParts, leftover_parts, parts_of, rename_parts, text_parts}
use Rattle.relmove_journal.specs.Shape.{AreDifferent, HaveSameOnce, IsOfRun, has_paths_of_run, is_directory_path, is_leftover, is_made_path, is_path, is_staging_name, new_paths, old_paths, removed_paths, text_paths}

-- lists of which the same is written
module _ {X P : Type 0} (parts : X → P) (xs ys : List X) (same : map parts xs ≡ map parts ys) where
  same_map : {Y : Type 0} (f : P → Y) → map (λ x. f (parts x)) xs ≡ map (λ x. f (parts x)) ys
  same_map f = sym (map-map f parts xs) ∙ ap (map f) same ∙ map-map f parts ys

  same_all : (p : P → Bool) → list_all (λ x. p (parts x)) xs ≡ list_all (λ x. p (parts x)) ys
  same_all p = sym (list_all-map p parts xs) ∙ ap (list_all p) same ∙ list_all-map p parts ys

-- the same of what is removed
abbrev is_left : LeftoverParts → Bool
is_left (Removed text) = is_staging_name text.0
is_left (Emptied path) = is_directory_path path

leftovers-all : (xs : List Leftover) → list_all is_leftover xs ≡ list_all is_left (map leftover_parts xs)
leftovers-all [] = refl
leftovers-all (Text file ∷ xs) = ap (λ b. is_staging_name (string_bytes file.path) && b) (leftovers-all xs)
leftovers-all (Directory path ∷ xs) = ap (λ b. is_directory_path (string_bytes path) && b) (leftovers-all xs)

abbrev removed_of : List LeftoverParts → List (List ℕ)
removed_of [] = []
removed_of (Removed text ∷ xs) = text.0 ∷ removed_of xs
removed_of (Emptied path ∷ xs) = removed_of xs

removed_paths-parts : (xs : List Leftover) → removed_paths xs ≡ removed_of (map leftover_parts xs)
removed_paths-parts [] = refl
removed_paths-parts (Text file ∷ xs) = ap (λ l. string_bytes file.path ∷ l) (removed_paths-parts xs)
removed_paths-parts (Directory path ∷ xs) = removed_paths-parts xs

-- whether work can be a run's depends on its parts alone
pub IsOfRun-parts : (one other : Work) → parts_of one ≡ parts_of other → IsOfRun one → IsOfRun other
IsOfRun-parts one other same run =
    let texts = ap (λ (w : WorkParts). w.texts) same in
    let staged = ap (λ (w : WorkParts). w.staged) same in
    let made = ap (λ (w : WorkParts). w.made) same in
    let placed = ap (λ (w : WorkParts). w.placed) same in
    let cleaned = ap (λ (w : WorkParts). w.cleaned) same in
    let ts = one.texts.items in
    let us = other.texts.items in
    let text_paths_same : text_paths ts ≡ text_paths us = same_map text_parts ts us texts (λ p. p.0) in
    let old_staged : old_paths one.staged.items ≡ old_paths other.staged.items =
    same_map rename_parts one.staged.items other.staged.items staged (λ p. p.0) in
    let new_staged : new_paths one.staged.items ≡ new_paths other.staged.items =
    same_map rename_parts one.staged.items other.staged.items staged (λ p. p.1) in
    let old_placed : old_paths one.placed.items ≡ old_paths other.placed.items =
    same_map rename_parts one.placed.items other.placed.items placed (λ p. p.0) in
    let new_placed : new_paths one.placed.items ≡ new_paths other.placed.items =
    same_map rename_parts one.placed.items other.placed.items placed (λ p. p.1) in
    let removed : removed_paths one.cleaned.items ≡ removed_paths other.cleaned.items =
    removed_paths-parts one.cleaned.items ∙ ap removed_of cleaned ∙ sym (removed_paths-parts other.cleaned.items) in
    let long : length ts ≡ length us = sym (length-map ts text_parts) ∙ ap length texts ∙ length-map us text_parts in
    let fit : has_paths_of_run one ≡ has_paths_of_run other =
    ap₂ ◌&&◌ (ap₂ ◌&&◌ (ap₂ ◌&&◌ (ap₂ ◌&&◌ (same_all text_parts ts us texts (λ p. is_staging_name p.0))
    (same_all rename_parts one.staged.items other.staged.items staged (λ p. is_path p.0 && is_staging_name p.1)))
    (same_all string_bytes one.made.items other.made.items made is_made_path))
    (same_all rename_parts one.placed.items other.placed.items placed (λ p. is_staging_name p.0 && is_path p.1)))
    (leftovers-all one.cleaned.items ∙ ap (list_all is_left) cleaned ∙ sym (leftovers-all other.cleaned.items)) in
    record {
      paths = sym fit ∙ run.paths;
      names = subst (λ l. HaveSameOnce l (old_paths other.placed.items ++ removed_paths other.cleaned.items))
          (ap₂ ◌++◌ new_staged text_paths_same)
          (subst (HaveSameOnce (new_paths one.staged.items ++ text_paths ts)) (ap₂ ◌++◌ old_placed removed) run.names);
      texts = subst AreDifferent (ap₂ ◌++◌ text_paths_same removed) run.texts;
      removed = ap length (sym removed) ∙ run.removed ∙ long;
      once = (subst AreDifferent old_staged run.once.0, subst AreDifferent new_placed run.once.1);
    }
