-- The directory is the parent of a path.
use Rattle.std.proofs.Common.{◌≡◌, ◌≢◌, ℕ, List, [], ◌∷◌, ◌++◌, ◌↔◌, IsSome, IsNone, IfSome, Option, Some, None, unwrap_or, length, take, refl, sym, ap, ◌∙◌, subst, arith, true≢false, length-append, take_at}
use Rattle.std.specs.List.{suffix_len, prefix_len}
use Rattle.std.proofs.lemmas.List.{reverse-append}
use Rattle.relative_path.specs.Steps.{Step, cur, up, name}
use Rattle.relative_path.specs.Editing.{IsPopped, is_cur, kept_len}
use Rattle.relative_path.specs.Normalizing.{IsNormal}
use Rattle.relative_path.specs.RelativePath.{path_text}
use Rattle.relative_path.specs.declared.path.RelativePath.{RelativePath}
use Rattle.relative_path.proofs.ForCallers.{kept-name}
use Rattle.relative_path.proofs.OnLiterals.{relative_path_on_literals}
use Rattle.relative_path_places.specs.Places.{directory}
use Rattle.relative_path_places.specs.Views.{view_components}
use Rattle.relative_path_places.specs.declared.normal_view.NormalView.{NormalView}
use Rattle.relative_path_places.proofs.NormalPathLemmas.{IsNormal-end}

-- the empty text is its own directory
IsPopped-empty : IsPopped [] []
unfolding relative_path_on_literals
IsPopped-empty = record { prefix = refl; same_components = refl; shortest = λ k _. omega arith }

-- the parent is the directory; if there is no parent, the text is empty
pub IsPopped-parent : (file : RelativePath) (parent : Option RelativePath) → IsSome parent ↔ (path_text file ≢ [])
    → IfSome parent (λ parent. IsPopped (path_text file) (path_text parent))
    → IsPopped (path_text file) (path_text (unwrap_or parent file))
IsPopped-parent file None some popped = rw (empty (path_text file) some) IsPopped-empty where
  empty : (text : List ℕ) → IsSome {T = RelativePath} None ↔ (text ≢ []) → text ≡ []
  empty [] some = refl
  empty (b ∷ text) some = absurd (true≢false (sym (some.1 (λ e. cc e))))
IsPopped-parent file (Some parent) some popped = popped

directory-up : (cs : List Step) → directory (cs ++ up ∷ []) ≡ cs
directory-up cs =
    let last : suffix_len is_cur (cs ++ up ∷ []) ≡ 0 = ap (prefix_len is_cur) (reverse-append cs (up ∷ [])) in
    let count : kept_len (cs ++ up ∷ []) ≡ length cs = omega (arith, last, length-append cs (up ∷ [])) in
    ap (λ n. take n (cs ++ up ∷ [])) count ∙ take_at cs (up ∷ []) (length cs) refl

-- the directory of a normal list is all but its last component
directory-last : (cs : List Step) (c : Step) → IsNormal (cs ++ c ∷ []) → directory (cs ++ c ∷ []) ≡ cs
directory-last cs cur normal = absurd (IsNormal-end cs (cur ∷ []) normal)
directory-last cs up normal = directory-up cs
directory-last cs (name n) normal = kept-name cs n

-- the directory of a normal path is its parent; if it has none, it is empty
pub directory-parent : (view : NormalView) (parent : Option NormalView)
    → IsNone parent ↔ (view_components view ≡ [])
    → IfSome parent (λ parent. (c : Step) × (view_components view ≡ view_components parent ++ c ∷ []))
    → view_components (unwrap_or parent view) ≡ directory (view_components view)
directory-parent view None none parent_is = none.0 refl ∙ sym (ap directory (none.0 refl))
directory-parent view (Some parent) none (c, is) =
    sym (ap directory is ∙ directory-last (view_components parent) c (subst IsNormal is view.normal))
