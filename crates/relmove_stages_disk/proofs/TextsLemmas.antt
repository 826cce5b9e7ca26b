-- When texts are as the journal says.
use Rattle.std.proofs.Common.{◌≡◌, inl, inr, ℕ, All, List, Option, Some, IsSome, string_bytes, ap, sym, ◌∙◌, subst}
use Rattle.std.specs.List.{slice_get}
use Rattle.std.proofs.Common.{get_or}
use Rattle.std.proofs.lemmas.List.Elements.{All-get_or}
use Rattle.std.proofs.lemmas.Option.{get_or_from_slice_get, slice_get-get_or, slice_get_within}
use Rattle.relmove_journal.specs.declared.work.Leftover.{Leftover}
use Rattle.relmove_journal.specs.declared.work.Leftover.TheVariants.{Text, Directory}
use Rattle.relmove_journal.specs.declared.work.Stage.{Stage}
use Rattle.relmove_journal.specs.declared.work.Stage.TheVariants.{Staging, Placing}
use Rattle.relmove_journal.specs.declared.work.TextFile.{TextFile}
use Rattle.relmove_journal.specs.declared.work.Work.{Work}
use Rattle.relmove_stages.specs.Runs.{CanBegin, CanEnd, HasNewTexts, HasOldTexts}
use Rattle.relmove_stages.specs.StageActions.{HasText, place_of}
use Rattle.relmove_stages_disk.specs.Texts.{IsNewText, IsOldText}
use Rattle.relmove_trees.proofs.FileTreesLemmas.{some_none}
use Rattle.relmove_trees.specs.FileTrees.{Node, Tree, names_of}

all_at : {X : Type 0} (P : X → Type 0) (xs : List X) → All P xs → (i : ℕ) (x : X) → slice_get xs i ≡ Some x → P x
all_at P xs all i x at = subst P (get_or_from_slice_get xs i x x at) (All-get_or P xs i x (slice_get_within xs i x at) all)

all_from : {X : Type 0} (P : X → Type 0) (xs : List X) → ((i : ℕ) (x : X) → slice_get xs i ≡ Some x → P x) → All P xs
all_from P xs each = λ i d within. each i (get_or xs i d) (slice_get-get_or xs i d within)

-- ---- new texts

pub new-texts : (work : Work) (tree : Tree) (texts : List TextFile) → texts ≡ work.texts.items → All (IsNewText tree) texts
    → HasNewTexts work tree
new-texts work tree texts same all = all_at (IsNewText tree) work.texts.items (subst (All (IsNewText tree)) same all)

pub texts-new : (work : Work) (tree : Tree) (texts : List TextFile) → texts ≡ work.texts.items → HasNewTexts work tree
    → All (IsNewText tree) texts
texts-new work tree texts same each =
    subst (All (IsNewText tree)) (sym same) (all_from (IsNewText tree) work.texts.items each)

-- ---- old texts

pub old-texts : (work : Work) (tree : Tree) (leftovers : List Leftover) → leftovers ≡ work.cleaned.items
    → All (IsOldText tree) leftovers → HasOldTexts work tree
old-texts work tree leftovers same all =
    λ i text at. all_at (IsOldText tree) work.cleaned.items (subst (All (IsOldText tree)) same all) i (Text text) at

pub texts-old : (work : Work) (tree : Tree) (leftovers : List Leftover) → leftovers ≡ work.cleaned.items
    → HasOldTexts work tree → All (IsOldText tree) leftovers
texts-old work tree leftovers same each =
    subst (All (IsOldText tree)) (sym same) (all_from (IsOldText tree) work.cleaned.items (λ i leftover at. by i leftover at))
  where
    by : (i : ℕ) (leftover : Leftover) → slice_get work.cleaned.items i ≡ Some leftover → IsOldText tree leftover
    by i (Text text) at = each i text at
    by i (Directory path) at = tt

-- ---- one text

-- what was found at the path
pub found_at : (tree : Tree) (found : Option Node) (path : List ℕ) (text : TextFile) → found ≡ tree (names_of path)
    → path ≡ string_bytes text.path → found ≡ tree (place_of text.path)
found_at tree found path text is same = is ∙ ap (λ p. tree (names_of p)) same

pub not-new : (tree : Tree) (text : TextFile) → IsSome (tree (place_of text.path))
    → ¬ HasText (place_of text.path) text.digest tree → ¬ IsNewText tree text
not-new tree text some not (inl none) = some_none (tree (place_of text.path)) some none
not-new tree text some not (inr whole) = not whole

-- ---- what isn't so

-- a stage of which the texts are compared
pub can_begin-texts : (work : Work) (stage : Stage) (tree : Tree) (texts : List TextFile) → stage ≡ Placing
    → texts ≡ work.texts.items → CanBegin work stage tree → All (IsNewText tree) texts
can_begin-texts work stage tree texts is same can =
    texts-new work tree texts same (subst (λ (s : Stage). CanBegin work s tree) is can)

pub texts-can_begin : (work : Work) (stage : Stage) (tree : Tree) (texts : List TextFile) → stage ≡ Placing
    → texts ≡ work.texts.items → All (IsNewText tree) texts → CanBegin work stage tree
texts-can_begin work stage tree texts is same all =
    subst (λ (s : Stage). CanBegin work s tree) (sym is) (new-texts work tree texts same all)

pub can_end-texts : (work : Work) (stage : Stage) (tree : Tree) (leftovers : List Leftover) → stage ≡ Staging
    → leftovers ≡ work.cleaned.items → CanEnd work stage tree → All (IsOldText tree) leftovers
can_end-texts work stage tree leftovers is same can =
    texts-old work tree leftovers same (subst (λ (s : Stage). CanEnd work s tree) is can)

pub texts-can_end : (work : Work) (stage : Stage) (tree : Tree) (leftovers : List Leftover) → stage ≡ Staging
    → leftovers ≡ work.cleaned.items → All (IsOldText tree) leftovers → CanEnd work stage tree
texts-can_end work stage tree leftovers is same all =
    subst (λ (s : Stage). CanEnd work s tree) (sym is) (old-texts work tree leftovers same all)
