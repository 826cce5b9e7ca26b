-- New texts, and parts of them.
use Rattle.std.proofs.Common.{◌≡◌, ◌≢◌, ◌⊎◌, inl, inr, ℕ, zero, suc, List, [], ◌∷◌, map, take, Some, None, refl, sym, ◌∙◌, ap, subst}
use Rattle.std.specs.List.{slice_get}
use Rattle.relmove_journal.specs.declared.work.TextFile.{TextFile}
use Rattle.relmove_stages.specs.Runs.{HasNewPart, HasParts}
use Rattle.relmove_stages.specs.StageActions.{HasPart, HasText, IsAfter, IsReady, LeadsTo, RemovesPart, StageAction, place_of, tree_action}
use Rattle.relmove_stages.specs.Stages.{removes, removes_part}
use Rattle.relmove_stages.proofs.ActionLemmas.{none_stays}
use Rattle.relmove_trees.proofs.FileTreesLemmas.{place_or, some_is, some_none, with_node-at, with_node-elsewhere}
use Rattle.relmove_trees.specs.FileTrees.{File, Place, Tree, with_node}
use Rattle.relmove_trees.specs.TreeActions.{Acts}

-- ---- what it takes that whole texts can be removed

-- where nothing is nothing is in the end
none-end : (texts : List TextFile) (end tree : Tree) → LeadsTo (map removes texts) (λ tree. tree ≡ end) tree
    → (place : Place) → tree place ≡ None → end place ≡ None
none-end [] end tree leads place none = sym (ap (λ (t : Tree). t place) leads) ∙ none
none-end (text ∷ texts) end tree leads place none =
    none-end texts end (with_node (place_of text.path) None tree) (leads.1 (with_node (place_of text.path) None tree) refl) place
    (none_stays (place_of text.path) tree place none)

-- where nothing is no text can be removed
none-apart : (texts : List TextFile) (P : Tree → Type 0) (tree : Tree) → LeadsTo (map removes texts) P tree
    → (place : Place) → tree place ≡ None → (i : ℕ) (text : TextFile) → slice_get texts i ≡ Some text
    → place ≢ place_of text.path
none-apart [] P tree leads place none i text at same = absurd (cc at)
none-apart (first ∷ texts) P tree leads place none zero text at same =
    let is : first ≡ text = cc at in
    let (bytes, there, whole) = leads.0 in
    some_none (tree (place_of first.path)) (some_is (Some (File bytes)) (tree (place_of first.path)) (sym there) refl)
    (ap (λ (t : TextFile). tree (place_of t.path)) is ∙ sym (ap tree same) ∙ none)
none-apart (first ∷ texts) P tree leads place none (suc i) text at same =
    none-apart texts P (with_node (place_of first.path) None tree) (leads.1 (with_node (place_of first.path) None tree) refl) place
    (none_stays (place_of first.path) tree place none) i text at same

-- at the texts' places nothing is in the end
pub texts-free : (texts : List TextFile) (end tree : Tree) → LeadsTo (map removes texts) (λ tree. tree ≡ end) tree
    → (i : ℕ) (text : TextFile) → slice_get texts i ≡ Some text → end (place_of text.path) ≡ None
texts-free [] end tree leads i text at = absurd (cc at)
texts-free (first ∷ texts) end tree leads zero text at =
    let is : first ≡ text = cc at in
    ap (λ (t : TextFile). end (place_of t.path)) (sym is)
    ∙ none-end texts end (with_node (place_of first.path) None tree) (leads.1 (with_node (place_of first.path) None tree) refl)
    (place_of first.path) (with_node-at (place_of first.path) None tree)
texts-free (first ∷ texts) end tree leads (suc i) text at =
    texts-free texts end (with_node (place_of first.path) None tree) (leads.1 (with_node (place_of first.path) None tree) refl)
    i text at

-- ---- parts that are removed

-- but for the parts of no texts it is the tree before
no-parts : (before tree : Tree) → HasParts [] before tree → tree ≡ before
no-parts before tree parts = λ i. λ place. at place i
  where
    at : (place : Place) → tree place ≡ before place
    at place = elim (parts place) [
      | inl same ↦ same
      | inr (i, text, none, same, part) ↦ absurd (cc none)
    ]

-- each part is removed in turn, and the tree in the end is the one before
pub parts-lead : (texts : List TextFile) (before written tree : Tree)
    → LeadsTo (map removes texts) (λ tree. tree ≡ before) written → HasParts texts before tree
    → LeadsTo (map removes_part texts) (λ tree. tree ≡ before) tree
parts-lead [] before written tree leads parts = no-parts before tree parts
parts-lead (first ∷ texts) before written tree leads parts = (
  ready,
  λ next acts. parts-lead texts before gone next (leads.1 gone refl) (rest next acts),
)
  where
    top : Place
    top = place_of first.path

    gone : Tree
    gone = with_node top None written

    apart : (i : ℕ) (text : TextFile) → slice_get texts i ≡ Some text → top ≢ place_of text.path
    apart = none-apart texts (λ tree. tree ≡ before) gone (leads.1 gone refl) top (with_node-at top None written)

    free : before top ≡ None
    free = texts-free (first ∷ texts) before written leads 0 first refl

    ready : IsReady (RemovesPart top first.digest) tree
    ready = elim (parts top) [
      | inl same ↦ inl (same ∙ free)
      | inr (i, text, at, same, part) ↦ by i text at same part
    ]
      where
        by : (i : ℕ) (text : TextFile) → slice_get (first ∷ texts) i ≡ Some text → top ≡ place_of text.path
            → HasPart top text.digest tree → IsReady (RemovesPart top first.digest) tree
        by zero text at same part =
            let is : text ≡ first = sym (cc at) in
            inr (subst (λ (t : TextFile). HasPart top t.digest tree) is part)
        by (suc i) text at same part = absurd (apart i text at same)

    rest : (next : Tree) → next ≡ with_node top None tree → HasParts texts before next
    rest next acts place = elim (place_or place top) [
      | inl same ↦ inl (ap next same ∙ ap (λ (t : Tree). t top) acts ∙ with_node-at top None tree ∙ sym (ap before same ∙ free))
      | inr differ ↦ by differ (ap (λ (t : Tree). t place) acts ∙ with_node-elsewhere top None tree place differ) (parts place)
    ]
      where
        at_rest : place ≢ top → next place ≡ tree place → (i : ℕ) (text : TextFile)
            → slice_get (first ∷ texts) i ≡ Some text
            → place ≡ place_of text.path → HasPart place text.digest tree → HasNewPart texts place next
        at_rest differ stays zero text at same part =
            let is : text ≡ first = sym (cc at) in
            absurd (differ (same ∙ ap (λ (t : TextFile). place_of t.path) is))
        at_rest differ stays (suc i) text at same (bytes, there, part) = (i, text, at, same, (bytes, stays ∙ there, part))

        by : place ≢ top → next place ≡ tree place → (tree place ≡ before place) ⊎ HasNewPart (first ∷ texts) place tree
            → (next place ≡ before place) ⊎ HasNewPart texts place next
        by differ stays (inl same) = inl (stays ∙ same)
        by differ stays (inr (i, text, at, same, part)) = inr (at_rest differ stays i text at same part)

-- ---- what is left of new texts

-- a text, and parts of those after it
written-at : (texts : List TextFile) (before tree : Tree) (first : TextFile) → HasText (place_of first.path) first.digest tree
    → HasParts texts before (with_node (place_of first.path) None tree) → HasParts (first ∷ texts) before tree
written-at texts before tree first (bytes, there, text) later place = elim (place_or place top) [
  | inl same ↦ inr (0, first, refl, same, (bytes, ap tree same ∙ there, inr text))
  | inr differ ↦ by (sym (with_node-elsewhere top None tree place differ)) (later place)
]
  where
    top : Place
    top = place_of first.path

    by : tree place ≡ with_node top None tree place
        → (with_node top None tree place ≡ before place) ⊎ HasNewPart texts place (with_node top None tree)
        → (tree place ≡ before place) ⊎ HasNewPart (first ∷ texts) place tree
    by same (inl is) = inl (same ∙ is)
    by same (inr (i, other, at, is, (bytes_2, there_2, part))) = inr (suc i, other, at, is, (bytes_2, same ∙ there_2, part))

-- before any of them is removed they are new parts
pub written-parts : (texts : List TextFile) (before tree : Tree) → LeadsTo (map removes texts) (λ tree. tree ≡ before) tree
    → HasParts texts before tree
written-parts [] before tree leads = λ place. inl (ap (λ (t : Tree). t place) leads)
written-parts (first ∷ texts) before tree leads =
    written-at texts before tree first leads.0
    (written-parts texts before (with_node (place_of first.path) None tree)
    (leads.1 (with_node (place_of first.path) None tree) refl))

-- a part less
part-less : (texts : List TextFile) (before old new : Tree) (place : Place) → before place ≡ None
    → new ≡ with_node place None old → HasParts texts before old → HasParts texts before new
part-less texts before old new top free acts parts place = elim (place_or place top) [
  | inl same ↦ inl (ap new same ∙ ap (λ (t : Tree). t top) acts ∙ with_node-at top None old ∙ sym (ap before same ∙ free))
  | inr differ ↦ by (ap (λ (t : Tree). t place) acts ∙ with_node-elsewhere top None old place differ) (parts place)
]
  where
    by : new place ≡ old place → (old place ≡ before place) ⊎ HasNewPart texts place old
        → (new place ≡ before place) ⊎ HasNewPart texts place new
    by same (inl is) = inl (same ∙ is)
    by same (inr (i, text, at, is, (bytes, there, part))) = inr (i, text, at, is, (bytes, same ∙ there, part))

-- some parts less
pub parts-less : (f : TextFile → StageAction)
    → ((text : TextFile) (old new : Tree) → Acts (tree_action (f text)) old new → new ≡ with_node (place_of text.path) None old)
    → (all texts : List TextFile) (before start tree : Tree) (k : ℕ)
    → ((i : ℕ) (text : TextFile) → slice_get texts i ≡ Some text → before (place_of text.path) ≡ None)
    → HasParts all before start → IsAfter (take k (map f texts)) start tree → HasParts all before tree
parts-less f acts all texts before start tree zero free parts is = subst (HasParts all before) (sym is) parts
parts-less f acts all [] before start tree (suc k) free parts is = subst (HasParts all before) (sym is) parts
parts-less f acts all (text ∷ texts) before start tree (suc k) free parts (next, first, rest) =
    parts-less f acts all texts before next tree k (λ i other at. free (suc i) other at)
    (part-less all before start next (place_of text.path) (free 0 text refl) (acts text start next first) parts) rest
