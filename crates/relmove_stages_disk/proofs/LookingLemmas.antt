-- What the entries say is at a path, or below it, as a walk over them finds it.
use Rattle.std.proofs.Common.{Bool, true, false, not, true≢false, IsTrue, ◌↔◌, ◌≡◌, ◌≢◌, ℕ, ◌+◌, ◌<◌, List, [], ◌∷◌, ◌++◌, Option, Some, None, IsSome, drop, get_or, length, map, refl, sym, ap, ◌∙◌, append-nil}
use Rattle.std.proofs.lemmas.List.{map-append}
use Rattle.relative_path.specs.Steps.{Step, components, step_text}
use Rattle.relmove_stages_disk.proofs.EntriesLemmas.{rest-more, tree-elsewhere, tree-here}
use Rattle.relmove_stages_disk.proofs.PathsLemmas.{names_of-same, same-names_of}
use Rattle.relmove_stages_disk.specs.Entries.{IsBelow, entries_tree, node_of}
use Rattle.relmove_stages_disk.specs.declared.entry.Entry.{Entry}
use Rattle.relmove_trees.proofs.FileTreesLemmas.{some_is}
use Rattle.relmove_trees.specs.FileTrees.{CanTake, Directory, HasBelow, HasNothing, Node, Place, Tree, names_of}

-- what is at the place is among the entries from the index on
abbrev pub IsAmong : List Entry → ℕ → Place → Type 0
IsAmong entries i place = entries_tree entries place ≡ entries_tree (drop i entries) place

pub found : (entries : List Entry) (i : ℕ) (entry : Entry) (text : List ℕ) → i < length entries → entry ≡ get_or entries i entry
    → IsAmong entries i (names_of text) → components entry.path.text ≡ components text
    → entries_tree entries (names_of text) ≡ Some (node_of entry.node)
found entries i entry text within is among same =
    among ∙ ap (λ rest. entries_tree rest (names_of text)) (rest-more entries i entry within is)
    ∙ ap (entries_tree (entry ∷ drop (i + 1) entries)) (names_of-same text entry.path.text (sym same))
    ∙ tree-here entry (drop (i + 1) entries)

pub among-next : (entries : List Entry) (i : ℕ) (entry : Entry) (place : Place) → i < length entries
    → entry ≡ get_or entries i entry → IsAmong entries i place → place ≢ names_of entry.path.text
    → IsAmong entries (i + 1) place
among-next entries i entry place within is among differ =
    among ∙ ap (λ rest. entries_tree rest place) (rest-more entries i entry within is)
    ∙ tree-elsewhere entry (drop (i + 1) entries) place differ

pub differs-next : (entries : List Entry) (i : ℕ) (entry : Entry) (text : List ℕ) → i < length entries
    → entry ≡ get_or entries i entry → IsAmong entries i (names_of text) → components entry.path.text ≢ components text
    → IsAmong entries (i + 1) (names_of text)
differs-next entries i entry text within is among differ =
    among-next entries i entry (names_of text) within is among
    (λ same. differ (same-names_of entry.path.text text (sym same)))

-- whatever is below the path is among the entries from the index on
abbrev pub AreAmong : List Entry → ℕ → Place → Type 0
AreAmong entries i place = (n : List ℕ) (rest : Place) → IsAmong entries i (place ++ n ∷ rest)

pub below-next : (entries : List Entry) (i : ℕ) (entry : Entry) (text : List ℕ) → i < length entries
    → entry ≡ get_or entries i entry → AreAmong entries i (names_of text) → ¬ IsBelow (names_of entry.path.text) (names_of text)
    → AreAmong entries (i + 1) (names_of text)
below-next entries i entry text within is among not n rest =
    among-next entries i entry (names_of text ++ n ∷ rest) within is (among n rest) (λ same. not (n, rest, sym same))

pub below-found : (entries : List Entry) (i : ℕ) (entry : Entry) (text : List ℕ) → i < length entries
    → entry ≡ get_or entries i entry → AreAmong entries i (names_of text) → IsBelow (names_of entry.path.text) (names_of text)
    → HasBelow (entries_tree entries) (names_of text)
below-found entries i entry text within is among (n, rest, at) = (
  n,
  rest,
  some_is (Some (node_of entry.node)) (entries_tree entries (names_of text ++ n ∷ rest))
      (sym (among n rest ∙ ap (λ es. entries_tree es (names_of text ++ n ∷ rest)) (rest-more entries i entry within is)
      ∙ ap (entries_tree (entry ∷ drop (i + 1) entries)) (sym at) ∙ tree-here entry (drop (i + 1) entries))) refl,
)

-- ---- tests of the code

-- two paths were found equal
pub same_path : (b : Bool) (view text other : List ℕ) → view ≡ text → (IsTrue b ↔ (components view ≡ components other))
    → b ≡ true
    → components text ≡ components other
same_path b view text other is tells equal = ap components (sym is) ∙ tells.0 equal

-- or not
pub other_path : (b : Bool) (view text other : List ℕ) → view ≡ text → (IsTrue b ↔ (components view ≡ components other))
    → b ≡ false → components text ≢ components other
other_path b view text other is tells unequal same = true≢false (sym (tells.1 (ap components is ∙ same)) ∙ unequal)

pub not_true : (b : Bool) → IsTrue (not b) → b ≡ false
not_true true is = cc
not_true false is = refl

-- ---- whether something can come to a path

none_or : (node : Option Node) → (IsSome node → ⊥) → node ≡ None
none_or None not = refl
none_or (Some node) not = absurd (not refl)

pub takes : (tree : Tree) (text top : List ℕ) (last : Step) → components text ≡ components top ++ last ∷ []
    → tree (names_of top) ≡ Some Directory → tree (names_of text) ≡ None → ¬ HasBelow tree (names_of text)
    → CanTake tree (names_of text)
takes tree text top last split held none below = record {
  top = names_of top;
  last = step_text last;
  split = ap (map step_text) split ∙ map-append step_text (components top) (last ∷ []);
  held = held;
  free = free;
}
  where
    free : HasNothing tree (names_of text)
    free [] = ap tree (append-nil (names_of text)) ∙ none
    free (n ∷ rest) = none_or (tree (names_of text ++ n ∷ rest)) (λ some. below (n, rest, some))

pub takes-none : (tree : Tree) (place : Place) → CanTake tree place → tree place ≡ None
takes-none tree place can = ap tree (sym (append-nil place)) ∙ can.free []
