-- Nodes that come to places, one after another, and a rename of them.
use Rattle.std.proofs.Common.{◌≡◌, ◌≢◌, ◌⊎◌, inl, inr, ◌++◌, Option, None, sym, ap, ◌∙◌}
use Rattle.std.proofs.lemmas.List.{append_cancel_left}
use Rattle.relmove_trees.proofs.FileTreesLemmas.{after_rename-elsewhere, after_rename-from, after_rename-to, place_or, under_or, with_node-at, with_node-elsewhere}
use Rattle.relmove_trees.specs.FileTrees.{IsUnder, Node, Place, Tree, after_rename, with_node}

pub with_node-again : (place : Place) (new old : Option Node) (tree : Tree)
    → with_node place new (with_node place old tree) ≡ with_node place new tree
with_node-again place new old tree = λ i. λ other. at other i
  where
    at : (other : Place) → with_node place new (with_node place old tree) other ≡ with_node place new tree other
    at other = elim (place_or other place) [
      | inl same ↦
          ap (with_node place new (with_node place old tree)) same ∙ with_node-at place new (with_node place old tree)
          ∙ sym (ap (with_node place new tree) same ∙ with_node-at place new tree)
      | inr differ ↦
          with_node-elsewhere place new (with_node place old tree) other differ
          ∙ with_node-elsewhere place old tree other differ ∙ sym (with_node-elsewhere place new tree other differ)
    ]

pub with_node-swap : (one two : Place) (m n : Option Node) (tree : Tree) → one ≢ two
    → with_node one m (with_node two n tree) ≡ with_node two n (with_node one m tree)
with_node-swap one two m n tree apart = λ i. λ other. at other i
  where
    at : (other : Place) → with_node one m (with_node two n tree) other ≡ with_node two n (with_node one m tree) other
    at other = by (place_or other one) (place_or other two)
      where
        by : (other ≡ one) ⊎ (other ≢ one) → (other ≡ two) ⊎ (other ≢ two)
            → with_node one m (with_node two n tree) other ≡ with_node two n (with_node one m tree) other
        by (inl same) (inl same_2) = absurd (apart (sym same ∙ same_2))
        by (inl same) (inr differ_2) =
            ap (with_node one m (with_node two n tree)) same ∙ with_node-at one m (with_node two n tree)
            ∙ sym (with_node-elsewhere two n (with_node one m tree) other differ_2 ∙ ap (with_node one m tree) same
            ∙ with_node-at one m tree)
        by (inr differ) (inl same_2) =
            with_node-elsewhere one m (with_node two n tree) other differ ∙ ap (with_node two n tree) same_2 ∙ with_node-at two n tree
            ∙ sym (ap (with_node two n (with_node one m tree)) same_2 ∙ with_node-at two n (with_node one m tree))
        by (inr differ) (inr differ_2) =
            with_node-elsewhere one m (with_node two n tree) other differ ∙ with_node-elsewhere two n tree other differ_2
            ∙ sym (with_node-elsewhere two n (with_node one m tree) other differ_2 ∙ with_node-elsewhere one m tree other differ)

pub with_node-none : (place : Place) (tree : Tree) → tree place ≡ None → with_node place None tree ≡ tree
with_node-none place tree none = λ i. λ other. at other i
  where
    at : (other : Place) → with_node place None tree other ≡ tree other
    at other = elim (place_or other place) [
      | inl same ↦ ap (with_node place None tree) same ∙ with_node-at place None tree ∙ sym (ap tree same ∙ none)
      | inr differ ↦ with_node-elsewhere place None tree other differ
    ]

-- a rename takes what is at or below the old path along
pub after_rename-with_node : (from to rest : Place) (node : Option Node) (tree : Tree)
    → after_rename (from, to) (with_node (from ++ rest) node tree) ≡ with_node (to ++ rest) node (after_rename (from, to) tree)
after_rename-with_node from to rest node tree = λ i. λ other. at other i
  where
    at : (other : Place) → after_rename (from, to) (with_node (from ++ rest) node tree) other
        ≡ with_node (to ++ rest) node (after_rename (from, to) tree) other
    at other = by (under_or other to) (under_or other from)
      where
        by : IsUnder other to ⊎ (¬ IsUnder other to) → IsUnder other from ⊎ (¬ IsUnder other from)
            → after_rename (from, to) (with_node (from ++ rest) node tree) other
            ≡ with_node (to ++ rest) node (after_rename (from, to) tree) other
        by (inl (below, is)) two =
            ap (after_rename (from, to) (with_node (from ++ rest) node tree)) is
            ∙ after_rename-to from to (with_node (from ++ rest) node tree) below ∙ here (place_or below rest)
            ∙ sym (ap (with_node (to ++ rest) node (after_rename (from, to) tree)) is)
          where
            here : (below ≡ rest) ⊎ (below ≢ rest)
                → with_node (from ++ rest) node tree (from ++ below)
                ≡ with_node (to ++ rest) node (after_rename (from, to) tree) (to ++ below)
            here (inl same) =
                ap (λ below. with_node (from ++ rest) node tree (from ++ below)) same ∙ with_node-at (from ++ rest) node tree
                ∙ sym (ap (λ below. with_node (to ++ rest) node (after_rename (from, to) tree) (to ++ below)) same
                ∙ with_node-at (to ++ rest) node (after_rename (from, to) tree))
            here (inr differ) =
                with_node-elsewhere (from ++ rest) node tree (from ++ below) (λ same. differ (append_cancel_left from below rest same))
                ∙ sym (with_node-elsewhere (to ++ rest) node (after_rename (from, to) tree) (to ++ below)
                (λ same. differ (append_cancel_left to below rest same)) ∙ after_rename-to from to tree below)
        by (inr none) (inl under) =
            after_rename-from from to (with_node (from ++ rest) node tree) other none under
            ∙ sym (with_node-elsewhere (to ++ rest) node (after_rename (from, to) tree) other (λ same. none (rest, same))
            ∙ after_rename-from from to tree other none under)
        by (inr none) (inr elsewhere) =
            after_rename-elsewhere from to (with_node (from ++ rest) node tree) other none elsewhere
            ∙ with_node-elsewhere (from ++ rest) node tree other (λ same. elsewhere (rest, same))
            ∙ sym (with_node-elsewhere (to ++ rest) node (after_rename (from, to) tree) other (λ same. none (rest, same))
            ∙ after_rename-elsewhere from to tree other none elsewhere)

-- it leaves what is elsewhere
pub after_rename-with_node_elsewhere : (from to place : Place) (node : Option Node) (tree : Tree) → ¬ IsUnder place from
    → ¬ IsUnder place to
    → after_rename (from, to) (with_node place node tree) ≡ with_node place node (after_rename (from, to) tree)
after_rename-with_node_elsewhere from to place node tree not_from not_to = λ i. λ other. at other i
  where
    at : (other : Place) → after_rename (from, to) (with_node place node tree) other
        ≡ with_node place node (after_rename (from, to) tree) other
    at other = by (under_or other to) (under_or other from)
      where
        by : IsUnder other to ⊎ (¬ IsUnder other to) → IsUnder other from ⊎ (¬ IsUnder other from)
            → after_rename (from, to) (with_node place node tree) other ≡ with_node place node (after_rename (from, to) tree) other
        by (inl (below, is)) two =
            ap (after_rename (from, to) (with_node place node tree)) is ∙ after_rename-to from to (with_node place node tree) below
            ∙ with_node-elsewhere place node tree (from ++ below) (λ same. not_from (below, sym same))
            ∙ sym (with_node-elsewhere place node (after_rename (from, to) tree) other (λ same. not_to (below, sym same ∙ is))
            ∙ ap (after_rename (from, to) tree) is ∙ after_rename-to from to tree below)
        by (inr none) (inl (below, is)) =
            after_rename-from from to (with_node place node tree) other none (below, is)
            ∙ sym (with_node-elsewhere place node (after_rename (from, to) tree) other (λ same. not_from (below, sym same ∙ is))
            ∙ after_rename-from from to tree other none (below, is))
        by (inr none) (inr elsewhere) = here (place_or other place)
          where
            here : (other ≡ place) ⊎ (other ≢ place)
                → after_rename (from, to) (with_node place node tree) other ≡ with_node place node (after_rename (from, to) tree) other
            here (inl same) =
                after_rename-elsewhere from to (with_node place node tree) other none elsewhere
                ∙ ap (with_node place node tree) same ∙ with_node-at place node tree
                ∙ sym (ap (with_node place node (after_rename (from, to) tree)) same
                ∙ with_node-at place node (after_rename (from, to) tree))
            here (inr differ) =
                after_rename-elsewhere from to (with_node place node tree) other none elsewhere
                ∙ with_node-elsewhere place node tree other differ
                ∙ sym (with_node-elsewhere place node (after_rename (from, to) tree) other differ
                ∙ after_rename-elsewhere from to tree other none elsewhere)

-- and it leaves nothing where nothing is
pub after_rename-nothing : (from to : Place) → after_rename (from, to) (λ place. None) ≡ (λ place. None)
after_rename-nothing from to = λ i. λ other. at other i
  where
    at : (other : Place) → after_rename (from, to) (λ place. None) other ≡ None
    at other = by (under_or other to) (under_or other from)
      where
        by : IsUnder other to ⊎ (¬ IsUnder other to) → IsUnder other from ⊎ (¬ IsUnder other from)
            → after_rename (from, to) (λ place. None) other ≡ None
        by (inl (below, is)) two = ap (after_rename (from, to) (λ place. None)) is ∙ after_rename-to from to (λ place. None) below
        by (inr none) (inl under) = after_rename-from from to (λ place. None) other none under
        by (inr none) (inr elsewhere) = after_rename-elsewhere from to (λ place. None) other none elsewhere
