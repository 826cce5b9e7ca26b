-- The tree of a list of items.
use Rattle.std.proofs.Common.{Bool, false, ◌≡◌, ◌≢◌, ◌⊎◌, inl, inr, ℕ, ◌+◌, ◌<◌, ◌≤◌, List, [], ◌∷◌, ◌++◌, Some, None, IsSome, drop, get_or, length, map, refl, sym, ap, ◌∙◌, true}
use Rattle.std.proofs.Math.Seq.{drop-append_seam}
use Rattle.std.proofs.lemmas.List.{append-nil, append_assoc, drop_all, drop_more, map-append}
use Rattle.std.specs.List.{starts_with}
use Rattle.std.specs.Str.{bytes_eq}
use Rattle.relmove_stages_disk.proofs.NodesLemmas.{after_rename-nothing, after_rename-with_node, after_rename-with_node_elsewhere, with_node-again, with_node-none, with_node-swap}
use Rattle.relmove_stages_disk.specs.Entries.{Item, entries_tree, item_of, moved, tree_of}
use Rattle.relmove_stages_disk.specs.declared.entry.Entry.{Entry}
use Rattle.relmove_trees.proofs.FileTreesLemmas.{not_starts, some_is, some_none, starts, under_or, with_node-at, with_node-elsewhere}
use Rattle.relmove_trees.specs.FileTrees.{HasNothing, IsUnder, Place, after_rename, with_node}

-- ---- the rest of a list of entries

-- the entry at an index, and those after it
pub rest-more : (entries : List Entry) (i : ℕ) (entry : Entry) → i < length entries → entry ≡ get_or entries i entry
    → drop i entries ≡ entry ∷ drop (i + 1) entries
rest-more entries i entry within is = drop_more entries i entry within ∙ ap (λ e. e ∷ drop (i + 1) entries) (sym is)

pub tree-here : (entry : Entry) (entries : List Entry)
    → entries_tree (entry ∷ entries) (item_of entry).place ≡ Some (item_of entry).node
tree-here entry entries = with_node-at (item_of entry).place (Some (item_of entry).node) (entries_tree entries)

pub tree-elsewhere : (entry : Entry) (entries : List Entry) (place : Place) → place ≢ (item_of entry).place
    → entries_tree (entry ∷ entries) place ≡ entries_tree entries place
tree-elsewhere entry entries place differ =
    with_node-elsewhere (item_of entry).place (Some (item_of entry).node) (entries_tree entries) place differ

-- ---- a rename

moved-under : (from to : Place) (item : Item) (rest : Place) → item.place ≡ from ++ rest → (moved from to item).place ≡ to ++ rest
moved-under from to item rest is =
    rw ((starts item.place from).1 rest is) (ap (λ place. to ++ drop (length from) place) is ∙ ap (λ rest. to ++ rest)
    (drop-append_seam from rest))

moved-node : (from to : Place) (item : Item) → (moved from to item).node ≡ item.node
moved-node from to item = by (starts_with bytes_eq item.place from) refl
  where
    by : (b : Bool) → starts_with bytes_eq item.place from ≡ b → (moved from to item).node ≡ item.node
    by true is = rw is refl
    by false is = rw is refl

pub moved-elsewhere : (from to : Place) (item : Item) → ¬ IsUnder item.place from → moved from to item ≡ item
moved-elsewhere from to item none = rw (not_starts item.place from none) refl

same-item : (one other : Item) → one.place ≡ other.place → one.node ≡ other.node → one ≡ other
same-item one other place node = λ i. record { place = place i; node = node i }

pub moved-is : (from to rest : Place) (item copy : Item) → item.place ≡ from ++ rest → copy.place ≡ to ++ rest
    → copy.node ≡ item.node → copy ≡ moved from to item
moved-is from to rest item copy at copy_at node =
    same-item copy (moved from to item) (copy_at ∙ sym (moved-under from to item rest at)) (node ∙ sym (moved-node from to item))

not_there : (to : Place) (item : Item) (items : List Item) → HasNothing (tree_of (item ∷ items)) to → ¬ IsUnder item.place to
not_there to item items free (rest, is) =
    some_none (tree_of (item ∷ items) item.place) here (ap (tree_of (item ∷ items)) is ∙ free rest)
  where
    here : IsSome (tree_of (item ∷ items) item.place)
    here = some_is _ _ (sym (with_node-at item.place (Some item.node) (tree_of items))) refl

free-later : (to : Place) (item : Item) (items : List Item) → HasNothing (tree_of (item ∷ items)) to → HasNothing (tree_of items) to
free-later to item items free rest =
    sym (with_node-elsewhere item.place (Some item.node) (tree_of items) (to ++ rest)
    (λ same. not_there to item items free (rest, sym same))) ∙ free rest

moved-more : (from to : Place) (item : Item) (items : List Item) → HasNothing (tree_of (item ∷ items)) to
    → tree_of (map (moved from to) items) ≡ after_rename (from, to) (tree_of items)
    → tree_of (map (moved from to) (item ∷ items)) ≡ after_rename (from, to) (tree_of (item ∷ items))
moved-more from to item items free later = by (under_or item.place from)
  where
    by : IsUnder item.place from ⊎ (¬ IsUnder item.place from)
        → tree_of (map (moved from to) (item ∷ items)) ≡ after_rename (from, to) (tree_of (item ∷ items))
    by (inl (rest, is)) =
        ap (λ place. with_node place (Some (moved from to item).node) (tree_of (map (moved from to) items)))
        (moved-under from to item rest is)
        ∙ ap (λ node. with_node (to ++ rest) (Some node) (tree_of (map (moved from to) items))) (moved-node from to item)
        ∙ ap (with_node (to ++ rest) (Some item.node)) later
        ∙ sym (ap (λ place. after_rename (from, to) (with_node place (Some item.node) (tree_of items))) is
        ∙ after_rename-with_node from to rest (Some item.node) (tree_of items))
    by (inr none) =
        ap (λ (m : Item). with_node m.place (Some m.node) (tree_of (map (moved from to) items))) (moved-elsewhere from to item none)
        ∙ ap (with_node item.place (Some item.node)) later
        ∙ sym (after_rename-with_node_elsewhere from to item.place (Some item.node) (tree_of items) none
        (not_there to item items free))

-- renamed items have the renamed tree
pub tree_of-moved : (from to : Place) (items : List Item) → HasNothing (tree_of items) to
    → tree_of (map (moved from to) items) ≡ after_rename (from, to) (tree_of items)
tree_of-moved from to [] free = sym (after_rename-nothing from to)
tree_of-moved from to (item ∷ items) free =
    moved-more from to item items free (tree_of-moved from to items (free-later to item items free))

-- ---- entries without those at a place

-- the copies, and then any items that have the tree of the entries left without the place, have the tree of all without it
abbrev pub AreWithout : Place → List Entry → ℕ → List Entry → Type 0
AreWithout place entries i copies = (tail : List Item) → tree_of tail ≡ with_node place None (entries_tree (drop i entries))
    → tree_of (map item_of copies ++ tail) ≡ with_node place None (entries_tree entries)

pub without-keep : (place : Place) (entries copies : List Entry) (i : ℕ) (entry copy : Entry) → i < length entries
    → entry ≡ get_or entries i entry → item_of copy ≡ item_of entry → (item_of entry).place ≢ place
    → AreWithout place entries i copies → AreWithout place entries (i + 1) (copies ++ copy ∷ [])
without-keep place entries copies i entry copy within is same differ so_far tail left =
    ap (λ items. tree_of (items ++ tail)) (map-append item_of copies (copy ∷ []))
    ∙ ap tree_of (append_assoc (map item_of copies) (item_of copy ∷ []) tail) ∙ so_far (item_of copy ∷ tail) here
  where
    here : tree_of (item_of copy ∷ tail) ≡ with_node place None (entries_tree (drop i entries))
    here =
        ap (λ (item : Item). with_node item.place (Some item.node) (tree_of tail)) same
        ∙ ap (with_node (item_of entry).place (Some (item_of entry).node)) left
        ∙ with_node-swap (item_of entry).place place (Some (item_of entry).node) None (entries_tree (drop (i + 1) entries)) differ
        ∙ ap (λ entries. with_node place None (entries_tree entries)) (sym (rest-more entries i entry within is))

pub without-skip : (place : Place) (entries copies : List Entry) (i : ℕ) (entry : Entry) → i < length entries
    → entry ≡ get_or entries i entry → (item_of entry).place ≡ place
    → AreWithout place entries i copies → AreWithout place entries (i + 1) copies
without-skip place entries copies i entry within is same so_far tail left = so_far tail here
  where
    here : tree_of tail ≡ with_node place None (entries_tree (drop i entries))
    here =
        left
        ∙ sym (ap (λ entries. with_node place None (entries_tree entries)) (rest-more entries i entry within is)
        ∙ ap (λ at. with_node place None (with_node at (Some (item_of entry).node) (entries_tree (drop (i + 1) entries)))) same
        ∙ with_node-again place None (Some (item_of entry).node) (entries_tree (drop (i + 1) entries)))

pub without-all : (place : Place) (entries copies : List Entry) (i : ℕ) → length entries ≤ i → AreWithout place entries i copies
    → entries_tree copies ≡ with_node place None (entries_tree entries)
without-all place entries copies i past so_far = ap tree_of (sym (append-nil (map item_of copies))) ∙ so_far [] here
  where
    here : tree_of [] ≡ with_node place None (entries_tree (drop i entries))
    here = sym (ap (λ es. with_node place None (entries_tree es)) (drop_all i entries past) ∙ with_node-none place (tree_of []) refl)
