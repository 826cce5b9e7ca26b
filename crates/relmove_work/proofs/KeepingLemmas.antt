-- What renames, new directories and removals leave as it is.
use Rattle.std.proofs.Common.{◌≡◌, ◌≢◌, ◌⊎◌, ℕ, zero, suc, List, [], ◌∷◌, ◌++◌, Option, Some, None, IsSome, map, inl, inr, refl, sym, ap, subst, ◌∙◌, append-nil, append_assoc}
use Rattle.std.specs.List.{AllZip, slice_get}
use Rattle.relmove_journal.specs.declared.work.TextFile.{TextFile}
use Rattle.relmove_trees.specs.FileTrees.{Directory, File, HasNothing, IsUnder, IsWholeTree, Node, Place, Tree, after_rename, with_node}
use Rattle.relmove_trees.specs.TreeActions.{Action, LeadTo, Make, Rename}
use Rattle.relmove_trees.proofs.FileTreesLemmas.{after_rename-elsewhere, after_rename-from, after_rename-to, after_rename-whole, place_or, some_is, some_none, under_or, with_node-at, with_node-elsewhere, with_node-whole}
use Rattle.relmove_stages.specs.Runs.{writes_of}
use Rattle.relmove_stages.specs.StageActions.{HasText, IsText, LeadsTo, place_of}
use Rattle.relmove_stages.specs.Stages.{removes}
use Rattle.relmove_stages.proofs.ActionLemmas.{with_node-back}
use Rattle.relmove_work.proofs.SeenRunsLemmas.{never-there}

-- ---- renames

module _ {X : Type 0} (f t : X → Place) (end : Tree) where
  abbrev LeadThere : List X → Tree → Type 0
  LeadThere xs tree = LeadTo (map (λ x. Rename (f x) (t x)) xs) (λ t. t ≡ end) tree

  -- nothing leaves the place or comes there
  pub renames-keep : (xs : List X) (tree : Tree) (place : Place) → LeadThere xs tree
      → ((i : ℕ) (x : X) → slice_get xs i ≡ Some x → (¬ IsUnder place (f x)) × (¬ IsUnder place (t x)))
      → end place ≡ tree place
  renames-keep [] tree place leads clear = ap (λ (t : Tree). t place) (sym leads)
  renames-keep (x ∷ xs) tree place leads clear =
      renames-keep xs (after_rename (f x, t x) tree) place (leads.1 (after_rename (f x, t x) tree) refl)
      (λ i y at. clear (suc i) y at)
      ∙ after_rename-elsewhere (f x) (t x) tree place (clear 0 x refl).1 (clear 0 x refl).0

  -- nothing comes to where nothing is
  pub renames-none : (xs : List X) (tree : Tree) (place : Place) → LeadThere xs tree
      → ((i : ℕ) (x : X) → slice_get xs i ≡ Some x → ¬ IsUnder place (t x)) → tree place ≡ None → end place ≡ None
  renames-none [] tree place leads clear none = ap (λ (t : Tree). t place) (sym leads) ∙ none
  renames-none (x ∷ xs) tree place leads clear none =
      renames-none xs (after_rename (f x, t x) tree) place (leads.1 (after_rename (f x, t x) tree) refl)
      (λ i y at. clear (suc i) y at) (by (under_or place (f x)))
    where
      by : IsUnder place (f x) ⊎ (¬ IsUnder place (f x)) → after_rename (f x, t x) tree place ≡ None
      by (inl under) = after_rename-from (f x) (t x) tree place (clear 0 x refl) under
      by (inr elsewhere) = after_rename-elsewhere (f x) (t x) tree place (clear 0 x refl) elsewhere ∙ none

  -- what leaves is gone, if nothing comes there
  pub renames-gone : (xs : List X) (tree : Tree) (place : Place) → LeadThere xs tree
      → ((i : ℕ) (x : X) → slice_get xs i ≡ Some x → ¬ IsUnder place (t x))
      → (i : ℕ) (x : X) → slice_get xs i ≡ Some x → IsUnder place (f x) → end place ≡ None
  renames-gone [] tree place leads clear i x at under = absurd (cc at)
  renames-gone (y ∷ xs) tree place leads clear zero x at under =
      let same : y ≡ x = cc at in
      renames-none xs (after_rename (f y, t y) tree) place (leads.1 (after_rename (f y, t y) tree) refl)
      (λ i z at. clear (suc i) z at)
      (after_rename-from (f y) (t y) tree place (clear 0 y refl) (subst (λ (z : X). IsUnder place (f z)) (sym same) under))
  renames-gone (y ∷ xs) tree place leads clear (suc i) x at under =
      renames-gone xs (after_rename (f y, t y) tree) place (leads.1 (after_rename (f y, t y) tree) refl)
      (λ i z at. clear (suc i) z at) i x at under

  -- what leaves comes, if nothing comes to where it was, and it isn't taken further
  pub renames-bring : (xs : List X) (tree : Tree) → LeadThere xs tree → (i : ℕ) (x : X) → slice_get xs i ≡ Some x
      → ((j : ℕ) (y : X) → slice_get xs j ≡ Some y → ¬ IsUnder (f x) (t y))
      → ((j : ℕ) (y : X) → slice_get xs j ≡ Some y → ¬ IsUnder (t x) (f y))
      → ((j : ℕ) (y : X) → slice_get xs j ≡ Some y → (¬ IsUnder (t x) (t y)) ⊎ (f y ≡ f x)) → end (t x) ≡ tree (f x)
  renames-bring [] tree leads i x at clear still single = absurd (cc at)
  renames-bring (y ∷ xs) tree leads zero x at clear still single =
      renames-keep xs next (t x) (leads.1 next refl)
      (λ j z at_2. (
        still (suc j) z at_2,
        elim (single (suc j) z at_2) [
          | inl not_under ↦ not_under
          | inr again ↦ absurd (never j z at_2 again)
        ],
      ))
      ∙ ap (λ (z : X). next (t z)) (sym same)
      ∙ ap next (sym (append-nil (t y))) ∙ after_rename-to (f y) (t y) tree []
      ∙ ap tree (append-nil (f y)) ∙ ap (λ (z : X). tree (f z)) same
    where
      same : y ≡ x
      same = cc at

      next : Tree
      next = after_rename (f y, t y) tree

      never : (j : ℕ) (z : X) → slice_get xs j ≡ Some z → f z ≡ f x → ⊥
      never j z at_2 again =
          never-there f t xs [] (λ t. t ≡ end) next j z at_2
          (subst (λ (actions : List Action). LeadTo actions (λ t. t ≡ end) next)
          (sym (append-nil (map (λ x. Rename (f x) (t x)) xs))) (leads.1 next refl))
          (λ k w at_3 (rest, is). clear (suc k) w at_3 (rest, sym again ∙ is))
          (after_rename-from (f y) (t y) tree (f z)
          (λ (rest, is). clear 0 y refl (rest, sym again ∙ is))
          ([], again ∙ ap f (sym same) ∙ sym (append-nil (f y))))
  renames-bring (y ∷ xs) tree leads (suc i) x at clear still single =
      renames-bring xs next (leads.1 next refl) i x at (λ j z at_2. clear (suc j) z at_2) (λ j z at_2. still (suc j) z at_2)
      (λ j z at_2. single (suc j) z at_2) ∙ by (under_or (f x) (f y))
    where
      next : Tree
      next = after_rename (f y, t y) tree

      by : IsUnder (f x) (f y) ⊎ (¬ IsUnder (f x) (f y)) → next (f x) ≡ tree (f x)
      by (inl under) =
          absurd (never-there f t xs [] (λ t. t ≡ end) next i x at
          (subst (λ (actions : List Action). LeadTo actions (λ t. t ≡ end) next)
          (sym (append-nil (map (λ x. Rename (f x) (t x)) xs))) (leads.1 next refl))
          (λ j z at_2. clear (suc j) z at_2) (after_rename-from (f y) (t y) tree (f x) (clear 0 y refl) under))
      by (inr elsewhere) = after_rename-elsewhere (f y) (t y) tree (f x) (clear 0 y refl) elsewhere

  pub renames-whole : (xs : List X) (tree : Tree) → LeadThere xs tree → IsWholeTree tree → IsWholeTree end
  renames-whole [] tree leads whole = subst IsWholeTree leads whole
  renames-whole (x ∷ xs) tree leads whole =
      renames-whole xs (after_rename (f x, t x) tree) (leads.1 (after_rename (f x, t x) tree) refl)
      (after_rename-whole tree whole (f x, t x) leads.0)

-- ---- new directories

module _ {X : Type 0} (f : X → Place) (end : Tree) where
  -- what is there stays
  pub makes-keep : (xs : List X) (tree : Tree) (place : Place) → LeadTo (map (λ x. Make (f x)) xs) (λ t. t ≡ end) tree
      → IsSome (tree place) → end place ≡ tree place
  makes-keep [] tree place leads some = ap (λ (t : Tree). t place) (sym leads)
  makes-keep (x ∷ xs) tree place leads some =
      let next = with_node (f x) (Some Directory) tree in
      let same : next place ≡ tree place =
      with_node-elsewhere (f x) (Some Directory) tree place
      (λ is. some_none (tree place) some (ap tree (is ∙ sym (append-nil (f x))) ∙ leads.0.free [])) in
      makes-keep xs next place (leads.1 next refl) (some_is (tree place) (next place) (sym same) some) ∙ same

  pub makes-whole : (xs : List X) (tree : Tree) → LeadTo (map (λ x. Make (f x)) xs) (λ t. t ≡ end) tree → IsWholeTree tree
      → IsWholeTree end
  makes-whole [] tree leads whole = subst IsWholeTree leads whole
  makes-whole (x ∷ xs) tree leads whole =
      let next = with_node (f x) (Some Directory) tree in
      makes-whole xs next (leads.1 next refl) (with_node-whole tree whole (f x) Directory leads.0)

-- ---- files

-- nothing is below where nothing is
pub none-below : (tree : Tree) → IsWholeTree tree → (place : Place) → tree place ≡ None → HasNothing tree place
none-below tree whole place none rest = by rest place none
  where
    by : (rest place : Place) → tree place ≡ None → tree (place ++ rest) ≡ None
    by [] place none = ap tree (append-nil place) ∙ none
    by (n ∷ rest) place none =
        ap tree (sym (append_assoc place (n ∷ []) rest)) ∙ by rest (place ++ n ∷ []) (next (tree (place ++ n ∷ [])) refl)
      where
        next : (o : Option Node) → tree (place ++ n ∷ []) ≡ o → tree (place ++ n ∷ []) ≡ None
        next None is = is
        next (Some node) is =
            absurd (some_none (tree place)
            (some_is _ _ (sym (whole.above place n (some_is (Some node) (tree (place ++ n ∷ [])) (sym is) refl))) refl) none)

-- nothing is below a file
pub none-below_file : (tree : Tree) → IsWholeTree tree → (place : Place) (bytes : List ℕ) → tree place ≡ Some (File bytes)
    → (n : List ℕ) (rest : Place) → tree (place ++ n ∷ rest) ≡ None
none-below_file tree whole place bytes is n rest =
    ap tree (sym (append_assoc place (n ∷ []) rest)) ∙ none-below tree whole (place ++ n ∷ []) (next (tree (place ++ n ∷ [])) refl) rest
  where
    next : (o : Option Node) → tree (place ++ n ∷ []) ≡ o → tree (place ++ n ∷ []) ≡ None
    next None none = none
    next (Some node) some =
        let directory = whole.above place n (some_is (Some node) (tree (place ++ n ∷ [])) (sym some) refl) in
        absurd (let same : Some (File bytes) ≡ Some Directory = sym is ∙ directory in cc same)

-- ---- new texts

-- a node that is elsewhere changes nothing of what removals do
erase-beside : (texts : List TextFile) (place : Place) (end tree : Tree)
    → ((i : ℕ) (text : TextFile) → slice_get texts i ≡ Some text → place_of text.path ≢ place)
    → LeadsTo (map removes texts) (λ t. t ≡ end) tree
    → LeadsTo (map removes texts) (λ t. t ≡ with_node place None end) (with_node place None tree)
erase-beside [] place end tree clear leads = ap (with_node place None) leads
erase-beside (text ∷ texts) place end tree clear ((bytes, there, digest), leads) = (
  (bytes, with_node-elsewhere place None tree top (clear 0 text refl) ∙ there, digest),
  λ next acts.
      subst (LeadsTo (map removes texts) (λ t. t ≡ with_node place None end)) (sym (acts ∙ swap))
      (erase-beside texts place end (with_node top None tree) (λ i other at. clear (suc i) other at) (leads
      (with_node top None tree) refl)),
)
  where
    top : Place
    top = place_of text.path

    at : (other : Place) → with_node top None (with_node place None tree) other ≡ with_node place None (with_node top None tree) other
    at other = by (place_or other top) (place_or other place)
      where
        by : (other ≡ top) ⊎ (other ≢ top) → (other ≡ place) ⊎ (other ≢ place)
            → with_node top None (with_node place None tree) other ≡ with_node place None (with_node top None tree) other
        by (inl is) (inl is_2) = absurd (clear 0 text refl (sym is ∙ is_2))
        by (inl is) (inr differ) =
            ap (with_node top None (with_node place None tree)) is ∙ with_node-at top None (with_node place None tree)
            ∙ sym (with_node-elsewhere place None (with_node top None tree) other differ
            ∙ ap (with_node top None tree) is ∙ with_node-at top None tree)
        by (inr differ) (inl is) =
            with_node-elsewhere top None (with_node place None tree) other differ ∙ ap (with_node place None tree) is
            ∙ with_node-at place None tree
            ∙ sym (ap (with_node place None (with_node top None tree)) is ∙ with_node-at place None (with_node top None tree))
        by (inr differ) (inr differ_2) =
            with_node-elsewhere top None (with_node place None tree) other differ ∙ with_node-elsewhere place None tree other differ_2
            ∙ sym (with_node-elsewhere place None (with_node top None tree) other differ_2 ∙ with_node-elsewhere top None tree other differ)

    swap : with_node top None (with_node place None tree) ≡ with_node place None (with_node top None tree)
    swap = λ i. λ other. at other i

-- each text has its digest
abbrev pub HaveDigests : List TextFile → List (List ℕ) → Type 0
HaveDigests texts bytes = AllZip (λ (text : TextFile) bytes. IsText text.digest bytes) texts bytes

-- what is written stays, if it is there
pub writes-keep : (texts : List TextFile) (bytes : List (List ℕ)) (tree end : Tree) (place : Place)
    → LeadTo (writes_of texts bytes) (λ t. t ≡ end) tree → IsSome (tree place) → end place ≡ tree place
writes-keep [] bytes tree end place leads some = ap (λ (t : Tree). t place) (sym leads)
writes-keep (text ∷ texts) [] tree end place leads some = ap (λ (t : Tree). t place) (sym leads)
writes-keep (text ∷ texts) (b ∷ bytes) tree end place leads some =
    let next = with_node (place_of text.path) (Some (File b)) tree in
    let same : next place ≡ tree place =
    with_node-elsewhere (place_of text.path) (Some (File b)) tree place
    (λ is. some_none (tree place) some (ap tree (is ∙ sym (append-nil (place_of text.path))) ∙ leads.0.free [])) in
    writes-keep texts bytes next end place (leads.1 next refl) (some_is (tree place) (next place) (sym same) some) ∙ same

-- nothing is there that isn't written
pub writes-elsewhere : (texts : List TextFile) (bytes : List (List ℕ)) (tree end : Tree) (place : Place)
    → LeadTo (writes_of texts bytes) (λ t. t ≡ end) tree
    → ((i : ℕ) (text : TextFile) → slice_get texts i ≡ Some text → place ≢ place_of text.path) → end place ≡ tree place
writes-elsewhere [] bytes tree end place leads clear = ap (λ (t : Tree). t place) (sym leads)
writes-elsewhere (text ∷ texts) [] tree end place leads clear = ap (λ (t : Tree). t place) (sym leads)
writes-elsewhere (text ∷ texts) (b ∷ bytes) tree end place leads clear =
    let next = with_node (place_of text.path) (Some (File b)) tree in
    writes-elsewhere texts bytes next end place (leads.1 next refl) (λ i other at. clear (suc i) other at)
    ∙ with_node-elsewhere (place_of text.path) (Some (File b)) tree place (clear 0 text refl)

-- each new text is there
pub writes-there : (texts : List TextFile) (bytes : List (List ℕ)) (tree end : Tree)
    → LeadTo (writes_of texts bytes) (λ t. t ≡ end) tree → HaveDigests texts bytes
    → (i : ℕ) (text : TextFile) → slice_get texts i ≡ Some text → HasText (place_of text.path) text.digest end
writes-there [] bytes tree end leads have i text at = absurd (cc at)
writes-there (first ∷ texts) [] tree end leads have i text at = absurd have
writes-there (first ∷ texts) (b ∷ bytes) tree end leads have zero text at =
    let next = with_node (place_of first.path) (Some (File b)) tree in
    let same : first ≡ text = cc at in
    let here : next (place_of first.path) ≡ Some (File b) = with_node-at (place_of first.path) (Some (File b)) tree in
    subst (λ (t : TextFile). HasText (place_of t.path) t.digest end) same (
      b,
      writes-keep texts bytes next end (place_of first.path) (leads.1 next refl)
          (some_is (Some (File b)) (next (place_of first.path)) (sym here) refl) ∙ here,
      have.0,
    )
writes-there (first ∷ texts) (b ∷ bytes) tree end leads have (suc i) text at =
    let next = with_node (place_of first.path) (Some (File b)) tree in
    writes-there texts bytes next end (leads.1 next refl) have.1 i text at

-- new texts can be removed, in their order, and then the tree is the one before
pub writes-erased : (texts : List TextFile) (bytes : List (List ℕ)) (tree end : Tree)
    → LeadTo (writes_of texts bytes) (λ t. t ≡ end) tree → HaveDigests texts bytes
    → LeadsTo (map removes texts) (λ t. t ≡ tree) end
writes-erased [] [] tree end leads have = sym leads
writes-erased [] (b ∷ bytes) tree end leads have = sym leads
writes-erased (text ∷ texts) [] tree end leads have = absurd have
writes-erased (text ∷ texts) (b ∷ bytes) tree end leads have = (
  writes-there (text ∷ texts) (b ∷ bytes) tree end leads have 0 text refl,
  λ after acts.
      subst (LeadsTo (map removes texts) (λ t. t ≡ tree)) (sym acts)
      (subst (λ (s : Tree). LeadsTo (map removes texts) (λ t. t ≡ s) (with_node top None end)) back
      (erase-beside texts top next end clear
      (writes-erased texts bytes next end (leads.1 next refl) have.1))),
)
  where
    top : Place
    top = place_of text.path

    next : Tree
    next = with_node top (Some (File b)) tree

    none : tree top ≡ None
    none = ap tree (sym (append-nil top)) ∙ leads.0.free []

    back : with_node top None next ≡ tree
    back = with_node-back top (Some (File b)) tree none

    -- a later text isn't where this one is
    apart : (texts : List TextFile) (bytes : List (List ℕ)) (t : Tree) → LeadTo (writes_of texts bytes) (λ t. t ≡ end) t
        → HaveDigests texts bytes → IsSome (t top) → (i : ℕ) (other : TextFile) → slice_get texts i ≡ Some other
        → place_of other.path ≢ top
    apart [] bytes t leads have some i other at = absurd (cc at)
    apart (first ∷ texts) [] t leads have some i other at = absurd have
    apart (first ∷ texts) (b ∷ bytes) t leads have some zero other at = λ same.
        let one : first ≡ other = cc at in
        some_none (t top) some
        (ap t (sym same ∙ ap (λ (t : TextFile). place_of t.path) (sym one) ∙ sym (append-nil (place_of first.path))) ∙ leads.0.free [])
    apart (first ∷ texts) (b ∷ bytes) t leads have some (suc i) other at =
        let next = with_node (place_of first.path) (Some (File b)) t in
        let same : next top ≡ t top =
        with_node-elsewhere (place_of first.path) (Some (File b)) t top
        (λ is. some_none (t top) some (ap t (is ∙ sym (append-nil (place_of first.path))) ∙ leads.0.free [])) in
        apart texts bytes next (leads.1 next refl) have.1 (some_is (t top) (next top) (sym same) some) i other at

    clear : (i : ℕ) (other : TextFile) → slice_get texts i ≡ Some other → place_of other.path ≢ top
    clear = apart texts bytes next (leads.1 next refl) have.1
        (some_is (Some (File b)) (next top) (sym (with_node-at top (Some (File b)) tree)) refl)
