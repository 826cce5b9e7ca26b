-- What is where in a tree after a change.
use Rattle.std.proofs.Common.{Some, append_assoc, get_or, Bool, true, false, true≢false, ◌≡◌, ◌≢◌, ◌⊎◌, List, [], ◌∷◌, ◌++◌, Option, None, IsSome, length, drop, inl, inr, refl, sym, ap, subst, ◌∙◌, append-nil, arith, ℕ, if◌then◌else◌}
use Rattle.std.proofs.Math.Seq.{drop-append_seam}
use Rattle.std.proofs.lemmas.List.{length-append}
use Rattle.std.proofs.lemmas.Slice.Eq.{bytes_eq-Decides, starts_is}
use Rattle.std.specs.List.{starts_with}
use Rattle.std.specs.Str.{bytes_eq}
use Rattle.relmove_trees.specs.FileTrees.{CanTake, Directory, IsUnder, IsWholeTree, Node, Place, Tree, after_rename, at_or_below, with_node}
use Rattle.relmove_trees.specs.TreeActions.{CanRename}

-- ---- places

-- the test says whether a place is under another
pub starts : (place top : List (List ℕ)) → (starts_with bytes_eq place top ≡ true → place ≡ top ++ drop (length top) place)
    × ((rest : List (List ℕ)) → place ≡ top ++ rest → starts_with bytes_eq place top ≡ true)
starts place top = starts_is bytes_eq-Decides place top (starts_with bytes_eq place top) refl

-- a place is under another, or it isn't
pub under_or : (place top : List (List ℕ)) → IsUnder place top ⊎ (¬ IsUnder place top)
under_or place top = by (starts_with bytes_eq place top) refl
  where
    by : (b : Bool) → starts_with bytes_eq place top ≡ b → IsUnder place top ⊎ (¬ IsUnder place top)
    by true is = inl (drop (length top) place, (starts place top).0 is)
    by false is = inr (λ under. true≢false (sym ((starts place top).1 under.0 under.1) ∙ is))

-- two places are one place, or they aren't
pub place_or : (one other : List (List ℕ)) → (one ≡ other) ⊎ (one ≢ other)
place_or one other = by (under_or one other) (under_or other one)
  where
    both : (below rest : List (List ℕ)) → one ≡ other ++ below → other ≡ one ++ rest → one ≡ other
    both [] rest is is_2 = is ∙ append-nil other
    both (n ∷ below) rest is is_2 =
        let long = ap length is ∙ length-append other (n ∷ below) in
        let long_2 = ap length is_2 ∙ length-append one rest in
        absurd (omega (arith, long, long_2))

    by : IsUnder one other ⊎ (¬ IsUnder one other) → IsUnder other one ⊎ (¬ IsUnder other one)
        → (one ≡ other) ⊎ (one ≢ other)
    by (inr none) back = inr (λ same. none ([], same ∙ sym (append-nil other)))
    by (inl under) (inr none) = inr (λ same. none ([], sym same ∙ sym (append-nil one)))
    by (inl (below, is)) (inl (rest, is_2)) = inl (both below rest is is_2)

pub not_starts : (place top : Place) → ¬ IsUnder place top → starts_with bytes_eq place top ≡ false
not_starts place top none = by (starts_with bytes_eq place top) refl
  where
    by : (b : Bool) → starts_with bytes_eq place top ≡ b → starts_with bytes_eq place top ≡ false
    by true is = absurd (none (drop (length top) place, (starts place top).0 is))
    by false is = is

-- a list is empty, or has a last element
pub last_view : {X : Type 0} (xs : List X) → (xs ≡ []) ⊎ ((front : List X) × (last : X) × (xs ≡ front ++ last ∷ []))
last_view [] = inl refl
last_view (x ∷ xs) = elim (last_view xs) [
  | inl none ↦ inr ([], x, ap (λ rest. x ∷ rest) none)
  | inr (front, last, is) ↦ inr (x ∷ front, last, ap (λ rest. x ∷ rest) is)
]

pub push_front : {X : Type 0} (xs ys : List X) (x y : X) → xs ++ x ∷ [] ≡ ys ++ y ∷ [] → xs ≡ ys
push_front [] [] x y same = refl
push_front [] (z ∷ ys) x y same =
    absurd (let count = ap length same in let long = length-append ys (y ∷ []) in omega (arith, count, long))
push_front (z ∷ xs) [] x y same =
    absurd (let count = ap length same in let long = length-append xs (x ∷ []) in omega (arith, count, long))
push_front (z ∷ xs) (w ∷ ys) x y same =
    let first : z ≡ w = ap (λ zs. get_or zs 0 z) same in
    let rest = push_front xs ys x y (ap (λ zs. drop 1 zs) same) in
    ap (λ v. v ∷ xs) first ∙ ap (λ vs. w ∷ vs) rest

-- ---- something or nothing

-- what is there isn't nothing
pub some_none : {A : Type 0} (n : Option A) → IsSome n → n ≡ None → ⊥
some_none {A = A} n some none = let h : IsSome {T = A} None = subst IsSome none some in cc h

pub some_is : {A : Type 0} (a b : Option A) → a ≡ b → IsSome a → IsSome b
some_is a b e some = subst IsSome e some

-- ---- a rename

pub after_rename-to : (from to : Place) (tree : Tree) (rest : Place) → after_rename (from, to) tree (to ++ rest) ≡ tree (from ++ rest)
unfolding after_rename
after_rename-to from to tree rest =
    rw ((starts (to ++ rest) to).1 rest refl) (ap (λ rest. tree (from ++ rest)) (drop-append_seam to rest))

pub after_rename-from : (from to : Place) (tree : Tree) (place : Place) → ¬ IsUnder place to → IsUnder place from
    → after_rename (from, to) tree place ≡ None
unfolding after_rename
after_rename-from from to tree place none (rest, is) = rw (not_starts place to none, (starts place from).1 rest is) refl

pub after_rename-elsewhere : (from to : Place) (tree : Tree) (place : Place) → ¬ IsUnder place to → ¬ IsUnder place from
    → after_rename (from, to) tree place ≡ tree place
unfolding after_rename
after_rename-elsewhere from to tree place none none_2 = rw (not_starts place to none, not_starts place from none_2) refl

-- ---- another node

pub with_node-at : (place : Place) (new : Option Node) (tree : Tree) → with_node place new tree place ≡ new
unfolding with_node
with_node-at place new tree =
    rw ((starts place place).1 [] (sym (append-nil place)))
    (ap (at_or_below new (tree place)) (ap (drop (length place)) (sym (append-nil place)) ∙ drop-append_seam place []))

pub with_node-elsewhere : (place : Place) (new : Option Node) (tree : Tree) (other : Place) → other ≢ place
    → with_node place new tree other ≡ tree other
unfolding with_node
with_node-elsewhere place new tree other differ = by (under_or other place)
  where
    at : (rest : Place) → other ≡ place ++ rest → at_or_below new (tree other) rest ≡ tree other
    at [] is = absurd (differ (is ∙ append-nil place))
    at (n ∷ rest) is = refl

    by : IsUnder other place ⊎ (¬ IsUnder other place)
        → (if starts_with bytes_eq other place then at_or_below new (tree other) (drop (length place) other) else tree other)
        ≡ tree other
    by (inl (rest, is)) =
        rw ((starts other place).1 rest is)
        (ap (at_or_below new (tree other)) (ap (drop (length place)) is ∙ drop-append_seam place rest) ∙ at rest is)
    by (inr none) = rw (not_starts other place none) refl

-- ---- what is above anything stays a directory

pub after_rename-whole : (tree : Tree) → IsWholeTree tree → (rename : Place × Place) → CanRename tree rename
    → IsWholeTree (after_rename rename tree)
after_rename-whole tree whole_tree rename can = record { root = root; above = above }
  where
    split : rename.1 ≡ can.takes.top ++ can.takes.last ∷ []
    split = can.takes.split

    not_at_root : ¬ IsUnder [] rename.1
    not_at_root (rest, is) = some_none (tree []) (some_is _ _ (sym whole_tree.root) refl) (ap tree is ∙ can.takes.free rest)

    not_from_root : ¬ IsUnder [] rename.0
    not_from_root (rest, is) = by rename.0 refl is
      where
        by : (from : Place) → rename.0 ≡ from → [] ≡ rename.0 ++ rest → ⊥
        by [] none is = can.apart (rename.1, ap (λ from. from ++ rename.1) (sym none))
        by (n ∷ from) some is = cc (is ∙ ap (λ from. from ++ rest) some)

    root : after_rename rename tree [] ≡ Some Directory
    root = after_rename-elsewhere rename.0 rename.1 tree [] not_at_root not_from_root ∙ whole_tree.root

    above : (top : Place) (n : List ℕ) → IsSome (after_rename rename tree (top ++ n ∷ []))
        → after_rename rename tree top ≡ Some Directory
    above top n some =
        by (under_or (top ++ n ∷ []) rename.1) (under_or (top ++ n ∷ []) rename.0) (under_or top rename.1)
        (under_or top rename.0)
      where
        by : IsUnder (top ++ n ∷ []) rename.1 ⊎ (¬ IsUnder (top ++ n ∷ []) rename.1)
            → IsUnder (top ++ n ∷ []) rename.0 ⊎ (¬ IsUnder (top ++ n ∷ []) rename.0)
            → IsUnder top rename.1 ⊎ (¬ IsUnder top rename.1) → IsUnder top rename.0 ⊎ (¬ IsUnder top rename.0)
            → after_rename rename tree top ≡ Some Directory
        by one two (inl (rest, is)) four =
            let below : top ++ n ∷ [] ≡ rename.1 ++ (rest ++ n ∷ []) =
            ap (λ top. top ++ n ∷ []) is ∙ append_assoc rename.1 rest (n ∷ []) in
            let there : IsSome (tree (rename.0 ++ (rest ++ n ∷ []))) =
            some_is _ _ (ap (after_rename rename tree) below ∙ after_rename-to rename.0 rename.1 tree (rest ++ n ∷ [])) some in
            ap (after_rename rename tree) is ∙ after_rename-to rename.0 rename.1 tree rest
            ∙ whole_tree.above (rename.0 ++ rest) n (some_is _ _ (ap tree (sym (append_assoc rename.0 rest (n ∷ [])))) there)
        by (inl (rest, is)) two (inr none) four = at (last_view rest)
          where
            at : (rest ≡ []) ⊎ ((front : Place) × (last : List ℕ) × (rest ≡ front ++ last ∷ []))
                → after_rename rename tree top ≡ Some Directory
            at (inl empty) =
                let same : top ≡ can.takes.top =
                push_front top can.takes.top n can.takes.last
                (is ∙ ap (λ rest. rename.1 ++ rest) empty ∙ append-nil rename.1 ∙ split) in
                after_rename-elsewhere rename.0 rename.1 tree top none
                (λ (rest_2, is_2). can.apart (
                  rest_2 ++ can.takes.last ∷ [],
                  split ∙ ap (λ top. top ++ can.takes.last ∷ []) (sym same ∙ is_2)
                      ∙ append_assoc rename.0 rest_2 (can.takes.last ∷ []),
                ))
                ∙ ap tree same ∙ can.takes.held
            at (inr (front, last, more)) =
                absurd (none (
                  front,
                  push_front top (rename.1 ++ front) n last
                      (is ∙ ap (λ rest. rename.1 ++ rest) more ∙ sym (append_assoc rename.1 front (last ∷ []))),
                ))
        by (inr none_2) (inl under) (inr none) four =
            absurd (some_none (after_rename rename tree (top ++ n ∷ [])) some
            (after_rename-from rename.0 rename.1 tree (top ++ n ∷ []) none_2 under))
        by (inr none_2) (inr elsewhere) (inr none) (inl (rest, is)) =
            absurd (elsewhere (rest ++ n ∷ [], ap (λ top. top ++ n ∷ []) is ∙ append_assoc rename.0 rest (n ∷ [])))
        by (inr none_2) (inr elsewhere) (inr none) (inr elsewhere_2) =
            after_rename-elsewhere rename.0 rename.1 tree top none elsewhere_2
            ∙ whole_tree.above top n (some_is _ _ (after_rename-elsewhere rename.0 rename.1 tree (top ++ n ∷ []) none_2 elsewhere) some)

pub with_node-whole : (tree : Tree) → IsWholeTree tree → (place : Place) (node : Node) → CanTake tree place
    → IsWholeTree (with_node place (Some node) tree)
with_node-whole tree whole_tree place node can = record { root = root; above = above }
  where
    here : tree place ≡ None
    here = ap tree (sym (append-nil place)) ∙ can.free []

    keeps : (other : Place) → IsSome (tree other) → with_node place (Some node) tree other ≡ tree other
    keeps other some = with_node-elsewhere place (Some node) tree other (λ same. some_none (tree other) some (ap tree same ∙ here))

    root : with_node place (Some node) tree [] ≡ Some Directory
    root = keeps [] (some_is _ _ (sym whole_tree.root) refl) ∙ whole_tree.root

    above : (top : Place) (n : List ℕ) → IsSome (with_node place (Some node) tree (top ++ n ∷ []))
        → with_node place (Some node) tree top ≡ Some Directory
    above top n some = by (place_or (top ++ n ∷ []) place)
      where
        held : tree top ≡ Some Directory → with_node place (Some node) tree top ≡ Some Directory
        held is = keeps top (some_is _ _ (sym is) refl) ∙ is

        by : (top ++ n ∷ [] ≡ place) ⊎ (top ++ n ∷ [] ≢ place) → with_node place (Some node) tree top ≡ Some Directory
        by (inl same) =
            held (ap tree (push_front top can.top n can.last (same ∙ can.split)) ∙ can.held)
        by (inr differ) =
            held (whole_tree.above top n
            (some_is _ _ (with_node-elsewhere place (Some node) tree (top ++ n ∷ []) differ) some))
