-- One action: when it is done, what it leaves, and what takes it back.
use Rattle.std.proofs.Common.{◌≡◌, ◌≢◌, ◌⊎◌, inl, inr, ℕ, List, [], ◌∷◌, ◌++◌, Option, Some, None, IsSome, length, refl, sym, ◌∙◌, ap, subst, arith, append-nil}
use Rattle.std.proofs.lemmas.List.{length-append}
use Rattle.relmove_stages.specs.Runs.{AreApart}
use Rattle.relmove_stages.specs.StageActions.{IsDone, IsReady, StageAction, Takes, Makes, Clears, Removes, RemovesPart, tree_action}
use Rattle.relmove_stages.specs.Stages.{back}
use Rattle.relmove_trees.proofs.FileTreesLemmas.{after_rename-elsewhere, after_rename-from, after_rename-to, last_view, place_or, some_is, some_none, under_or, with_node-at, with_node-elsewhere}
use Rattle.relmove_trees.specs.FileTrees.{CanTake, Directory, HasBelow, HasNothing, IsUnder, IsWholeTree, Node, Place, Tree, after_rename, with_node}
use Rattle.relmove_trees.specs.TreeActions.{Acts, CanRename}

-- ---- places

-- of two places at or above one, one is at or above the other
pub either_under : (one other rest below : Place) → one ++ rest ≡ other ++ below → IsUnder one other ⊎ IsUnder other one
either_under one [] rest below is = inl (one, refl)
either_under [] (n ∷ other) rest below is = inr (n ∷ other, refl)
either_under (m ∷ one) (n ∷ other) rest below is =
    let first : m ≡ n = cc is in
    let later : one ++ rest ≡ other ++ below = cc is in
    elim (either_under one other rest below later) [
      | inl (more, same) ↦ inl (more, ap (λ places. m ∷ places) same ∙ ap (λ n. n ∷ (other ++ more)) first)
      | inr (more, same) ↦ inr (more, ap (λ places. n ∷ places) same ∙ ap (λ n. n ∷ (one ++ more)) (sym first))
    ]

-- the place isn't below itself
not_below : (place : Place) (n : List ℕ) (rest : Place) → place ++ n ∷ rest ≢ place
not_below place n rest same =
    let long = ap length same in
    let long_2 = length-append place (n ∷ rest) in
    absurd (omega (arith, long, long_2))

nothing_at : (tree : Tree) (place : Place) → HasNothing tree place → tree place ≡ None
nothing_at tree place free = ap tree (sym (append-nil place)) ∙ free []

-- ---- a node more or less

-- nothing comes
pub none_stays : (place : Place) (tree : Tree) (other : Place) → tree other ≡ None → with_node place None tree other ≡ None
none_stays place tree other none = elim (place_or other place) [
  | inl same ↦ ap (with_node place None tree) same ∙ with_node-at place None tree
  | inr differ ↦ with_node-elsewhere place None tree other differ ∙ none
]

-- what was put where nothing is can be taken away
pub with_node-back : (place : Place) (node : Option Node) (tree : Tree) → tree place ≡ None
    → with_node place None (with_node place node tree) ≡ tree
with_node-back place node tree none = λ i. λ other. at other i
  where
    at : (other : Place) → with_node place None (with_node place node tree) other ≡ tree other
    at other = elim (place_or other place) [
      | inl same ↦
          ap (with_node place None (with_node place node tree)) same ∙ with_node-at place None (with_node place node tree)
          ∙ sym (ap tree same ∙ none)
      | inr differ ↦
          with_node-elsewhere place None (with_node place node tree) other differ
          ∙ with_node-elsewhere place node tree other differ
    ]

-- ---- a rename

-- the old path isn't at or below the new one, where nothing is
pub from_apart : (tree : Tree) (from to : Place) → CanRename tree (from, to) → ¬ IsUnder from to
from_apart tree from to can (rest, is) = some_none (tree from) can.there (ap tree is ∙ can.takes.free rest)

-- nothing is left at the old path
pub rename-leaves : (tree : Tree) (from to : Place) → CanRename tree (from, to) → HasNothing (after_rename (from, to) tree) from
rename-leaves tree from to can rest = after_rename-from from to tree (from ++ rest) none (rest, refl)
  where
    none : ¬ IsUnder (from ++ rest) to
    none (below, is) = elim (either_under from to rest below is) [
      | inl under ↦ from_apart tree from to can under
      | inr under ↦ can.apart under
    ]

pub rename-comes : (tree : Tree) (from to : Place) → IsSome (tree from) → IsSome (after_rename (from, to) tree to)
rename-comes tree from to some =
    some_is (tree from) (after_rename (from, to) tree to)
    (ap tree (sym (append-nil from)) ∙ sym (after_rename-to from to tree []) ∙ ap (after_rename (from, to) tree) (append-nil to))
    some

-- a rename to where nothing is can be taken back
pub rename-back : (tree : Tree) (from to : Place) → CanRename tree (from, to)
    → after_rename (to, from) (after_rename (from, to) tree) ≡ tree
rename-back tree from to can = λ i. λ place. at place i
  where
    at : (place : Place) → after_rename (to, from) (after_rename (from, to) tree) place ≡ tree place
    at place = by (under_or place from) (under_or place to)
      where
        by : IsUnder place from ⊎ (¬ IsUnder place from) → IsUnder place to ⊎ (¬ IsUnder place to)
            → after_rename (to, from) (after_rename (from, to) tree) place ≡ tree place
        by (inl (rest, is)) two =
            ap (after_rename (to, from) (after_rename (from, to) tree)) is
            ∙ after_rename-to to from (after_rename (from, to) tree) rest ∙ after_rename-to from to tree rest ∙ sym (ap tree is)
        by (inr none) (inl under) =
            after_rename-from to from (after_rename (from, to) tree) place none under
            ∙ sym (ap tree under.1 ∙ can.takes.free under.0)
        by (inr none) (inr elsewhere) =
            after_rename-elsewhere to from (after_rename (from, to) tree) place none elsewhere
            ∙ after_rename-elsewhere from to tree place elsewhere none

-- and the system can do that
pub rename-can_back : (tree : Tree) (from to : Place) → IsWholeTree tree → CanRename tree (from, to)
    → CanRename (after_rename (from, to) tree) (to, from)
rename-can_back tree from to whole can = record {
  there = rename-comes tree from to can.there;
  takes = by (last_view from);
  apart = from_apart tree from to can;
}
  where
    held : (top : Place) (last : List ℕ) → from ≡ top ++ last ∷ [] → after_rename (from, to) tree top ≡ Some Directory
    held top last is = after_rename-elsewhere from to tree top not_to not_from ∙ there
      where
        there : tree top ≡ Some Directory
        there = whole.above top last (some_is (tree from) (tree (top ++ last ∷ [])) (ap tree is) can.there)

        not_to : ¬ IsUnder top to
        not_to (rest, same) =
            some_none (tree top) (some_is (Some Directory) (tree top) (sym there) refl) (ap tree same ∙ can.takes.free rest)

        not_from : ¬ IsUnder top from
        not_from (rest, same) =
            let long = ap length is in
            let long_2 = length-append top (last ∷ []) in
            let long_3 = ap length same in
            let long_4 = length-append from rest in
            absurd (omega (arith, long, long_2, long_3, long_4))

    by : (from ≡ []) ⊎ ((front : Place) × (last : List ℕ) × (from ≡ front ++ last ∷ []))
        → CanTake (after_rename (from, to) tree) from
    by (inl none) = absurd (can.apart (to, ap (λ from. from ++ to) (sym none)))
    by (inr (top, last, is)) = record {
      top = top;
      last = last;
      split = is;
      held = held top last is;
      free = rename-leaves tree from to can;
    }

-- ---- an action that was done

pub done-becomes : (action : StageAction) (old new : Tree) → IsReady action old → Acts (tree_action action) old new
    → IsDone action new
done-becomes (Takes from to) old new ready acts = (
  ap (λ (t : Tree). t from) acts ∙ nothing_at (after_rename (from, to) old) from (rename-leaves old from to ready),
  some_is (after_rename (from, to) old to) (new to) (sym (ap (λ (t : Tree). t to) acts)) (rename-comes old from to ready.there),
)
done-becomes (Makes place) old new ready acts = ap (λ (t : Tree). t place) acts ∙ with_node-at place (Some Directory) old
done-becomes (Clears place) old new ready (inl (none, is)) = inl (ap (λ (t : Tree). t place) is ∙ with_node-at place None old)
done-becomes (Clears place) old new ready (inr (below, is)) = inr (subst (λ (t : Tree). HasBelow t place) (sym is) below)
done-becomes (Removes place digest) old new ready acts = ap (λ (t : Tree). t place) acts ∙ with_node-at place None old
done-becomes (RemovesPart place digest) old new ready acts = ap (λ (t : Tree). t place) acts ∙ with_node-at place None old

-- ---- it stays done while another is done

pub Takes-stays : (from to from_2 to_2 : Place) (old new : Tree) → AreApart from to_2 → AreApart from_2 to
    → IsDone (Takes from to) old → IsReady (Takes from_2 to_2) old → Acts (tree_action (Takes from_2 to_2)) old new
    → IsDone (Takes from to) new
Takes-stays from to from_2 to_2 old new apart apart_2 done ready acts = (
  ap (λ (t : Tree). t from) acts ∙ gone,
  some_is (after_rename (from_2, to_2) old to) (new to) (sym (ap (λ (t : Tree). t to) acts)) there,
)
  where
    gone : after_rename (from_2, to_2) old from ≡ None
    gone = elim (under_or from from_2) [
      | inl under ↦ after_rename-from from_2 to_2 old from apart.0 under
      | inr elsewhere ↦ after_rename-elsewhere from_2 to_2 old from apart.0 elsewhere ∙ done.0
    ]

    not_there : ¬ IsUnder to to_2
    not_there (rest, is) = some_none (old to) done.1 (ap old is ∙ ready.takes.free rest)

    there : IsSome (after_rename (from_2, to_2) old to)
    there =
        some_is (old to) (after_rename (from_2, to_2) old to)
        (sym (after_rename-elsewhere from_2 to_2 old to not_there apart_2.1)) done.1

pub Makes-stays : (place other : Place) (old new : Tree) → IsDone (Makes place) old → IsReady (Makes other) old
    → Acts (tree_action (Makes other)) old new → IsDone (Makes place) new
Makes-stays place other old new done ready acts =
    ap (λ (t : Tree). t place) acts
    ∙ with_node-elsewhere other (Some Directory) old place
    (λ same. some_none (old place) (some_is (Some Directory) (old place) (sym done) refl)
    (ap old same ∙ nothing_at old other ready.free)) ∙ done

-- something is removed, or nothing is done
abbrev pub Loses : Place → Tree → Tree → Type 0
Loses place old new = (new ≡ with_node place None old) ⊎ (new ≡ old)

pub none-stays : (place other : Place) (old new : Tree) → Loses other old new → old place ≡ None → new place ≡ None
none-stays place other old new (inl is) none = ap (λ (t : Tree). t place) is ∙ none_stays other old place none
none-stays place other old new (inr is) none = ap (λ (t : Tree). t place) is ∙ none

pub below-stays : (place other : Place) (old new : Tree) → Loses other old new → ¬ IsUnder other place → HasBelow old place
    → HasBelow new place
below-stays place other old new (inl is) not (n, rest, some) = (
  n,
  rest,
  some_is (old (place ++ n ∷ rest)) (new (place ++ n ∷ rest))
      (sym (ap (λ (t : Tree). t (place ++ n ∷ rest)) is
      ∙ with_node-elsewhere other None old (place ++ n ∷ rest) (λ same. not (n ∷ rest, sym same)))) some,
)
below-stays place other old new (inr is) not below = subst (λ (t : Tree). HasBelow t place) (sym is) below

pub Clears-stays : (place other : Place) (old new : Tree) → Loses other old new → ¬ IsUnder other place
    → IsDone (Clears place) old → IsDone (Clears place) new
Clears-stays place other old new loses not (inl none) = inl (none-stays place other old new loses none)
Clears-stays place other old new loses not (inr below) = inr (below-stays place other old new loses not below)

-- ---- what takes an action back

-- the action is a rename or a new directory
abbrev pub IsBackable : StageAction → Type 0
IsBackable (Takes from to) = Unit {0}
IsBackable (Makes place) = Unit {0}
IsBackable (Clears place) = ⊥
IsBackable (Removes place digest) = ⊥
IsBackable (RemovesPart place digest) = ⊥

-- there is a tree after it
abbrev pub act_on : StageAction → Tree → Tree
act_on (Takes from to) tree = after_rename (from, to) tree
act_on (Makes place) tree = with_node place (Some Directory) tree
act_on (Clears place) tree = tree
act_on (Removes place digest) tree = tree
act_on (RemovesPart place digest) tree = tree

pub acts-on : (action : StageAction) (tree : Tree) → IsBackable action → Acts (tree_action action) tree (act_on action tree)
acts-on (Takes from to) tree backable = refl
acts-on (Makes place) tree backable = refl
acts-on (Clears place) tree backable = absurd backable
acts-on (Removes place digest) tree backable = absurd backable
acts-on (RemovesPart place digest) tree backable = absurd backable

-- nothing is below a directory that was made
made-empty : (place : Place) (old new : Tree) → HasNothing old place → new ≡ with_node place (Some Directory) old
    → ¬ HasBelow new place
made-empty place old new free is (n, rest, some) =
    some_none (new (place ++ n ∷ rest)) some
    (ap (λ (t : Tree). t (place ++ n ∷ rest)) is
    ∙ with_node-elsewhere place (Some Directory) old (place ++ n ∷ rest) (not_below place n rest) ∙ free (n ∷ rest))

-- whatever takes it back leads to the tree before
pub back-is : (action : StageAction) (old mid new : Tree) → IsBackable action → IsReady action old
    → Acts (tree_action action) old mid → Acts (tree_action (back action)) mid new → new ≡ old
back-is (Takes from to) old mid new backable ready acts acts_2 =
    acts_2 ∙ ap (after_rename (to, from)) acts ∙ rename-back old from to ready
back-is (Makes place) old mid new backable ready acts (inl (none, is)) =
    is ∙ ap (with_node place None) acts ∙ with_node-back place (Some Directory) old (nothing_at old place ready.free)
back-is (Makes place) old mid new backable ready acts (inr (below, is)) =
    absurd (made-empty place old mid ready.free acts below)
back-is (Clears place) old mid new backable ready acts acts_2 = absurd backable
back-is (Removes place digest) old mid new backable ready acts acts_2 = absurd backable
back-is (RemovesPart place digest) old mid new backable ready acts acts_2 = absurd backable

-- and something takes it back
pub back-acts : (action : StageAction) (old mid : Tree) → IsBackable action → IsReady action old
    → Acts (tree_action action) old mid → Acts (tree_action (back action)) mid old
back-acts (Takes from to) old mid backable ready acts =
    sym (ap (after_rename (to, from)) acts ∙ rename-back old from to ready)
back-acts (Makes place) old mid backable ready acts = inl (
  made-empty place old mid ready.free acts,
  sym (ap (with_node place None) acts ∙ with_node-back place (Some Directory) old (nothing_at old place ready.free)),
)
back-acts (Clears place) old mid backable ready acts = absurd backable
back-acts (Removes place digest) old mid backable ready acts = absurd backable
back-acts (RemovesPart place digest) old mid backable ready acts = absurd backable

pub back-ready : (action : StageAction) (old mid : Tree) → IsBackable action → IsWholeTree old → IsReady action old
    → Acts (tree_action action) old mid → IsReady (back action) mid
back-ready (Takes from to) old mid backable whole ready acts =
    subst (λ (t : Tree). CanRename t (to, from)) (sym acts) (rename-can_back old from to whole ready)
back-ready (Makes place) old mid backable whole ready acts =
    ap (λ (t : Tree). t place) acts ∙ with_node-at place (Some Directory) old
back-ready (Clears place) old mid backable whole ready acts = absurd backable
back-ready (Removes place digest) old mid backable whole ready acts = absurd backable
back-ready (RemovesPart place digest) old mid backable whole ready acts = absurd backable

-- a rename or a new directory that is ready isn't done
abbrev pub IsUndone : StageAction → Tree → Type 0
IsUndone (Takes from to) tree = IsDone (Takes from to) tree
IsUndone (Makes place) tree = ⊥
IsUndone (Clears place) tree = tree place ≡ None
IsUndone (Removes place digest) tree = ⊥
IsUndone (RemovesPart place digest) tree = ⊥

pub undone-is : (action : StageAction) (tree : Tree) → IsUndone action tree → IsDone action tree
undone-is (Takes from to) tree undone = undone
undone-is (Makes place) tree undone = absurd undone
undone-is (Clears place) tree undone = inl undone
undone-is (Removes place digest) tree undone = absurd undone
undone-is (RemovesPart place digest) tree undone = absurd undone

pub undone-becomes : (action : StageAction) (tree : Tree) → IsBackable action → IsReady action tree → IsUndone (back action) tree
undone-becomes (Takes from to) tree backable ready = (nothing_at tree to ready.takes.free, ready.there)
undone-becomes (Makes place) tree backable ready = nothing_at tree place ready.free
undone-becomes (Clears place) tree backable ready = absurd backable
undone-becomes (Removes place digest) tree backable ready = absurd backable
undone-becomes (RemovesPart place digest) tree backable ready = absurd backable
