-- What renames do to a tree: each thing is where they carry it, and there is nothing else.
use Rattle.std.proofs.Common.{◌≡◌, ◌≢◌, ◌⊎◌, ℕ, suc, ◌<◌, List, [], ◌∷◌, ◌++◌, Option, Some, None, IsSome, length, drop, take, get_or, inl, inr, refl, sym, ap, ◌∙◌, append-nil, append_assoc, arith}
use Rattle.std.proofs.Math.Seq.{drop-append_seam}
use Rattle.relmove_trees.specs.FileTrees.{Directory, HasNothing, IsUnder, IsWholeTree, Node, Place, Tree, after_rename}
use Rattle.relmove_trees.specs.TreeActions.{CanRename}
use Rattle.relmove_plan.proofs.RunWords.{renamed, carried}
use Rattle.relmove_plan.proofs.RunsLemmas.{renamed-under, renamed-elsewhere}
use Rattle.relmove_trees.proofs.FileTreesLemmas.{after_rename-elsewhere, after_rename-from, after_rename-to, after_rename-whole, some_is, some_none, under_or}

-- ---- one rename

-- what is somewhere is where the rename takes it
pub renamed-arrives : (from to : Place) (tree : Tree) (place : Place) → HasNothing tree to → IsSome (tree place)
    → after_rename (from, to) tree (renamed (from, to) place) ≡ tree place
renamed-arrives from to tree place free some = by (under_or place from)
  where
    by : IsUnder place from ⊎ (¬ IsUnder place from) → after_rename (from, to) tree (renamed (from, to) place) ≡ tree place
    by (inl (rest, is)) =
        ap (after_rename (from, to) tree) (renamed-under from to place rest is) ∙ after_rename-to from to tree rest ∙ ap tree (sym is)
    by (inr elsewhere) =
        ap (after_rename (from, to) tree) (renamed-elsewhere from to place elsewhere)
        ∙ after_rename-elsewhere from to tree place
        (λ (rest, is). some_none (tree place) some (ap tree is ∙ free rest)) elsewhere

-- and nothing else is there
pub renamed-only : (from to : Place) (tree : Tree) (end : Place) → IsSome (after_rename (from, to) tree end)
    → (place : Place) × (renamed (from, to) place ≡ end) × (tree place ≡ after_rename (from, to) tree end)
renamed-only from to tree end some = by (under_or end to) (under_or end from)
  where
    by : IsUnder end to ⊎ (¬ IsUnder end to) → IsUnder end from ⊎ (¬ IsUnder end from)
        → (place : Place) × (renamed (from, to) place ≡ end) × (tree place ≡ after_rename (from, to) tree end)
    by (inl (rest, is)) back = (
      from ++ rest,
      renamed-under from to (from ++ rest) rest refl ∙ sym is,
      sym (ap (after_rename (from, to) tree) is ∙ after_rename-to from to tree rest),
    )
    by (inr none) (inl under) = absurd (some_none (after_rename (from, to) tree end) some (after_rename-from from to tree end none under))
    by (inr none) (inr elsewhere) =
        (end, renamed-elsewhere from to end elsewhere, sym (after_rename-elsewhere from to tree end none elsewhere))

-- ---- several renames

-- the tree after renames, one after another
abbrev pub after_renames : List (Place × Place) → Tree → Tree
after_renames [] tree = tree
after_renames (rename ∷ renames) tree = after_renames renames (after_rename rename tree)

-- each can be done when it comes
abbrev pub CanRenameAll : List (Place × Place) → Tree → Type 0
CanRenameAll [] tree = Unit {0}
CanRenameAll (rename ∷ renames) tree = CanRename tree rename × CanRenameAll renames (after_rename rename tree)

-- what is somewhere is where the renames carry it
pub carried-arrives : (renames : List (Place × Place)) (tree : Tree) → CanRenameAll renames tree → (place : Place)
    → IsSome (tree place)
    → after_renames renames tree (carried renames place) ≡ tree place
carried-arrives [] tree can place some = refl
carried-arrives (rename ∷ renames) tree can place some =
    let here = renamed-arrives rename.0 rename.1 tree place can.0.takes.free some in
    carried-arrives renames (after_rename rename tree) can.1 (renamed rename place) (some_is _ _ (sym here) some) ∙ here

-- and nothing else is there
pub carried-only : (renames : List (Place × Place)) (tree : Tree) (end : Place) → IsSome (after_renames renames tree end)
    → (place : Place) × (carried renames place ≡ end) × (tree place ≡ after_renames renames tree end)
carried-only [] tree end some = (end, refl, refl)
carried-only (rename ∷ renames) tree end some =
    let (mid, comes, same) = carried-only renames (after_rename rename tree) end some in
    let (place, comes_2, same_2) = renamed-only rename.0 rename.1 tree mid (some_is _ _ (sym same) some) in
    (place, ap (carried renames) comes_2 ∙ comes, same_2 ∙ same)

-- two things don't come to one place
pub carried-one : (renames : List (Place × Place)) (tree : Tree) → CanRenameAll renames tree → (one other : Place)
    → IsSome (tree one)
    → IsSome (tree other) → carried renames one ≡ carried renames other → one ≡ other
carried-one [] tree can one other some some_2 same = same
carried-one (rename ∷ renames) tree can one other some some_2 same =
    first (under_or one rename.0) (under_or other rename.0)
    (carried-one renames (after_rename rename tree) can.1 (renamed rename one) (renamed rename other)
    (some_is _ _ (sym (renamed-arrives rename.0 rename.1 tree one can.0.takes.free some)) some)
    (some_is _ _ (sym (renamed-arrives rename.0 rename.1 tree other can.0.takes.free some_2)) some_2) same)
  where
    free : (place rest : Place) → IsSome (tree place) → place ≡ rename.1 ++ rest → ⊥
    free place rest some is = some_none (tree place) some (ap tree is ∙ can.0.takes.free rest)

    first : IsUnder one rename.0 ⊎ (¬ IsUnder one rename.0) → IsUnder other rename.0 ⊎ (¬ IsUnder other rename.0)
        → renamed rename one ≡ renamed rename other → one ≡ other
    first (inl (rest, is)) (inl (rest_2, is_2)) same =
        let there = sym (renamed-under rename.0 rename.1 one rest is) ∙ same ∙ renamed-under rename.0 rename.1 other rest_2 is_2 in
        let rests : rest ≡ rest_2 =
        sym (drop-append_seam rename.1 rest) ∙ ap (drop (length rename.1)) there ∙ drop-append_seam rename.1 rest_2 in
        is ∙ ap (λ rest. rename.0 ++ rest) rests ∙ sym is_2
    first (inl (rest, is)) (inr none) same =
        absurd (free other rest some_2
        (sym (renamed-elsewhere rename.0 rename.1 other none) ∙ sym same ∙ renamed-under rename.0 rename.1 one rest is))
    first (inr none) (inl (rest, is)) same =
        absurd (free one rest some
        (sym (renamed-elsewhere rename.0 rename.1 one none) ∙ same ∙ renamed-under rename.0 rename.1 other rest is))
    first (inr none) (inr none_2) same =
        sym (renamed-elsewhere rename.0 rename.1 one none) ∙ same ∙ renamed-elsewhere rename.0 rename.1 other none_2

-- ---- what is above anything stays a directory

-- nothing is below where nothing is
pub HasNothing-none : (tree : Tree) → IsWholeTree tree → (place : Place) → tree place ≡ None → HasNothing tree place
HasNothing-none tree whole_tree place none rest = by rest place none
  where
    by : (rest place : Place) → tree place ≡ None → tree (place ++ rest) ≡ None
    by [] place none = ap tree (append-nil place) ∙ none
    by (n ∷ rest) place none =
        ap tree (sym (append_assoc place (n ∷ []) rest)) ∙ by rest (place ++ n ∷ []) (next (tree (place ++ n ∷ [])) refl)
      where
        next : (o : Option Node) → tree (place ++ n ∷ []) ≡ o → tree (place ++ n ∷ []) ≡ None
        next None is = is
        next (Some node) is =
            absurd (some_none (tree place)
            (some_is _ _ (sym (whole_tree.above place n (some_is (Some node) (tree (place ++ n ∷ [])) (sym is) refl))) refl) none)

-- ---- when renames can be done, told by where they carry what is there

-- after the first k renames a thing is at the rename's old place, nothing at its new one, and a directory above that
pub record IsReady (tree : Tree) (renames : List (Place × Place)) (k : ℕ) (rename : Place × Place) : Type 0 where
  pub from : Place
  pub from_there : IsSome (tree from)
  pub from_is : carried (take k renames) from ≡ rename.0
  pub top : Place
  pub last : List ℕ
  pub split : rename.1 ≡ top ++ last ∷ []
  pub holder : Place
  pub holder_there : tree holder ≡ Some Directory
  pub holder_is : carried (take k renames) holder ≡ top
  pub none : (place : Place) → IsSome (tree place) → carried (take k renames) place ≢ rename.1
  pub apart : ¬ IsUnder rename.1 rename.0

abbrev pub AreReady : Tree → List (Place × Place) → Type 0
AreReady tree renames =
    (k : ℕ) (rename : Place × Place) → k < length renames → get_or renames k rename ≡ rename → IsReady tree renames k rename

pub CanRename-ready : (tree : Tree) → IsWholeTree tree → (rename : Place × Place) (renames : List (Place × Place))
    → IsReady tree (rename ∷ renames) 0 rename → CanRename tree rename
CanRename-ready tree whole_tree rename renames ready = record {
  there = some_is _ _ (ap tree ready.from_is) ready.from_there;
  takes = record {
    top = ready.top;
    last = ready.last;
    split = ready.split;
    held = ap tree (sym ready.holder_is) ∙ ready.holder_there;
    free = HasNothing-none tree whole_tree rename.1 (none (tree rename.1) refl);
  };
  apart = ready.apart;
}
  where
    none : (o : Option Node) → tree rename.1 ≡ o → tree rename.1 ≡ None
    none None is = is
    none (Some node) is = absurd (ready.none rename.1 (some_is (Some node) (tree rename.1) (sym is) refl) refl)

pub AreReady-next : (tree : Tree) (rename : Place × Place) (renames : List (Place × Place)) → CanRename tree rename
    → AreReady tree (rename ∷ renames) → AreReady (after_rename rename tree) renames
AreReady-next tree rename renames can ready k other within is =
    let it = ready (suc k) other (omega (arith, within)) is in
    record {
      from = renamed rename it.from;
      from_there = some_is _ _ (sym (renamed-arrives rename.0 rename.1 tree it.from can.takes.free it.from_there)) it.from_there;
      from_is = it.from_is;
      top = it.top;
      last = it.last;
      split = it.split;
      holder = renamed rename it.holder;
      holder_there = renamed-arrives rename.0 rename.1 tree it.holder can.takes.free (some_is _ _ (sym it.holder_there) refl)
          ∙ it.holder_there;
      holder_is = it.holder_is;
      none = λ place some comes.
          let (before, comes_2, same) = renamed-only rename.0 rename.1 tree place some in
          it.none before (some_is _ _ (sym same) some) (ap (carried (take k renames)) comes_2 ∙ comes);
      apart = it.apart;
    }

-- renames that are ready can be done one after another
pub CanRenameAll-ready : (renames : List (Place × Place)) (tree : Tree) → IsWholeTree tree → AreReady tree renames
    → CanRenameAll renames tree
CanRenameAll-ready [] tree whole_tree ready = tt
CanRenameAll-ready (rename ∷ renames) tree whole_tree ready =
    let can = CanRename-ready tree whole_tree rename renames (ready 0 rename (omega arith) refl) in (
      can,
      CanRenameAll-ready renames (after_rename rename tree) (after_rename-whole tree whole_tree rename can)
          (AreReady-next tree rename renames can ready),
    )

pub after_renames-whole : (renames : List (Place × Place)) (tree : Tree) → IsWholeTree tree → CanRenameAll renames tree
    → IsWholeTree (after_renames renames tree)
after_renames-whole [] tree whole_tree can = whole_tree
after_renames-whole (rename ∷ renames) tree whole_tree can =
    after_renames-whole renames (after_rename rename tree) (after_rename-whole tree whole_tree rename can.0) can.1
