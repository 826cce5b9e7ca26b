-- What new files and directories do to a tree: they are there, and nothing else is new.
use Rattle.std.proofs.Common.{All, ◌≡◌, ◌≢◌, ◌⊎◌, ℕ, zero, suc, ◌<◌, List, [], ◌∷◌, ◌++◌, Some, None, IsSome, length, get_or, inl, inr, refl, sym, ap, ◌∙◌, append-nil, arith, map}
use Rattle.std.proofs.lemmas.List.Elements.{All-tail, All-map}
use Rattle.relmove_trees.specs.FileTrees.{CanTake, Directory, IsWholeTree, Node, Place, Tree, with_node}
use Rattle.relmove_plan.proofs.TreeRenamesLemmas.{HasNothing-none}
use Rattle.relmove_trees.proofs.FileTreesLemmas.{some_is, some_none, with_node-at, with_node-elsewhere, with_node-whole, place_or}
use Rattle.std.specs.List.{Any}
use Rattle.relmove_plan.proofs.SourcesLemmas.{any_or}

-- ---- directories that are made

-- the tree after things are added, one after another
abbrev pub after_adds : List (Place × Node) → Tree → Tree
after_adds [] tree = tree
after_adds (new ∷ news) tree = after_adds news (with_node new.0 (Some new.1) tree)

abbrev pub CanAddAll : List (Place × Node) → Tree → Type 0
CanAddAll [] tree = Unit {0}
CanAddAll (new ∷ news) tree = CanTake tree new.0 × CanAddAll news (with_node new.0 (Some new.1) tree)

-- one of these is added at the place, or none is
pub added_or : {X : Type 0} (at : X → Place × Node) (xs : List X) (place : Place)
    → Any (λ x. (at x).0 ≡ place) xs ⊎ All (λ new. place ≢ new.0) (map at xs)
added_or {X} at xs place = elim (any_or (λ (x : X). (at x).0 ≡ place) xs (λ k d within. place_or (at (get_or xs k d)).0 place)) [
  | inl one ↦ inl one
  | inr none ↦ inr (All-map (λ (new : Place × Node). place ≢ new.0) at xs (λ k d within same. none k d within (sym same)))
]

-- what is there stays
pub adds-stays : (news : List (Place × Node)) (tree : Tree) → CanAddAll news tree → (other : Place) → IsSome (tree other)
    → after_adds news tree other ≡ tree other
adds-stays [] tree can other some = refl
adds-stays (new ∷ news) tree can other some =
    let here = with_node-elsewhere new.0 (Some new.1) tree other
    (λ same. some_none (tree other) some (ap tree (same ∙ sym (append-nil new.0)) ∙ can.0.free [])) in
    adds-stays news (with_node new.0 (Some new.1) tree) can.1 other (some_is _ _ (sym here) some) ∙ here

-- what is added is there
pub adds-there : (news : List (Place × Node)) (tree : Tree) → CanAddAll news tree → (k : ℕ) (new : Place × Node) → k < length news
    → get_or news k new ≡ new → after_adds news tree new.0 ≡ Some new.1
adds-there [] tree can k new within is = absurd (let w : k < 0 = within in omega (arith, w))
adds-there (first ∷ news) tree can zero new within is =
    let here : with_node first.0 (Some first.1) tree new.0 ≡ Some new.1 =
    ap (λ (new : Place × Node). with_node first.0 (Some first.1) tree new.0) (sym is)
    ∙ with_node-at first.0 (Some first.1) tree ∙ ap (λ (new : Place × Node). Some new.1) is in
    adds-stays news (with_node first.0 (Some first.1) tree) can.1 new.0 (some_is _ _ (sym here) refl) ∙ here
adds-there (first ∷ news) tree can (suc k) new within is =
    adds-there news (with_node first.0 (Some first.1) tree) can.1 k new (omega (arith, within)) is

-- and nothing else is new
pub adds-only : (news : List (Place × Node)) (tree : Tree) (other : Place) → All (λ new. other ≢ new.0) news
    → after_adds news tree other ≡ tree other
adds-only [] tree other none = refl
adds-only (new ∷ news) tree other none =
    adds-only news (with_node new.0 (Some new.1) tree) other (All-tail (λ (new : Place × Node). other ≢ new.0) new news none)
    ∙ with_node-elsewhere new.0 (Some new.1) tree other (none 0 new (omega arith))

pub after_adds-whole : (news : List (Place × Node)) (tree : Tree) → IsWholeTree tree → CanAddAll news tree
    → IsWholeTree (after_adds news tree)
after_adds-whole [] tree whole_tree can = whole_tree
after_adds-whole (new ∷ news) tree whole_tree can =
    after_adds-whole news (with_node new.0 (Some new.1) tree) (with_node-whole tree whole_tree new.0 new.1 can.0) can.1

-- a thing can be added: above it is a directory that is there, or was added before, and nothing is there or was added there
pub record IsAddReady (tree : Tree) (news : List (Place × Node)) (k : ℕ) (place : Place) : Type 0 where
  pub top : Place
  pub last : List ℕ
  pub split : place ≡ top ++ last ∷ []
  pub held : (tree top ≡ Some Directory) ⊎ ((j : ℕ) × (j < k) × (get_or news j (top, Directory) ≡ (top, Directory)))
  pub none : tree place ≡ None
  pub unmade : (j : ℕ) (d : Place × Node) → j < k → place ≢ (get_or news j d).0

abbrev pub AreAddReady : Tree → List (Place × Node) → Type 0
AreAddReady tree news = (k : ℕ) (new : Place × Node) → k < length news → get_or news k new ≡ new → IsAddReady tree news k new.0

pub CanAddAll-ready : (news : List (Place × Node)) (tree : Tree) → IsWholeTree tree → AreAddReady tree news → CanAddAll news tree
CanAddAll-ready [] tree whole_tree ready = tt
CanAddAll-ready (new ∷ news) tree whole_tree ready = (
  can,
  CanAddAll-ready news (with_node new.0 (Some new.1) tree) (with_node-whole tree whole_tree new.0 new.1 can) next,
)
  where
    it : IsAddReady tree (new ∷ news) 0 new.0
    it = ready 0 new (omega arith) refl

    can : CanTake tree new.0
    can = record {
      top = it.top;
      last = it.last;
      split = it.split;
      held = elim it.held [ inl is ↦ is | inr (j, less, is) ↦ absurd (omega (arith, less)) ];
      free = HasNothing-none tree whole_tree new.0 it.none;
    }

    next : AreAddReady (with_node new.0 (Some new.1) tree) news
    next k other within is =
        let more = ready (suc k) other (omega (arith, within)) is in
        record {
          top = more.top;
          last = more.last;
          split = more.split;
          held = elim more.held [
            | inl there ↦ inl
                (with_node-elsewhere new.0 (Some new.1) tree more.top
                (λ same. some_none (tree more.top) (some_is _ _ (sym there) refl) (ap tree same ∙ it.none)) ∙ there)
            | inr (j, less, there) ↦ before k more.top j less there
          ];
          none = with_node-elsewhere new.0 (Some new.1) tree other.0 (more.unmade 0 new (omega arith)) ∙ more.none;
          unmade = λ j d less. more.unmade (suc j) d (omega (arith, less));
        }
      where
        before : (k : ℕ) (top : Place) (j : ℕ) → j < suc k → get_or (new ∷ news) j (top, Directory) ≡ (top, Directory)
            → (with_node new.0 (Some new.1) tree top ≡ Some Directory)
            ⊎ ((j : ℕ) × (j < k) × (get_or news j (top, Directory) ≡ (top, Directory)))
        before k top zero less there = inl
            (ap (λ (new_2 : Place × Node). with_node new.0 (Some new.1) tree new_2.0) (sym there)
            ∙ with_node-at new.0 (Some new.1) tree ∙ ap (λ (new_2 : Place × Node). Some new_2.1) there)
        before k top (suc j) less there = inr (j, omega (arith, less), there)
