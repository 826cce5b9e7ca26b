-- What leads somewhere on the first of two such trees leads as far on the second one.
use Rattle.std.proofs.Common.{◌≡◌, ◌⊎◌, ℕ, zero, suc, List, [], ◌∷◌, ◌++◌, Some, None, map, inl, inr, refl, sym, ap, subst, ◌∙◌}
use Rattle.std.specs.List.{AllZip, slice_get}
use Rattle.relmove_journal.specs.declared.work.TextFile.{TextFile}
use Rattle.relmove_trees.specs.FileTrees.{Directory, File, IsUnder, IsWholeTree, Place, Tree, after_rename, with_node}
use Rattle.relmove_trees.specs.TreeActions.{Action, LeadTo, Make, Rename, Write}
use Rattle.relmove_trees.proofs.FileTreesLemmas.{after_rename-elsewhere, after_rename-from, some_none, under_or, with_node-whole}
use Rattle.relmove_stages.specs.Runs.{writes_of}
use Rattle.relmove_stages.specs.StageActions.{place_of}
use Rattle.relmove_work.proofs.SeenTreesLemmas.{ArePairs, IsSeen, Matches, seen-can, seen-node, seen-rename, seen-takes}

-- the first tree comes to one from which more actions lead to Q, and the second by these actions to one that is seen so
pub record ComesAlong (P : Place → Place → Type 0) (more : List Action) (Q : Tree → Type 0) (actions : List Action) (other : Tree)
    : Type 0 where
  pub tree : Tree
  pub end : Tree
  pub seen : IsSeen P tree end
  pub goes_on : LeadTo more Q tree
  pub leads : LeadTo actions (λ t. t ≡ end) other

module _ (P : Place → Place → Type 0) (pairs : ArePairs P) (more : List Action) (Q : Tree → Type 0) where
  -- directories are made
  pub along-makes : {X Y : Type 0} (f : X → Place) (g : Y → Place) (xs : List X) (ys : List Y)
      → AllZip (λ x y. Matches P (f x) (g y)) xs ys → (tree other : Tree) → LeadTo (map (λ x. Make (f x)) xs ++ more) Q tree
      → IsSeen P tree other → ComesAlong P more Q (map (λ y. Make (g y)) ys) other
  along-makes f g [] [] match tree other leads seen =
      record { tree = tree; end = other; seen = seen; goes_on = leads; leads = refl }
  along-makes f g [] (y ∷ ys) match tree other leads seen = absurd match
  along-makes f g (x ∷ xs) [] match tree other leads seen = absurd match
  along-makes f g (x ∷ xs) (y ∷ ys) match tree other leads seen =
      let next = with_node (f x) (Some Directory) tree in
      let next_2 = with_node (g y) (Some Directory) other in
      let rest = along-makes f g xs ys match.1 next next_2 (leads.1 next refl)
      (seen-node P pairs tree other seen (f x) (g y) (Some Directory) match.0) in
      record {
        tree = rest.tree;
        end = rest.end;
        seen = rest.seen;
        goes_on = rest.goes_on;
        leads = (
          seen-takes P pairs tree other seen (f x) (g y) match.0 leads.0,
          λ after acts. subst (λ (t : Tree). LeadTo (map (λ y. Make (g y)) ys) (λ t. t ≡ rest.end) t) (sym acts) rest.leads,
        );
      }

  -- things are renamed
  pub along-renames : {X Y : Type 0} (f t : X → Place) (f_2 t_2 : Y → Place) (xs : List X) (ys : List Y)
      → AllZip (λ x y. Matches P (f x) (f_2 y) × Matches P (t x) (t_2 y)) xs ys → (tree other : Tree)
      → LeadTo (map (λ x. Rename (f x) (t x)) xs ++ more) Q tree
      → IsSeen P tree other → ComesAlong P more Q (map (λ y. Rename (f_2 y) (t_2 y)) ys) other
  along-renames f t f_2 t_2 [] [] match tree other leads seen =
      record { tree = tree; end = other; seen = seen; goes_on = leads; leads = refl }
  along-renames f t f_2 t_2 [] (y ∷ ys) match tree other leads seen = absurd match
  along-renames f t f_2 t_2 (x ∷ xs) [] match tree other leads seen = absurd match
  along-renames f t f_2 t_2 (x ∷ xs) (y ∷ ys) match tree other leads seen =
      let next = after_rename (f x, t x) tree in
      let next_2 = after_rename (f_2 y, t_2 y) other in
      let rest = along-renames f t f_2 t_2 xs ys match.1 next next_2 (leads.1 next refl)
      (seen-rename P pairs tree other seen (f x) (f_2 y) (t x) (t_2 y) match.0.0 match.0.1) in
      record {
        tree = rest.tree;
        end = rest.end;
        seen = rest.seen;
        goes_on = rest.goes_on;
        leads = (
          seen-can P pairs tree other seen (f x) (f_2 y) (t x) (t_2 y) match.0.0 match.0.1 leads.0,
          λ after acts. subst (λ (t : Tree). LeadTo (map (λ y. Rename (f_2 y) (t_2 y)) ys) (λ t. t ≡ rest.end) t) (sym acts) rest.leads,
        );
      }

  -- texts are written
  pub along-writes : {X : Type 0} (f : X → Place) (bytes : X → List ℕ) (xs : List X) (ys : List TextFile)
      → AllZip (λ x y. Matches P (f x) (place_of y.path)) xs ys → (tree other : Tree)
      → LeadTo (map (λ x. Write (f x) (bytes x)) xs ++ more) Q tree
      → IsSeen P tree other → ComesAlong P more Q (writes_of ys (map bytes xs)) other
  along-writes f bytes [] [] match tree other leads seen =
      record { tree = tree; end = other; seen = seen; goes_on = leads; leads = refl }
  along-writes f bytes [] (y ∷ ys) match tree other leads seen = absurd match
  along-writes f bytes (x ∷ xs) [] match tree other leads seen = absurd match
  along-writes f bytes (x ∷ xs) (y ∷ ys) match tree other leads seen =
      let next = with_node (f x) (Some (File (bytes x))) tree in
      let next_2 = with_node (place_of y.path) (Some (File (bytes x))) other in
      let rest = along-writes f bytes xs ys match.1 next next_2 (leads.1 next refl)
      (seen-node P pairs tree other seen (f x) (place_of y.path) (Some (File (bytes x))) match.0) in
      record {
        tree = rest.tree;
        end = rest.end;
        seen = rest.seen;
        goes_on = rest.goes_on;
        leads = (
          seen-takes P pairs tree other seen (f x) (place_of y.path) match.0 leads.0,
          λ after acts.
              subst (λ (t : Tree). LeadTo (writes_of ys (map bytes xs)) (λ t. t ≡ rest.end) t) (sym acts) rest.leads,
        );
      }

-- ---- what can't be done

-- what isn't there can't leave later, if nothing comes to where it was
pub never-there : {X : Type 0} (f t : X → Place) (xs : List X) (more : List Action) (Q : Tree → Type 0) (tree : Tree) (i : ℕ)
    (x : X) → slice_get xs i ≡ Some x → LeadTo (map (λ x. Rename (f x) (t x)) xs ++ more) Q tree
    → ((j : ℕ) (y : X) → slice_get xs j ≡ Some y → ¬ IsUnder (f x) (t y)) → tree (f x) ≡ None → ⊥
never-there f t [] more Q tree i x at leads clear none = cc at
never-there f t (y ∷ xs) more Q tree zero x at leads clear none =
    let same : y ≡ x = cc at in
    some_none (tree (f y)) leads.0.there (ap (λ y. tree (f y)) same ∙ none)
never-there f t (y ∷ xs) more Q tree (suc i) x at leads clear none =
    never-there f t xs more Q (after_rename (f y, t y) tree) i x at (leads.1 (after_rename (f y, t y) tree) refl)
    (λ j z at_2. clear (suc j) z at_2) (by (under_or (f x) (f y)))
  where
    by : IsUnder (f x) (f y) ⊎ (¬ IsUnder (f x) (f y)) → after_rename (f y, t y) tree (f x) ≡ None
    by (inl under) = after_rename-from (f y) (t y) tree (f x) (clear 0 y refl) under
    by (inr elsewhere) = after_rename-elsewhere (f y) (t y) tree (f x) (clear 0 y refl) elsewhere ∙ none

-- ---- new texts

pub whole-writes : (texts : List TextFile) (bytes : List (List ℕ)) (start end : Tree)
    → LeadTo (writes_of texts bytes) (λ t. t ≡ end) start → IsWholeTree start → IsWholeTree end
whole-writes [] bytes start end leads whole = subst IsWholeTree leads whole
whole-writes (text ∷ texts) [] start end leads whole = subst IsWholeTree leads whole
whole-writes (text ∷ texts) (b ∷ bytes) start end leads whole =
    let next = with_node (place_of text.path) (Some (File b)) start in
    whole-writes texts bytes next end (leads.1 next refl)
    (with_node-whole start whole (place_of text.path) (File b) leads.0)
