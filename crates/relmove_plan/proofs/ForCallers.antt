-- Theorems that a caller's proof may cite: on the trees of which the contract of `make_plan` speaks, and on the tree after the moves.
use Rattle.std.proofs.Common.{◌≡◌, List, Option, Some, None, IsSome, length, inl, inr, refl, sym, ◌∙◌}
use Rattle.relative_path_links.specs.declared.site.MovedSitePage.{MovedSitePage}
use Rattle.relative_path_links.specs.declared.site.SitePage.{SitePage}
use Rattle.relative_path_moves.specs.Moves.{Move}
use Rattle.relmove_checks.specs.Trees.{AreDistinct, entry_paths}
use Rattle.relmove_checks.specs.declared.entry.Entry.{Entry}
use Rattle.relmove_steps.specs.Actions.{ActionTexts, staged_names}
use Rattle.relmove_steps.specs.NewFiles.{HaveOwnFiles}
use Rattle.relmove_steps.specs.Pages.{changed_paths, page_paths}
use Rattle.relmove_steps.specs.StagingNames.{AreFreeNames}
use Rattle.relmove_trees.specs.FileTrees.{Node, Place, Tree}
use Rattle.relmove_plan.specs.KnownTrees.{AgreesWith, HasTexts}
use Rattle.relmove_plan.specs.MovedTrees.{IsMoved}
use Rattle.relmove_plan.specs.WholeTrees.{IsWhole}
use Rattle.relmove_plan.proofs.SomeTreesLemmas as trees
use Rattle.relmove_trees.proofs.FileTreesLemmas.{some_is}

-- for whole entries, free staging names and own files of new texts, a tree agrees, whatever the moves are
pub AgreesWith-some : (entries : List Entry) (pages : List SitePage) (news : List MovedSitePage) (moves : List Move)
    (actions : ActionTexts) → IsWhole entries (page_paths pages) → AreFreeNames (entry_paths entries) (staged_names actions)
    → HaveOwnFiles (entry_paths entries) (changed_paths pages news) actions
    → (tree : Tree) × AgreesWith entries pages moves actions tree
AgreesWith-some = trees.AgreesWith-some

-- for pages at places of their own, and as many new pages, some tree has the new texts
pub HasTexts-some : (pages : List SitePage) (news : List MovedSitePage) (tree : Tree) → AreDistinct (page_paths pages)
    → length news ≡ length pages → (now : Tree) × HasTexts pages news tree now
HasTexts-some = trees.HasTexts-some

-- what one of them has, the other has
has_too : (moves : List Move) (now one other : Tree) → IsMoved moves now one → IsMoved moves now other → (place : Place)
    → IsSome (one place) → one place ≡ other place
has_too moves now one other is is_2 place some = elim (is.only place some) [
  | inl (from, there, taken) ↦ is.arrives from place there taken ∙ sym (is_2.arrives from place there taken)
  | inr above ↦ is.made place above ∙ sym (is_2.made place above)
]

-- there is one tree after the moves
pub IsMoved-only : (moves : List Move) (now one other : Tree) → IsMoved moves now one → IsMoved moves now other → one ≡ other
IsMoved-only moves now one other is is_2 = λ i. λ place. at place (one place) refl (other place) refl i
  where
    at : (place : Place) (o : Option Node) → one place ≡ o → (p : Option Node) → other place ≡ p → one place ≡ other place
    at place None here None there = here ∙ sym there
    at place (Some node) here p there =
        has_too moves now one other is is_2 place (some_is (Some node) (one place) (sym here) refl)
    at place None here (Some node) there =
        sym (has_too moves now other one is_2 is place (some_is (Some node) (other place) (sym there) refl))
