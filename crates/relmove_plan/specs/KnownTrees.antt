-- The trees that agree with what a plan knows, and what the plan's actions make of them.
use Rattle.std.specs.Prelude.{◌≡◌, ◌≢◌, ◌⊎◌, ◌<◌, ℕ, Bool, true, false, List, [], ◌∷◌, ◌++◌, Contains, map, length, Some, None, IfSome, IsSome, string_bytes}
use Rattle.std.specs.List.{All, AllZip, Any}
use Rattle.relative_path.specs.Steps.{components, name}
use Rattle.relative_path.specs.Walk.{place_of}
use Rattle.relative_path_links.specs.declared.site.MovedSitePage.{MovedSitePage}
use Rattle.relative_path_links.specs.declared.site.SitePage.{SitePage}
use Rattle.relative_path_moves.specs.Moves.{Move, move_at}
use Rattle.relative_path_places.specs.PlaceIndex.{IsNoneAt}
use Rattle.relmove_checks.specs.declared.entry.Entry.{Entry}
use Rattle.relmove_checks.specs.Trees.{is_unread}
use Rattle.relmove_steps.specs.Actions.{ActionTexts, staged_names}
use Rattle.relmove_steps.specs.Pages.{changed_paths}
use Rattle.relmove_trees.specs.FileTrees.{Directory, File, IsWholeTree, Place, Tree, names_of}
use Rattle.relmove_plan.specs.MovedTrees.{AreTakenTo, IsCleared, IsLeftBehind, IsMoved}
use Rattle.relmove_trees.specs.TreeActions.{Action, Clear, LeadTo, Make, Remove, Rename, Write}
use Rattle.relmove_plan.specs.WholeTrees.{HasDirectoryAt, IsAt}

-- the actions of a plan, in order
abbrev pub tree_actions : ActionTexts → List (List ℕ) → List (List ℕ) → List Action
tree_actions actions made emptied =
    map (λ new. Write (names_of new.1) new.2) actions.texts
    ++ map (λ rename. Rename (names_of rename.0) (names_of rename.1)) actions.staged
    ++ map (λ path. Make (names_of path)) made
    ++ map (λ rename. Rename (names_of rename.0) (names_of rename.1)) actions.placed
    ++ map (λ path. Remove (names_of path)) actions.removed
    ++ map (λ path. Clear (names_of path)) emptied

-- the entry is a directory that isn't read, and is at the place
pub record IsUnreadAt (place : Place) (entry : Entry) : Type 0 where
  pub kind : is_unread entry.kind ≡ true
  pub leads : place_of (components entry.path) ≡ Some place

-- no new path of a move is at the place to which the moves take this one, or below. So it is where a name isn't UTF-8
abbrev pub IsOutOfTheWay : List Move → Place → Type 0
IsOutOfTheWay moves place = (to rest : Place) (k : ℕ) → AreTakenTo moves place to → k < length moves
    → place_of (move_at moves k).new ≢ Some (to ++ rest)

-- no entry has this name below the top. The top is a directory that isn't read; or it is the root or any directory of the
-- entries, and the name is out of the way of new paths
pub record IsUnread (entries : List Entry) (moves : List Move) (top : Place) (n : List ℕ) : Type 0 where
  pub none : (b : Bool) → ¬ Any (IsAt b (top ++ n ∷ [])) entries
  pub hidden : Any (IsUnreadAt top) entries
      ⊎ (((top ≡ []) ⊎ HasDirectoryAt entries top) × IsOutOfTheWay moves (top ++ n ∷ []))

-- the place is at or below such a name
pub record IsBelowUnread (entries : List Entry) (moves : List Move) (place : Place) : Type 0 where
  pub top : Place
  pub n : List ℕ
  pub rest : Place
  pub split : place ≡ (top ++ n ∷ []) ++ rest
  pub unread : IsUnread entries moves top n

-- a directory is at each entry that is one, its text at each page, and something at each other entry; what else is there is at
-- or below names that the plan doesn't know; and nothing is at staging names and at the files of new texts
pub record AgreesWith (entries : List Entry) (pages : List SitePage) (moves : List Move) (actions : ActionTexts) (tree : Tree)
    : Type 0 where
  pub whole : IsWholeTree tree
  pub directories : (place : Place) → HasDirectoryAt entries place → tree place ≡ Some Directory
  pub files : (place : Place) → Any (IsAt false place) entries → IsSome (tree place)
  pub texts : All (λ page. (place : Place) → place_of (components page.path.now) ≡ Some place
      → tree place ≡ Some (File page.text.now)) pages
  pub only : (place : Place) → IsSome (tree place)
      → (place ≡ []) ⊎ (((b : Bool) × Any (IsAt b place) entries) ⊎ IsBelowUnread entries moves place)
  pub staging : (staging : List ℕ) → Contains (staged_names actions) staging → tree (staging ∷ []) ≡ None
  pub new_files : (new : List ℕ × List ℕ × List ℕ) → Contains actions.texts new → tree (names_of new.1) ≡ None

-- the second tree is the first with the new texts of the pages that change
pub record HasTexts (pages : List SitePage) (news : List MovedSitePage) (tree now : Tree) : Type 0 where
  pub texts : AllZip (λ page new. IfSome new.text (λ text. (place : Place) → place_of (components page.path.now) ≡ Some place
      → now place ≡ Some (File (string_bytes text)))) pages news
  pub others : (place : Place) → IsNoneAt (changed_paths pages news) (map name place) → now place ≡ tree place

-- the tree is the one after the moves, without the directories that are left behind and hold nothing but such
pub record IsAfterMoves (moves : List Move) (now end : Tree) : Type 0 where
  pub moved : Tree
  pub are_moved : IsMoved moves now moved
  pub cleared : IsCleared (IsLeftBehind moves) moved end

-- whoever does the actions on a tree that agrees can do each, and comes to that tree
abbrev pub RunsOn : List Entry → List SitePage → List MovedSitePage → List Move → ActionTexts → List (List ℕ)
    → List (List ℕ)
    → Type 0
RunsOn entries pages news moves actions made emptied = (tree now : Tree) → AgreesWith entries pages moves actions tree
    → HasTexts pages news tree now → LeadTo (tree_actions actions made emptied) (IsAfterMoves moves now) tree
