-- For whole entries without names of a run's own, and moves that pass each check, there is a tree as it is known before the moves
-- are planned.
use Rattle.std.proofs.Common.{All, ◌≡◌, ◌⊎◌, ℕ, Bool, true, false, true≢false, List, [], ◌∷◌, ◌++◌, Option, Some, None, IsSome, codes, if◌then◌else◌, ◌||◌, map, inl, inr, refl, sym, ap, subst, ◌∙◌, arith}
use Rattle.std.specs.List.{Any, list_any}
use Rattle.std.specs.Str.{bytes_eq}
use Rattle.std.proofs.lemmas.List.{append_cancel_left}
use Rattle.std.proofs.lemmas.Slice.Eq.{bytes_eq-Decides}
use Rattle.relative_path.specs.Steps.{components, name}
use Rattle.relative_path.specs.Walk.{place_of}
use Rattle.relative_path_links.specs.declared.site.SitePage.{SitePage}
use Rattle.relative_path_moves.specs.Moves.{Move, move_at}
use Rattle.relative_path_moves.specs.TreeMoves.{IsTreePath, TakesAlong}
use Rattle.relmove_checks.specs.Moves.{HasNoReservedName}
use Rattle.relmove_checks.specs.Plan.{AreAllowed}
use Rattle.relmove_checks.specs.declared.entry.Entry.{Entry}
use Rattle.relmove_checks.specs.declared.name_rule.NameRule.{NameRule}
use Rattle.relmove_journal.specs.Shape.{begins_with, is_number}
use Rattle.relmove_plan.specs.KnownTrees.{AgreesWith, IsBelowUnread, IsOutOfTheWay, IsUnread}
use Rattle.relmove_plan.specs.WholeTrees.{IsAt, IsWhole, LeadsToFile}
use Rattle.relmove_plan.proofs.SourcesLemmas.{IsThere-place}
use Rattle.relmove_plan.proofs.WholeTreesLemmas.{IsAt-some, some_of}
use Rattle.relmove_steps.specs.Numbers.{numeral}
use Rattle.relmove_steps.specs.Pages.{page_paths}
use Rattle.relmove_steps.specs.StagingNames.{numbered_name}
use Rattle.relmove_trees.specs.FileTrees.{Directory, Node, Place, Tree}
use Rattle.relmove_work.proofs.PathsLemmas.{AreForeign}
use Rattle.relmove_work.proofs.WorksLemmas.{at-map}
use Rattle.relmove_planned.proofs.LabelledLemmas.{All-from_at, all-at, numeral-number, walk-foreign}
use Rattle.relmove_planned.specs.Plans.{IsKnownTree, no_actions}

-- ---- a tree with the run's directory

-- the name of the run's directory
abbrev run : List ℕ
run = codes ".relmove-run"

-- the name begins as those of a run's own files
abbrev is_own : List ℕ → Bool
is_own n = begins_with (codes ".relmove") n

-- of what has such a name, the run's directory alone is there
abbrev own : Place → Option Node
own [] = None
own (n ∷ []) = if bytes_eq n run then Some Directory else None
own (n ∷ m ∷ rest) = None

-- the tree with the run's directory, and nothing else that has such a name
abbrev pub with_run : Tree → Tree
with_run tree = λ place. if list_any is_own place then own place else tree place

with_run-own : (tree : Tree) (place : Place) → list_any is_own place ≡ true → with_run tree place ≡ own place
with_run-own tree place is = rw is refl

with_run-other : (tree : Tree) (place : Place) → list_any is_own place ≡ false → with_run tree place ≡ tree place
with_run-other tree place is = rw is refl

foreign-other : (place : Place) → AreForeign place → list_any is_own place ≡ false
foreign-other [] fine = refl
foreign-other (n ∷ place) fine = rw fine.0 (foreign-other place fine.1)

own-run : (place : Place) → IsSome (own place) → place ≡ run ∷ []
own-run [] some = absurd (true≢false (sym some))
own-run (n ∷ []) some = by (bytes_eq n run) refl
  where
    by : (b : Bool) → bytes_eq n run ≡ b → n ∷ [] ≡ run ∷ []
    by true is = ap (λ (n : List ℕ). n ∷ []) ((bytes_eq-Decides n run).0 is)
    by false is = absurd (true≢false (sym (subst (λ (b : Bool). IsSome (if b then Some Directory else None)) is some)))
own-run (n ∷ m ∷ rest) some = absurd (true≢false (sym some))

-- above it is the root
own-top : (top : Place) (n : List ℕ) → IsSome (own (top ++ n ∷ [])) → top ≡ []
own-top [] n some = refl
own-top (m ∷ []) n some = absurd (true≢false (sym some))
own-top (m ∷ k ∷ top) n some = absurd (true≢false (sym some))

own-numbered : (top : Place) (number : ℕ) → own (top ++ numbered_name number ∷ []) ≡ None
own-numbered [] number = by (bytes_eq (numbered_name number) run) refl
  where
    by : (b : Bool) → bytes_eq (numbered_name number) run ≡ b → own (numbered_name number ∷ []) ≡ None
    by true is =
        let rest : numeral number ≡ codes "run" =
        append_cancel_left (codes ".relmove-") (numeral number) (codes "run") ((bytes_eq-Decides (numbered_name number) run).0 is) in
        absurd (true≢false (sym (numeral-number number) ∙ ap is_number rest))
    by false is = rw is refl
own-numbered (m ∷ []) number = refl
own-numbered (m ∷ k ∷ top) number = refl

-- the name at the end is one of the names
last-own : (top : Place) (n : List ℕ) → is_own n ≡ true → list_any is_own (top ++ n ∷ []) ≡ true
last-own [] n is = rw is refl
last-own (m ∷ top) n is = by (is_own m) (last-own top n is)
  where
    by : (b : Bool) → list_any is_own (top ++ n ∷ []) ≡ true → (b || list_any is_own (top ++ n ∷ [])) ≡ true
    by true later = refl
    by false later = later

-- so is each name above it
top-own : (top : Place) (n : List ℕ) → list_any is_own (top ++ n ∷ []) ≡ false → list_any is_own top ≡ false
top-own [] n none = refl
top-own (m ∷ top) n none = by (is_own m) (top-own top n) none
  where
    by : (b : Bool) → (list_any is_own (top ++ n ∷ []) ≡ false → list_any is_own top ≡ false)
        → (b || list_any is_own (top ++ n ∷ [])) ≡ false → (b || list_any is_own top) ≡ false
    by true later none = none
    by false later none = later none

-- ---- it is known

module _ (entries : List Entry) (pages : List SitePage) (moves : List Move) (rule : NameRule)
    (whole : IsWhole entries (page_paths pages)) (accepted : AreAllowed entries moves rule)
    (plain : All (λ entry. HasNoReservedName (components entry.path)) entries)
    (tree : Tree) (agrees : AgreesWith entries pages moves no_actions tree)
  where
    abbrev there : Tree
    there = with_run tree

    at-other : (b : Bool) (place : Place) → Any (IsAt b place) entries → list_any is_own place ≡ false
    at-other b place (k, entry, within, is, at) =
        foreign-other place
        (walk-foreign (components entry.path) [] place
        (subst (λ (entry : Entry). HasNoReservedName (components entry.path)) is (plain k entry within)) tt at.leads)

    above : (top : Place) (n : List ℕ) → IsSome (there (top ++ n ∷ [])) → there top ≡ Some Directory
    above top n some = by (list_any is_own (top ++ n ∷ [])) refl
      where
        by : (b : Bool) → list_any is_own (top ++ n ∷ []) ≡ b → there top ≡ Some Directory
        by true is =
            subst (λ (top : Place). there top ≡ Some Directory)
            (sym (own-top top n (subst IsSome (with_run-own tree (top ++ n ∷ []) is) some))) agrees.whole.root
        by false is =
            with_run-other tree top (top-own top n is)
            ∙ agrees.whole.above top n (subst IsSome (with_run-other tree (top ++ n ∷ []) is) some)

    -- no move takes the run's directory along, and none comes to it
    not-taken : (k : ℕ) (below : Place) → ¬ TakesAlong moves (run ∷ []) k below
    not-taken k below takes = by takes.top takes.old takes.down
      where
        by : (top : Place) → place_of (move_at moves k).old ≡ Some top → run ∷ [] ≡ top ++ below → ⊥
        by [] leads down =
            let (b, place, leads_2, at) =
            IsThere-place entries (page_paths pages) whole (move_at moves k).old
            (accepted.apart.come.leave.olds k takes.within).there in
            IsAt-some entries (page_paths pages) whole b place at (some_of (sym leads_2 ∙ leads))
        by (t ∷ top) leads down =
            let fine =
            walk-foreign (move_at moves k).old [] (t ∷ top) (accepted.apart.come.leave.paths k takes.within).not_reserved_old tt leads in
            let first : run ≡ t = cc down in
            true≢false (subst (λ (t : List ℕ). is_own t ≡ false) (sym first) fine.0)

    out : IsOutOfTheWay moves (run ∷ [])
    out to rest k taken within leads = by taken.1
      where
        by : IsTreePath moves (map name (run ∷ [])) taken.0 → ⊥
        by (inl is) =
            not-taken is.move is.below
            (subst (λ (place : Place). TakesAlong moves place is.move is.below) (sym (some_of is.leads)) is.nearest.takes)
        by (inr (left, same)) =
            let at : run ∷ [] ≡ to = some_of (sym (ap place_of same) ∙ taken.2) in
            let fine =
            walk-foreign (move_at moves k).new [] (run ∷ rest) (accepted.apart.come.leave.paths k within).not_reserved_new tt
            (leads ∙ ap (λ (to : Place). Some (to ++ rest)) (sym at)) in
            true≢false fine.0

    unread : IsUnread entries moves [] run
    unread = record {
      none = λ b at. true≢false (at-other b (run ∷ []) at);
      hidden = inr (inl refl, out);
    }

    only : (place : Place) → IsSome (there place)
        → (place ≡ []) ⊎ (((b : Bool) × Any (IsAt b place) entries) ⊎ IsBelowUnread entries moves place)
    only place some = by (list_any is_own place) refl
      where
        by : (b : Bool) → list_any is_own place ≡ b
            → (place ≡ []) ⊎ (((b : Bool) × Any (IsAt b place) entries) ⊎ IsBelowUnread entries moves place)
        by true is =
            inr (inr (record {
              top = [];
              n = run;
              rest = [];
              split = own-run place (subst IsSome (with_run-own tree place is) some);
              unread = unread;
            }))
        by false is = agrees.only place (subst IsSome (with_run-other tree place is) some)

    page-other : All (λ (page : SitePage). (place : Place) → place_of (components page.path.now) ≡ Some place
        → list_any is_own place ≡ false) pages
    page-other = All-from_at (λ (page : SitePage). (place : Place) → place_of (components page.path.now) ≡ Some place
        → list_any is_own place ≡ false) pages
        (λ k page at place leads.
        let file = all-at (LeadsToFile entries) (page_paths pages) whole.files k (components page.path.now)
        (at-map (λ (page : SitePage). components page.path.now) pages k page at) in
        subst (λ (place : Place). list_any is_own place ≡ false) (some_of (sym file.leads ∙ leads)) (at-other false file.place file.file))

    pub is-known : IsKnownTree entries pages moves there
    is-known = record {
      agrees = record {
        whole = record { root = agrees.whole.root; above = above };
        directories = λ place at. with_run-other tree place (at-other true place at) ∙ agrees.directories place at;
        files = λ place at. subst IsSome (sym (with_run-other tree place (at-other false place at))) (agrees.files place at);
        texts = λ k page within place leads.
            with_run-other tree place (page-other k page within place leads) ∙ agrees.texts k page within place leads;
        only = only;
        staging = λ staging among. absurd (let w = among.1 in omega (arith, w));
        new_files = λ new among. absurd (let w = among.1 in omega (arith, w));
      };
      directory = record { there = refl; empty = λ n. refl };
      unused = λ top number.
          with_run-own tree (top ++ numbered_name number ∷ []) (last-own top (numbered_name number) refl) ∙ own-numbered top number;
    }
