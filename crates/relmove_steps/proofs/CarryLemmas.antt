-- What renames do, more renames do too.
use Rattle.std.proofs.Common.{All, ◌≡◌, ℕ, ◌<◌, ◌≤◌, ◌+◌, true, false, List, [], ◌∷◌, ◌++◌, Option, Some, None, Contains, length, take, string_bytes, is_some, refl, sym, ap, subst, ◌∙◌}
use Rattle.std.proofs.lemmas.Bool.{false≢true}
use Rattle.std.proofs.lemmas.List.{get_or-map, length-map, take_all, take_more}
use Rattle.std.proofs.lemmas.List.Elements.{All-more, All-weaker, Contains-append_left, Contains-push}
use Rattle.std.proofs.lemmas.List.Sorted.{Contains-permutation}
use Rattle.std.proofs.lemmas.Option.{IfSome_then}
use Rattle.std.specs.List.Sorted.{IsPermutation}
use Rattle.relative_path.specs.Steps.{Step, components}
use Rattle.relative_path.specs.Normalizing.{IsNormalTextOf}
use Rattle.relative_path.specs.Walk.{IsSame}
use Rattle.relative_path.proofs.ForCallers.{IsSame-sym, IsSame-trans}
use Rattle.relative_path_links.specs.declared.site.MovedSitePage.{MovedSitePage}
use Rattle.relative_path_links.specs.declared.site.SitePage.{SitePage}
use Rattle.relative_path_moves.specs.Moves.{Move, move_at}
use Rattle.relative_path_places.specs.PlaceIndex.{Indexes, IsFoundAt, IsNoneAt, path_at}
use Rattle.relative_path_places.specs.declared.place_index.PlaceIndex.{PlaceIndex}
use Rattle.relmove_checks.specs.Moves.{EachMove}
use Rattle.relmove_steps.specs.Actions.{ActionTexts, with_text, with_carried, with_removed, AreAmong, Carries, Removes, RemovesAt, RemovesMoved, DoesMove, old_paths, ReplacesPage, ReplacesPages}

-- ---- more renames

pub AreAmong-trans : (actions more all : ActionTexts) → AreAmong actions more → AreAmong more all → AreAmong actions all
AreAmong-trans actions more all first second = record {
  texts = λ new has. second.texts new (first.texts new has);
  staged = λ step has. second.staged step (first.staged step has);
  placed = λ step has. second.placed step (first.placed step has);
  removed = λ name has. second.removed name (first.removed name has);
}

pub AreAmong-with_text : (actions : ActionTexts) (page file text : List ℕ) → AreAmong actions (with_text actions page file text)
AreAmong-with_text actions page file text = record {
  texts = λ new has. Contains-append_left actions.texts ((page, file, text) ∷ []) new has;
  staged = λ step has. has;
  placed = λ step has. has;
  removed = λ name has. has;
}

pub AreAmong-with_carried : (actions : ActionTexts) (from staging to : List ℕ)
    → AreAmong actions (with_carried actions from staging to)
AreAmong-with_carried actions from staging to = record {
  texts = λ new has. has;
  staged = λ step has. Contains-append_left actions.staged ((from, staging) ∷ []) step has;
  placed = λ step has. Contains-append_left actions.placed ((staging, to) ∷ []) step has;
  removed = λ name has. has;
}

pub AreAmong-with_removed : (actions : ActionTexts) (from staging : List ℕ)
    → AreAmong actions (with_removed actions from staging)
AreAmong-with_removed actions from staging = record {
  texts = λ new has. has;
  staged = λ step has. Contains-append_left actions.staged ((from, staging) ∷ []) step has;
  placed = λ step has. has;
  removed = λ name has. Contains-append_left actions.removed (staging ∷ []) name has;
}

-- the same in another order
pub AreAmong-reordered : (actions more : ActionTexts) → IsPermutation actions.staged more.staged
    → IsPermutation actions.placed more.placed → more.texts ≡ actions.texts → more.removed ≡ actions.removed
    → AreAmong actions more
AreAmong-reordered actions more staged placed texts removed = record {
  texts = λ new has. subst (λ all. Contains all new) (sym texts) has;
  staged = λ step has. Contains-permutation actions.staged more.staged step staged has;
  placed = λ step has. Contains-permutation actions.placed more.placed step placed has;
  removed = λ name has. subst (λ all. Contains all name) (sym removed) has;
}

module _ (actions more : ActionTexts) (among : AreAmong actions more) where
  pub Carries-among : (from to : List ℕ) → Carries actions from to → Carries more from to
  Carries-among from to carries = record {
    staging = carries.staging;
    leaves = among.staged (from, carries.staging) carries.leaves;
    comes = among.placed (carries.staging, to) carries.comes;
  }

  pub Removes-among : (from : List ℕ) → Removes actions from → Removes more from
  Removes-among from removes = record {
    staging = removes.staging;
    leaves = among.staged (from, removes.staging) removes.leaves;
    removed = among.removed removes.staging removes.removed;
  }

  pub DoesMove-among : (paths : List (List Step)) (move : Move) → DoesMove paths actions move → DoesMove paths more move
  DoesMove-among paths move does = record {
    carries = λ none.
        let is = does.carries none in
        record {
          old = is.old;
          new = is.new;
          old_of = is.old_of;
          new_of = is.new_of;
          carries = Carries-among is.old is.new is.carries;
        };
    removes = λ some.
        let is = does.removes some in
        record { old = is.old; old_of = is.old_of; removes = Removes-among is.old is.removes };
  }

  pub RemovesAt-among : (cs : List Step) → RemovesAt actions cs → RemovesAt more cs
  RemovesAt-among cs is =
      record { old = is.old; old_of = is.old_of; removes = Removes-among is.old is.removes }

  pub RemovesMoved-among : (moves : List Move) (cs : List Step) → RemovesMoved moves cs actions
      → RemovesMoved moves cs more
  RemovesMoved-among moves cs each = λ k l same. RemovesAt-among (move_at moves k).old (each k l same)

  pub ReplacesPage-among : (page : SitePage) (new : MovedSitePage) (text : List ℕ) → ReplacesPage actions page new text
      → ReplacesPage more page new text
  ReplacesPage-among page new text is = record {
    old = is.old;
    old_of = is.old_of;
    file = is.file;
    written = among.texts (is.old, is.file, text) is.written;
    carries = Carries-among is.file new.path is.carries;
  }

  pub ReplacesPages-among : (pages : List SitePage) (news : List MovedSitePage) → ReplacesPages pages news actions
      → ReplacesPages pages news more
  ReplacesPages-among [] [] each = each
  ReplacesPages-among [] (new ∷ news) each = each
  ReplacesPages-among (page ∷ pages) [] each = each
  ReplacesPages-among (page ∷ pages) (new ∷ news) each = (
    IfSome_then new.text each.0 (λ text. ReplacesPage-among page new (string_bytes text)),
    ReplacesPages-among pages news each.1,
  )

-- ---- one rename more

pub Carries-with_carried : (actions : ActionTexts) (from staging to : List ℕ)
    → Carries (with_carried actions from staging to) from to
Carries-with_carried actions from staging to = record {
  staging = staging;
  leaves = Contains-push actions.staged (from, staging);
  comes = Contains-push actions.placed (staging, to);
}

pub Removes-with_removed : (actions : ActionTexts) (from staging : List ℕ) → Removes (with_removed actions from staging) from
Removes-with_removed actions from staging = record {
  staging = staging;
  leaves = Contains-push actions.staged (from, staging);
  removed = Contains-push actions.removed staging;
}

module _ (paths : List (List Step)) (cs : List Step) where
  -- a path that an index finds, and one that it doesn't
  found-some : (found : Option ℕ) → is_some found ≡ true → IsFoundAt paths cs found → ¬ IsNoneAt paths cs
  found-some None is at = absurd (false≢true is)
  found-some (Some k) is at = λ none. none k at.within at.same

  pub found-none : (found : Option ℕ) → is_some found ≡ false → IsFoundAt paths cs found → IsNoneAt paths cs
  found-none None is at = at
  found-none (Some k) is at = absurd (false≢true (sym is))

module _ (actions : ActionTexts) (paths : List (List Step)) (move : Move) (found : Option ℕ) (from staging : List ℕ)
    (at : IsFoundAt paths move.old found) (from_is : IsNormalTextOf move.old from)
  where
    pub DoesMove-removed : is_some found ≡ true → DoesMove paths (with_removed actions from staging) move
    DoesMove-removed is = record {
      carries = λ none. absurd (found-some paths move.old found is at none);
      removes = λ some. record {
        old = from;
        old_of = from_is;
        removes = Removes-with_removed actions from staging;
      };
    }

    pub DoesMove-carried : (to : List ℕ) → IsNormalTextOf move.new to → is_some found ≡ false
        → DoesMove paths (with_carried actions from staging to) move
    DoesMove-carried to to_is is = record {
      carries = λ none. record {
        old = from;
        new = to;
        old_of = from_is;
        new_of = to_is;
        carries = Carries-with_carried actions from staging to;
      };
      removes = λ some. absurd (some (found-none paths move.old found is at));
    }

pub with_text-same : (actions : ActionTexts) (page other_page file other_file text other_text : List ℕ) → page ≡ other_page
    → file ≡ other_file → text ≡ other_text → with_text actions page file text ≡ with_text actions other_page other_file
    other_text
with_text-same actions page other_page file other_file text other_text same same_2 same_3 = rw (same, same_2, same_3) refl

-- a text is written to a file, which is carried later
pub AreAmong-page : (before actions : ActionTexts) (page file text from staging to : List ℕ)
    → AreAmong (with_text before page file text) actions → AreAmong before (with_carried actions from staging to)
AreAmong-page before actions page file text from staging to among =
    AreAmong-trans before (with_text before page file text) (with_carried actions from staging to)
    (AreAmong-with_text before page file text)
    (AreAmong-trans (with_text before page file text) actions (with_carried actions from staging to) among
    (AreAmong-with_carried actions from staging to))

pub ReplacesPage-carried : (before actions : ActionTexts) (page : SitePage) (new : MovedSitePage)
    (old file text staging : List ℕ) → IsNormalTextOf (components page.path.now) old
    → AreAmong (with_text before old file text) actions
    → ReplacesPage (with_carried actions file staging new.path) page new text
ReplacesPage-carried before actions page new old file text staging is among = record {
  old = old;
  old_of = is;
  file = file;
  written = among.texts (old, file, text) (Contains-push before.texts (old, file, text));
  carries = Carries-with_carried actions file staging new.path;
}

-- ---- what is removed

-- what is at a path is at each path that leads to the same place
pub RemovesAt-same : (actions : ActionTexts) (cs ds : List Step) → IsSame ds cs → RemovesAt actions cs → RemovesAt actions ds
RemovesAt-same actions cs ds same is = record {
  old = is.old;
  old_of = record {
    normal_text = is.old_of.normal_text;
    same = IsSame-trans same is.old_of.same;
    only = λ other normal leads. is.old_of.only other normal (IsSame-trans (IsSame-sym same) leads);
  };
  removes = is.removes;
}

module _ (actions : ActionTexts) (moves : List Move) (cs : List Step) (found : Option ℕ)
    (at : IsFoundAt (old_paths moves) cs found)
  where
    -- a move leads from there
    pub RemovesAt-moved : is_some found ≡ true → RemovesMoved moves cs actions → RemovesAt actions cs
    RemovesAt-moved is each = by found is at
      where
        by : (found : Option ℕ) → is_some found ≡ true → IsFoundAt (old_paths moves) cs found → RemovesAt actions cs
        by None is at = absurd (false≢true is)
        by (Some k) is at =
            let within : k < length moves = rw (length-map moves (λ (move : Move). move.old)) at at.within in
            let here : path_at (old_paths moves) k ≡ (move_at moves k).old =
            get_or-map (λ (move : Move). move.old) moves k (record { old = []; new = [] }) [] within in
            let same : IsSame cs (move_at moves k).old = rw here at at.same in
            RemovesAt-same actions (move_at moves k).old cs same (each k within same)

-- the old text leaves, and is removed
pub RemovesAt-with_removed : (actions : ActionTexts) (cs : List Step) (from staging : List ℕ) → IsNormalTextOf cs from
    → RemovesAt (with_removed actions from staging) cs
RemovesAt-with_removed actions cs from staging is =
    record { old = from; old_of = is; removes = Removes-with_removed actions from staging }

-- each move from one of the paths removes what is there
pub RemovesMoved-each : (paths : List (List Step)) (moves : List Move) (actions : ActionTexts) (k : ℕ) (cs : List Step)
    → k < length paths → path_at paths k ≡ cs → EachMove (DoesMove paths actions) moves → RemovesMoved moves cs actions
RemovesMoved-each paths moves actions k cs within is each = λ j l same.
    (each j l).removes (λ none. none k within (rw is (IsSame-sym same)))

pub All-RemovesAt-next : (paths : List (List Step)) (actions more : ActionTexts) (k : ℕ) (cs : List Step)
    → AreAmong actions more
    → k < length paths → path_at paths k ≡ cs → RemovesAt more cs → All (RemovesAt actions) (take k paths)
    → All (RemovesAt more) (take (k + 1) paths)
All-RemovesAt-next paths actions more k cs among within is here each =
    All-more (RemovesAt more) paths k [] within
    (All-weaker (RemovesAt actions) (RemovesAt more) (RemovesAt-among actions more among) (take k paths) each)
    (subst (RemovesAt more) (sym is) here)

pub All-taken : {X : Type 0} (P : X → Type 0) (xs : List X) (k : ℕ) → length xs ≤ k → All P (take k xs) → All P xs
All-taken P xs k all each = subst (All P) (take_all k xs all) each

-- ---- an index of paths

-- the paths up to the next
pub Indexes-next : (paths : List (List Step)) (k : ℕ) (path : List Step) (index : PlaceIndex) → k < length paths
    → path_at paths k ≡ path → Indexes (take k paths ++ path ∷ []) index → Indexes (take (k + 1) paths) index
Indexes-next paths k path index within is has =
    subst (λ all. Indexes all index)
    (sym (take_more paths k [] within ∙ ap (λ next. take k paths ++ next ∷ []) is)) has
