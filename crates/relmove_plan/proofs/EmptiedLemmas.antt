-- The directories that a run may empty are there when it comes to them, each after what is below it.
use Rattle.std.proofs.Common.{All, AllPairs, ◌≡◌, ◌≢◌, ℕ, suc, ◌<◌, List, [], ◌∷◌, ◌++◌, Some, length, map, get_or, refl, sym, ap, subst, ◌∙◌, append-nil, arith, true}
use Rattle.std.proofs.lemmas.List.Elements.{All-tail}
use Rattle.std.proofs.lemmas.List.{get_or_default, length-map}
use Rattle.std.specs.List.{Any, join_with_byte}
use Rattle.relative_path.proofs.ForCallers.{IsSame-sym, IsSame-trans, walk-names}
use Rattle.relative_path.specs.Normalizing.{IsNormalTextOf}
use Rattle.relative_path.specs.Steps.{Step, name, slash, components}
use Rattle.relative_path.specs.Walk.{place_of}
use Rattle.relative_path_moves.proofs.ForCallers.{IsTreePath-only}
use Rattle.relative_path_moves.specs.Moves.{Move, move_at}
use Rattle.relative_path_moves.specs.TreeMoves.{AtTreePath}
use Rattle.relmove_checks.specs.declared.entry.Entry.{Entry}
use Rattle.relmove_checks.specs.declared.name_rule.NameRule.{NameRule}
use Rattle.relmove_plan.proofs.ArrivalsLemmas as arrivals
use Rattle.relmove_plan.proofs.CarriedLemmas as carrying
use Rattle.relmove_plan.proofs.EndsLemmas as ends
use Rattle.relmove_plan.proofs.KnownRunsLemmas.{IsKnownRun}
use Rattle.relmove_plan.proofs.MovedTreesLemmas as trees
use Rattle.relmove_plan.proofs.MovedTreesLemmas.{IsAmong-map}
use Rattle.relmove_plan.proofs.PlacesLemmas.{IsBelow-spelled, names_of-normal, spelled-place, HasDirectory-names, HasDirectory-place}
use Rattle.relmove_plan.proofs.SourcesLemmas.{first_of, get_or-map_element}
use Rattle.relmove_plan.proofs.TreeRemovesLemmas.{AreDirectories, Contains-among, DeepestFirst, IsAmong}
use Rattle.relmove_plan.proofs.WholeTreesLemmas.{HasDirectoryAt-above, IsSame-one_place, not_empty}
use Rattle.relmove_trees.specs.FileTrees.{Directory, IsUnder, Place, Tree, names_of}
use Rattle.relmove_plan.specs.MovedTrees.{AreTakenTo, IsAboveOld, IsLeftBehind}
use Rattle.relmove_plan.specs.WholeTrees.{HasDirectoryAt, IsAt}
use Rattle.relmove_steps.specs.Actions.{ActionTexts, BelowFirst}
use Rattle.relmove_steps.specs.Directories.{AreAllLeftBehind, IsLeftBehindByMove}
use Rattle.relmove_trees.proofs.FileTreesLemmas.{some_is}

-- the text spells its names, and has one
pub record IsSpelled (text : List ℕ) : Type 0 where
  pub some : names_of text ≢ []
  pub joined : text ≡ join_with_byte slash (names_of text)

pub deepest : (texts : List (List ℕ)) → BelowFirst texts → AllPairs (λ one other. one ≢ other) texts → All IsSpelled texts
    → DeepestFirst (map names_of texts)
deepest [] order differ spelled = tt
deepest (first ∷ texts) order differ spelled = (
  above,
  deepest texts (λ i j less within. order (suc i) (suc j) (omega (arith, less)) (omega (arith, within)))
      (λ i j d less within. differ (suc i) (suc j) d (omega (arith, less)) (omega (arith, within)))
      (All-tail IsSpelled first texts spelled),
)
  where
    one : IsSpelled first
    one = spelled 0 first (omega arith)

    above : (place : Place) → IsAmong (map names_of texts) place → ¬ IsUnder place (names_of first)
    above place among (below, under) =
        let (other, (k, within, is), same) = IsAmong-map names_of texts place among in
        let two : IsSpelled other = subst IsSpelled is (spelled (suc k) other (omega (arith, within))) in
        by k other within is two below (sym same ∙ under)
      where
        by : (k : ℕ) (other : List ℕ) → k < length texts → get_or texts k other ≡ other → IsSpelled other → (below : Place)
            → names_of other ≡ names_of first ++ below → ⊥
        by k other within is two [] same =
            differ 0 (suc k) other (omega arith) (omega (arith, within))
            (one.joined ∙ ap (join_with_byte slash) (sym (same ∙ append-nil (names_of first))) ∙ sym two.joined ∙ sym is)
        by k other within is two (n ∷ rest) same =
            order 0 (suc k) (omega arith) (omega (arith, within))
            (IsBelow-spelled first (get_or texts k []) (names_of first) n rest one.some one.joined
            (get_or_default texts k [] other within ∙ is ∙ two.joined ∙ ap (join_with_byte slash) same))

-- a directory that was above an old path, and where it is after the moves
pub record IsLeftAt (entries : List Entry) (moves : List Move) (text : List ℕ) : Type 0 where
  pub from : Place
  pub some : from ≢ []
  pub at : HasDirectoryAt entries from
  pub above : IsAboveOld moves from
  pub taken : AreTakenTo moves from (names_of text)
  pub spelled : IsSpelled text
  pub target : List Step
  pub leads : place_of target ≡ Some (names_of text)
  pub normal : IsNormalTextOf target text

module _ {entries : List Entry} {pages changed : List (List Step)} {moves : List Move} {rule : NameRule} {actions : ActionTexts}
    (run : IsKnownRun entries pages changed moves rule actions)
  where
    pub left_at : (text : List ℕ) → IsLeftBehindByMove moves moves text → IsLeftAt entries moves text
    left_at text (k, inside, left) =
        let (b, q, leads, at) = carrying.old_place run k inside in
        let (d, rest, split, names_are, some, some_rest) =
        HasDirectory-place (move_at moves k).old left.directory left.normal q left.normal_of leads left.above in
        let (n, more, first) = first_of rest some_rest in
        let q_is : q ≡ d ++ n ∷ more = split ∙ ap (λ rest. d ++ rest) first in
        let directory : HasDirectoryAt entries d =
        HasDirectoryAt-above entries pages run.whole b d n more some (subst (λ q. Any (IsAt b q) entries) q_is at) in
        let (target, target_is, normal) =
        subst (λ cs. AtTreePath moves cs (λ target. IsNormalTextOf target text)) names_are left.now in
        let (to, there, some_to, free) =
        arrivals.entry_place run true (map name d) target d (walk-names [] d) directory target_is in
        let to_is : names_of text ≡ to = names_of-normal target text to normal there in
        record {
          from = d;
          some = some;
          at = directory;
          above = (k, inside, n, more, leads ∙ ap Some q_is);
          taken = (target, target_is, there ∙ ap Some (sym to_is));
          spelled = record {
            some = λ none. some_to (sym to_is ∙ none);
            joined = spelled-place target text to normal there ∙ ap (join_with_byte slash) (sym to_is);
          };
          target = target;
          leads = there ∙ ap Some (sym to_is);
          normal = normal;
        }

    -- ---- the list has exactly the directories that are left

    module _ (emptied : List (List ℕ)) (left : All (IsLeftBehindByMove moves moves) emptied)
        (all : AreAllLeftBehind moves moves emptied)
      where
        pub among-left : (place : Place) → IsAmong (map names_of emptied) place → IsLeftBehind moves place
        among-left place among =
            let (text, (i, within, is), same) = IsAmong-map names_of emptied place among in
            let one = left_at text (subst (IsLeftBehindByMove moves moves) is (left i text within)) in
            record {
              from = one.from;
              some = one.some;
              above = one.above;
              taken = subst (AreTakenTo moves one.from) (sym same) one.taken;
            }

        pub left-among : (place : Place) → IsLeftBehind moves place → IsAmong (map names_of emptied) place
        left-among place it = by it.above
          where
            by : IsAboveOld moves it.from → IsAmong (map names_of emptied) place
            by (k, inside, n, rest, old) =
                let fine = run.accepted.apart.come.leave.olds k inside in
                let one = all k inside (map name it.from) (record {
                  normal = fine.normal;
                  normal_of = fine.normal_of;
                  above = HasDirectory-names (move_at moves k).old fine.normal it.from (n ∷ rest) fine.normal_of old it.some
                      (not_empty [] n rest);
                }) in
                let (target, target_is, normal) = one.now in
                let (other, other_is, leads) = it.taken in
                let same : other ≡ target =
                IsTreePath-only moves (map name it.from) target other run.accepted.apart.come.leave.apart target_is other_is in
                let here : place_of target ≡ Some place = ap place_of (sym same) ∙ leads in
                let (i, within, is) = one.has in
                Contains-among (map names_of emptied) place (
                  i,
                  rw length-map within,
                  get_or-map_element names_of emptied i one.text place within is ∙ names_of-normal target one.text place normal here,
                )

    -- the directories that moves leave come the deepest first
    pub deepest_first : (emptied : List (List ℕ)) → BelowFirst emptied → AllPairs (λ one other. one ≢ other) emptied
        → All (IsLeftBehindByMove moves moves) emptied → DeepestFirst (map names_of emptied)
    deepest_first emptied order differ left =
        deepest emptied order differ (λ k d within. (left_at (get_or emptied k d) (left k d within)).spelled)

    module _ (made : List (List ℕ)) (start now : Tree)
        (on : trees.IsRunOn entries moves changed (map components run.accepted.apart.after) actions made start now)
        (emptied : List (List ℕ)) (left : All (IsLeftBehindByMove moves moves) emptied)
      where
        -- each of them is a directory after the moves
        pub left_there : AreDirectories (map names_of emptied) (trees.moved run made start now on)
        left_there place among =
            let (text, (i, within, is), same) = IsAmong-map names_of emptied place among in
            let one = left_at text (subst (IsLeftBehindByMove moves moves) is (left i text within)) in
            let here : now one.from ≡ Some Directory =
            on.now_is.others one.from (ends.directory-unchanged run one.from one.at) ∙ on.of.directories one.from one.at in
            trees.moved-arrives run made start now on one.from place (some_is _ _ (sym here) refl)
            (subst (AreTakenTo moves one.from) (sym same) one.taken) ∙ here
