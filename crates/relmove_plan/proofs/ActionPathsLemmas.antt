-- The paths of a plan's actions spell their names.
use Rattle.std.proofs.Common.{All, Contains, List, [], ◌∷◌, ◌++◌, Some, ap, arith, get_or, length, map, refl, subst, sym, ℕ, ◌+◌, ◌<◌, ◌∙◌, ◌≡◌, ◌≢◌}
use Rattle.std.specs.List.{AllZip, join_with_byte}
use Rattle.std.proofs.lemmas.List.Elements.{All-cons, All-tail}
use Rattle.std.proofs.lemmas.List.{get_or-append-add, get_or_default, length-append, length-map}
use Rattle.relative_path.proofs.ForCallers.{components-place}
use Rattle.relative_path.proofs.OnLiterals.{relative_path_on_literals}
use Rattle.relative_path.specs.Normalizing.{AreNames, IsNormalTextOf}
use Rattle.relative_path.specs.Steps.{Step, components, name, slash, spell}
use Rattle.relative_path.specs.Walk.{place_of}
use Rattle.relative_path_moves.specs.Moves.{Move}
use Rattle.relative_path_places.specs.PlaceIndex.{path_at}
use Rattle.relmove_checks.specs.declared.entry.Entry.{Entry}
use Rattle.relmove_checks.specs.declared.name_rule.NameRule.{NameRule}
use Rattle.relmove_plan.proofs.CarriedLemmas as carrying
use Rattle.relmove_plan.proofs.EmptiedLemmas as emptying
use Rattle.relmove_plan.proofs.FreeWaysLemmas as free_ways
use Rattle.relmove_plan.proofs.KnownRunsLemmas.{IsKnownRun}
use Rattle.relmove_plan.proofs.MadeLemmas as directories
use Rattle.relmove_plan.proofs.SourcesLemmas.{IsSource, IsSource-leaves, element}
use Rattle.relmove_plan.proofs.WaysLemmas as ways
use Rattle.relmove_plan.proofs.WholeTreesLemmas.{map_none}
use Rattle.relmove_plan.specs.ActionPaths.{AreSpelled, SpellsNames}
use Rattle.relmove_steps.specs.Actions.{ActionTexts, LeavesFrom, of_page, of_text, placed_names, staged_names}
use Rattle.relmove_steps.specs.Directories.{IsLeftBehindByMove, IsMissingText, IsTextTakenTo, MakesMissing, moves_to_names}
use Rattle.relmove_trees.specs.FileTrees.{Place, names_of}

AreNames-names : (place : Place) → AreNames (map name place)
AreNames-names [] = tt
AreNames-names (n ∷ place) = AreNames-names place

-- a text whose components are the names of a place, and that spells them
spells : (text : List ℕ) (place : Place) → place ≢ [] → components text ≡ map name place → text ≡ spell (components text)
    → SpellsNames text
unfolding relative_path_on_literals
spells text place some plain spelled = record {
  some = λ none. some (map_none name place (sym plain ∙ ap components none));
  names = subst AreNames (sym plain) (AreNames-names place);
  spelled = spelled;
}

-- a normal text that leads to a place
spells-normal : (cs : List Step) (text : List ℕ) (place : Place) → place ≢ [] → IsNormalTextOf cs text
    → place_of cs ≡ Some place → SpellsNames text
spells-normal cs text place some is leads = spells text place some (components-place is leads) is.normal_text.spelled

-- a text with one component
spells-single : (text : List ℕ) → components text ≡ name text ∷ [] → SpellsNames text
spells-single text single = spells text (text ∷ []) (λ none. cc none) single (sym (ap spell single))

-- what holds of the second elements of two lists in which pairs are related, holds of each
pub AllZip-second : {X Y : Type 0} (P : X → Type 0) (R : X → Y → Type 0) (Q : Y → Type 0)
    → ((x : X) (y : Y) → P x → R x y → Q y) → (xs : List X) (ys : List Y) → All P xs → AllZip R xs ys → All Q ys
AllZip-second P R Q next xs [] each zipped = λ k d within. absurd (let w : k < 0 = within in omega (arith, w))
AllZip-second P R Q next [] (y ∷ ys) each zipped = absurd zipped
AllZip-second P R Q next (x ∷ xs) (y ∷ ys) each zipped =
    All-cons Q y ys (next x y (each 0 x (omega arith)) zipped.0)
    (AllZip-second P R Q next xs ys (All-tail P x xs each) zipped.1)

module _ {entries : List Entry} {pages changed : List (List Step)} {moves : List Move} {rule : NameRule} {actions : ActionTexts}
    (run : IsKnownRun entries pages changed moves rule actions)
  where
    leaves_spelled : (from : List ℕ) → LeavesFrom moves changed actions.texts from → SpellsNames from
    leaves_spelled from leaves =
        let src = IsSource-leaves entries pages run.whole moves changed run.files run.accepted.apart.come.leave.olds actions
        run.own from leaves in
        spells from src.place src.some src.plain (src.spelled ∙ ap (join_with_byte slash) (sym src.named))

    name_spelled : (name : List ℕ) → Contains (staged_names actions) name → SpellsNames name
    name_spelled n has = spells-single n (carrying.staging_single run n has)

    come_spelled : (name : List ℕ) → Contains (placed_names actions ++ actions.removed) name → SpellsNames name
    come_spelled n has = spells-single n (carrying.staging_single run n (carrying.come_left run n has))

    texts_spelled : All (λ new. SpellsNames new.0 × SpellsNames new.1) actions.texts
    texts_spelled k d within = by (get_or actions.texts k d) refl
      where
        by : (new : List ℕ × List ℕ × List ℕ) → get_or actions.texts k d ≡ new → SpellsNames new.0 × SpellsNames new.1
        by (page, file, text) is =
            let (c, inside, old_of) = run.own.of_pages k d within in (
              leaves_spelled page (of_page c inside
                  (subst (λ (new : List ℕ × List ℕ × List ℕ). IsNormalTextOf (path_at changed c) new.0) is old_of)),
              leaves_spelled file
                  (of_text page text (k, within, get_or_default actions.texts k (page, file, text) d within ∙ is)),
            )

    staged_spelled : All (λ step. SpellsNames step.0 × SpellsNames step.1) actions.staged
    staged_spelled k d within =
        let (step, is) = element actions.staged k within in
        let here : get_or actions.staged k d ≡ step = get_or_default actions.staged k d step within ∙ is in
        subst (λ (step : List ℕ × List ℕ). SpellsNames step.0 × SpellsNames step.1) (sym here) (
          leaves_spelled step.0 (ways.leaves run k step within is),
          name_spelled step.1 (carrying.has_name run k step within is),
        )

    placed_spelled : All (λ step. SpellsNames step.0 × SpellsNames step.1) actions.placed
    placed_spelled k d within =
        let (step, is) = element actions.placed k within in
        let here : get_or actions.placed k d ≡ step = get_or_default actions.placed k d step within ∙ is in
        let to = free_ways.destination run k step within is in
        subst (λ (step : List ℕ × List ℕ). SpellsNames step.0 × SpellsNames step.1) (sym here) (
          name_spelled step.0 (carrying.come_name run k step within is),
          spells step.1 to.place to.some to.plain (to.spelled ∙ ap (join_with_byte slash) (sym to.named)),
        )

    removed_spelled : All SpellsNames actions.removed
    removed_spelled k d within =
        let long = length-append (placed_names actions) actions.removed in
        come_spelled (get_or actions.removed k d) (
          length (placed_names actions) + k,
          omega (arith, within, long),
          get_or-append-add (placed_names actions) actions.removed k (get_or actions.removed k d)
              ∙ get_or_default actions.removed k (get_or actions.removed k d) d within,
        )

    made_spelled : (after : List (List Step)) (made : List (List ℕ)) → MakesMissing moves after actions made → All SpellsNames made
    made_spelled after made makes =
        AllZip-second (IsMissingText moves after) (IsTextTakenTo (moves_to_names moves makes.staging)) SpellsNames
        (λ directory text missing (target, is, text_is).
        let (place, some, leads) = directories.made-leads run after makes.staging makes.leave directory target
        (directories.missing-at run after directory missing) is in
        spells-normal target text place some text_is leads)
        makes.are_made.taken.missing made makes.are_made.taken.are_missing.sound makes.are_made.taken.taken

    left_spelled : (text : List ℕ) → IsLeftBehindByMove moves moves text → SpellsNames text
    left_spelled text left =
        let one = emptying.left_at run text left in
        spells-normal one.target text (names_of text) one.spelled.some one.normal one.leads

    pub AreSpelled-run : (after : List (List Step)) (made emptied : List (List ℕ)) → MakesMissing moves after actions made
        → All (IsLeftBehindByMove moves moves) emptied → AreSpelled actions made emptied
    AreSpelled-run after made emptied makes left = record {
      texts = texts_spelled;
      staged = staged_spelled;
      made = made_spelled after made makes;
      placed = placed_spelled;
      removed = removed_spelled;
      emptied = λ k d within. left_spelled (get_or emptied k d) (left k d within);
    }
