-- Where the directories of a plan are made: at paths without a name of a run's own, or below staging names.
use Rattle.std.proofs.Common.{All, ◌≡◌, ◌≢◌, ◌<◌, ℕ, List, [], ◌∷◌, Some, false, get_or, inl, inr, map, refl, sym, ap, ◌∙◌, arith}
use Rattle.std.specs.List.{list_any}
use Rattle.std.proofs.lemmas.List.Elements.{All-tail}
use Rattle.relative_path.proofs.ForCallers.{components-place}
use Rattle.relative_path.specs.Steps.{Step, components, name}
use Rattle.relative_path.specs.Walk.{place_of}
use Rattle.relative_path_moves.specs.Moves.{Move}
use Rattle.relmove_checks.specs.Moves.{is_reserved_step}
use Rattle.relmove_checks.specs.declared.entry.Entry.{Entry}
use Rattle.relmove_checks.specs.declared.name_rule.NameRule.{NameRule}
use Rattle.relmove_plan.proofs.ActionPathsLemmas.{AllZip-second}
use Rattle.relmove_plan.proofs.ArrivalsLemmas as arrivals
use Rattle.relmove_plan.proofs.CarriedLemmas.{is_reserved_text}
use Rattle.relmove_plan.proofs.KnownRunsLemmas.{IsKnownRun}
use Rattle.relmove_plan.proofs.MadeLemmas as directories
use Rattle.relmove_plan.proofs.MadeLemmas.{IsMadeFrom}
use Rattle.relmove_plan.proofs.PlacesLemmas.{names_of-normal}
use Rattle.relmove_plan.specs.MadePaths.{IsMadePath}
use Rattle.relmove_steps.specs.Actions.{ActionTexts}
use Rattle.relmove_steps.specs.Directories.{IsMissingText, IsTextTakenTo, MakesMissing, moves_to_names}
use Rattle.relmove_trees.specs.FileTrees.{Place, names_of}

-- names that aren't a run's own have no reserved one
none-reserved : (place : Place) → arrivals.NotReserved place → list_any is_reserved_step (map name place) ≡ false
none-reserved [] fine = refl
none-reserved (n ∷ place) fine =
    rw (let e : is_reserved_text n ≡ false = fine 0 n (omega arith) in e)
    (none-reserved place (All-tail (λ n. is_reserved_text n ≡ false) n place fine))

module _ {entries : List Entry} {pages changed : List (List Step)} {moves : List Move} {rule : NameRule} {actions : ActionTexts}
    (run : IsKnownRun entries pages changed moves rule actions) (after : List (List Step)) (made : List (List ℕ))
    (makes : MakesMissing moves after actions made)
  where
    path : (directory text : List ℕ) → IsMissingText moves after directory
        → IsTextTakenTo (moves_to_names moves makes.staging) directory text → IsMadePath moves actions text
    path directory text is_missing taken =
        by (directories.made-from run after makes.staging makes.leave directory text missing taken)
      where
        missing : directories.IsMissingAt moves after directory
        missing = directories.missing-at run after directory is_missing

        to : (place : Place) × (place ≢ []) × (place_of taken.0 ≡ Some place)
        to = directories.made-leads run after makes.staging makes.leave directory taken.0 missing taken.1

        by : IsMadeFrom moves makes.staging missing.place (names_of text) → IsMadePath moves actions text
        by (IsMadeFrom.from_place none here) =
            let (place, some, leads) = to in
            let comps : components text ≡ map name place = components-place taken.2 leads in
            let same : place ≡ missing.place =
            sym (names_of-normal taken.0 text place taken.2 leads) ∙ here in
            inl (ap (list_any is_reserved_step) (comps ∙ ap (map name) same) ∙ none-reserved missing.place missing.fine)
        by (IsMadeFrom.from_name j below under nearest here) =
            inr (j, under.within, get_or makes.staging j [], below, makes.leave.each j under.within, here)

    pub made_paths : All (IsMadePath moves actions) made
    made_paths =
        AllZip-second (IsMissingText moves after) (IsTextTakenTo (moves_to_names moves makes.staging)) (IsMadePath moves actions) path
        makes.are_made.taken.missing made makes.are_made.taken.are_missing.sound makes.are_made.taken.taken
