-- A directory can be made where a run makes it, and each rename of `placed` leads to where something can come.
use Rattle.std.proofs.Common.{All, false, ◌≡◌, ◌≢◌, ◌⊎◌, ℕ, zero, suc, ◌<◌, ◌≤◌, ◌+◌, List, [], ◌∷◌, ◌++◌, Some, length, map, drop, take, get_or, inl, inr, refl, sym, ap, subst, ◌∙◌, append_assoc, append-nil, arith}
use Rattle.std.specs.List.{Any, join_with_byte}
use Rattle.std.proofs.Math.Seq.{drop-append_seam, take-append_seam}
use Rattle.std.proofs.lemmas.Bool.{cases_order}
use Rattle.std.proofs.lemmas.List.{get_or-drop, get_or-map, get_or-take, get_or_default, length-append, length-drop, length-map, length-take-le, same_from_push}
use Rattle.std.proofs.lemmas.Slice.Zip.{AllZip-long}
use Rattle.relative_path.specs.Steps.{Step, name, components, slash}
use Rattle.relative_path.specs.Walk.{place_of}
use Rattle.relative_path.specs.Normalizing.{IsNormalTextOf}
use Rattle.relative_path.proofs.ForCallers.{walk-names}
use Rattle.relative_path_moves.specs.Moves.{Move, move_at, turned}
use Rattle.relative_path_places.specs.PlaceIndex.{IsNoneAt, path_at}
use Rattle.relative_path_moves.specs.TreeMoves.{IsLeftInPlace, IsTreePath}
use Rattle.relmove_checks.specs.declared.entry.Entry.{Entry}
use Rattle.relmove_checks.specs.declared.name_rule.NameRule.{NameRule}
use Rattle.relmove_checks.specs.Moves.{move_of}
use Rattle.relmove_checks.proofs.ForCallers.{AllZip-at}
use Rattle.relmove_steps.specs.Directories.{IsMissingText, MakesMissing, moves_to_names}
use Rattle.relmove_steps.specs.Directories as specs
use Rattle.relmove_trees.specs.FileTrees.{IsUnder, names_of}
use Rattle.relmove_plan.proofs.RunWords.{rename_places, carried, renames_of, CanBeMade, CanCome, HasMadeDirectory, HasOldDirectory, IsOpen, IsThereAfter}
use Rattle.relmove_steps.specs.Actions.{ActionTexts}
use Rattle.relmove_plan.specs.WholeTrees.{HasDirectoryAt, IsAt, LeadsToFile}
use Rattle.relmove_plan.proofs.KnownRunsLemmas.{IsKnownRun}
use Rattle.relmove_plan.proofs.CarriedLemmas.{coming, leaving}
use Rattle.relmove_plan.proofs.CarriedLemmas as carrying
use Rattle.relmove_plan.proofs.ArrivalsLemmas as arrivals
use Rattle.relmove_plan.proofs.WaysLemmas.{carried-coming}
use Rattle.relmove_plan.proofs.ComingLemmas.{IsDestination}
use Rattle.relmove_plan.proofs.FreeWaysLemmas as ways
use Rattle.relmove_plan.proofs.MadeLemmas.{IsMadeFrom, IsMissingAt, IsUnderNew}
use Rattle.relmove_plan.proofs.MadeLemmas as directories
use Rattle.relmove_plan.proofs.EndsLemmas.{IsDirectoryTo}
use Rattle.relmove_plan.proofs.EndsLemmas as ends
use Rattle.relmove_plan.proofs.PlacesLemmas.{IsBelow-spelled, names_of-normal}
use Rattle.relmove_plan.proofs.RunsLemmas.{carried-still, carried-take}
use Rattle.relmove_plan.proofs.SourcesLemmas.{element, first_of, get_or-map_element}
use Rattle.relmove_plan.proofs.WholeTreesLemmas.{HasDirectoryAt-above, IsAt-some, IsSame-one_place, not_empty, some_append, some_of, one_number}
use Rattle.relmove_trees.proofs.FileTreesLemmas.{last_view}
use Rattle.relmove_plan.proofs.TakenLemmas.{IsLeftInPlace-above, IsTakenTo-above}

-- two fronts of a place before as many names are one front
one_front : (place one other below rest : List (List ℕ)) → place ≡ one ++ below → place ≡ other ++ rest
    → length below ≡ length rest → (one ≡ other) × (below ≡ rest)
one_front place one other below rest is is_2 same =
    let long = ap length is ∙ length-append one below in
    let long_2 = ap length is_2 ∙ length-append other rest in
    let count : length one ≡ length other = omega (arith, long, long_2, same) in (
      sym (take-append_seam one below) ∙ ap (λ n. take n (one ++ below)) count ∙ ap (take (length other)) (sym is ∙ is_2)
          ∙ take-append_seam other rest,
      sym (drop-append_seam one below) ∙ ap (λ n. drop n (one ++ below)) count ∙ ap (drop (length other)) (sym is ∙ is_2)
          ∙ drop-append_seam other rest,
    )

-- the names below a new path, if what is below is more than the path
below-last : (moves : List Move) (place front : List (List ℕ)) (q : List ℕ) (j : ℕ) (below : List (List ℕ))
    → (under : IsUnderNew moves place j below) → place ≡ front ++ q ∷ [] → below ≢ []
    → (first : List (List ℕ)) × (below ≡ first ++ q ∷ []) × IsUnderNew moves front j first
below-last moves place front q j below under split some = by (last_view below)
  where
    by : (below ≡ []) ⊎ ((first : List (List ℕ)) × (last : List ℕ) × (below ≡ first ++ last ∷ []))
        → (first : List (List ℕ)) × (below ≡ first ++ q ∷ []) × IsUnderNew moves front j first
    by (inl none) = absurd (some none)
    by (inr (first, last, is)) =
        let (front_is, last_is) = same_from_push (under.top ++ first) front last q
        (append_assoc under.top first (last ∷ []) ∙ ap (λ below. under.top ++ below) (sym is) ∙ sym under.down ∙ split) in (
          first,
          is ∙ ap (λ last. first ++ last ∷ []) last_is,
          record {
            within = under.within;
            top = under.top;
            leads = under.leads;
            down = sym front_is;
          },
        )

-- a new path above a place is above what is below it
under-more : (moves : List Move) (place whole below rest : List (List ℕ)) (j : ℕ) → IsUnderNew moves place j below
    → whole ≡ place ++ rest → IsUnderNew moves whole j (below ++ rest)
under-more moves place whole below rest j under is = record {
  within = under.within;
  top = under.top;
  leads = under.leads;
  down = is ∙ ap (λ place. place ++ rest) under.down ∙ append_assoc under.top below rest;
}

-- the directory that is missing where one is made
record IsMadeAt (moves : List Move) (after : List (List Step)) (staging missing : List (List ℕ)) (i : ℕ) (text : List ℕ)
    : Type 0 where
  pub directory : List ℕ
  pub inside : i < length missing
  pub is : get_or missing i directory ≡ directory
  pub at : IsMissingAt moves after directory
  pub from : IsMadeFrom moves staging at.place (names_of text)

module _ {entries : List Entry} {pages changed : List (List Step)} {moves : List Move} {rule : NameRule} {actions : ActionTexts}
    (run : IsKnownRun entries pages changed moves rule actions) (made : List (List ℕ))
    (makes : MakesMissing moves (map components run.accepted.apart.after) actions made)
  where
    abbrev after : List (List Step)
    after = map components run.accepted.apart.after

    abbrev staging : List (List ℕ)
    staging = makes.staging

    abbrev missing : List (List ℕ)
    missing = makes.are_made.taken.missing

    -- ---- what is made

    long_made : length made ≡ length missing
    long_made =
        AllZip-long (specs.IsTextTakenTo (moves_to_names moves staging)) missing made makes.are_made.taken.taken

    made-at : (i : ℕ) (text : List ℕ) → i < length made → get_or made i text ≡ text
        → IsMadeAt moves after staging missing i text
    made-at i text within is =
        let taken = makes.are_made.taken in
        let inside : i < length missing = omega (arith, within, long_made) in
        let (directory, is_2) = element missing i inside in
        let at = directories.missing-at run after directory
        (subst (IsMissingText moves after) is_2 (taken.are_missing.sound i directory inside)) in
        record {
          directory = directory;
          inside = inside;
          is = is_2;
          at = at;
          from = directories.made-from run after staging makes.leave directory text at
              (subst (λ directory. specs.IsTextTakenTo (moves_to_names moves staging) directory text) is_2
              (subst (specs.IsTextTakenTo (moves_to_names moves staging) (get_or missing i directory)) is
              (AllZip-at (specs.IsTextTakenTo (moves_to_names moves staging)) missing made i directory text taken.taken inside)));
        }

    -- the missing directory with its number
    directory-one : (i : ℕ) (text directory : List ℕ) (it : IsMadeAt moves after staging missing i text)
        → get_or missing i directory ≡ directory → it.directory ≡ directory
    directory-one i text directory it is = sym it.is ∙ get_or_default missing i it.directory directory it.inside ∙ is

    -- it comes to the missing directory
    carried-missing : (i : ℕ) (text : List ℕ) (it : IsMadeAt moves after staging missing i text)
        → carried (coming actions) (names_of text) ≡ it.at.place
    carried-missing i text it =
        directories.carried-made run after staging makes.leave it.directory it.at (names_of text) it.from

    -- no entry comes to a missing directory
    none-comes : (directory : List ℕ) (at : IsMissingAt moves after directory) (g : ℕ) → g < length entries
        → place_of (components (get_or run.accepted.apart.after g [])) ≢ Some at.place
    none-comes directory at g inside arrives =
        let long = ways.long run in
        let within : g < length run.accepted.apart.after = omega (arith, inside, long) in
        at.none g (rw length-map within)
        (IsSame-one_place at.place (walk-names [] at.place)
        (ap place_of (get_or-map components run.accepted.apart.after g [] [] within) ∙ arrives))

    -- so no new path is at a missing directory
    not_new : (directory : List ℕ) (at : IsMissingAt moves after directory) (j : ℕ) → ¬ IsUnderNew moves at.place j []
    not_new directory at j under =
        let (g, inside, arrives) = ends.moved-entry run j under.within under.top under.leads in
        none-comes directory at g inside (arrives ∙ ap Some (sym (under.down ∙ append-nil under.top)))

    -- two moves with one new path are one move
    one_new : (j k : ℕ) (top : List (List ℕ)) → j < length moves → k < length moves → place_of (move_at moves j).new ≡ Some top
        → place_of (move_at moves k).new ≡ Some top → j ≡ k
    one_new j k top within within_2 leads leads_2 =
        one_number (λ j. (j < length moves) × (place_of (move_at moves j).new ≡ Some top))
        (λ j k less (inside, one) (inside_2, other).
        run.accepted.apart.come.apart j k (record {
          before = less;
          within = rw length-map inside_2;
          same = IsSame-one_place top (ap (λ (move : Move). place_of move.old) (turned_at j inside) ∙ one)
              (ap (λ (move : Move). place_of move.old) (turned_at k inside_2) ∙ other);
        }))
        j k (within, leads) (within_2, leads_2)
      where
        turned_at : (j : ℕ) → j < length moves → move_at (turned moves) j ≡ move_of (move_at moves j).new (move_at moves j).old
        turned_at j within =
            let none : Move = record { old = []; new = [] } in
            get_or-map (λ (move : Move). move_of move.new move.old) moves j none none within

    -- ---- where directories are before the renames of `placed`

    -- what is made in a directory is made where that one is
    front-made : (directory : List ℕ) (at : IsMissingAt moves after directory) (front : List (List ℕ)) (q : List ℕ)
        → at.place ≡ front ++ q ∷ [] → (place top : List (List ℕ)) → IsMadeFrom moves staging at.place place
        → IsMadeFrom moves staging front top → place ≡ top ++ q ∷ []
    front-made directory at front q split place top (IsMadeFrom.from_place none here) (IsMadeFrom.from_place none_2 here_2) =
        here ∙ split ∙ ap (λ top. top ++ q ∷ []) (sym here_2)
    front-made directory at front q split place top (IsMadeFrom.from_place none here) (IsMadeFrom.from_name j below under nearest here_2) =
        absurd (none j (below ++ q ∷ []) (under-more moves front at.place below (q ∷ []) j under split))
    front-made directory at front q split place top (IsMadeFrom.from_name j below under nearest here) from =
        let some : below ≢ [] =
        λ none. not_new directory at j (subst (IsUnderNew moves at.place j) none under) in
        let (first, below_is, under_2) = below-last moves at.place front q j below under split some in
        by first below_is under_2 from
      where
        by : (first : List (List ℕ)) → below ≡ first ++ q ∷ [] → (under_2 : IsUnderNew moves front j first)
            → IsMadeFrom moves staging front top → place ≡ top ++ q ∷ []
        by first below_is under_2 (IsMadeFrom.from_place none_2 here_2) = absurd (none_2 j first under_2)
        by first below_is under_2 (IsMadeFrom.from_name k rest under_3 nearest_2 here_2) =
            let less : length rest ≤ length first = nearest_2 j first under_2 in
            let more : length below ≤ length (rest ++ q ∷ []) =
            nearest k (rest ++ q ∷ []) (under-more moves front at.place rest (q ∷ []) k under_3 split) in
            let long = ap length below_is ∙ length-append first (q ∷ []) in
            let long_2 = length-append rest (q ∷ []) in
            let same : length first ≡ length rest = omega (arith, less, more, long, long_2) in
            let (tops, names) = one_front front under_2.top under_3.top first rest under_2.down under_3.down same in
            let one : j ≡ k =
            one_new j k under_3.top under_2.within under_3.within (under_2.leads ∙ ap Some tops) under_3.leads in
            here ∙ ap (λ below. get_or staging j [] ∷ below) below_is
            ∙ ap (λ j. get_or staging j [] ∷ first ++ q ∷ []) one
            ∙ ap (λ first. get_or staging k [] ∷ first ++ q ∷ []) names
            ∙ ap (λ top. top ++ q ∷ []) (sym here_2)

    -- what is made in the root comes to the root
    root-made : (directory : List ℕ) (at : IsMissingAt moves after directory) (q : List ℕ) → at.place ≡ q ∷ []
        → (place : List (List ℕ)) → IsMadeFrom moves staging at.place place → place ≡ q ∷ []
    root-made directory at q is place (IsMadeFrom.from_place none here) = here ∙ is
    root-made directory at q is place (IsMadeFrom.from_name j below under nearest here) =
        let (top, leads, some, fine) = arrivals.new_place run j under.within in
        let (n, ns, first) = first_of top some in
        let long = ap length (sym is ∙ under.down) ∙ length-append under.top below in
        let count = ap length (some_of (sym under.leads ∙ leads) ∙ first) in
        absurd (not_new directory at j (subst (IsUnderNew moves at.place j) (empty below (omega (arith, long, count))) under))
      where
        empty : (below : List (List ℕ)) → length below ≡ 0 → below ≡ []
        empty [] none = refl
        empty (n ∷ below) none = absurd (omega (arith, none))

    -- ---- directories above new paths

    made-front : (i : ℕ) (text directory : List ℕ) (it : IsMadeAt moves after staging missing i text)
        → get_or missing i directory ≡ directory → (front : List (List ℕ)) → IsNormalTextOf (map name front) directory
        → it.at.place ≡ front
    made-front i text directory it is front normal =
        sym it.at.named ∙ ap names_of (directory-one i text directory it is)
        ∙ names_of-normal (map name front) directory front normal (walk-names [] front)

    -- a directory that is missing above a new path is made
    made-above : (k : ℕ) → k < length moves → (front rest : List (List ℕ))
        → place_of (move_at moves k).new ≡ Some (front ++ rest) → front ≢ [] → rest ≢ [] → IsNoneAt after (map name front)
        → (i : ℕ) × (text : List ℕ) × (i < length made) × (get_or made i text ≡ text)
        × (it : IsMadeAt moves after staging missing i text) × (it.at.place ≡ front)
    made-above k within front rest new some some_rest none =
        let (directory, (i, inside, is), directory_is) =
        makes.are_made.taken.are_missing.complete (map name front)
        (directories.IsMissing-above run after k within front rest new some some_rest none) in
        let within_2 : i < length made = omega (arith, inside, long_made) in
        let (text, text_is) = element made i within_2 in
        let it = made-at i text within_2 text_is in
        (i, text, within_2, text_is, it, made-front i text directory it is front directory_is)

    -- ---- each directory can be made

    -- a directory is made after the one above it
    made-before : (i j : ℕ) (text other : List ℕ) (it : IsMadeAt moves after staging missing i text)
        (above : IsMadeAt moves after staging missing j other) (q : List ℕ) → it.at.place ≡ above.at.place ++ q ∷ [] → j < i
    made-before i j text other it above q split = elim (cases_order j i) [
      | inl same ↦
          let directories_are : above.directory ≡ it.directory =
          directory-one j other it.directory above (ap (λ k. get_or missing k it.directory) same ∙ it.is) in
          let long = ap length split ∙ length-append above.at.place (q ∷ []) in
          let count = ap length (sym above.at.named ∙ ap names_of directories_are ∙ it.at.named) in
          absurd (omega (arith, long, count))
      | inr (inl less) ↦ less
      | inr (inr more) ↦
          absurd (makes.are_made.taken.are_missing.order i j more above.inside
          (IsBelow-spelled (get_or missing j []) (get_or missing i []) above.at.place q [] above.at.some
          (get_or_default missing j [] above.directory above.inside ∙ above.is ∙ above.at.spelled)
          (get_or_default missing i [] it.directory it.inside ∙ it.is ∙ it.at.spelled ∙ ap (join_with_byte slash) split)))
    ]

    -- the directory in which another is made is there
    held-made : (i : ℕ) (text : List ℕ) (it : IsMadeAt moves after staging missing i text) → i < length made
        → (front : List (List ℕ)) (q : List ℕ) → it.at.place ≡ front ++ q ∷ [] → front ≢ []
        → (top : List (List ℕ)) × (names_of text ≡ top ++ q ∷ [])
        × (HasOldDirectory entries actions 0 top ⊎ HasMadeDirectory actions (take i made) 0 top)
    held-made i text it within front q split some =
        by (ends.above-new run it.at.move it.at.within front (q ∷ it.at.rest) new some (not_empty [] q it.at.rest))
      where
        new : place_of (move_at moves it.at.move).new ≡ Some (front ++ q ∷ it.at.rest)
        new = it.at.new ∙ ap Some (ap (λ place. place ++ it.at.rest) split ∙ append_assoc front (q ∷ []) it.at.rest)

        by : IsNoneAt after (map name front) ⊎ IsDirectoryTo entries run.accepted.apart.after front
            → (top : List (List ℕ)) × (names_of text ≡ top ++ q ∷ [])
            × (HasOldDirectory entries actions 0 top ⊎ HasMadeDirectory actions (take i made) 0 top)
        by (inr to) = (
          carried (leaving actions) to.start,
          front-made it.directory it.at front q split (names_of text) (carried (leaving actions) to.start) it.from
              (ends.from-directory run staging makes.leave front to),
          inl (to.start, (to.number, to.entry, to.within, to.is, to.at), carried-coming actions 0 to.start),
        )
        by (inl none) =
            let (j, other, within_2, is, above, place_is) =
            made-above it.at.move it.at.within front (q ∷ it.at.rest) new some (not_empty [] q it.at.rest) none in
            let less : j < i = made-before i j text other it above q (split ∙ ap (λ front. front ++ q ∷ []) (sym place_is)) in
            let long : length (take i made) ≡ i = length-take-le i made (omega (arith, within)) in (
              names_of other,
              front-made it.directory it.at front q split (names_of text) (names_of other) it.from
                  (subst (λ front. IsMadeFrom moves staging front (names_of other)) place_is above.from),
              inr (
                j,
                other,
                omega (arith, less, long),
                get_or-take i made j other less ∙ is,
                refl,
              ),
            )

    -- nothing is where a directory is made
    free-made : (i : ℕ) (text : List ℕ) (it : IsMadeAt moves after staging missing i text)
        → ¬ IsThereAfter entries actions (length actions.staged + 0) (names_of text)
    free-made i text it there =
        let here : carried (leaving actions) there.start ≡ names_of text = sym (carried-coming actions 0 there.start) ∙ there.now in
        let comes : carried (renames_of actions) there.start ≡ it.at.place =
        carrying.carried-in_turn run there.start ∙ ap (carried (coming actions)) here ∙ carried-missing i text it in
        let of = ways.belongs run there.start it.at.place there.thing comes
        (directories.HasNoName-missing run after it.directory it.at) in
        none-comes it.directory it.at of.number of.within of.arrives

    -- two directories aren't made at one place
    unmade-made : (i : ℕ) (text : List ℕ) (it : IsMadeAt moves after staging missing i text) → i < length made
        → ¬ HasMadeDirectory actions (take i made) 0 (names_of text)
    unmade-made i text it within (j, other, inside, is, same) =
        let long : length (take i made) ≡ i = length-take-le i made (omega (arith, within)) in
        let less : j < i = omega (arith, inside, long) in
        let above = made-at j other (omega (arith, less, within)) (sym (get_or-take i made j other less) ∙ is) in
        let place_is : above.at.place ≡ it.at.place =
        sym (carried-missing j other above) ∙ ap (carried (coming actions)) same ∙ carried-missing i text it in
        makes.are_made.taken.are_missing.different j i [] less it.inside
        (get_or_default missing j [] above.directory above.inside ∙ above.is ∙ above.at.spelled
        ∙ ap (join_with_byte slash) place_is
        ∙ sym (get_or_default missing i [] it.directory it.inside ∙ it.is ∙ it.at.spelled))

    pub CanBeMade-made : CanBeMade entries actions made
    CanBeMade-made i text within is = by (last_view it.at.place)
      where
        it : IsMadeAt moves after staging missing i text
        it = made-at i text within is

        in_directory : (front : List (List ℕ)) (q : List ℕ) → it.at.place ≡ front ++ q ∷ []
            → IsOpen entries actions (take i made) 0 (names_of text)
        in_directory [] q split = record {
          directory = [];
          last = q;
          split = root-made it.directory it.at q split (names_of text) it.from;
          held = inl refl;
          free = free-made i text it;
          unmade = unmade-made i text it within;
        }
        in_directory (n ∷ front) q split =
            let (top, top_is, held) = held-made i text it within (n ∷ front) q split (not_empty [] n front) in
            record {
              directory = top;
              last = q;
              split = top_is;
              held = inr held;
              free = free-made i text it;
              unmade = unmade-made i text it within;
            }

        by : (it.at.place ≡ []) ⊎ ((front : List (List ℕ)) × (last : List ℕ) × (it.at.place ≡ front ++ last ∷ []))
            → IsOpen entries actions (take i made) 0 (names_of text)
        by (inl none) = absurd (it.at.some none)
        by (inr (front, q, split)) = in_directory front q split

    -- ---- each rename of `placed` leads to where something can come

    module _ (m : ℕ) (step : List ℕ × List ℕ) (within : m < length actions.placed) (is : get_or actions.placed m step ≡ step)
      where
        to : IsDestination entries moves changed step.1
        to = ways.destination run m step within is

        -- an entry comes to there
        comes-entry : (g : ℕ) × (g < length entries) × (place_of (components (get_or run.accepted.apart.after g [])) ≡ Some to.place)
        comes-entry =
            let of = ways.comes_belongs run m step within is in (of.number, of.within, of.arrives ∙ ap Some to.named)

        module _ (front : List (List ℕ)) (q : List ℕ) (split : to.place ≡ front ++ q ∷ []) where
          -- no later rename leads to the directory above, or to above it
          late : All (λ other. ¬ IsUnder front other.1) (drop m (coming actions))
          late j d inside (below, under) = by j (third j within_2) refl
            where
              within_2 : m + j < length actions.placed
              within_2 =
                  let long = length-drop m (coming actions) in
                  let count = length-map actions.placed rename_places in
                  omega (arith, inside, long, count, within)

              third : (j : ℕ) → m + j < length actions.placed
                  → (other : List ℕ × List ℕ) × (get_or actions.placed (m + j) other ≡ other)
              third j within_3 = element actions.placed (m + j) within_3

              here : (other : List ℕ × List ℕ) → get_or actions.placed (m + j) other ≡ other
                  → get_or (drop m (coming actions)) j d ≡ rename_places other
              here other is_2 =
                  get_or-drop m (coming actions) j d ∙ get_or-map_element rename_places actions.placed (m + j) other d within_2 is_2

              by : (k : ℕ) → (other : List ℕ × List ℕ) × (get_or actions.placed (m + j) other ≡ other) → k ≡ j → ⊥
              by zero (other, is_2) same =
                  let there : get_or actions.placed m other ≡ step =
                  get_or_default actions.placed m other step within ∙ is in
                  let same_2 : m + j ≡ m = omega (arith, same) in
                  let one : other ≡ step =
                  sym is_2 ∙ ap (λ k. get_or actions.placed k other) same_2 ∙ there in
                  let long = ap length under ∙ length-append (get_or (drop m (coming actions)) j d).1 below in
                  let long_2 = ap length (ap (λ (other : List (List ℕ) × List (List ℕ)). other.1) (here other is_2)
                  ∙ ap (λ (other : List ℕ × List ℕ). names_of other.1) one ∙ to.named ∙ split)
                  ∙ length-append front (q ∷ []) in
                  absurd (omega (arith, long, long_2))
              by (suc k) (other, is_2) same = later other is_2 (omega (arith, same))
                where
                  later : (other : List ℕ × List ℕ) → get_or actions.placed (m + j) other ≡ other → m < m + j → ⊥
                  later other is_2 less =
                      let other_to = ways.destination run (m + j) other within_2 is_2 in
                      let front_is : front ≡ other_to.place ++ below =
                      under ∙ ap (λ top. top ++ below)
                      (ap (λ (other : List (List ℕ) × List (List ℕ)). other.1) (here other is_2) ∙ other_to.named) in
                      let (n, ns, rest_is) = first_of (below ++ q ∷ []) (not_empty below q []) in
                      let place_is : to.place ≡ other_to.place ++ n ∷ ns =
                      split ∙ ap (λ front. front ++ q ∷ []) front_is ∙ append_assoc other_to.place below (q ∷ [])
                      ∙ ap (λ rest. other_to.place ++ rest) rest_is in
                      let second : List ℕ × List ℕ → List ℕ = λ step. step.1 in
                      run.above_first m (m + j) less (rw length-map within_2)
                      (IsBelow-spelled (get_or (map second actions.placed) (m + j) []) (get_or (map second actions.placed) m [])
                      other_to.place n ns other_to.some
                      (get_or-map_element second actions.placed (m + j) other [] within_2 is_2 ∙ other_to.spelled)
                      (get_or-map_element second actions.placed m step [] within is ∙ to.spelled ∙ ap (join_with_byte slash) place_is))

          -- so a directory of the tree that comes to the directory above is there
          early-old : (start : List (List ℕ)) → HasDirectoryAt entries start → carried (renames_of actions) start ≡ front
              → HasOldDirectory entries actions m front
          early-old start at comes = (
            start,
            at,
            carried-still (drop m (coming actions)) (carried (take (length actions.staged + m) (renames_of actions)) start) front late
                (ap (carried (drop m (coming actions))) (carried-coming actions m start)
                ∙ sym (carried-take (coming actions) m (carried (leaving actions) start)) ∙ sym (carrying.carried-in_turn run start)
                ∙ comes),
          )

          -- and so is one that is made
          early-made : (i : ℕ) (text : List ℕ) → i < length made → get_or made i text ≡ text
              → (it : IsMadeAt moves after staging missing i text) → it.at.place ≡ front → HasMadeDirectory actions made m front
          early-made i text within_2 is_2 it place_is = (
            i,
            text,
            within_2,
            is_2,
            carried-still (drop m (coming actions)) (carried (take m (coming actions)) (names_of text)) front late
                (sym (carried-take (coming actions) m (names_of text)) ∙ carried-missing i text it ∙ place_is),
          )

          -- what is above the new path of a move is there
          held-move : front ≢ [] → (k : ℕ) → k < length moves → place_of (move_at moves k).new ≡ Some to.place
              → HasOldDirectory entries actions m front ⊎ HasMadeDirectory actions made m front
          held-move some k inside new = by (ends.above-new run k inside front (q ∷ []) new_2 some (not_empty [] q []))
            where
              new_2 : place_of (move_at moves k).new ≡ Some (front ++ q ∷ [])
              new_2 = new ∙ ap Some split

              by : IsNoneAt after (map name front) ⊎ IsDirectoryTo entries run.accepted.apart.after front
                  → HasOldDirectory entries actions m front ⊎ HasMadeDirectory actions made m front
              by (inl none) =
                  let (i, text, within_2, is_2, it, place_is) =
                  made-above k inside front (q ∷ []) new_2 some (not_empty [] q []) none in
                  inr (early-made i text within_2 is_2 it place_is)
              by (inr one) =
                  inl (early-old one.start (one.number, one.entry, one.within, one.is, one.at) (ends.carried-to run front one))

          -- what is above the new path of a page is there
          held-page : front ≢ [] → (c : ℕ) → c < length changed → (target : List Step)
              → IsTreePath moves (path_at changed c) target → place_of target ≡ Some to.place
              → HasOldDirectory entries actions m front ⊎ HasMadeDirectory actions made m front
          held-page some c inside target (inr (left, same)) leads =
              let file = run.files c [] inside in
              let file_is : file.place ≡ front ++ q ∷ [] =
              some_of (sym file.leads ∙ sym (ap place_of same) ∙ leads) ∙ split in
              let (e, entry, within_2, is_2, at) = HasDirectoryAt-above entries pages run.whole false front q [] some
              (subst (λ place. Any (IsAt false place) entries) file_is file.file) in
              let stays : IsLeftInPlace moves (components entry.path) =
              IsLeftInPlace-above moves (path_at changed c) (components entry.path) file.place front (q ∷ []) file.leads at.leads
              file_is left in
              inl (early-old front (e, entry, within_2, is_2, at)
              (ends.carried-directory run (components entry.path) (components entry.path) front front at.leads
              (e, entry, within_2, is_2, at) (inr (stays, refl)) at.leads))
          held-page some c inside target (inl taken) leads = by (last_view taken.below)
            where
              j : ℕ
              j = taken.move

              file : LeadsToFile entries (path_at changed c)
              file = run.files c [] inside

              new : arrivals.IsNewPlace moves target j taken.below
              new = arrivals.taken_place run (path_at changed c) target taken

              place_is : to.place ≡ new.top ++ taken.below
              place_is = some_of (sym leads ∙ new.arrives)

              by : (taken.below ≡ []) ⊎ ((below : List (List ℕ)) × (last : List ℕ) × (taken.below ≡ below ++ last ∷ []))
                  → HasOldDirectory entries actions m front ⊎ HasMadeDirectory actions made m front
              by (inl none) =
                  held-move some j taken.nearest.takes.within
                  (new.leads ∙ ap Some (sym (place_is ∙ ap (λ below. new.top ++ below) none ∙ append-nil new.top)))
              by (inr (below, n, below_is)) =
                  let top = taken.nearest.takes.top in
                  let same : (new.top ++ below) ++ n ∷ [] ≡ front ++ q ∷ [] =
                  append_assoc new.top below (n ∷ []) ∙ ap (λ below. new.top ++ below) (sym below_is) ∙ sym place_is ∙ split in
                  let (front_is, last_is) = same_from_push (new.top ++ below) front n q same in
                  let file_is : file.place ≡ (top ++ below) ++ n ∷ [] =
                  some_of (sym file.leads ∙ taken.leads) ∙ taken.nearest.takes.down ∙ ap (λ below. top ++ below) below_is
                  ∙ sym (append_assoc top below (n ∷ [])) in
                  let (b, there) = carrying.old_entry run j taken.nearest.takes.within top taken.nearest.takes.old in
                  let some_top : top ≢ [] = IsAt-some entries pages run.whole b top there in
                  let (e, entry, within_2, is_2, at) =
                  HasDirectoryAt-above entries pages run.whole false (top ++ below) n [] (some_append top below some_top)
                  (subst (λ place. Any (IsAt false place) entries) file_is file.file) in
                  let target_is : IsTreePath moves (components entry.path) ((move_at moves j).new ++ map name below) =
                  inl (IsTakenTo-above moves (path_at changed c) (components entry.path) target taken below (n ∷ []) below_is at.leads) in
                  inl (early-old (top ++ below) (e, entry, within_2, is_2, at)
                  (ends.carried-directory run (components entry.path) ((move_at moves j).new ++ map name below)
                  (top ++ below) front at.leads (e, entry, within_2, is_2, at) target_is
                  (arrivals.place-below run (move_at moves j).new new.top below new.leads ∙ ap Some front_is)))

          held : (front ≡ []) ⊎ (HasOldDirectory entries actions m front ⊎ HasMadeDirectory actions made m front)
          held = by front refl
            where
              by : (place : List (List ℕ)) → front ≡ place
                  → (front ≡ []) ⊎ (HasOldDirectory entries actions m front ⊎ HasMadeDirectory actions made m front)
              by [] root = inl root
              by (n ∷ place) is_2 =
                  let some : front ≢ [] = λ none. not_empty [] n place (sym is_2 ∙ none) in
                  inr (elim to.why [
                    | inl (k, inside, new) ↦ held-move some k inside new
                    | inr (c, inside, target, target_is, leads) ↦ held-page some c inside target target_is leads
                  ])

        -- no directory that was made is there
        unmade : ¬ HasMadeDirectory actions made m (names_of step.1)
        unmade (i, text, within_2, is_2, there) =
            let it = made-at i text within_2 is_2 in
            let (g, inside, arrives) = comes-entry in
            let place_is : it.at.place ≡ to.place =
            sym (carried-missing i text it) ∙ carrying.carried-settled run m (names_of text) to.place (there ∙ to.named) to.ends in
            none-comes it.directory it.at g inside (arrives ∙ ap Some (sym place_is))

        open_at : IsOpen entries actions made m (names_of step.1)
        open_at = by (last_view to.place)
          where
            by : (to.place ≡ []) ⊎ ((front : List (List ℕ)) × (last : List ℕ) × (to.place ≡ front ++ last ∷ []))
                → IsOpen entries actions made m (names_of step.1)
            by (inl none) = absurd (to.some none)
            by (inr (front, q, split)) = record {
              directory = front;
              last = q;
              split = to.named ∙ split;
              held = held front q split;
              free = ways.IsFree-comes run m step within is;
              unmade = unmade;
            }

    pub CanCome-actions : CanCome entries actions made
    CanCome-actions m step within is = open_at m step within is
