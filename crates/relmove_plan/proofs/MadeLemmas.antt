-- The directories that a run makes come to those that are missing above new paths.
use Rattle.std.proofs.Common.{All, false, ◌≡◌, ◌≢◌, ◌⊎◌, ℕ, ◌<◌, ◌≤◌, List, [], ◌∷◌, ◌++◌, Contains, Some, length, map, get_or, inl, inr, refl, sym, ap, subst, ◌∙◌, append_assoc, append-nil, not, arith}
use Rattle.std.specs.List.{AllZip, join_with_byte, zip}
use Rattle.std.proofs.Math.Seq.{take-append_seam}
use Rattle.std.proofs.lemmas.List.{get_or-map, length-map, map-append}
use Rattle.std.proofs.lemmas.List.Elements.{All-tail, All-take}
use Rattle.std.proofs.lemmas.Slice.Zip.{get_or-zip, length-zip, AllZip-long}
use Rattle.relative_path.specs.Steps.{Step, name, components, slash}
use Rattle.relative_path.specs.Walk.{place_of}
use Rattle.relative_path.specs.Normalizing.{IsNormalTextOf}
use Rattle.relative_path.proofs.ForCallers.{IsSame-sym, components-place, walk-names}
use Rattle.relative_path_moves.specs.Moves.{Move, move_at}
use Rattle.relative_path_places.specs.PlaceIndex.{IsNoneAt}
use Rattle.relative_path_moves.specs.TreeMoves.{AtTreePath, IsTakenTo, IsTreePath, TakesAlong}
use Rattle.relmove_checks.specs.declared.entry.Entry.{Entry}
use Rattle.relmove_checks.specs.declared.name_rule.NameRule.{NameRule}
use Rattle.relmove_checks.specs.Moves.{move_of}
use Rattle.relmove_checks.specs.Trees.{HasAt, is_file}
use Rattle.relmove_steps.specs.Directories.{AreMade, IsMissingText, IsTextTakenTo, LeavesTo, LeaveToNames, moves_to_names, IsMissing}
use Rattle.relmove_trees.specs.FileTrees.{names_of}
use Rattle.relmove_plan.proofs.RunWords.{carried, IsMadeFor, DirectoriesArrive}
use Rattle.relmove_steps.specs.Actions.{ActionTexts}
use Rattle.relmove_plan.proofs.CarriedLemmas.{HasNoName, coming, is_reserved_text}
use Rattle.relmove_plan.proofs.CarriedLemmas as carrying
use Rattle.relmove_plan.proofs.ArrivalsLemmas as arrivals
use Rattle.relmove_plan.proofs.ComingLemmas as coming_names
use Rattle.relmove_plan.proofs.KnownRunsLemmas.{IsKnownRun}
use Rattle.relmove_plan.proofs.PlacesLemmas.{names_of-normal, spelled-place, HasDirectory-names, HasDirectory-place}
use Rattle.relmove_plan.proofs.SourcesLemmas.{element}
use Rattle.relmove_plan.proofs.WholeTreesLemmas.{IsSame-one_place, some_of, map_none}
use Rattle.relmove_checks.proofs.ForCallers.{AllZip-at}

-- a list has one normal text
IsNormalTextOf-one : (cs : List Step) (one other : List ℕ) → IsNormalTextOf cs one → IsNormalTextOf cs other → one ≡ other
IsNormalTextOf-one cs one other is is_2 = is_2.only one is.normal_text is.same

right-empty : {X : Type 0} (xs ys : List X) → xs ++ ys ≡ [] → ys ≡ []
right-empty [] ys none = none
right-empty (x ∷ xs) ys none = absurd (let count = ap length none in omega (arith, count))

-- what holds of both elements holds of the lists, place by place
AllZip-with : {X Y : Type 0} (P : X → Type 0) (R Q : X → Y → Type 0) → ((x : X) (y : Y) → P x → R x y → Q x y)
    → (xs : List X) (ys : List Y) → All P xs → AllZip R xs ys → AllZip Q xs ys
AllZip-with P R Q next [] [] each zipped = zipped
AllZip-with P R Q next [] (y ∷ ys) each zipped = zipped
AllZip-with P R Q next (x ∷ xs) [] each zipped = zipped
AllZip-with P R Q next (x ∷ xs) (y ∷ ys) each zipped = (
  next x y (each 0 x (omega arith)) zipped.0,
  AllZip-with P R Q next xs ys (All-tail P x xs each) zipped.1,
)

-- ---- directories above new paths

-- the place is at the new path of move number j, or below it
pub record IsUnderNew (moves : List Move) (place : List (List ℕ)) (j : ℕ) (below : List (List ℕ)) : Type 0 where
  pub within : j < length moves
  pub top : List (List ℕ)
  pub leads : place_of (move_at moves j).new ≡ Some top
  pub down : place ≡ top ++ below

-- before the renames of `placed`, what comes to the place is there already, if no new path is there or above; or it is at
-- the name to which the move with the nearest such path leaves, or below it
pub data IsMadeFrom (moves : List Move) (staging : List (List ℕ)) (place made : List (List ℕ)) : Type 0 where
  from_place : ((j : ℕ) (below : List (List ℕ)) → ¬ IsUnderNew moves place j below) → made ≡ place
      → IsMadeFrom moves staging place made
  from_name : (j : ℕ) (below : List (List ℕ)) → IsUnderNew moves place j below
      → ((k : ℕ) (others : List (List ℕ)) → IsUnderNew moves place k others → length below ≤ length others)
      → made ≡ get_or staging j [] ∷ below → IsMadeFrom moves staging place made

-- the directory of the text is above the new path of a move, and none of the paths after the moves leads there
pub record IsMissingAt (moves : List Move) (after : List (List Step)) (text : List ℕ) : Type 0 where
  pub move : ℕ
  pub within : move < length moves
  pub place : List (List ℕ)
  pub named : names_of text ≡ place
  pub spelled : text ≡ join_with_byte slash place
  pub leads : place_of (components text) ≡ Some place
  pub rest : List (List ℕ)
  pub new : place_of (move_at moves move).new ≡ Some (place ++ rest)
  pub some : place ≢ []
  pub some_rest : rest ≢ []
  pub fine : arrivals.NotReserved place
  pub none : IsNoneAt after (map name place)

module _ {entries : List Entry} {pages changed : List (List Step)} {moves : List Move} {rule : NameRule} {actions : ActionTexts}
    (run : IsKnownRun entries pages changed moves rule actions)
  where
    -- ---- what leaves to a name, and what comes from there

    -- what leaves from the old path of a move comes to its new path, or a page that changes is there
    comes-move : (k : ℕ) → k < length moves → (staging : List ℕ) → LeavesTo actions (move_at moves k).old staging
        → ((to : List ℕ) × IsNormalTextOf (move_at moves k).new to × Contains actions.placed (staging, to))
        ⊎ (¬ IsNoneAt changed (move_at moves k).old)
    comes-move k within staging (old, is, leaves) = elim (coming_names.move_or run k within) [
      | inl carries ↦
          let same : carries.carries.staging ≡ staging =
          coming_names.left_one run old carries.carries.staging staging
          (subst (λ from. Contains actions.staged (from, carries.carries.staging))
          (IsNormalTextOf-one (move_at moves k).old carries.old old carries.old_of is) carries.carries.leaves)
          leaves in
          inl (carries.new, carries.new_of, subst (λ name. Contains actions.placed (name, carries.new)) same carries.carries.comes)
      | inr (c, inside, there) ↦ inr (λ none. none c inside (IsSame-sym there))
    ]

    -- ---- directories above new paths

    -- after the moves no file is above a new path
    pub no_file-above : (k : ℕ) → k < length moves → (front rest : List (List ℕ))
        → place_of (move_at moves k).new ≡ Some (front ++ rest) → front ≢ [] → rest ≢ []
        → ¬ HasAt is_file moves entries (map name front)
    no_file-above k within front rest leads some some_rest file =
        let (normal, normal_is, none) = run.accepted.below_no_file k within in
        none (record {
          front = map name front;
          rest = map name rest;
          split = components-place normal_is leads ∙ map-append name front rest;
          some_front = λ none. some (map_none name front none);
          some_rest = λ none. some_rest (map_none name rest none);
          there = file;
        })

    -- what is at the old path of a move comes to its new path
    pub AtTreePath-move : (j : ℕ) (cs : List Step) (place top : List (List ℕ)) → j < length moves → place_of cs ≡ Some place
        → place_of (move_at moves j).old ≡ Some place → place_of (move_at moves j).new ≡ Some top
        → AtTreePath moves cs (λ target. place_of target ≡ Some top)
    AtTreePath-move j cs place top within leads old new = (
      (move_at moves j).new ++ map name [],
      inl (record {
        place = place;
        leads = leads;
        move = j;
        below = [];
        nearest = record {
          takes = record { within = within; top = place; old = old; down = sym (append-nil place) };
          nearest = λ k others takes. omega arith;
        };
        new = refl;
      }),
      arrivals.place-below run (move_at moves j).new top [] new ∙ ap Some (append-nil top),
    )

    -- so no page that changes comes to above a new path
    unchanged-above : (k j : ℕ) → k < length moves → j < length moves → (top below : List (List ℕ))
        → place_of (move_at moves j).new ≡ Some top → place_of (move_at moves k).new ≡ Some (top ++ below) → top ≢ []
        → below ≢ [] → IsNoneAt changed (move_at moves j).old
    unchanged-above k j within within_2 top below leads new some some_below = λ c l same.
        let file = run.files c [] l in
        let (e, entry, within_3, is, at) = file.file in
        let (target, target_is, arrives) =
        AtTreePath-move j (components entry.path) file.place top within_2 at.leads
        (same.everywhere [] ∙ file.leads) leads in
        no_file-above k within top below new some some_below (
          e,
          entry,
          within_3,
          is,
          record { kind = ap not at.kind; there = (target, target_is, IsSame-one_place top arrives (walk-names [] top)) },
        )

    -- what is known of a directory that is missing above a new path
    pub missing-at : (after : List (List Step)) (text : List ℕ) → IsMissingText moves after text → IsMissingAt moves after text
    missing-at after text (ds, missing, is) =
        let k = missing.move in
        let (top, new, some_top, fine) = arrivals.new_place run k missing.within in
        let (place, rest, split, names_are, some, some_rest) =
        HasDirectory-place (move_at moves k).new ds missing.above.normal top missing.above.normal_of new missing.above.above in
        let leads : place_of ds ≡ Some place = ap place_of names_are ∙ walk-names [] place in
        record {
          move = k;
          within = missing.within;
          place = place;
          named = names_of-normal ds text place is leads;
          spelled = spelled-place ds text place is leads;
          leads = sym (is.same.everywhere []) ∙ leads;
          rest = rest;
          new = new ∙ ap Some split;
          some = some;
          some_rest = some_rest;
          fine = subst arrivals.NotReserved (take-append_seam place rest)
              (All-take (λ n. is_reserved_text n ≡ false) (length place) (place ++ rest) (subst arrivals.NotReserved split fine));
          none = subst (IsNoneAt after) names_are missing.none;
        }

    -- a directory above a new path is missing, if no entry is there after the moves
    pub IsMissing-above : (after : List (List Step)) (k : ℕ) → k < length moves → (front rest : List (List ℕ))
        → place_of (move_at moves k).new ≡ Some (front ++ rest) → front ≢ [] → rest ≢ [] → IsNoneAt after (map name front)
        → IsMissing moves after (map name front)
    IsMissing-above after k within front rest leads some some_rest none =
        let (normal, normal_of, clear) = run.accepted.below_no_file k within in
        record {
          move = k;
          within = within;
          above = record {
            normal = normal;
            normal_of = normal_of;
            above = HasDirectory-names (move_at moves k).new normal front rest normal_of leads some some_rest;
          };
          none = none;
        }

    -- what is made comes to a missing directory
    pub missing-made : (after : List (List Step)) (made : List (List ℕ)) (arrive : DirectoriesArrive moves after actions made) (i : ℕ)
        (text : List ℕ) → i < length made → get_or made i text ≡ text
        → (directory : List ℕ) × (at : IsMissingAt moves after directory) × (carried (coming actions) (names_of text) ≡ at.place)
    missing-made after made arrive i text within is =
        let long = AllZip-long (IsMadeFor actions) arrive.missing made arrive.arrive in
        let inside : i < length arrive.missing = omega (arith, within, long) in
        let (directory, directory_is) = element arrive.missing i inside in
        let at = missing-at after directory
        (subst (IsMissingText moves after) directory_is (arrive.are_missing.sound i directory inside)) in (
          directory,
          at,
          ap (λ text. carried (coming actions) (names_of text)) (sym is)
              ∙ AllZip-at (IsMadeFor actions) arrive.missing made i directory text arrive.arrive inside ∙ ap names_of directory_is
              ∙ at.named,
        )

    -- no staging name is at a missing directory or above it
    pub HasNoName-missing : (after : List (List Step)) (text : List ℕ) (missing : IsMissingAt moves after text)
        → HasNoName entries missing.place
    HasNoName-missing after text missing =
        subst (HasNoName entries) (append-nil missing.place)
        (arrivals.HasNoName-reserved run missing.place [] missing.some missing.fine)

    module _ (after : List (List Step)) (staging : List (List ℕ)) (leave : LeaveToNames moves staging actions) where
      -- the name to which the old path of a move leaves is one name
      single_name : (j : ℕ) → j < length moves
          → components (get_or staging j []) ≡ name (get_or staging j []) ∷ []
      single_name j within =
          let (old, is, leaves) = leave.each j within in
          carrying.staging_single run (get_or staging j [])
          (carrying.has_name run leaves.0 (old, get_or staging j []) leaves.1 leaves.2)

      abbrev news : List Move
      news = moves_to_names moves staging

      long-zip : length (zip moves staging) ≡ length moves
      long-zip = let long = length-zip moves staging in let count = leave.count in omega (arith, long, count)

      -- a move from a new path to a name
      new_at : (j : ℕ) → j < length moves
          → move_at news j ≡ move_of (move_at moves j).new (components (get_or staging j []))
      new_at j within =
          let none : Move = record { old = []; new = [] } in
          let within_2 : j < length staging = rw leave.count within in
          let pairs : get_or (zip moves staging) j (none, []) ≡ (get_or moves j none, get_or staging j []) =
          get_or-zip moves staging j (none, []) within within_2 in
          get_or-map (λ (pair : Move × List ℕ). move_of pair.0.new (components pair.1)) (zip moves staging) j (none, []) none
          (rw long-zip within)
          ∙ ap (λ (pair : Move × List ℕ). move_of pair.0.new (components pair.1)) pairs

      -- the moves from the new paths to the names take along what is at the new paths and below them
      takes-new : (place : List (List ℕ)) (j : ℕ) (below : List (List ℕ)) → IsUnderNew moves place j below
          → TakesAlong news place j below
      takes-new place j below under = record {
        within = rw (length-map, long-zip) under.within;
        top = under.top;
        old = ap (λ (move : Move). place_of move.old) (new_at j under.within) ∙ under.leads;
        down = under.down;
      }

      new-takes : (place : List (List ℕ)) (j : ℕ) (below : List (List ℕ)) → TakesAlong news place j below
          → IsUnderNew moves place j below
      new-takes place j below takes =
          let within : j < length moves = rw (length-map, long-zip) at takes.within in
          record {
            within = within;
            top = takes.top;
            leads = ap (λ (move : Move). place_of move.old) (sym (new_at j within)) ∙ takes.old;
            down = takes.down;
          }

      -- what the moves to the names take along comes to a name, or below it
      taken_to : (cs target : List Step) (taken : IsTakenTo news cs target)
          → place_of target ≡ Some (get_or staging taken.move [] ∷ taken.below)
      taken_to cs target taken =
          let j = taken.move in
          let within : j < length moves = rw (length-map, long-zip) at taken.nearest.takes.within in
          let target_is : target ≡ map name (get_or staging j [] ∷ taken.below) =
          taken.new ∙ ap (λ (move : Move). move.new ++ map name taken.below) (new_at j within)
          ∙ ap (λ cs. cs ++ map name taken.below) (single_name j within) in
          ap place_of target_is ∙ walk-names [] (get_or staging j [] ∷ taken.below)

      -- a missing directory is made at a place, and not at the root
      pub made-leads : (directory : List ℕ) (target : List Step) (missing : IsMissingAt moves after directory)
          → IsTreePath news (components directory) target
          → (place : List (List ℕ)) × (place ≢ []) × (place_of target ≡ Some place)
      made-leads directory target missing (inl taken) = (
        get_or staging taken.move [] ∷ taken.below,
        λ none. cc none,
        taken_to (components directory) target taken,
      )
      made-leads directory target missing (inr (left, same)) = (missing.place, missing.some, ap place_of same ∙ missing.leads)

      -- where a missing directory is made
      pub made-from : (directory made : List ℕ) (missing : IsMissingAt moves after directory) → IsTextTakenTo news directory made
          → IsMadeFrom moves staging missing.place (names_of made)
      made-from directory made missing (target, is, made_is) = by is
        where
          by : IsTreePath news (components directory) target → IsMadeFrom moves staging missing.place (names_of made)
          by (inr (left, same)) =
              IsMadeFrom.from_place
              (λ j below under. left missing.place j below missing.leads (takes-new missing.place j below under))
              (names_of-normal target made missing.place made_is (ap place_of same ∙ missing.leads))
          by (inl taken) =
              let j = taken.move in
              let place_is : taken.place ≡ missing.place = some_of (sym taken.leads ∙ missing.leads) in
              IsMadeFrom.from_name j taken.below
              (new-takes missing.place j taken.below
              (subst (λ place. TakesAlong news place j taken.below) place_is taken.nearest.takes))
              (λ k others under.
              taken.nearest.nearest k others
              (subst (λ place. TakesAlong news place k others) (sym place_is) (takes-new missing.place k others under)))
              (names_of-normal target made (get_or staging j [] ∷ taken.below) made_is
              (taken_to (components directory) target taken))

      -- a directory that is made there comes to the missing one
      pub carried-made : (directory : List ℕ) (missing : IsMissingAt moves after directory) (made : List (List ℕ))
          → IsMadeFrom moves staging missing.place made → carried (coming actions) made ≡ missing.place
      carried-made directory missing made (IsMadeFrom.from_place none here) =
          ap (carried (coming actions)) here
          ∙ carrying.carried-unmoved run missing.place (HasNoName-missing after directory missing)
      carried-made directory missing made (IsMadeFrom.from_name j below under nearest here) =
          elim (comes-move j under.within (get_or staging j []) (leave.each j under.within)) [
            | inl (to, to_is, comes) ↦
                ap (carried (coming actions)) here
                ∙ carrying.carried-on run (get_or staging j []) to below under.top comes
                (names_of-normal (move_at moves j).new to under.top to_is under.leads)
                (subst (HasNoName entries) under.down (HasNoName-missing after directory missing))
                ∙ sym under.down
            | inr changes ↦
                absurd (changes (unchanged-above missing.move j missing.within under.within under.top (below ++ missing.rest)
                under.leads
                (missing.new ∙ ap Some (ap (λ place. place ++ missing.rest) under.down
                ∙ append_assoc under.top below missing.rest))
                (λ none. (arrivals.new_place run j under.within).2
                (some_of (sym (arrivals.new_place run j under.within).1 ∙ under.leads) ∙ none))
                (λ none. missing.some_rest (right-empty below missing.rest none))))
          ]

      -- the directories that are made come to the missing ones
      pub DirectoriesArrive-made : (made : List (List ℕ)) → AreMade moves staging after made
          → DirectoriesArrive moves after actions made
      DirectoriesArrive-made made are = record {
        missing = are.taken.missing;
        are_missing = are.taken.are_missing;
        arrive = AllZip-with (IsMissingText moves after) (IsTextTakenTo news) (IsMadeFor actions)
            (λ directory made missing taken.
            let at = missing-at after directory missing in
            carried-made directory at (names_of made) (made-from directory made at taken) ∙ sym at.named)
            are.taken.missing made are.taken.are_missing.sound are.taken.taken;
      }
