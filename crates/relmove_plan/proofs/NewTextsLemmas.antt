-- New texts can be written to a tree of the entries; then it has the entries and the new files.
use Rattle.std.proofs.Common.{Bool, true, false, ◌≡◌, ◌≢◌, ◌⊎◌, ℕ, ◌<◌, List, [], ◌∷◌, ◌++◌, Contains, Option, Some, None, IsSome, length, map, get_or, inl, inr, refl, sym, ap, subst, ◌∙◌, arith}
use Rattle.std.proofs.lemmas.List.{get_or_default, length-map}
use Rattle.std.specs.List.{Any, join_with_byte}
use Rattle.relative_path.proofs.ForCallers.{walk-names}
use Rattle.relative_path.specs.Steps.{Step, components, name, slash}
use Rattle.relative_path.specs.Naming.{file_name_of}
use Rattle.relative_path.specs.Walk.{place_of}
use Rattle.relative_path_moves.specs.Moves.{Move}
use Rattle.relative_path_places.specs.PlaceIndex.{IsNoneAt, path_at}
use Rattle.relmove_checks.specs.Trees.{entry_paths}
use Rattle.relmove_checks.specs.declared.entry.Entry.{Entry}
use Rattle.relmove_checks.specs.declared.name_rule.NameRule.{NameRule}
use Rattle.relmove_plan.proofs.CarriedLemmas as carrying
use Rattle.relmove_plan.proofs.KnownRunsLemmas.{IsKnownRun}
use Rattle.relmove_plan.proofs.SourcesLemmas.{IsFrom, IsSource, IsSource-leaves, element, get_or-map_element, each-map}
use Rattle.relmove_plan.proofs.TreeAddsLemmas.{AreAddReady, CanAddAll, CanAddAll-ready, IsAddReady, added_or, adds-only, adds-stays, adds-there, after_adds, after_adds-whole}
use Rattle.relmove_plan.proofs.TreeStagesLemmas.{HasThings, StaysAside}
use Rattle.relmove_plan.proofs.WholeTreesLemmas.{HasDirectoryAt-above, IsNoneAt-entry, not_empty}
use Rattle.relmove_trees.specs.FileTrees.{Directory, File, IsWholeTree, Node, Place, Tree, names_of}
use Rattle.relmove_plan.specs.MovedTrees.{AreTakenTo}
use Rattle.relmove_plan.proofs.RunWords.{carried, renames_of}
use Rattle.relmove_plan.specs.WholeTrees.{HasDirectoryAt, IsAt}
use Rattle.relmove_steps.specs.Actions.{ActionTexts, staged_names, of_text}
use Rattle.relmove_trees.proofs.FileTreesLemmas.{some_is}

-- a new text as a node
abbrev pub text_at : List ℕ × List ℕ × List ℕ → Place × Node
text_at new = (names_of new.1, File new.2)

-- a thing that is no entry: it keeps out of the way, and the renames carry it where the moves take it
pub record IsAside (moves : List Move) (changed : List (List Step)) (actions : ActionTexts) (made : List (List ℕ))
    (place : Place) : Type 0 where
  pub stays : StaysAside actions made place
  pub to : Place
  pub taken : AreTakenTo moves place to
  pub carries : carried (renames_of actions) place ≡ to
  pub unchanged : IsNoneAt changed (map name place)
  pub no_file : (new : List ℕ × List ℕ × List ℕ) → Contains actions.texts new → names_of new.1 ≢ place

-- the tree has the entries, and what else it has is aside
pub record IsTreeOf (entries : List Entry) (moves : List Move) (changed : List (List Step)) (actions : ActionTexts) (made : List (List ℕ))
    (start : Tree) : Type 0 where
  pub whole_tree : IsWholeTree start
  pub directories : (place : Place) → Any (IsAt true place) entries → start place ≡ Some Directory
  pub files : (place : Place) → Any (IsAt false place) entries → IsSome (start place)
  pub pages : (c : ℕ) → c < length changed → (place : Place) → place_of (path_at changed c) ≡ Some place
      → (bytes : List ℕ) × (start place ≡ Some (File bytes))
  pub only : (place : Place) → IsSome (start place)
      → (place ≡ []) ⊎ (((b : Bool) × Any (IsAt b place) entries) ⊎ IsAside moves changed actions made place)

-- the file of a new text is in a directory of the tree, where no entry is
pub record IsFileAt (entries : List Entry) (new : List ℕ × List ℕ × List ℕ) : Type 0 where
  pub front : Place
  pub last : List ℕ
  pub split : names_of new.1 ≡ front ++ last ∷ []
  pub held : (front ≡ []) ⊎ HasDirectoryAt entries front
  pub unused : (b : Bool) → ¬ Any (IsAt b (names_of new.1)) entries
  pub spelled : new.1 ≡ join_with_byte slash (names_of new.1)

module _ {entries : List Entry} {pages changed : List (List Step)} {moves : List Move} {rule : NameRule} {actions : ActionTexts}
    (run : IsKnownRun entries pages changed moves rule actions)
  where
    pub file_at : (new : List ℕ × List ℕ × List ℕ) → Contains actions.texts new → IsFileAt entries new
    file_at new has = by src.is_from
      where
        src : IsSource entries moves changed (staged_names actions) new.1
        src =
            IsSource-leaves entries pages run.whole moves changed run.files run.accepted.apart.come.leave.olds actions run.own new.1
            (of_text new.0 new.2 has)

        unused : IsNoneAt (entry_paths entries) (map name src.place) → (b : Bool) → ¬ Any (IsAt b (names_of new.1)) entries
        unused none b at =
            IsNoneAt-entry entries (map name src.place) b src.place none (walk-names [] src.place)
            (subst (λ place. Any (IsAt b place) entries) src.named at)

        no_entry : (b : Bool) → ¬ Any (IsAt b src.place) entries
        no_entry b at =
            let (t, within, is) = has in
            let none = run.own.unused t new within in
            IsNoneAt-entry entries _ b src.place none
            (ap (λ (new : List ℕ × List ℕ × List ℕ). place_of (components new.1)) is ∙ src.leads) at

        held : (front : Place) (last : List ℕ) → front ++ last ∷ [] ≡ front ++ last ∷ []
            → Any (IsAt false (front ++ last ∷ [])) entries
            → (front ≡ []) ⊎ HasDirectoryAt entries front
        held [] last is file = inl refl
        held (x ∷ front) last is file =
            inr (HasDirectoryAt-above entries pages run.whole false (x ∷ front) last [] (λ none. absurd (let e = none in cc)) file)

        by : IsFrom entries moves changed (staged_names actions) src.place → IsFileAt entries new
        by (IsFrom.from_move k within leads) =
            let (b, at) = carrying.old_entry run k within src.place leads in absurd (no_entry b at)
        by (IsFrom.from_page k within file same) =
            absurd (no_entry false (subst (λ place. Any (IsAt false place) entries) (sym same) file.file))
        by (IsFrom.from_file k within top front n last split same none no_name) = record {
          front = front;
          last = n;
          split = src.named ∙ same;
          held = held front last refl (subst (λ place. Any (IsAt false place) entries) split top.file);
          unused = unused none;
          spelled = src.spelled ∙ ap (join_with_byte slash) (sym src.named);
        }

    module _ (made : List (List ℕ)) (start : Tree) (of : IsTreeOf entries moves changed actions made start) where
      abbrev pub files : List (Place × Node)
      files = map text_at actions.texts

      start_none : (new : List ℕ × List ℕ × List ℕ) → Contains actions.texts new → start (names_of new.1) ≡ None
      start_none new has = by (start (names_of new.1)) refl
        where
          by : (o : Option Node) → start (names_of new.1) ≡ o → start (names_of new.1) ≡ None
          by None is = is
          by (Some node) is =
              let it = file_at new has in
              elim (of.only (names_of new.1) (some_is (Some node) (start (names_of new.1)) (sym is) refl)) [
                | inl root ↦ absurd (not_empty it.front it.last [] (sym it.split ∙ root))
                | inr (inl (b, at)) ↦ absurd (it.unused b at)
                | inr (inr aside) ↦ absurd (aside.no_file new has refl)
              ]

      write_ready-at : (k : ℕ) (new : List ℕ × List ℕ × List ℕ) → k < length actions.texts
          → get_or actions.texts k new ≡ new
          → IsAddReady start files k (names_of new.1)
      write_ready-at k new within is =
          let it = file_at new (k, within, is) in
          record {
            top = it.front;
            last = it.last;
            split = it.split;
            held = inl (elim it.held [
              | inl root ↦ ap start root ∙ of.whole_tree.root
              | inr at ↦ of.directories it.front at
            ]);
            none = start_none new (k, within, is);
            unmade = unmade;
          }
        where
          unmade : (j : ℕ) (d : Place × Node) → j < k → names_of new.1 ≢ (get_or files j d).0
          unmade j d less same =
              let within_2 : j < length actions.texts = omega (arith, less, within) in
              let (other, other_is) = element actions.texts j within_2 in
              let here : names_of new.1 ≡ names_of other.1 =
              same ∙ ap (λ (new : Place × Node). new.0) (get_or-map_element text_at actions.texts j other d within_2 other_is) in
              run.own.different j k new less within
              (ap file_name_of
              (ap (λ (new : List ℕ × List ℕ × List ℕ). new.1) (get_or_default actions.texts j new other within_2 ∙ other_is)
              ∙ (file_at other (j, within_2, other_is)).spelled ∙ ap (join_with_byte slash) (sym here)
              ∙ sym (file_at new (k, within, is)).spelled ∙ ap (λ (new : List ℕ × List ℕ × List ℕ). new.1) (sym is)))

      write_ready : AreAddReady start files
      write_ready = each-map text_at actions.texts (λ k new. IsAddReady start files k new.0) write_ready-at

      pub can_write-all : CanAddAll files start
      can_write-all = CanAddAll-ready files start of.whole_tree write_ready

      abbrev pub written : Tree
      written = after_adds files start

      pub written-stays : (place : Place) → IsSome (start place) → written place ≡ start place
      written-stays place some = adds-stays files start can_write-all place some

      pub written-there : (new : List ℕ × List ℕ × List ℕ) → Contains actions.texts new
          → written (names_of new.1) ≡ Some (File new.2)
      written-there new (k, within, is) =
          adds-there files start can_write-all k (text_at new) (rw length-map within)
          (get_or-map_element text_at actions.texts k new (text_at new) within is)

      entry_there : (b : Bool) (place : Place) → Any (IsAt b place) entries → IsSome (start place)
      entry_there true place at = some_is _ _ (sym (of.directories place at)) refl
      entry_there false place at = of.files place at

      pub has_things : HasThings entries actions made written
      has_things = record {
        whole_tree = after_adds-whole files start of.whole_tree can_write-all;
        there = λ place thing. elim thing [
          | inl (b, at) ↦ some_is _ _ (sym (written-stays place (entry_there b place at))) (entry_there b place at)
          | inr (k, new, within, is, same) ↦
              subst (λ place. IsSome (written place)) same (some_is _ _ (sym (written-there new (k, within, is))) refl)
        ];
        directories = λ place at. written-stays place (entry_there true place at) ∙ of.directories place at;
        only = λ place some. elim (added_or text_at actions.texts place) [
          | inl file ↦ inr (inl (inr file))
          | inr none ↦ elim (of.only place (some_is _ _ (adds-only files start place none) some)) [
            | inl root ↦ inl root
            | inr (inl entry) ↦ inr (inl (inl entry))
            | inr (inr aside) ↦ inr (inr aside.stays)
          ]
        ];
      }
