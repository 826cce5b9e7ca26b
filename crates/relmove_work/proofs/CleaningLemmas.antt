-- The last stage: when old texts are gone, both trees are one.
use Rattle.std.proofs.Common.{◌≡◌, ◌≢◌, ◌⊎◌, ℕ, zero, suc, List, [], ◌∷◌, ◌++◌, Some, None, String, length, map, take, inl, inr, refl, sym, ap, subst, ◌∙◌, arith}
use Rattle.std.specs.List.{AllZip, slice_get}
use Rattle.std.proofs.lemmas.Option.{slice_get_within}
use Rattle.std.specs.declared.alloc.Global.{Global}
use Rattle.relmove_actions.specs.declared.actions.Rename.{Rename as RunRename}
use Rattle.relmove_journal.specs.declared.work.Leftover.{Leftover}
use Rattle.relmove_journal.specs.declared.work.Leftover.TheVariants.{Text, Directory}
use Rattle.relmove_journal.specs.declared.text_digest.TextDigest.{TextDigest}
use Rattle.relmove_journal.specs.declared.work.TextFile.{TextFile}
use Rattle.relmove_trees.specs.FileTrees.{IsUnder, Place, Tree, after_rename, with_node}
use Rattle.relmove_trees.specs.TreeActions.{Action, Clear, LeadTo, Make, Remove, Rename}
use Rattle.relmove_trees.proofs.FileTreesLemmas.{after_rename-elsewhere, after_rename-from, under_or, with_node-at, with_node-elsewhere}
use Rattle.relmove_stages.specs.StageActions.{HasText, IsAfter, LeadsTo, StageAction, place_of}
use Rattle.relmove_stages.specs.Stages.{cleans, makes, removes, takes}
use Rattle.relmove_stages.proofs.ActionLemmas.{none_stays}
use Rattle.relmove_work.proofs.SeenTreesLemmas.{ArePairs, IsElsewhere, IsSeen, Matches, Outside, Paired, seen-node}
use Rattle.relmove_work.proofs.StagedLemmas.{IsNow, IsPair, Step}

-- ---- lists

pub zip-right : {X Y : Type 0} (R : X → Y → Type 0) (xs : List X) (ys : List Y) → AllZip R xs ys → (j : ℕ) (y : Y)
    → slice_get ys j ≡ Some y → (x : X) × (slice_get xs j ≡ Some x) × R x y
zip-right R [] [] zipped j y at = absurd (cc at)
zip-right R [] (z ∷ ys) zipped j y at = absurd zipped
zip-right R (x ∷ xs) [] zipped j y at = absurd zipped
zip-right R (x ∷ xs) (z ∷ ys) zipped zero y at = let same : z ≡ y = cc at in (x, refl, subst (R x) same zipped.0)
zip-right R (x ∷ xs) (z ∷ ys) zipped (suc j) y at = zip-right R xs ys zipped.1 j y at

pub zip-left : {X Y : Type 0} (R : X → Y → Type 0) (xs : List X) (ys : List Y) → AllZip R xs ys → (j : ℕ) (x : X)
    → slice_get xs j ≡ Some x → (y : Y) × (slice_get ys j ≡ Some y) × R x y
zip-left R [] [] zipped j x at = absurd (cc at)
zip-left R [] (y ∷ ys) zipped j x at = absurd zipped
zip-left R (z ∷ xs) [] zipped j x at = absurd zipped
zip-left R (z ∷ xs) (y ∷ ys) zipped zero x at = let same : z ≡ x = cc at in (y, refl, subst (λ z. R z y) same zipped.0)
zip-left R (z ∷ xs) (y ∷ ys) zipped (suc j) x at = zip-left R xs ys zipped.1 j x at

pub zip-weaker : {X Y : Type 0} (R S : X → Y → Type 0) → ((x : X) (y : Y) → R x y → S x y) → (xs : List X) (ys : List Y)
    → AllZip R xs ys → AllZip S xs ys
zip-weaker R S more [] [] zipped = tt
zip-weaker R S more [] (y ∷ ys) zipped = absurd zipped
zip-weaker R S more (x ∷ xs) [] zipped = absurd zipped
zip-weaker R S more (x ∷ xs) (y ∷ ys) zipped = (more x y zipped.0, zip-weaker R S more xs ys zipped.1)

pub zip-map : {X Y Z : Type 0} (f : X → Z) (g : Y → Z) (xs : List X) (ys : List Y) → AllZip (λ x y. f x ≡ g y) xs ys
    → map f xs ≡ map g ys
zip-map f g [] [] zipped = refl
zip-map f g [] (y ∷ ys) zipped = absurd zipped
zip-map f g (x ∷ xs) [] zipped = absurd zipped
zip-map f g (x ∷ xs) (y ∷ ys) zipped =
    ap (λ z. z ∷ map f xs) zipped.0 ∙ ap (λ zs. g y ∷ zs) (zip-map f g xs ys zipped.1)

-- ---- actions of stages

pub leads-takes : (renames : List RunRename) (P : Tree → Type 0) (tree : Tree)
    → LeadTo (map (λ r. Rename (place_of r.from) (place_of r.to)) renames) P tree → LeadsTo (map takes renames) P tree
leads-takes [] P tree leads = leads
leads-takes (rename ∷ renames) P tree leads = (leads.0, λ next acts. leads-takes renames P next (leads.1 next acts))

pub leads-makes : (paths : List (String Global)) (P : Tree → Type 0) (tree : Tree)
    → LeadTo (map (λ path. Make (place_of path)) paths) P tree → LeadsTo (map makes paths) P tree
leads-makes [] P tree leads = leads
leads-makes (path ∷ paths) P tree leads = (leads.0, λ next acts. leads-makes paths P next (leads.1 next acts))

pub leads-clears : (paths : List (String Global)) (P : Tree → Type 0) (tree : Tree)
    → LeadTo (map (λ path. Clear (place_of path)) paths) P tree → LeadsTo (map cleans (map Directory paths)) P tree
leads-clears [] P tree leads = leads
leads-clears (path ∷ paths) P tree leads = (leads.0, λ next acts. leads-clears paths P next (leads.1 next acts))

pub leads-cleans : (files : List TextFile) (more : List Leftover) (P : Tree → Type 0) (tree : Tree)
    → LeadsTo (map removes files) (LeadsTo (map cleans more) P) tree → LeadsTo (map cleans (map Text files ++ more)) P tree
leads-cleans [] more P tree leads = leads
leads-cleans (file ∷ files) more P tree leads = (leads.0, λ next acts. leads-cleans files more P next (leads.1 next acts))

pub leads-weaker : (actions : List StageAction) (P Q : Tree → Type 0) → ((t : Tree) → P t → Q t) → (tree : Tree)
    → LeadsTo actions P tree → LeadsTo actions Q tree
leads-weaker [] P Q more tree leads = more tree leads
leads-weaker (action ∷ actions) P Q more tree leads = (leads.0, λ next acts. leads-weaker actions P Q more next (leads.1 next acts))

-- ---- old texts are removed

-- the plan's tree and the run's after the old texts are removed
pub record ComesClean (P : Place → Place → Type 0) (more : List Action) (Q : Tree → Type 0) (files : List TextFile) (other : Tree)
    : Type 0 where
  pub tree : Tree
  pub end : Tree
  pub seen : IsSeen P tree end
  pub goes_on : LeadTo more Q tree
  pub leads : LeadsTo (map removes files) (λ t. t ≡ end) other
  pub none : (place : Place) → other place ≡ None → end place ≡ None
  pub gone : (i : ℕ) (file : TextFile) → slice_get files i ≡ Some file → end (place_of file.path) ≡ None

module _ (P : Place → Place → Type 0) (pairs : ArePairs P) (more : List Action) (Q : Tree → Type 0) {X : Type 0} (f : X → Place)
  where
    pub along-removes : (xs : List X) (files : List TextFile) → AllZip (λ x file. Matches P (f x) (place_of file.path)) xs files
        → ((i j : ℕ) (one other : TextFile) → slice_get files i ≡ Some one → slice_get files j ≡ Some other → i ≢ j
        → place_of one.path ≢ place_of other.path)
        → (tree other : Tree)
        → ((i : ℕ) (file : TextFile) → slice_get files i ≡ Some file → HasText (place_of file.path) file.digest other)
        → LeadTo (map (λ x. Remove (f x)) xs ++ more) Q tree → IsSeen P tree other → ComesClean P more Q files other
    along-removes [] [] match differ tree other has leads seen = record {
      tree = tree;
      end = other;
      seen = seen;
      goes_on = leads;
      leads = refl;
      none = λ place is. is;
      gone = λ i file at. absurd (cc at);
    }
    along-removes [] (file ∷ files) match differ tree other has leads seen = absurd match
    along-removes (x ∷ xs) [] match differ tree other has leads seen = absurd match
    along-removes (x ∷ xs) (file ∷ files) match differ tree other has leads seen =
        let top = place_of file.path in
        let next = with_node (f x) None tree in
        let next_2 = with_node top None other in
        let it = along-removes xs files match.1
        (λ i j one two at at_2 d. differ (suc i) (suc j) one two at at_2 (λ e. d (omega (arith, e)))) next next_2
        (λ i one at.
        let (bytes, there, text) = has (suc i) one at in (
          bytes,
          with_node-elsewhere top None other (place_of one.path) (differ (suc i) 0 one file at refl (λ e. absurd (omega
              (arith, e)))) ∙ there,
          text,
        ))
        (leads.1 next refl) (seen-node P pairs tree other seen (f x) top None match.0) in
        record {
          tree = it.tree;
          end = it.end;
          seen = it.seen;
          goes_on = it.goes_on;
          leads = (
            has 0 file refl,
            λ after acts. subst (λ (t : Tree). LeadsTo (map removes files) (λ t. t ≡ it.end) t) (sym acts) it.leads,
          );
          none = λ place is. it.none place (none_stays top other place is);
          gone = gone it;
        }
      where
        gone : (it : ComesClean P more Q files (with_node (place_of file.path) None other)) → (i : ℕ) (one : TextFile)
            → slice_get (file ∷ files) i ≡ Some one → it.end (place_of one.path) ≡ None
        gone it zero one at =
            let same : file ≡ one = cc at in
            ap (λ (t : TextFile). it.end (place_of t.path)) (sym same)
            ∙ it.none (place_of file.path) (with_node-at (place_of file.path) None other)
        gone it (suc i) one at = it.gone i one at

-- ---- both trees are one

-- the place is at or below the label of a step, or the run's place for it, or of none
find : (steps : List Step) (place : Place)
    → ((i : ℕ) × (s : Step) × (slice_get steps i ≡ Some s) × (IsUnder place s.label ⊎ IsUnder place s.staging))
    ⊎ ((i : ℕ) (s : Step) → slice_get steps i ≡ Some s → (¬ IsUnder place s.label) × (¬ IsUnder place s.staging))
find [] place = inr (λ i s at. absurd (cc at))
find (first ∷ steps) place = by (under_or place first.label) (under_or place first.staging) (find steps place)
  where
    by : IsUnder place first.label ⊎ (¬ IsUnder place first.label) → IsUnder place first.staging ⊎ (¬ IsUnder place first.staging)
        → ((i : ℕ) × (s : Step) × (slice_get steps i ≡ Some s) × (IsUnder place s.label ⊎ IsUnder place s.staging))
        ⊎ ((i : ℕ) (s : Step) → slice_get steps i ≡ Some s → (¬ IsUnder place s.label) × (¬ IsUnder place s.staging))
        → ((i : ℕ) × (s : Step) × (slice_get (first ∷ steps) i ≡ Some s) × (IsUnder place s.label ⊎ IsUnder place s.staging))
        ⊎ ((i : ℕ) (s : Step) → slice_get (first ∷ steps) i ≡ Some s → (¬ IsUnder place s.label) × (¬ IsUnder place s.staging))
    by (inl under) two later = inl (0, first, refl, inl under)
    by (inr not_under) (inl under) later = inl (0, first, refl, inr under)
    by (inr not_under) (inr not_under_2) (inl (i, s, at, under)) = inl (suc i, s, at, under)
    by (inr not_under) (inr not_under_2) (inr none) = inr (at_each none)
      where
        at_each : ((i : ℕ) (s : Step) → slice_get steps i ≡ Some s → (¬ IsUnder place s.label) × (¬ IsUnder place s.staging))
            → (i : ℕ) (s : Step) → slice_get (first ∷ steps) i ≡ Some s → (¬ IsUnder place s.label) × (¬ IsUnder place s.staging)
        at_each none zero s at =
            let same : first ≡ s = cc at in
            subst (λ (s : Step). (¬ IsUnder place s.label) × (¬ IsUnder place s.staging)) same (not_under, not_under_2)
        at_each none (suc i) s at = none i s at

-- the pair of a step after all steps
pub pair-end : (steps : List Step) (n : ℕ) → n ≡ length steps → (i : ℕ) (s : Step) → slice_get steps i ≡ Some s
    → IsPair steps n s.label s.staging
pair-end steps n count i s at =
    let within = slice_get_within steps i s at in (i, s, at, refl, inl (refl, inr (omega (arith, within, count))))

-- if nothing is left at the run's places, both trees are one
pub seen-one : (steps : List Step) (n : ℕ) → n ≡ length steps → (tree other : Tree) → IsSeen (IsPair steps n) tree other
    → ((i : ℕ) (s : Step) (rest : Place) → slice_get steps i ≡ Some s → other (s.staging ++ rest) ≡ None) → other ≡ tree
seen-one steps n count tree other seen empty = λ i. λ place. at place i
  where
    by : (place : Place)
        → ((i : ℕ) × (s : Step) × (slice_get steps i ≡ Some s) × (IsUnder place s.label ⊎ IsUnder place s.staging))
        ⊎ ((i : ℕ) (s : Step) → slice_get steps i ≡ Some s → (¬ IsUnder place s.label) × (¬ IsUnder place s.staging))
        → other place ≡ tree place
    by place (inl (i, s, at, inl (rest, is))) =
        let pair = pair-end steps n count i s at in
        ap other is ∙ seen.hidden s.label s.staging rest pair
        ∙ sym (ap tree is ∙ sym (seen.same (s.label ++ rest) (s.staging ++ rest) (Paired s.label s.staging rest pair refl refl))
        ∙ empty i s rest at)
    by place (inl (i, s, at, inr (rest, is))) =
        let pair = pair-end steps n count i s at in
        ap other is ∙ empty i s rest at ∙ sym (ap tree is ∙ seen.unused s.label s.staging rest pair)
    by place (inr none) = seen.same place place (Outside refl outside)
      where
        outside : IsElsewhere (IsPair steps n) place
        outside a b (i, s, at, is, now) = (
          λ (rest, under). first now rest under,
          λ (rest, under). (none i s at).1 (rest, under ∙ ap (λ p. p ++ rest) is),
        )
          where
            first : IsNow n i s a → (rest : Place) → place ≡ a ++ rest → ⊥
            first (inl (same, why)) rest under = (none i s at).0 (rest, under ∙ ap (λ p. p ++ rest) same)
            first (inr (same, text, late)) rest under =
                let within = slice_get_within steps i s at in omega (arith, within, late, count)

    at : (place : Place) → other place ≡ tree place
    at place = by place (find steps place)

-- ---- while things are placed

-- a text stays where it is, or goes
pub text-stays : (renames : List RunRename) (k : ℕ) (place : Place) (digest : TextDigest) (start end : Tree)
    → ((i : ℕ) (rename : RunRename) → slice_get renames i ≡ Some rename → ¬ IsUnder place (place_of rename.to))
    → IsAfter (take k (map takes renames)) start end → (start place ≡ None) ⊎ HasText place digest start
    → (end place ≡ None) ⊎ HasText place digest end
text-stays renames zero place digest start end clear is has =
    subst (λ (t : Tree). (t place ≡ None) ⊎ HasText place digest t) (sym is) has
text-stays [] (suc k) place digest start end clear is has =
    subst (λ (t : Tree). (t place ≡ None) ⊎ HasText place digest t) (sym is) has
text-stays (rename ∷ renames) (suc k) place digest start end clear (next, acts, rest) has =
    text-stays renames k place digest next end (λ i other at. clear (suc i) other at) rest
    (subst (λ (t : Tree). (t place ≡ None) ⊎ HasText place digest t) (sym acts) (by (under_or place from) has))
  where
    from : Place
    from = place_of rename.from

    to : Place
    to = place_of rename.to

    by : IsUnder place from ⊎ (¬ IsUnder place from) → (start place ≡ None) ⊎ HasText place digest start
        → (after_rename (from, to) start place ≡ None) ⊎ HasText place digest (after_rename (from, to) start)
    by (inl under) has = inl (after_rename-from from to start place (clear 0 rename refl) under)
    by (inr elsewhere) (inl none) = inl (after_rename-elsewhere from to start place (clear 0 rename refl) elsewhere ∙ none)
    by (inr elsewhere) (inr (bytes, there, text)) =
        inr (bytes, after_rename-elsewhere from to start place (clear 0 rename refl) elsewhere ∙ there, text)
