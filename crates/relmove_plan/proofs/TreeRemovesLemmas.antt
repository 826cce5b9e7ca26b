-- What is left of a tree when files are removed, and directories if nothing is in them.
use Rattle.std.proofs.Common.{Contains, ◌≡◌, ◌≢◌, ◌⊎◌, ℕ, zero, suc, ◌<◌, List, [], ◌∷◌, ◌++◌, Some, None, IsSome, length, map, inl, inr, refl, sym, ap, subst, ◌∙◌, append-nil, append_assoc, arith}
use Rattle.std.proofs.lemmas.List.{length-append}
use Rattle.relmove_trees.specs.FileTrees.{Directory, File, HasBelow, IsUnder, Place, Tree, with_node}
use Rattle.relmove_trees.specs.TreeActions.{Acts, Clear, LeadTo, Remove}
use Rattle.relmove_plan.specs.MovedTrees.{IsCleared, IsEmptied}
use Rattle.relmove_trees.proofs.FileTreesLemmas.{place_or, some_is, some_none, with_node-at, with_node-elsewhere}

-- ---- files that are removed

abbrev pub after_removes : List Place → Tree → Tree
after_removes [] tree = tree
after_removes (place ∷ places) tree = after_removes places (with_node place None tree)

pub removes-none : (places : List Place) (tree : Tree) (other : Place) → tree other ≡ None → after_removes places tree other ≡ None
removes-none [] tree other none = none
removes-none (place ∷ places) tree other none = removes-none places (with_node place None tree) other (by (place_or other place))
  where
    by : (other ≡ place) ⊎ (other ≢ place) → with_node place None tree other ≡ None
    by (inl same) = ap (with_node place None tree) same ∙ with_node-at place None tree
    by (inr differ) = with_node-elsewhere place None tree other differ ∙ none

-- ---- directories that are removed if nothing is in them

-- the place is one of these
abbrev pub IsAmong : List Place → Place → Type 0
IsAmong [] place = ⊥
IsAmong (first ∷ places) place = (place ≡ first) ⊎ IsAmong places place

pub Contains-among : (places : List Place) (place : Place) → Contains places place → IsAmong places place
Contains-among [] place (k, within, is) = absurd (let w : k < 0 = within in omega (arith, w))
Contains-among (first ∷ places) place (zero, within, is) = inl (sym is)
Contains-among (first ∷ places) place (suc k, within, is) =
    inr (Contains-among places place (k, omega (arith, within), is))

-- what is cleared of the same places
pub IsCleared-same : (left other : Place → Type 0) (tree end : Tree) → ((place : Place) → other place → left place)
    → ((place : Place) → left place → other place) → IsCleared left tree end → IsCleared other tree end
IsCleared-same left other tree end back forth cleared = record {
  gone = λ place emptied. cleared.gone place (record {
    itself = back place emptied.itself;
    below = λ n rest some. back (place ++ n ∷ rest) (emptied.below n rest some);
  });
  stays = λ place not. cleared.stays place (λ emptied. not (record {
    itself = forth place emptied.itself;
    below = λ n rest some. forth (place ++ n ∷ rest) (emptied.below n rest some);
  }));
}

-- none comes again, or above itself: the deepest first
abbrev pub DeepestFirst : List Place → Type 0
DeepestFirst [] = Unit {0}
DeepestFirst (first ∷ places) = ((place : Place) → IsAmong places place → ¬ IsUnder place first) × DeepestFirst places

-- each is a directory
abbrev pub AreDirectories : List Place → Tree → Type 0
AreDirectories places tree = (place : Place) → IsAmong places place → tree place ≡ Some Directory

cleared-next : (first : Place) (places : List Place) (tree next end : Tree) → DeepestFirst (first ∷ places)
    → Acts (Clear first) tree next → IsCleared (IsAmong places) next end → IsCleared (IsAmong (first ∷ places)) tree end
cleared-next first places tree next end deep acts cleared = record { gone = gone; stays = stays }
  where
    not_again : ¬ IsAmong places first
    not_again among = deep.0 first among ([], sym (append-nil first))

    not_emptied_again : ¬ IsEmptied (IsAmong places) next first
    not_emptied_again emptied = not_again emptied.itself

    -- what is elsewhere isn't touched
    same_at : (other : Place) → other ≢ first → next other ≡ tree other
    same_at other differ = elim acts [
      | inl (none, is) ↦ ap (λ (t : Tree). t other) is ∙ with_node-elsewhere first None tree other differ
      | inr (has, is) ↦ ap (λ (t : Tree). t other) is
    ]

    not_itself : (n : List ℕ) (rest : Place) → first ++ n ∷ rest ≢ first
    not_itself n rest same =
        let long = ap length same in
        let long_2 = length-append first (n ∷ rest) in
        absurd (omega (arith, long, long_2))

    -- of what is below the first, nothing is among the others
    below : (n : List ℕ) (rest : Place) → IsAmong (first ∷ places) (first ++ n ∷ rest) → ⊥
    below n rest (inl same) = not_itself n rest same
    below n rest (inr among) = deep.0 (first ++ n ∷ rest) among (n ∷ rest, refl)

    -- if all below the first may go, nothing is there
    nothing_below : (q : Place) → IsEmptied (IsAmong (first ∷ places)) tree q → IsUnder first q → HasBelow tree first → ⊥
    nothing_below q emptied (rest, is) (n, more, some) = by rest is
      where
        by : (rest : Place) → first ≡ q ++ rest → ⊥
        by [] is =
            let same : first ≡ q = is ∙ append-nil q in
            let there : first ++ n ∷ more ≡ q ++ n ∷ more = ap (λ top. top ++ n ∷ more) same in
            below n more
            (subst (IsAmong (first ∷ places)) (sym there) (emptied.below n more (some_is _ _ (ap tree there) some)))
        by (m ∷ rest) is =
            let there : first ++ n ∷ more ≡ q ++ m ∷ (rest ++ n ∷ more) =
            ap (λ top. top ++ n ∷ more) is ∙ append_assoc q (m ∷ rest) (n ∷ more) in
            below n more
            (subst (IsAmong (first ∷ places)) (sym there)
            (emptied.below m (rest ++ n ∷ more) (some_is _ _ (ap tree there) some)))

    gone : (q : Place) → IsEmptied (IsAmong (first ∷ places)) tree q → end q ≡ None
    gone q emptied = by emptied.itself
      where
        later : IsAmong places q → (place : Place) → IsSome (next place) → IsUnder first q → place ≡ first → ⊥
        later among place some under same = elim acts [
          | inl (none, is) ↦
              some_none (next place) some (ap next same ∙ ap (λ (t : Tree). t first) is ∙ with_node-at first None tree)
          | inr (has, is) ↦ nothing_below q emptied under has
        ]

        by : (q ≡ first) ⊎ IsAmong places q → end q ≡ None
        by (inl same) =
            let here : next first ≡ None = elim acts [
              | inl (none, is) ↦ ap (λ (t : Tree). t first) is ∙ with_node-at first None tree
              | inr (has, is) ↦ absurd (nothing_below q emptied ([], sym same ∙ sym (append-nil q)) has)
            ] in
            ap end same ∙ cleared.stays first not_emptied_again ∙ here
        by (inr among) = cleared.gone q (record { itself = among; below = more })
          where
            more : (n : List ℕ) (rest : Place) → IsSome (next (q ++ n ∷ rest)) → IsAmong places (q ++ n ∷ rest)
            more n rest some = at (place_or (q ++ n ∷ rest) first)
              where
                at : (q ++ n ∷ rest ≡ first) ⊎ (q ++ n ∷ rest ≢ first) → IsAmong places (q ++ n ∷ rest)
                at (inl same) = absurd (later among (q ++ n ∷ rest) some (n ∷ rest, sym same) same)
                at (inr differ) = elim (emptied.below n rest (some_is _ _ (same_at (q ++ n ∷ rest) differ) some)) [
                  | inl same ↦ absurd (differ same)
                  | inr is ↦ is
                ]

    stays : (q : Place) → ¬ IsEmptied (IsAmong (first ∷ places)) tree q → end q ≡ tree q
    stays q not = by (place_or q first)
      where
        by : (q ≡ first) ⊎ (q ≢ first) → end q ≡ tree q
        by (inl same) = elim acts [
          | inl (none, is) ↦
              absurd (not (subst (IsEmptied (IsAmong (first ∷ places)) tree) (sym same)
              (record { itself = inl refl; below = λ n rest some. absurd (none (n, rest, some)) })))
          | inr (has, is) ↦
              ap end same ∙ cleared.stays first not_emptied_again ∙ ap (λ (t : Tree). t first) is ∙ ap tree (sym same)
        ]
        by (inr differ) =
            cleared.stays q (λ emptied. not (record {
              itself = inr emptied.itself;
              below = λ n rest some. at n rest some emptied (place_or (q ++ n ∷ rest) first);
            })) ∙ same_at q differ
          where
            at : (n : List ℕ) (rest : Place) → IsSome (tree (q ++ n ∷ rest)) → IsEmptied (IsAmong places) next q
                → (q ++ n ∷ rest ≡ first) ⊎ (q ++ n ∷ rest ≢ first) → IsAmong (first ∷ places) (q ++ n ∷ rest)
            at n rest some emptied (inl same) = inl same
            at n rest some emptied (inr differ) =
                inr (emptied.below n rest (some_is _ _ (sym (same_at (q ++ n ∷ rest) differ)) some))

-- directories are removed if nothing is in them but such directories
pub LeadTo-clears : (places : List Place) (P : Tree → Type 0) (tree : Tree) → DeepestFirst places → AreDirectories places tree
    → ((end : Tree) → IsCleared (IsAmong places) tree end → P end) → LeadTo (map Clear places) P tree
LeadTo-clears [] P tree deep are holds = holds tree (record { gone = λ place emptied. absurd emptied.itself; stays = λ place not. refl })
LeadTo-clears (first ∷ places) P tree deep are holds = (
  are first (inl refl),
  λ next acts.
      LeadTo-clears places P next deep.1 (still next acts)
      (λ end cleared. holds end (cleared-next first places tree next end deep acts cleared)),
)
  where
    still : (next : Tree) → Acts (Clear first) tree next → AreDirectories places next
    still next acts place among =
        let differ : place ≢ first = λ same. deep.0 place among ([], same ∙ sym (append-nil first)) in
        elim acts [
          | inl (none, is) ↦
              ap (λ (t : Tree). t place) is ∙ with_node-elsewhere first None tree place differ ∙ are place (inr among)
          | inr (has, is) ↦ ap (λ (t : Tree). t place) is ∙ are place (inr among)
        ]

-- ---- the run of actions that remove files

-- no place comes twice
abbrev pub AreDifferent : List Place → Type 0
AreDifferent [] = Unit {0}
AreDifferent (first ∷ places) = (¬ IsAmong places first) × AreDifferent places

-- each is a file
abbrev pub AreFiles : List Place → Tree → Type 0
AreFiles places tree = (place : Place) → IsAmong places place → (bytes : List ℕ) × (tree place ≡ Some (File bytes))

pub LeadTo-removes : (places : List Place) (P : Tree → Type 0) (tree : Tree) → AreDifferent places → AreFiles places tree
    → P (after_removes places tree) → LeadTo (map Remove places) P tree
LeadTo-removes [] P tree differ are holds = holds
LeadTo-removes (first ∷ places) P tree differ are holds = (
  are first (inl refl),
  λ next acts.
      LeadTo-removes places P next differ.1
      (λ place among.
      let (bytes, is) = are place (inr among) in (
        bytes,
        ap (λ (t : Tree). t place) acts
            ∙ with_node-elsewhere first None tree place (λ same. differ.0 (subst (IsAmong places) same among)) ∙ is,
      ))
      (subst (λ (t : Tree). P (after_removes places t)) (sym acts) holds),
)
