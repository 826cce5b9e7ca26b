-- Two trees that are one but for pairs of places: what is at or below the one place of the first tree is at or below the other
-- of the second.
use Rattle.std.proofs.Common.{◌≡◌, ◌≢◌, ◌⊎◌, ℕ, List, [], ◌∷◌, ◌++◌, Option, Some, None, length, drop, inl, inr, refl, sym, ap, subst, ◌∙◌, append-nil, append_assoc, arith}
use Rattle.std.proofs.Math.Seq.{drop-append_seam}
use Rattle.std.proofs.lemmas.List.{length-append}
use Rattle.relmove_stages.proofs.ActionLemmas.{either_under}
use Rattle.relmove_trees.specs.FileTrees.{CanTake, Directory, IsUnder, Node, Place, Tree, after_rename, with_node}
use Rattle.relmove_trees.specs.TreeActions.{CanRename}
use Rattle.relmove_trees.proofs.FileTreesLemmas.{after_rename-elsewhere, after_rename-from, after_rename-to, last_view, place_or, push_front, some_is, under_or, with_node-at, with_node-elsewhere}

-- neither place is at or below the other
abbrev pub AreApart : Place → Place → Type 0
AreApart one other = (¬ IsUnder one other) × (¬ IsUnder other one)

-- each place of the pairs is apart from all others
pub record ArePairs (P : Place → Place → Type 0) : Type 0 where
  pub each : (a b c d : Place) → P a b → P c d → ((a ≡ c) × (b ≡ d)) ⊎ (AreApart a c × AreApart b d)
  pub across : (a b c d : Place) → P a b → P c d → AreApart a d

-- the place is at or below none of the pairs' places
abbrev pub IsElsewhere : (Place → Place → Type 0) → Place → Type 0
IsElsewhere P place = (a b : Place) → P a b → (¬ IsUnder place a) × (¬ IsUnder place b)

-- the one place is at or below the first of a pair, and the other as far below the second; or they are one place elsewhere
pub data Corresponds (P : Place → Place → Type 0) (one other : Place) : Type 0 where
  Paired : (a b rest : Place) → P a b → one ≡ a ++ rest → other ≡ b ++ rest → Corresponds P one other
  Outside : one ≡ other → IsElsewhere P one → Corresponds P one other

-- and if they are one place, no place of the pairs is below it
pub data Matches (P : Place → Place → Type 0) (one other : Place) : Type 0 where
  Within : (a b rest : Place) → P a b → one ≡ a ++ rest → other ≡ b ++ rest → Matches P one other
  Away : one ≡ other → ((a b : Place) → P a b → AreApart one a × AreApart one b) → Matches P one other

-- what is in the first tree is in the second one, at or below the second places of the pairs; there a directory is above
pub record IsSeen (P : Place → Place → Type 0) (tree other : Tree) : Type 0 where
  pub same : (place_1 place_2 : Place) → Corresponds P place_1 place_2 → other place_2 ≡ tree place_1
  pub hidden : (a b rest : Place) → P a b → other (a ++ rest) ≡ None
  pub unused : (a b rest : Place) → P a b → tree (b ++ rest) ≡ None
  pub held : (a b top : Place) (last : List ℕ) → P a b → b ≡ top ++ last ∷ [] → other top ≡ Some Directory

-- ---- places

-- nothing is at or below two places that are apart
pub apart-both : (one other rest below : Place) → AreApart one other → one ++ rest ≡ other ++ below → ⊥
apart-both one other rest below apart is = elim (either_under one other rest below is) [
  | inl under ↦ apart.0 under
  | inr under ↦ apart.1 under
]

-- what is left of a place below another
cancel : (top one other : Place) → top ++ one ≡ top ++ other → one ≡ other
cancel top one other is = sym (drop-append_seam top one) ∙ ap (drop (length top)) is ∙ drop-append_seam top other

-- ---- the other way round

pairs-turned : (P : Place → Place → Type 0) → ArePairs P → ArePairs (λ a b. P b a)
pairs-turned P pairs = record {
  each = λ a b c d one other. elim (pairs.each b a d c one other) [
    | inl (same, same_2) ↦ inl (same_2, same)
    | inr (apart, apart_2) ↦ inr (apart_2, apart)
  ];
  across = λ a b c d one other. let apart = pairs.across d c b a other one in (apart.1, apart.0);
}

corresponds-turned : (P : Place → Place → Type 0) (one other : Place) → Corresponds P one other
    → Corresponds (λ a b. P b a) other one
corresponds-turned P one other (Paired a b rest pair is is_2) = Paired b a rest pair is_2 is
corresponds-turned P one other (Outside is none) =
    Outside (sym is) (λ a b pair.
    let no = none b a pair in
    ((λ (rest, at). no.1 (rest, is ∙ at)), (λ (rest, at). no.0 (rest, is ∙ at))))

matches-turned : (P : Place → Place → Type 0) (one other : Place) → Matches P one other → Matches (λ a b. P b a) other one
matches-turned P one other (Within a b rest pair is is_2) = Within b a rest pair is_2 is
matches-turned P one other (Away is far) =
    Away (sym is) (λ a b pair.
    let ok = far b a pair in
    (move ok.1, move ok.0))
  where
    move : {place : Place} → AreApart one place → AreApart other place
    move {place} away = ((λ (rest, at). away.0 (rest, is ∙ at)), (λ (rest, at). away.1 (rest, at ∙ ap (λ p. p ++ rest) (sym is))))

-- ---- what corresponds

module _ (P : Place → Place → Type 0) (pairs : ArePairs P) where
  -- below places that match the same places correspond
  pub matches-below : (one other rest : Place) → Matches P one other → Corresponds P (one ++ rest) (other ++ rest)
  matches-below one other rest (Within a b more pair is is_2) =
      Paired a b (more ++ rest) pair (ap (λ p. p ++ rest) is ∙ append_assoc a more rest)
      (ap (λ p. p ++ rest) is_2 ∙ append_assoc b more rest)
  matches-below one other rest (Away is far) =
      Outside (ap (λ p. p ++ rest) is) (λ a b pair. (
        λ (under, at). apart-both one a rest under (far a b pair).0 at,
        λ (under, at). apart-both one b rest under (far a b pair).1 at,
      ))

  pub matches-itself : (one other : Place) → Matches P one other → Corresponds P one other
  matches-itself one other (Within a b rest pair is is_2) = Paired a b rest pair is is_2
  matches-itself one other (Away is far) =
      Outside is (λ a b pair. ((far a b pair).0.0, (far a b pair).1.0))

  -- what is below a place corresponds to what is as far below the place that matches
  pub under-too : (top top_2 place place_2 rest : Place) → Matches P top top_2 → Corresponds P place place_2
      → place ≡ top ++ rest → place_2 ≡ top_2 ++ rest
  under-too top top_2 place place_2 rest (Within a b more pair is is_2) (Paired c d under pair_2 at at_2) same =
      elim (pairs.each a b c d pair pair_2) [
        | inl (one, other) ↦
            let left : under ≡ more ++ rest =
            cancel a under (more ++ rest) (ap (λ p. p ++ under) one ∙ sym at ∙ same ∙ ap (λ p. p ++ rest) is ∙ append_assoc a more rest) in
            at_2 ∙ ap (λ p. p ++ under) (sym other) ∙ ap (λ p. b ++ p) left ∙ sym (append_assoc b more rest)
            ∙ ap (λ p. p ++ rest) (sym is_2)
        | inr (apart_1, apart_2) ↦
            absurd (apart-both a c (more ++ rest) under apart_1
            (sym (append_assoc a more rest) ∙ ap (λ p. p ++ rest) (sym is) ∙ sym same ∙ at))
      ]
  under-too top top_2 place place_2 rest (Within a b more pair is is_2) (Outside at none) same =
      absurd ((none a b pair).0 (more ++ rest, same ∙ ap (λ p. p ++ rest) is ∙ append_assoc a more rest))
  under-too top top_2 place place_2 rest (Away is far) (Paired c d under pair at at_2) same =
      absurd (apart-both top c rest under (far c d pair).0 (sym same ∙ at))
  under-too top top_2 place place_2 rest (Away is far) (Outside at none) same =
      sym at ∙ same ∙ ap (λ p. p ++ rest) is

  -- what is below the first place of a pair isn't below what matches in the second tree
  pub first-not_under : (one other a b rest : Place) → Matches P one other → P a b → ¬ IsUnder (a ++ rest) other
  first-not_under one other a b rest (Within c d more pair is is_2) pair_2 (under, at) =
      apart-both a d rest (more ++ under) (pairs.across a b c d pair_2 pair)
      (at ∙ ap (λ p. p ++ under) is_2 ∙ append_assoc d more under)
  first-not_under one other a b rest (Away is far) pair (under, at) =
      apart-both one a under rest (far a b pair).0 (ap (λ p. p ++ under) is ∙ sym at)

  -- what holds the second place of a pair isn't below what matches in the second tree
  pub held-not_under : (one other a b top : Place) (last : List ℕ) → Matches P one other → P a b → b ≡ top ++ last ∷ []
      → ¬ IsUnder top other
  held-not_under one other a b top last (Within c d more pair is is_2) pair_2 split (under, at) =
      elim (pairs.each a b c d pair_2 pair) [
        | inl (same, same_2) ↦ at_end ((more ++ under) ++ last ∷ []) refl (split_2
            ∙ ap (λ p. p ++ ((more ++ under) ++ last ∷ [])) (sym same_2))
        | inr (apart_1, apart_2) ↦
            apart-both b d [] ((more ++ under) ++ last ∷ []) apart_2 (append-nil b ∙ split_2)
      ]
    where
      split_2 : b ≡ d ++ ((more ++ under) ++ last ∷ [])
      split_2 = split ∙ ap (λ p. p ++ last ∷ []) (at ∙ ap (λ p. p ++ under) is_2 ∙ append_assoc d more under)
          ∙ append_assoc d (more ++ under) (last ∷ [])

      at_end : (rest : Place) → rest ≡ (more ++ under) ++ last ∷ [] → b ≡ b ++ ((more ++ under) ++ last ∷ []) → ⊥
      at_end rest same long =
          let count = ap length long in
          let count_2 = length-append b ((more ++ under) ++ last ∷ []) in
          let count_3 = length-append (more ++ under) (last ∷ []) in
          omega (arith, count, count_2, count_3)
  held-not_under one other a b top last (Away is far) pair split (under, at) =
      apart-both one b (under ++ last ∷ []) [] (far a b pair).1
      (sym (append_assoc one under (last ∷ [])) ∙ ap (λ p. (p ++ under) ++ last ∷ []) is ∙ ap (λ p. p ++ last ∷ []) (sym at)
      ∙ sym split ∙ sym (append-nil b))

-- and the other way round
pub under-back : (P : Place → Place → Type 0) → ArePairs P → (top top_2 place place_2 rest : Place) → Matches P top top_2
    → Corresponds P place place_2 → place_2 ≡ top_2 ++ rest → place ≡ top ++ rest
under-back P pairs top top_2 place place_2 rest match same =
    under-too (λ a b. P b a) (pairs-turned P pairs) top_2 top place_2 place rest (matches-turned P top top_2 match)
    (corresponds-turned P place place_2 same)

pub second-not_under : (P : Place → Place → Type 0) → ArePairs P → (one other a b rest : Place) → Matches P one other → P a b
    → ¬ IsUnder (b ++ rest) one
second-not_under P pairs one other a b rest match pair =
    first-not_under (λ a b. P b a) (pairs-turned P pairs) other one b a rest (matches-turned P one other match) pair

-- ---- what is done to both trees

module _ (P : Place → Place → Type 0) (pairs : ArePairs P) (tree other : Tree) (seen : IsSeen P tree other) where
  -- what is below places that match is the same
  pub seen-below : (one two rest : Place) → Matches P one two → other (two ++ rest) ≡ tree (one ++ rest)
  seen-below one two rest match = seen.same (one ++ rest) (two ++ rest) (matches-below P pairs one two rest match)

  pub seen-at : (one two : Place) → Matches P one two → other two ≡ tree one
  seen-at one two match = seen.same one two (matches-itself P pairs one two match)

  -- the second tree can take something at a place that matches
  pub seen-takes : (one two : Place) → Matches P one two → CanTake tree one → CanTake other two
  seen-takes one two match take = by match
    where
      free : (rest : Place) → other (two ++ rest) ≡ None
      free rest = seen-below one two rest match ∙ take.free rest

      at_pair : (a b rest : Place) → P a b → one ≡ a ++ rest → two ≡ b ++ rest
          → (rest ≡ []) ⊎ ((front : Place) × (last : List ℕ) × (rest ≡ front ++ last ∷ []))
          → (b ≡ []) ⊎ ((front : Place) × (last : List ℕ) × (b ≡ front ++ last ∷ [])) → CanTake other two
      at_pair a b rest pair is is_2 (inl none) (inl empty) = absurd ((pairs.across a b a b pair pair).0 (a, ap (λ p. p ++ a) (sym empty)))
      at_pair a b rest pair is is_2 (inl none) (inr (top, last, split)) = record {
        top = top;
        last = last;
        split = is_2 ∙ ap (λ p. b ++ p) none ∙ append-nil b ∙ split;
        held = seen.held a b top last pair split;
        free = free;
      }
      at_pair a b rest pair is is_2 (inr (front, last, split)) two_ways = record {
        top = b ++ front;
        last = last;
        split = is_2 ∙ ap (λ p. b ++ p) split ∙ sym (append_assoc b front (last ∷ []));
        held = seen.same (a ++ front) (b ++ front) (Paired a b front pair refl refl) ∙ ap tree (sym top_is) ∙ take.held;
        free = free;
      }
        where
          top_is : take.top ≡ a ++ front
          top_is = push_front take.top (a ++ front) take.last last
              (sym take.split ∙ is ∙ ap (λ p. a ++ p) split ∙ sym (append_assoc a front (last ∷ [])))

      by : Matches P one two → CanTake other two
      by (Within a b rest pair is is_2) = at_pair a b rest pair is is_2 (last_view rest) (last_view b)
      by (Away is far) = record {
        top = take.top;
        last = take.last;
        split = sym is ∙ take.split;
        held = seen.same take.top take.top (Outside refl (λ a b pair. (
          λ (under, at). (far a b pair).0.0 (
            under ++ take.last ∷ [],
            take.split ∙ ap (λ p. p ++ take.last ∷ []) at ∙ append_assoc a under (take.last ∷ []),
          ),
          λ (under, at). (far a b pair).1.0 (
            under ++ take.last ∷ [],
            take.split ∙ ap (λ p. p ++ take.last ∷ []) at ∙ append_assoc b under (take.last ∷ []),
          ),
        ))) ∙ take.held;
        free = free;
      }

  -- a node that comes or goes at places that match
  pub seen-node : (one two : Place) (node : Option Node) → Matches P one two
      → IsSeen P (with_node one node tree) (with_node two node other)
  seen-node one two node match = record {
    same = λ place place_2 corresponds. same place place_2 corresponds (place_or place one);
    hidden = λ a b rest pair.
        with_node-elsewhere two node other (a ++ rest)
        (λ is. first-not_under P pairs one two a b rest match pair ([], is ∙ sym (append-nil two)))
        ∙ seen.hidden a b rest pair;
    unused = λ a b rest pair.
        with_node-elsewhere one node tree (b ++ rest)
        (λ is. second-not_under P pairs one two a b rest match pair ([], is ∙ sym (append-nil one)))
        ∙ seen.unused a b rest pair;
    held = λ a b top last pair split.
        with_node-elsewhere two node other top
        (λ is. held-not_under P pairs one two a b top last match pair split ([], is ∙ sym (append-nil two)))
        ∙ seen.held a b top last pair split;
  }
    where
      same : (place place_2 : Place) → Corresponds P place place_2 → (place ≡ one) ⊎ (place ≢ one)
          → with_node two node other place_2 ≡ with_node one node tree place
      same place place_2 corresponds (inl is) =
          let is_2 : place_2 ≡ two =
          under-too P pairs one two place place_2 [] match corresponds (is ∙ sym (append-nil one)) ∙ append-nil two in
          ap (with_node two node other) is_2 ∙ with_node-at two node other
          ∙ sym (ap (with_node one node tree) is ∙ with_node-at one node tree)
      same place place_2 corresponds (inr differ) =
          with_node-elsewhere two node other place_2
          (λ is. differ (under-back P pairs one two place place_2 [] match corresponds (is ∙ sym (append-nil two)) ∙ append-nil one))
          ∙ seen.same place place_2 corresponds ∙ sym (with_node-elsewhere one node tree place differ)

  module _ (from from_2 to to_2 : Place) (leaves : Matches P from from_2) (comes : Matches P to to_2)
    where
      -- a rename between places that match
      pub seen-rename : IsSeen P (after_rename (from, to) tree) (after_rename (from_2, to_2) other)
      seen-rename = record {
        same = λ place place_2 corresponds. same place place_2 corresponds (under_or place to) (under_or place from);
        hidden = λ a b rest pair.
            after_rename-elsewhere from_2 to_2 other (a ++ rest) (first-not_under P pairs to to_2 a b rest comes pair)
            (first-not_under P pairs from from_2 a b rest leaves pair)
            ∙ seen.hidden a b rest pair;
        unused = λ a b rest pair.
            after_rename-elsewhere from to tree (b ++ rest) (second-not_under P pairs to to_2 a b rest comes pair)
            (second-not_under P pairs from from_2 a b rest leaves pair)
            ∙ seen.unused a b rest pair;
        held = λ a b top last pair split.
            after_rename-elsewhere from_2 to_2 other top (held-not_under P pairs to to_2 a b top last comes pair split)
            (held-not_under P pairs from from_2 a b top last leaves pair split)
            ∙ seen.held a b top last pair split;
      }
        where
          same : (place place_2 : Place) → Corresponds P place place_2 → IsUnder place to ⊎ (¬ IsUnder place to)
              → IsUnder place from ⊎ (¬ IsUnder place from)
              → after_rename (from_2, to_2) other place_2 ≡ after_rename (from, to) tree place
          same place place_2 corresponds (inl (rest, is)) way =
              ap (after_rename (from_2, to_2) other) (under-too P pairs to to_2 place place_2 rest comes corresponds is)
              ∙ after_rename-to from_2 to_2 other rest ∙ seen-below from from_2 rest leaves
              ∙ sym (ap (after_rename (from, to) tree) is ∙ after_rename-to from to tree rest)
          same place place_2 corresponds (inr none) (inl (rest, is)) =
              after_rename-from from_2 to_2 other place_2
              (λ (more, at). none (more, under-back P pairs to to_2 place place_2 more comes corresponds at))
              (rest, under-too P pairs from from_2 place place_2 rest leaves corresponds is)
              ∙ sym (after_rename-from from to tree place none (rest, is))
          same place place_2 corresponds (inr none) (inr none_2) =
              after_rename-elsewhere from_2 to_2 other place_2
              (λ (more, at). none (more, under-back P pairs to to_2 place place_2 more comes corresponds at))
              (λ (more, at). none_2 (more, under-back P pairs from from_2 place place_2 more leaves corresponds at))
              ∙ seen.same place place_2 corresponds ∙ sym (after_rename-elsewhere from to tree place none none_2)

      pub seen-can : CanRename tree (from, to) → CanRename other (from_2, to_2)
      seen-can can = record {
        there = some_is (tree from) (other from_2) (sym (seen-at from from_2 leaves)) can.there;
        takes = seen-takes to to_2 comes can.takes;
        apart = λ (rest, is).
            can.apart (rest, under-back P pairs from from_2 to to_2 rest leaves (matches-itself P pairs to to_2 comes) is);
      }

-- ---- something in the first tree gets another place, and stays where it is in the second

-- the pairs are the same, but that the one has another first place
pub record IsShifted (P Q : Place → Place → Type 0) (from to at : Place) : Type 0 where
  pub before : P from at
  pub after : Q to at
  pub kept : (a b : Place) → P a b → ((a ≡ from) × (b ≡ at)) ⊎ Q a b
  pub come : (a b : Place) → Q a b → ((a ≡ to) × (b ≡ at)) ⊎ (P a b × AreApart a from)
  pub fresh : (a b : Place) → P a b → AreApart to a × AreApart to b

module _ (P Q : Place → Place → Type 0) (pairs : ArePairs P) (from to at : Place) (shifted : IsShifted P Q from to at)
    (tree other : Tree) (seen : IsSeen P tree other) (can : CanRename tree (from, to))
  where
    pub seen-shifted : IsSeen Q (after_rename (from, to) tree) other
    seen-shifted = record {
      same = same;
      hidden = λ a b rest pair. elim (shifted.come a b pair) [
        | inl (is, is_2) ↦
            seen.same (a ++ rest) (a ++ rest) (Outside refl (λ c d pair_2.
            let far = shifted.fresh c d pair_2 in (
              λ (under, there). apart-both to c rest under far.0 (ap (λ p. p ++ rest) (sym is) ∙ there),
              λ (under, there). apart-both to d rest under far.1 (ap (λ p. p ++ rest) (sym is) ∙ there),
            ))) ∙ ap (λ p. tree (p ++ rest)) is ∙ can.takes.free rest
        | inr (pair_2, far) ↦ seen.hidden a b rest pair_2
      ];
      unused = λ a b rest pair.
          let (c, pair_2) = second a b pair in
          after_rename-elsewhere from to tree (b ++ rest)
          (λ (under, there). apart-both to b under rest (shifted.fresh c b pair_2).1 (sym there))
          (λ (under, there). apart-both from b under rest (pairs.across from at c b shifted.before pair_2) (sym there))
          ∙ seen.unused c b rest pair_2;
      held = λ a b top last pair split. let (c, pair_2) = second a b pair in seen.held c b top last pair_2 split;
    }
      where
        second : (a b : Place) → Q a b → (c : Place) × P c b
        second a b pair = elim (shifted.come a b pair) [
          | inl (is, is_2) ↦ (from, subst (λ (p : Place). P from p) (sym is_2) shifted.before)
          | inr (pair_2, far) ↦ (a, pair_2)
        ]

        same : (place place_2 : Place) → Corresponds Q place place_2 → other place_2 ≡ after_rename (from, to) tree place
        same place place_2 (Paired a b rest pair is is_2) = elim (shifted.come a b pair) [
          | inl (one, two) ↦
              ap other (is_2 ∙ ap (λ p. p ++ rest) two)
              ∙ seen.same (from ++ rest) (at ++ rest) (Paired from at rest shifted.before refl refl)
              ∙ sym (ap (after_rename (from, to) tree) (is ∙ ap (λ p. p ++ rest) one) ∙ after_rename-to from to tree rest)
          | inr (pair_2, far) ↦
              ap other is_2 ∙ seen.same (a ++ rest) (b ++ rest) (Paired a b rest pair_2 refl refl)
              ∙ sym (ap (after_rename (from, to) tree) is
              ∙ after_rename-elsewhere from to tree (a ++ rest)
              (λ (under, there). apart-both to a under rest (shifted.fresh a b pair_2).0 (sym there))
              (λ (under, there). apart-both a from rest under far there))
        ]
        same place place_2 (Outside is none) = by (under_or place from)
          where
            not_to : ¬ IsUnder place to
            not_to under = (none to at shifted.after).0 under

            by : IsUnder place from ⊎ (¬ IsUnder place from) → other place_2 ≡ after_rename (from, to) tree place
            by (inl (rest, there)) =
                ap other (sym is ∙ there) ∙ seen.hidden from at rest shifted.before
                ∙ sym (after_rename-from from to tree place not_to (rest, there))
            by (inr not_from) =
                seen.same place place_2 (Outside is (λ a b pair. elim (shifted.kept a b pair) [
                  | inl (one, two) ↦ (
                    λ (rest, there). not_from (rest, there ∙ ap (λ p. p ++ rest) one),
                    λ (rest, there). (none to at shifted.after).1 (rest, there ∙ ap (λ p. p ++ rest) two),
                  )
                  | inr pair_2 ↦ none a b pair_2
                ]))
                ∙ sym (after_rename-elsewhere from to tree place not_to not_from)
