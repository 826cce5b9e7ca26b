-- Joins in normal form, one after another and with the empty path.
use Rattle.std.proofs.Common.{◌≡◌, ℕ, List, [], ◌++◌, Option, Some, None, option_and_then, refl, sym, ap, ◌∙◌, append-nil}
use Rattle.relative_path.specs.Steps.{Step, pieces, components}
use Rattle.relative_path.specs.Walk.{walk, LeadsInTurn}
use Rattle.relative_path.specs.Normalizing.{IsNormalText, IsNormalTextOf}

-- the place where steps lead from a place, if there is a place
abbrev walk_from : List Step → Option (List (List ℕ)) → Option (List (List ℕ))
walk_from cs = option_and_then (λ place. walk place cs)

-- three lists lead where the first does, and then the other two in turn
walk-three : (cs ds es first last : List Step) (base : List (List ℕ)) → LeadsInTurn cs ds first
    → LeadsInTurn ds es last
    → walk_from es (walk base first) ≡ walk_from last (walk base cs)
walk-three cs ds es first last base from_left from_right =
    ap (walk_from es) (from_left.everywhere base) ∙ onward (walk base cs)
  where
    onward : (o : Option (List (List ℕ))) → walk_from es (walk_from ds o) ≡ walk_from last o
    onward None = refl
    onward (Some place) = sym (from_right.everywhere place)

-- both brackets give the one normal text
pub same_brackets : (cs ds es : List Step) (first last left right : List ℕ)
    → LeadsInTurn cs ds (components first) → LeadsInTurn ds es (components last)
    → LeadsInTurn (components first) es (components left) → LeadsInTurn cs (components last) (components right)
    → IsNormalText left → IsNormalTextOf (cs ++ components last) right → left ≡ right
same_brackets cs ds es first last left right from_left from_right onto_left onto_right normal of =
    of.only left normal (record {
      everywhere = λ base.
          let three = walk-three cs ds es (components first) (components last) base from_left from_right in
          of.same.everywhere base ∙ onto_right.everywhere base ∙ sym three ∙ sym (onto_left.everywhere base);
    })

-- the empty path after a normal text changes nothing
pub same_empty_after : (text other : List ℕ) → IsNormalText text
    → IsNormalTextOf (components text ++ components []) other → other ≡ text
unfolding components pieces
same_empty_after text other normal of =
    sym (of.only text normal (record { everywhere = λ base. ap (walk base) (append-nil (components text)) }))

-- the empty path before a normal text changes nothing
pub same_empty_before : (text other : List ℕ) → IsNormalText text
    → IsNormalTextOf (components [] ++ components text) other → other ≡ text
unfolding components pieces
same_empty_before text other normal of = sym (of.only text normal (record { everywhere = λ base. refl }))
