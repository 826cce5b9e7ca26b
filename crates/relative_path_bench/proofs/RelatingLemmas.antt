-- Lists that lead to the same place, and their one normal text.
use Rattle.std.proofs.Common.{◌≡◌, ◌↔◌, ◌⊎◌, ℕ, ◌+◌, ◌≤◌, List, [], ◌++◌, length, Option, Some, None, inl, inr, refl, sym, ap, ◌∙◌, subst, append-nil, arith, length-append}
use Rattle.relative_path.specs.Steps.{Step, pieces, components}
use Rattle.relative_path.specs.Walk.{walk, IsSame}
use Rattle.relative_path.specs.Normalizing.{IsNormalTextOf}
use Rattle.relative_path.specs.Relating.{Leads, IsShortest}
use Rattle.relative_path_bench.specs.Relating.{EndAt, ClimbAway, EndAlike}

IsSame-from_alike : (cs ds : List Step) → EndAlike cs ds → IsSame cs ds
IsSame-from_alike cs ds alike = record {
  everywhere = λ base. elim (alike base) [
    | inl (none, none') ↦ none ∙ sym none'
    | inr (place, (there, there')) ↦ there ∙ sym there'
  ];
}

EndAlike-from_same : (cs ds : List Step) → IsSame cs ds → EndAlike cs ds
EndAlike-from_same cs ds same = λ base. ends base (walk base cs) refl
  where
    ends : (base : List (List ℕ)) (o : Option (List (List ℕ))) → walk base cs ≡ o
        → ClimbAway base cs ds ⊎ ((place : List (List ℕ)) × EndAt base cs ds place)
    ends base None is = inl (is, sym (same.everywhere base) ∙ is)
    ends base (Some place) is = inr (place, (is, sym (same.everywhere base) ∙ is))

pub same_ends : (cs ds : List Step) → IsSame cs ds ↔ EndAlike cs ds
same_ends cs ds = (EndAlike-from_same cs ds, IsSame-from_alike cs ds)

-- the normal texts of two lists are the same exactly if the lists lead to the same
pub same_texts : (cs ds : List Step) (text other : List ℕ) → IsNormalTextOf cs text → IsNormalTextOf ds other
    → (text ≡ other) ↔ IsSame cs ds
same_texts cs ds text other first second = (
  λ is. record {
    everywhere = λ base.
        let there = ap (λ x. walk base (components x)) is in
        first.same.everywhere base ∙ there ∙ sym (second.same.everywhere base);
  },
  λ same.
      let leads : IsSame cs (components other) = record {
        everywhere = λ base. same.everywhere base ∙ second.same.everywhere base;
      } in
      sym (first.only other second.normal_text leads),
)

-- a normal text of the list followed by the empty path is a normal text of the list
pub IsNormalTextOf-empty : (cs : List Step) (way text : List ℕ) → way ≡ []
    → IsNormalTextOf (cs ++ components way) text
    → IsNormalTextOf cs text
unfolding components pieces
IsNormalTextOf-empty cs way text none normal =
    let alone : cs ++ components way ≡ cs = ap (λ x. cs ++ components x) none ∙ append-nil cs in
    subst (λ ds. IsNormalTextOf ds text) alone normal

-- of the shortest lists, the direct one is no longer than one through the middle
pub shortest_through : (f t r r' s : List Step) → IsShortest f r t → Leads f (r' ++ s) t
    → length r ≤ length r' + length s
shortest_through f t r r' s direct through = elim (direct.shortest (r' ++ s) through) [
  | inl shorter ↦ omega (arith, length-append r' s)
  | inr same ↦ omega (arith, ap length same, length-append r' s)
]
