-- Parts of normal texts, and names.
use Rattle.std.proofs.Common.{ℕ, List, ◌∷◌, [], Option, Some, None, IsSome, refl, sym, subst, true≢false}
use Rattle.relative_path.specs.Steps.{Step, components}
use Rattle.relative_path.specs.Walk.{place_of}
use Rattle.relative_path.specs.Components.{step_of, TakesLast}
use Rattle.relative_path.specs.declared.component.Component.{Component}
use Rattle.relative_path.specs.Normalizing.{AreNames, IsNormal, IsNormalText}
use Rattle.relative_path.proofs.ForCallers.{IsNormal-append_left, spelled-front, walk-names}
use Rattle.relative_path_places.proofs.NormalPathLemmas.{AreNames-names}

-- a normal text without its last component is normal
pub IsNormalText-taken : (text front : List ℕ) (taken : Option Component) → IsNormalText text → TakesLast text taken front
    → IsSome taken → IsNormalText front
IsNormalText-taken text front None normal takes some = absurd (true≢false (sym some))
IsNormalText-taken text front (Some c) normal takes some = record {
  spelled = spelled-front text front normal.spelled takes.1;
  normal = IsNormal-append_left (components front) (step_of c ∷ []) (subst IsNormal takes.0 normal.normal);
}

-- names lead to a place from the top
pub IsSome-names : (cs : List Step) → AreNames cs → IsSome (place_of cs)
IsSome-names cs names =
    let (ns, is) = AreNames-names cs names in rw (is, walk-names [] ns) refl
