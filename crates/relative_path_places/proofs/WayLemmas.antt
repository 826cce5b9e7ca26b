-- The shortest path between two places, by what is left of their names past those that both begin with.
use Rattle.std.proofs.Common.{◌≡◌, ℕ, zero, suc, ◌<◌, ◌-◌, List, [], ◌∷◌, ◌++◌, length, map, replicate, IsSome, true≢false, refl, sym, ap, ◌∙◌, subst, append_assoc, arith}
use Rattle.std.proofs.lemmas.List.{length-map, map-append}
use Rattle.relative_path.specs.Steps.{Step, cur, up, name, step_text, components, spell, SpellsItself}
use Rattle.relative_path.specs.Walk.{place_of}
use Rattle.relative_path.specs.Normalizing.{AreNames, IsNormal}
use Rattle.relative_path.specs.Relating.{IsShortestText}
use Rattle.relative_path.proofs.ForCallers.{components-up, IsShortest-apart}
use Rattle.relative_path.proofs.OnLiterals.{relative_path_on_literals}
use Rattle.relative_path_places.specs.Ways.{EndApart}
use Rattle.relative_path_places.proofs.NormalPathLemmas.{AreNames-names, AreNames-end}

-- ---- what is pushed

-- the empty text spells its components
spelled-nil : [] ≡ spell (components [])
unfolding relative_path_on_literals
spelled-nil = refl

pub spelled-empty : (text : List ℕ) → text ≡ [] → text ≡ spell (components text)
spelled-empty text none = none ∙ spelled-nil ∙ ap (λ empty. spell (components empty)) (sym none)

components-nil : components [] ≡ []
unfolding relative_path_on_literals
components-nil = refl

pub components-empty : (text : List ℕ) → text ≡ [] → components text ≡ []
components-empty text none = ap components none ∙ components-nil

pub SpellsItself-up : SpellsItself up
SpellsItself-up = components-up (step_text up) refl

-- a list of equal components begins with one of them
pub replicate-less : (n : ℕ) (c : Step) → 0 < n → replicate n c ≡ c ∷ replicate (n - 1) c
replicate-less zero c some = absurd (omega (arith, some))
replicate-less (suc n) c some = let less : n ≡ suc n - 1 = omega arith in ap (λ k. c ∷ replicate k c) less

-- ---- no component begins both lists

-- ---- the components that both lists begin with

-- both lists begin with the same front, and these two lists come after it
pub record HaveFront (cs ds cs_end ds_end : List Step) : Type 0 where
  pub front : List Step
  pub first : cs ≡ front ++ cs_end
  pub second : ds ≡ front ++ ds_end

pub HaveFront-next : (cs ds cs_end ds_end cs_rest ds_rest : List Step) (c : Step) → HaveFront cs ds cs_end ds_end
    → cs_end ≡ c ∷ cs_rest → ds_end ≡ c ∷ ds_rest → HaveFront cs ds cs_rest ds_rest
HaveFront-next cs ds cs_end ds_end cs_rest ds_rest c have cs_is ds_is = record {
  front = have.front ++ c ∷ [];
  first = have.first ∙ ap (λ list. have.front ++ list) cs_is ∙ sym (append_assoc have.front (c ∷ []) cs_rest);
  second = have.second ∙ ap (λ list. have.front ++ list) ds_is ∙ sym (append_assoc have.front (c ∷ []) ds_rest);
}

-- ---- names

-- a normal list with a place from the top has names only
pub AreNames-place : (cs : List Step) → IsNormal cs → IsSome (place_of cs) → AreNames cs
AreNames-place [] normal some = tt
AreNames-place (cur ∷ cs) normal some = absurd normal
AreNames-place (up ∷ cs) normal some = absurd (true≢false (sym some))
AreNames-place (name n ∷ cs) normal some = normal

pub AreNames-front : (cs ds : List Step) → AreNames (cs ++ ds) → AreNames cs
AreNames-front [] ds names = tt
AreNames-front (cur ∷ cs) ds names = absurd names
AreNames-front (up ∷ cs) ds names = absurd names
AreNames-front (name n ∷ cs) ds names = AreNames-front cs ds names

-- ---- the shortest path

-- `..` for each name that is left of the source, and then the names that are left of the target
pub IsShortestText-apart : (cs ds above below : List Step) (text : List ℕ) → AreNames cs → AreNames ds
    → EndApart cs ds above below → text ≡ spell (components text)
    → components text ≡ replicate (length above) up ++ below → IsShortestText cs ds text
IsShortestText-apart cs ds above below text names_cs names_ds ends spelled is =
    let from_names = subst AreNames ends.first names_cs in
    let to_names = subst AreNames ends.second names_ds in
    let (fs, front_is) = AreNames-names ends.front (AreNames-front ends.front above from_names) in
    let (ms, above_is) = AreNames-names above (AreNames-end ends.front above from_names) in
    let (ns, below_is) = AreNames-names below (AreNames-end ends.front below to_names) in
    let from : cs ≡ map name (fs ++ ms) =
    ends.first ∙ ap (λ list. list ++ above) front_is ∙ ap (λ list. map name fs ++ list) above_is
    ∙ sym (map-append name fs ms) in
    let to : ds ≡ map name (fs ++ ns) =
    ends.second ∙ ap (λ list. list ++ below) front_is ∙ ap (λ list. map name fs ++ list) below_is
    ∙ sym (map-append name fs ns) in
    let count : length above ≡ length ms = ap length above_is ∙ length-map ms name in
    let way : components text ≡ replicate (length ms) up ++ map name ns =
    is ∙ ap (λ k. replicate k up ++ below) count ∙ ap (λ list. replicate (length ms) up ++ list) below_is in
    record {
      spelled = spelled;
      shortest = rw (from, to, way)
          (IsShortest-apart fs ms ns
          (λ n ms_rest ns_rest first second.
          ends.apart (name n) (map name ms_rest, above_is ∙ ap (map name) first)
          (map name ns_rest, below_is ∙ ap (map name) second)));
    }
