-- A path as its components, and as the place that its names lead to.
use Rattle.std.proofs.Common.{◌≡◌, ◌≢◌, ℕ, List, [], ◌∷◌, ◌++◌, length, map, refl, sym, ap, ◌∙◌, append-nil, arith}
use Rattle.std.proofs.lemmas.List.{length-append, map-append}
use Rattle.relative_path.proofs.ForCallers.{SpellThemselves-components, classed-proper}
use Rattle.relative_path.specs.Prefixing.{StartsWith}
use Rattle.relative_path.specs.Steps.{SpellThemselves, Step, classed, components, step_text}
use Rattle.relmove_stages_disk.specs.Entries.{IsBelow}
use Rattle.relmove_trees.specs.FileTrees.{IsUnder, Place, names_of}

classed-step_text : (cs : List Step) → SpellThemselves cs → map classed (map step_text cs) ≡ cs
classed-step_text [] proper = refl
classed-step_text (c ∷ cs) (first, rest) =
    ap (λ d. d ∷ map classed (map step_text cs)) (classed-proper c first) ∙ ap (λ ds. c ∷ ds) (classed-step_text cs rest)

-- the names of a path tell its components
pub components-names_of : (text : List ℕ) → components text ≡ map classed (names_of text)
components-names_of text = sym (classed-step_text (components text) (SpellThemselves-components text))

pub names_of-same : (text other : List ℕ) → components text ≡ components other → names_of text ≡ names_of other
names_of-same text other same = ap (map step_text) same

pub same-names_of : (text other : List ℕ) → names_of text ≡ names_of other → components text ≡ components other
same-names_of text other same = components-names_of text ∙ ap (map classed) same ∙ sym (components-names_of other)

pub starts-under : (text top : List ℕ) → StartsWith (components text) (components top) → IsUnder (names_of text) (names_of top)
starts-under text top (rest, is) = (map step_text rest, ap (map step_text) is ∙ map-append step_text (components top) rest)

pub under-starts : (text top : List ℕ) → IsUnder (names_of text) (names_of top) → StartsWith (components text) (components top)
under-starts text top (rest, is) = (
  map classed rest,
  components-names_of text ∙ ap (map classed) is ∙ map-append classed (names_of top) rest
      ∙ ap (λ cs. cs ++ map classed rest) (sym (components-names_of top)),
)

-- the same path isn't below
pub not_below-same : (text top : List ℕ) → components text ≡ components top → ¬ IsBelow (names_of text) (names_of top)
not_below-same text top same (n, rest, is) =
    let long = ap length (sym is ∙ names_of-same text top same) in
    let long_2 = length-append (names_of top) (n ∷ rest) in
    absurd (omega (arith, long, long_2))

-- a path that doesn't begin with the other isn't below
pub not_below-apart : (text top : List ℕ) → ¬ StartsWith (components text) (components top)
    → ¬ IsBelow (names_of text) (names_of top)
not_below-apart text top none (n, rest, is) = none (under-starts text top (n ∷ rest, is))

-- one that begins with another, and isn't the same, is below it
pub is_below : (text top : List ℕ) → StartsWith (components text) (components top) → components text ≢ components top
    → IsBelow (names_of text) (names_of top)
is_below text top starts differ = by (starts-under text top starts).0 (starts-under text top starts).1
  where
    by : (rest : Place) → names_of text ≡ names_of top ++ rest → IsBelow (names_of text) (names_of top)
    by [] is = absurd (differ (same-names_of text top (is ∙ append-nil (names_of top))))
    by (n ∷ rest) is = (n, rest, is)

pub not_under : (text top : List ℕ) → ¬ StartsWith (components text) (components top) → ¬ IsUnder (names_of text) (names_of top)
not_under text top none under = none (under-starts text top under)

pub names_of-append : (text top rest : List ℕ) → components text ≡ components top ++ components rest
    → names_of text ≡ names_of top ++ names_of rest
names_of-append text top rest is = ap (map step_text) is ∙ map-append step_text (components top) (components rest)
