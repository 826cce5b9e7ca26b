-- Drawing a name: one of the numbers after the last one is free.
use Rattle.std.proofs.Common.{◌≡◌, ◌≢◌, ℕ, ◌<◌, ◌≤◌, ◌+◌, ◌-◌, List, [], ◌∷◌, ◌++◌, All, sym, ap, subst, ◌∙◌, arith}
use Rattle.std.proofs.lemmas.List.Elements.{All-from_recursion}
use Rattle.relative_path.specs.Normalizing.{IsNormal, IsNormalText, IsNormalTextOf}
use Rattle.relative_path.specs.Steps.{Step, name, components, spell, SpellsItself}
use Rattle.relative_path.proofs.ForCallers.{SpellThemselves-components}
use Rattle.relative_path_places.specs.declared.place_index.PlaceIndex.{PlaceIndex}
use Rattle.relative_path_places.specs.IndexEntries.{entry_count}
use Rattle.relative_path_places.proofs.ForCallers.{le-entry_count}
use Rattle.relmove_checks.proofs.ForCallers.{components-nil}
use Rattle.relmove_steps.specs.declared.staging.FreeNames.{FreeNames}
use Rattle.relmove_steps.specs.StagingNames.{numbered_name, numbered_file, AreTaken, IsDrawn, IsDrawnIn}
use Rattle.relmove_steps.proofs.NewFilesLemmas.{EndsUpTo-other, SpellThemselves-numbered, components-below, spelled_from}

components-numbered_file : (cs : List Step) (n : ℕ) → All SpellsItself cs
    → components (numbered_file cs n) ≡ cs ++ name (numbered_name n) ∷ []
components-numbered_file cs n proper =
    let all = cs ++ name (numbered_name n) ∷ [] in
    let (text, here, spelled) = spelled_from [] all (ap spell (sym components-nil)) (SpellThemselves-numbered cs n proper) in
    let is : components text ≡ all = here ∙ ap (λ front. front ++ all) components-nil in
    ap components (ap spell (sym is) ∙ sym spelled) ∙ is

numbered_file-other : (cs : List Step) (one other : ℕ) → All SpellsItself cs → one < other
    → numbered_file cs one ≢ numbered_file cs other
numbered_file-other cs one other proper less =
    EndsUpTo-other (numbered_file cs one) (numbered_file cs other) one other
    (record { number = one; within = omega arith; above = cs; ends = components-numbered_file cs one proper }) less cs
    (components-numbered_file cs other proper)

-- no more files are taken than the index has entries
pub AreTaken-few : (index : PlaceIndex) (text : List ℕ) (first last : ℕ) → AreTaken index (components text) first last
    → last ≤ first + entry_count index
AreTaken-few index text first last taken =
    let proper = All-from_recursion SpellsItself (components text) (SpellThemselves-components text) in
    let few = le-entry_count index (λ i. numbered_file (components text) (first + 1 + i)) (last - first)
    (λ i j less within. numbered_file-other (components text) (first + 1 + i) (first + 1 + j) proper (omega (arith, less)))
    (λ i within. taken (first + 1 + i) (omega arith) (omega (arith, within))) in
    omega (arith, few)

-- the file that is made from the directory and the name
pub numbered_file-made : (text file : List ℕ) (n : ℕ) → IsNormalText text
    → IsNormalTextOf (components text ++ components (numbered_name n)) file → file ≡ numbered_file (components text) n
numbered_file-made text file n normal is =
    is.normal_text.spelled
    ∙ ap spell
    (components-below (components text) file n
    (All-from_recursion SpellsItself (components text) (SpellThemselves-components text)) normal.normal is)

pub IsNormalText-nil : IsNormalText []
IsNormalText-nil = record { spelled = ap spell (sym components-nil); normal = subst IsNormal (sym components-nil) tt }

-- a file in the root is its name
pub IsDrawn-root : (before after : FreeNames) (file : List ℕ) → IsDrawnIn (components []) before after file
    → IsDrawn before after file
IsDrawn-root before after file drawn = record {
  number = drawn.number;
  late = drawn.late;
  entries = drawn.entries;
  last = drawn.last;
  name_is = numbered_file-made [] file drawn.number IsNormalText-nil drawn.file_of
      ∙ ap (λ cs. numbered_file cs drawn.number) components-nil;
  unused = drawn.unused;
}
