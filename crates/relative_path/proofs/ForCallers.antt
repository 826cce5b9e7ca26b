-- What a caller's proof may cite, next to `OnLiterals`: where lists of components lead, and what the components of a
-- text are. Other crates can name no other lemma module of this crate.
use Rattle.std.proofs.Common.{◌≡◌, ◌≢◌, ◌↔◌, ℕ, ◌<◌, ◌≤◌, false, All, List, [], ◌∷◌, ◌++◌, length, map, replicate, take, ◌-◌, get_or, codes, Some, IsSome, IsTrue, option_and_then, inl, inr, refl, sym, ap, ◌∙◌, subst, arith, append_assoc, append-nil, take_at, length-append}
use Rattle.std.specs.Prelude.{slice_get}
use Rattle.std.proofs.lemmas.Bool.{cond-false}
use Rattle.std.proofs.lemmas.List.{length-replicate}
use Rattle.std.proofs.lemmas.List.Elements.{All-from_recursion}
use Rattle.relative_path.specs.Steps.{Step, cur, up, name, slash, is_slash, step_text, classed, components, spell, SpellsItself, SpellThemselves}
use Rattle.relative_path.specs.Walk.{walk, IsSame, LeadsInTurn, StaysBelow}
use Rattle.relative_path.specs.Normalizing.{AreNames, IsNormal, IsNormalForm, IsNormalTextOf, climb}
use Rattle.relative_path.specs.Slices.{IsShortestPrefix, IsFront}
use Rattle.relative_path.specs.Editing.{kept, pushed, unslashed}
use Rattle.relative_path.specs.Naming.{last_name, file_name_of, is_extension, is_plain_extension}
use Rattle.relative_path.specs.Relating.{Leads, IsReachable, IsShortest, IsShortestText}
use Rattle.relative_path.specs.Unix.{has_root}
use Rattle.relative_path.proofs.ListsLemmas as lists
use Rattle.relative_path.proofs.StepsLemmas as steps
use Rattle.relative_path.proofs.SlicesLemmas as slices
use Rattle.relative_path.proofs.SpellingLemmas as spelling
use Rattle.relative_path.proofs.WalkLemmas as walks
use Rattle.relative_path.proofs.EditingLemmas as editing
use Rattle.relative_path.proofs.NamingExtensionLemmas as extensions
use Rattle.relative_path.proofs.NamingEditsLemmas as edits
use Rattle.relative_path.proofs.NormalStepsLemmas as normal_steps
use Rattle.relative_path.proofs.NormalStepsLemmas.{normal_unique}
use Rattle.relative_path.proofs.NormalizingLemmas as normalizing
use Rattle.relative_path.proofs.ClimbingLemmas.{climb_after, IsSome-walk}
use Rattle.relative_path.proofs.RelatingLemmas as relating
use Rattle.relative_path.proofs.OnLiterals.{relative_path_on_literals}

-- ---- where lists lead

-- after a list, another list leads on from the place where the first leads
pub walk-append : (base : List (List ℕ)) (cs ds : List Step)
    → walk base (cs ++ ds) ≡ option_and_then (λ place. walk place ds) (walk base cs)
walk-append = walks.walk-append

-- so if both together lead to a place, the first leads to a place, and the second leads on from there
pub walk-append_some : (base place : List (List ℕ)) (cs ds : List Step) → walk base (cs ++ ds) ≡ Some place
    → (between : List (List ℕ)) × (walk base cs ≡ Some between) × (walk between ds ≡ Some place)
walk-append_some base place cs ds is =
    let (between, there) = lists.IsSome-value (walk base cs) (walks.IsSome-walk_front base cs ds (rw is refl)) in
    (between, there, ap (option_and_then (λ place. walk place ds)) (sym there) ∙ sym (walk-append base cs ds) ∙ is)

-- names lead from a base down to the names below it
pub walk-names : (base ns : List (List ℕ)) → walk base (map name ns) ≡ Some (base ++ ns)
walk-names = walks.walk-names

-- each list leads to a place from some base
pub walk-some : (cs : List Step) → (base : List (List ℕ)) × (place : List (List ℕ)) × (walk base cs ≡ Some place)
walk-some cs =
    let base : List (List ℕ) = replicate (climb_after 0 0 cs) [] in
    let level = length-replicate {A = List ℕ} (climb_after 0 0 cs) [] in
    let (place, is) = lists.IsSome-value (walk base cs) ((IsSome-walk cs base).1 (omega (arith, level))) in
    (base, place, is)

-- a normal list that doesn't begin with `..` has a place from the top
pub IsSome-walk_normal : (cs : List Step) → IsNormal cs → slice_get cs 0 ≢ Some up → IsSome (walk [] cs)
IsSome-walk_normal [] normal first = refl
IsSome-walk_normal (cur ∷ cs) normal first = absurd normal
IsSome-walk_normal (up ∷ cs) normal first = absurd (first refl)
IsSome-walk_normal (name n ∷ cs) normal first = names (n ∷ []) cs normal
  where
    names : (base : List (List ℕ)) (ds : List Step) → AreNames ds → IsSome (walk base ds)
    names base [] are = refl
    names base (cur ∷ ds) are = absurd are
    names base (up ∷ ds) are = absurd are
    names base (name m ∷ ds) are = names (base ++ m ∷ []) ds are

-- `IsSame` is reflexive
pub IsSame-refl : (cs : List Step) → IsSame cs cs
IsSame-refl = walks.IsSame-refl

-- `IsSame` is symmetric
pub IsSame-sym : {cs ds : List Step} → IsSame cs ds → IsSame ds cs
IsSame-sym same = walks.IsSame-sym _ _ same

-- `IsSame` is transitive
pub IsSame-trans : {cs ds es : List Step} → IsSame cs ds → IsSame ds es → IsSame cs es
IsSame-trans first second = walks.IsSame-trans _ _ _ first second

-- lists that lead to the same places do so after any other list
pub IsSame-append_left : (bs : List Step) {cs ds : List Step} → IsSame cs ds → IsSame (bs ++ cs) (bs ++ ds)
IsSame-append_left bs same = walks.IsSame-append_left bs _ _ same

-- lists that lead to the same places do so before any other list
pub IsSame-append_right : {cs ds : List Step} (es : List Step) → IsSame cs ds → IsSame (cs ++ es) (ds ++ es)
IsSame-append_right es same = walks.IsSame-append_right _ _ es same

-- a name and then a `..` at the end change nothing
pub IsSame-name_up : (cs : List Step) (n : List ℕ) → IsSame ((cs ++ name n ∷ []) ++ up ∷ []) cs
IsSame-name_up cs n =
    subst (λ ds. IsSame ds cs) (sym (append_assoc cs (name n ∷ []) (up ∷ [])))
    (subst (IsSame (cs ++ name n ∷ up ∷ [])) (append-nil cs) (walks.IsSame-name_up cs [] n))

-- a list with a place from the top leads where the place's names lead
pub IsSame-place : {cs : List Step} {place : List (List ℕ)} → walk [] cs ≡ Some place → IsSame cs (map name place)
IsSame-place {cs} {place} is =
    let below = walks.LeadsBelow-in_turn [] cs cs place (walks.LeadsInTurn-same [] cs cs (IsSame-refl cs)) is in
    record { everywhere = λ base. below.everywhere base ∙ sym (walk-names base place) }

-- es leads where cs and then ds lead exactly if it leads where the joined list leads
pub LeadsInTurn-append : {cs ds es : List Step} → LeadsInTurn cs ds es ↔ IsSame (cs ++ ds) es
LeadsInTurn-append {cs} {ds} {es} = (
  λ turn. record { everywhere = λ base. walk-append base cs ds ∙ sym (turn.everywhere base) },
  walks.LeadsInTurn-same cs ds es,
)

-- a list that leads from f to t also leads from g to u, if f and g lead to the same places, and t and u
pub Leads-same : {f g t u : List Step} (r : List Step) → IsSame f g → IsSame t u → Leads f r t → Leads g r u
Leads-same r from to leads = relating.Leads-same _ _ r _ _ from to leads

-- if some list leads from f to t, some list leads from g to u
pub IsReachable-same : {f g t u : List Step} → IsSame f g → IsSame t u → IsReachable f t → IsReachable g u
IsReachable-same from to reachable = relating.IsReachable-same _ _ _ _ from to reachable

-- from a list with a place from the top, some list leads to every other list
pub IsReachable-from_top : (f t : List Step) → IsSome (walk [] f) → IsReachable f t
IsReachable-from_top f t some =
    relating.IsReachable-from_below [] f t (walks.StaysBelow-in_turn [] f f (walks.LeadsInTurn-same [] f f (IsSame-refl f)) some)

-- between two lists that stay below the same list, some list leads
pub IsReachable-below : (bs f t : List Step) → StaysBelow bs f → StaysBelow bs t → IsReachable f t
IsReachable-below = relating.IsReachable-below

-- some list leads from f to t exactly if the normal form of f climbs no higher than that of t
pub IsReachable-climb : (f t fs ts : List Step) → IsNormalForm f fs → IsNormalForm t ts
    → IsReachable f t ↔ (climb fs ≤ climb ts)
IsReachable-climb = relating.IsReachable-climb

-- the shortest text from f to t is also the shortest from g to u, if f and g lead to the same places, and t and u
pub IsShortestText-same : {f g t u : List Step} {text : List ℕ} → IsSame f g → IsSame t u → IsShortestText f t text
    → IsShortestText g u text
IsShortestText-same from to way = relating.IsShortestText-same _ _ _ _ _ (IsSame-sym from) (IsSame-sym to) way

-- from names to names that begin with the same front, and then with different names: the shortest way is `..` for each
-- name after the front, and then the other names after it
pub IsShortest-apart : (front ms ns : List (List ℕ))
    → ((n : List ℕ) (ms' ns' : List (List ℕ)) → ms ≡ n ∷ ms' → ns ≡ n ∷ ns' → ⊥)
    → IsShortest (map name (front ++ ms)) (replicate (length ms) up ++ map name ns) (map name (front ++ ns))
IsShortest-apart = relating.IsShortest-apart

-- ---- normal lists

-- a normal list stays normal with a name at its end
pub IsNormal-push_name : (cs : List Step) (n : List ℕ) → IsNormal cs → IsNormal (cs ++ name n ∷ [])
IsNormal-push_name = normal_steps.IsNormal-push_name

-- the front of a normal list is normal
pub IsNormal-append_left : (cs ds : List Step) → IsNormal (cs ++ ds) → IsNormal cs
IsNormal-append_left = normal_steps.IsNormal-append_left

-- each list has a normal form
pub IsNormalForm-some : (cs : List Step) → (ds : List Step) × IsNormalForm cs ds
IsNormalForm-some = normalizing.IsNormalForm-some

-- ---- what the components of a text are

-- the text `..` has one component
pub components-up : (text : List ℕ) → text ≡ codes ".." → components text ≡ up ∷ []
unfolding relative_path_on_literals
components-up text is = ap components is

-- a slash at the end of a text adds no component
pub components-trailing_slash : (text : List ℕ) → components (text ++ slash ∷ []) ≡ components text
components-trailing_slash = steps.components-trailing_slash

-- a push appends the components of the path
pub components-pushed : (text path : List ℕ) → components (pushed text path) ≡ components text ++ components path
components-pushed = editing.components-pushed

-- the components of a text spell themselves
pub SpellThemselves-components : (text : List ℕ) → SpellThemselves (components text)
SpellThemselves-components = steps.SpellThemselves-components

-- the normal text of a list with a place from the top has the names of the place
pub components-place : {cs : List Step} {text : List ℕ} {place : List (List ℕ)} → IsNormalTextOf cs text
    → walk [] cs ≡ Some place → components text ≡ map name place
components-place {cs} {text} {place} normal is =
    normal_unique (components text) (map name place) normal.normal_text.normal (IsNormal-names place)
    (IsSame-trans (IsSame-sym normal.same) (IsSame-place is)) where
      AreNames-names : (ns : List (List ℕ)) → AreNames (map name ns)
      AreNames-names [] = tt
      AreNames-names (n ∷ ns) = AreNames-names ns

      IsNormal-names : (ns : List (List ℕ)) → IsNormal (map name ns)
      IsNormal-names [] = tt
      IsNormal-names (n ∷ ns) = AreNames-names ns

-- ---- the text of a component

-- it is a piece that stands for the component
pub classed-proper : (c : Step) → SpellsItself c → classed (step_text c) ≡ c
classed-proper c proper =
    ap (λ cs. get_or cs 0 c)
    (sym (steps.components_whole (step_text c) (steps.nonempty_proper c proper) (steps.HasNoSlash-proper c proper))
    ∙ proper)

-- it has no slash
pub no_slash-proper : (c : Step) → SpellsItself c → All (λ b. is_slash b ≡ false) (step_text c)
no_slash-proper c proper =
    All-from_recursion (λ b. is_slash b ≡ false) (step_text c) (steps.HasNoSlash-proper c proper)

-- the text of a name is not empty, `.` or `..`
pub name-proper : (n : List ℕ) → SpellsItself (name n) → (n ≢ []) × (n ≢ codes ".") × (n ≢ codes "..")
unfolding relative_path_on_literals
name-proper n proper = (
  λ e. let none = ap components (sym e) ∙ proper in absurd (cc),
  λ e. let here = ap components (sym e) ∙ proper in absurd (cc),
  λ e. let above = ap components (sym e) ∙ proper in absurd (cc),
)

-- ---- texts that spell components

-- a component that is pushed onto a text that spells its components is spelled after them
pub spell-pushed : (text : List ℕ) (c : Step) → text ≡ spell (components text) → SpellsItself c
    → pushed text (step_text c) ≡ spell (components text ++ c ∷ [])
spell-pushed = editing.spell-pushed

-- the front of a text that spells its components does so too
pub spelled-front : (text front : List ℕ) → text ≡ spell (components text) → IsFront text front
    → front ≡ spell (components front)
spelled-front text front spelled is = elim (lists.last_view (components text)) [
  | inl none ↦
      let cut : IsShortestPrefix text [] front =
      subst (λ cs. IsShortestPrefix text cs front) (ap (λ cs. take (length cs - 1) cs) none) is in
      slices.IsShortestPrefix-unique cut (slices.IsShortestPrefix-nil text) ∙ ap spell (sym cut.same_components)
  | inr (cs, c, joined) ↦
      let count : length cs ≡ length (cs ++ c ∷ []) - 1 = omega (arith, length-append cs (c ∷ [])) in
      let cut : IsShortestPrefix text cs front =
      subst (λ ds. IsShortestPrefix text ds front)
      (ap (λ ds. take (length ds - 1) ds) joined ∙ take_at cs (c ∷ []) (length (cs ++ c ∷ []) - 1) count) is in
      let proper = steps.SpellThemselves-append_left cs (c ∷ []) (subst SpellThemselves joined (SpellThemselves-components text)) in
      let whole : text ≡ spell (cs ++ c ∷ []) = spelled ∙ ap spell joined in
      let spelled_front : IsShortestPrefix text cs (spell cs) =
      slices.IsShortestPrefix-from (rw whole (spelling.IsPrefix-spell cs c)) (spelling.components-spell cs proper)
      (spelling.spell_end cs proper) in
      slices.IsShortestPrefix-unique cut spelled_front ∙ ap spell (sym cut.same_components)
]

has_root-non_slash : (n rest : List ℕ) → steps.HasNoSlash n → 0 < length n → has_root (n ++ rest) ≡ false
has_root-non_slash [] rest none some = absurd (omega arith)
has_root-non_slash (b ∷ bs) rest none some = none.0

-- a text that spells components doesn't begin with a slash
pub has_root-spell : (cs : List Step) → SpellThemselves cs → has_root (spell cs) ≡ false
has_root-spell [] proper = refl
has_root-spell (c ∷ []) (first, rest) =
    sym (ap has_root (append-nil (step_text c)))
    ∙ has_root-non_slash (step_text c) [] (steps.HasNoSlash-proper c first) (steps.nonempty_proper c first)
has_root-spell (c ∷ d ∷ cs) (first, rest) =
    has_root-non_slash (step_text c) (slash ∷ spell (d ∷ cs)) (steps.HasNoSlash-proper c first) (steps.nonempty_proper c first)

-- so a push appends the whole text
pub unslashed-spell : (cs : List Step) → SpellThemselves cs → unslashed (spell cs) ≡ spell cs
unslashed-spell cs proper = whole (spell cs) (has_root-spell cs proper) where
  whole : (text : List ℕ) → has_root text ≡ false → unslashed text ≡ text
  whole [] none = refl
  whole (b ∷ bs) none = cond-false _ _ _ none

-- ---- lists with a file name

-- after the file name come only `.` components
pub last_name-split : (cs : List Step) (n : List ℕ) → last_name cs ≡ Some n
    → (k : ℕ) × (cs ≡ kept cs ++ name n ∷ replicate k cur)
last_name-split = extensions.last_name-split

-- a list with a file name leads where the components that a parent keeps, and then the file name, lead
pub IsSame-last_name : (cs : List Step) (n : List ℕ) → last_name cs ≡ Some n → IsSame cs (kept cs ++ name n ∷ [])
IsSame-last_name = edits.IsSame-last_name

-- the file name of a list that ends in a name is that name
pub last_name-name : (cs : List Step) (n : List ℕ) → last_name (cs ++ name n ∷ []) ≡ Some n
last_name-name = extensions.last_name-name

-- and a parent of the list keeps the components before that name
pub kept-name : (cs : List Step) (n : List ℕ) → kept (cs ++ name n ∷ []) ≡ cs
kept-name = extensions.kept-name

-- the file name of components that spell themselves spells itself
pub SpellsItself-last_name : (cs : List Step) (n : List ℕ) → SpellThemselves cs → last_name cs ≡ Some n → SpellsItself (name n)
SpellsItself-last_name = edits.SpellsItself-last_name

-- the file name of the normal text of a list with a file name is that file name
pub last_name-IsNormalTextOf : {cs : List Step} {text : List ℕ} → IsNormalTextOf cs text → IsSome (last_name cs)
    → file_name_of text ≡ last_name cs
last_name-IsNormalTextOf normal found = normalizing.last_name-IsNormalTextOf _ _ normal found

-- a plain extension can come after a dot
pub is_extension-plain : (e : List ℕ) → IsTrue (is_plain_extension e) → IsTrue (is_extension e)
is_extension-plain = extensions.is_extension-plain

-- ---- sets of theorems that `#[tactic(auto, using(..))]` can name

-- which components a text or a push has
pub ruleset components_of_texts = (components-up, components-trailing_slash, components-pushed, unslashed-spell)

-- where lists of components lead
pub ruleset places = (walk-append, walk-names, IsSome-walk_normal, IsSame-refl, IsReachable-from_top)

-- file names, and the components before them
pub ruleset file_names = (last_name-name, kept-name, last_name-IsNormalTextOf, is_extension-plain)
