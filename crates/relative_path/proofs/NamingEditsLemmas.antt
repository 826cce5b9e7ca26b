-- What edits of a file name keep: the components before it, and the bases from which they lead to a place.
use Rattle.std.proofs.Common.{◌≡◌, ℕ, zero, suc, List, [], ◌∷◌, ◌++◌, length, take, drop, replicate, Option, Some, None, refl, sym, ap, ap₂, ◌∙◌, subst, append_assoc, take_at, take-append-drop}
use Rattle.std.specs.Prelude.{IsTrue, IsSome}
use Rattle.std.specs.Option.{option_and_then}
use Rattle.std.proofs.lemmas.Bool.{cond-true}
use Rattle.relative_path.specs.Steps.{Step, cur, name, dot, components, SpellsItself, SpellThemselves}
use Rattle.relative_path.specs.Walk.{walk, IsSame}
use Rattle.relative_path.specs.Editing.{kept_len, kept, IsPopped}
use Rattle.relative_path.specs.Naming.{name_of, last_name, file_name_of, stem_of, is_extension, base_components, IsBeside, IsNamed, IsExtended}
use Rattle.relative_path.proofs.WalkLemmas.{IsSame-sym, IsSame-append_left, IsSome-walk_front, IsSome-walk_name}
use Rattle.relative_path.proofs.EditingLemmas.{kept_len-curs, kept_len-push}
use Rattle.relative_path.proofs.NamingLemmas.{last_other-at, components-IsNamed}
use Rattle.relative_path.proofs.NamingExtensionLemmas.{last_name-split, kept-name, last_name-name, components-IsExtended, IsExtended-unnamed}
use Rattle.relative_path.proofs.ListsLemmas.{IsSome-value}

-- a list with a file name leads where the components that a parent keeps, and then the file name, lead
pub IsSame-last_name : (cs : List Step) (n : List ℕ) → last_name cs ≡ Some n → IsSame cs (kept cs ++ name n ∷ [])
IsSame-last_name cs n named =
    let (k, joined) = last_name-split cs n named in
    subst (λ ds. IsSame ds (kept cs ++ name n ∷ [])) (sym joined)
    (IsSame-append_left (kept cs) (name n ∷ replicate k cur) (name n ∷ [])
    (record { everywhere = λ base. walk-curs (base ++ n ∷ []) k }))
  where
    walk-curs : (base : List (List ℕ)) (k : ℕ) → walk base (replicate k cur) ≡ Some base
    walk-curs base zero = refl
    walk-curs base (suc k) = walk-curs base k

-- the file name of components that spell themselves spells itself
pub SpellsItself-last_name : (cs : List Step) (n : List ℕ) → SpellThemselves cs → last_name cs ≡ Some n → SpellsItself (name n)
SpellsItself-last_name cs n proper named =
    let (k, joined) = last_name-split cs n named in
    within (kept cs) (replicate k cur) (subst SpellThemselves joined proper)
  where
    within : (front rest : List Step) → SpellThemselves (front ++ name n ∷ rest) → SpellsItself (name n)
    within [] rest (first, more) = first
    within (c ∷ front) rest (first, more) = within front rest more

-- a list with a file name has the same file name after any other list
pub last_name-append : (cs ds : List Step) (n : List ℕ) → last_name ds ≡ Some n → last_name (cs ++ ds) ≡ Some n
last_name-append cs ds n named =
    let (k, joined) = last_name-split ds n named in
    ap (λ es. last_name (cs ++ es)) joined
    ∙ ap last_name (sym (append_assoc cs (kept ds) (name n ∷ replicate k cur)))
    ∙ ap (option_and_then name_of) (last_other-at (cs ++ kept ds) (name n) k refl)

-- and a parent keeps all of the other list, and what it keeps of this one
pub kept-append : (cs ds : List Step) (n : List ℕ) → last_name ds ≡ Some n → kept (cs ++ ds) ≡ cs ++ kept ds
kept-append cs ds n named =
    let (k, joined) = last_name-split ds n named in
    let whole : cs ++ ds ≡ (cs ++ kept ds) ++ name n ∷ replicate k cur =
    ap (λ es. cs ++ es) joined ∙ sym (append_assoc cs (kept ds) (name n ∷ replicate k cur)) in
    let count : kept_len (cs ++ ds) ≡ length (cs ++ kept ds) =
    ap kept_len (whole ∙ sym (append_assoc (cs ++ kept ds) (name n ∷ []) (replicate k cur)))
    ∙ kept_len-curs ((cs ++ kept ds) ++ name n ∷ []) k ∙ kept_len-push (cs ++ kept ds) (name n) refl in
    ap₂ take count whole ∙ take_at (cs ++ kept ds) (name n ∷ replicate k cur) (length (cs ++ kept ds)) refl

-- a joined text has the file name of the path that was pushed
pub file_name-joined : (cs : List Step) (text path : List ℕ) → components text ≡ cs ++ components path
    → IsSome (file_name_of path) → file_name_of text ≡ file_name_of path
file_name-joined cs text path joined found =
    let (n, named) = IsSome-value (file_name_of path) found in
    ap last_name joined ∙ last_name-append cs (components path) n named ∙ sym named

pub kept-joined : (cs : List Step) (text path : List ℕ) → components text ≡ cs ++ components path
    → IsSome (file_name_of path) → kept (components text) ≡ cs ++ kept (components path)
kept-joined cs text path joined found =
    let (n, named) = IsSome-value (file_name_of path) found in
    ap kept joined ∙ kept-append cs (components path) n named

-- a path with another file name is beside the path
IsBeside-name : (cs ds : List Step) (n m : List ℕ) → last_name cs ≡ Some n → ds ≡ kept cs ++ name m ∷ [] → IsBeside cs ds
IsBeside-name cs ds n m named is = record {
  directory = ap kept is ∙ kept-name (kept cs) m;
  leads = λ base.
      let same = (IsSame-last_name cs n named).everywhere base in
      let old = IsSome-walk_name base (kept cs) n in
      let new = IsSome-walk_name base (kept cs) m in
      (λ some. rw is (new.0 (old.1 (rw same at some))), λ some. rw same (old.0 (new.1 (rw is at some))));
}

-- a path with another extension is beside the path
pub IsBeside-IsExtended : (text e extended : List ℕ) → IsTrue (is_extension e) → IsExtended text e extended
    → IsBeside (components text) (components extended)
IsBeside-IsExtended text e extended plain is = at (file_name_of text) refl
  where
    at : (o : Option (List ℕ)) → file_name_of text ≡ o → IsBeside (components text) (components extended)
    at None none = rw (IsExtended-unnamed text e extended none is)
        (record { directory = refl; leads = λ base. (λ some. some, λ some. some) })
    at (Some n) named =
        IsBeside-name (components text) (components extended) n (stem_of n ++ dot ∷ e) named
        (components-IsExtended text e extended n named is plain)

-- a new name of one component is the file name
pub file_name-IsNamed : (text f named : List ℕ) → IsNamed text f named → components f ≡ name f ∷ []
    → file_name_of named ≡ Some f
file_name-IsNamed text f named is one =
    ap last_name (components-IsNamed text f named is ∙ ap (λ cs. base_components (components text) ++ cs) one)
    ∙ last_name-name (base_components (components text)) f

-- and the new path is beside the old one
pub IsBeside-IsNamed : (text f named : List ℕ) → IsNamed text f named → IsSome (file_name_of text)
    → components f ≡ name f ∷ [] → IsBeside (components text) (components named)
IsBeside-IsNamed text f named is found one =
    let (n, was) = IsSome-value (file_name_of text) found in
    IsBeside-name (components text) (components named) n f was
    (components-IsNamed text f named is
    ∙ ap₂ (λ front cs. front ++ cs) (cond-true _ _ _ found) one)

-- ---- what a parent keeps

-- a parent, and then the file name, lead where the path leads
pub IsSame-IsPopped : (text parent n : List ℕ) → IsPopped text parent → file_name_of text ≡ Some n
    → IsSame (components parent ++ name n ∷ []) (components text)
IsSame-IsPopped text parent n popped named =
    rw popped.same_components (IsSame-sym _ _ (IsSame-last_name (components text) n named))

-- a parent leads to a place from each base from which the path does
pub IsSome-walk_popped : (text parent : List ℕ) → IsPopped text parent → (base : List (List ℕ))
    → IsSome (walk base (components text)) → IsSome (walk base (components parent))
IsSome-walk_popped text parent popped base some =
    let cs = components text in
    rw popped.same_components
    (IsSome-walk_front base (kept cs) (drop (kept_len cs) cs) (rw (take-append-drop (kept_len cs) cs) some))
