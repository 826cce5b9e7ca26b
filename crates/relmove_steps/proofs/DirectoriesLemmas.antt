-- The directories above a path, those that moves leave, and those that a run makes; and the texts of a set.
use Rattle.std.proofs.Common.{All, ◌≡◌, ◌≢◌, ℕ, ◌<◌, ◌≤◌, ◌-◌, true, false, List, [], ◌∷◌, ◌++◌, Option, Some, None, inl, inr, is_some, Contains, String, Global, ◌+◌, map, take, length, get_or, string_bytes, refl, sym, ap, subst, ◌∙◌, append_assoc, append-nil, length-append, arith}
use Rattle.std.specs.List.{AllPairs, AllZip, Any, zip}
use Rattle.std.specs.BTreeSet.{insert_key}
use Rattle.std.proofs.lemmas.Bool.{cases_lt, false≢true}
use Rattle.std.proofs.lemmas.List.{get_or-map, get_or-reverse, get_or_append_left, length-map, length-reverse, map_push, nil_from_length, take_more}
use Rattle.std.proofs.lemmas.List.Elements.{All-map, All-weaker, AllZip-push, Contains-append_cases, Contains-append_left, Contains-append_right, Contains-push}
use Rattle.std.proofs.lemmas.List.Quantifiers.{Any-push}
use Rattle.std.proofs.lemmas.Map.Keys.{Less-from_sorted}
use Rattle.std.proofs.lemmas.Map.Lookups.{exact_bytes}
use Rattle.std.proofs.lemmas.Option.{none-some}
use Rattle.std.proofs.lemmas.Slice.Zip.{get_or-zip, length-zip}
use Rattle.std.specs.Cmp.Lexicographic.{slice_cmp}
use Rattle.std.specs.List.Sorted.{IsStrictlySortedBy}
use Rattle.std.specs.Ordering.{match_ordering, nat_cmp}
use Rattle.std.specs.declared.cmp.Ordering.{Ordering}
use Rattle.std.specs.declared.cmp.Ordering.TheVariants.{Less, Equal, Greater}
use mathlib.Core.List.{reverse}
use Rattle.relative_path.specs.Steps.{Step, components, slash}
use Rattle.relative_path.specs.Naming.{last_name}
use Rattle.relative_path.specs.Normalizing.{IsNormalTextOf}
use Rattle.relative_path.specs.RelativePath.{path_components, path_text}
use Rattle.relative_path.specs.Walk.{IsSame}
use Rattle.relative_path.specs.declared.path.RelativePath.{RelativePath}
use Rattle.relative_path.proofs.ForCallers.{last_name-name}
use Rattle.relative_path_places.specs.declared.normal_view.NormalView.{NormalView}
use Rattle.relative_path_places.specs.Views.{view_components, view_text}
use Rattle.relative_path_moves.specs.declared.moves.Move as declared
use Rattle.relative_path_moves.specs.Moves.{Move, move_at, written_moves, AreApart, AreNamed, turned}
use Rattle.relative_path_places.specs.PlaceIndex.{IsFoundAt, IsNoneAt}
use Rattle.relative_path_moves.specs.TreeMoves.{AtTreePath}
use Rattle.relmove_checks.specs.Moves.{move_of}
use Rattle.relmove_checks.proofs.ForCallers.{length-written, move_at-written, same_front, some_long}
use Rattle.relmove_steps.specs.StagingNames.{IsNumbered, numbered_name}
use Rattle.relmove_steps.specs.Directories.{AreAllLeftBehind, AreMissing, AreMissingTexts, HasDirectory, HasLeftBehind, HaveTextOf, IsDirectoryAbove, IsLeftBehindByMove, IsMissingText, IsTextTakenTo, LeavesTo, LeaveToNames, moves_to_names}
use Rattle.relmove_steps.specs.Actions.{AboveFirst, AreAmong, ActionTexts, with_carried, with_removed}
use Rattle.relmove_steps.proofs.NewFilesLemmas.{components-numbered_name}
use Rattle.relmove_steps.proofs.OrderLemmas.{map-reverse, nat_cmp-self}

module _ (cs left directory rest : List Step) (last : Step) (split : cs ≡ left ++ rest)
    (is : left ≡ directory ++ last ∷ [])
  where
    -- the last component goes to what is below the directory
    pub split-directory : cs ≡ directory ++ last ∷ rest
    split-directory = split ∙ ap (λ ds. ds ++ rest) is ∙ append_assoc directory (last ∷ []) rest

    pub HasDirectory-here : directory ≢ [] → HasDirectory cs directory
    HasDirectory-here some = record {
      rest = last ∷ rest;
      split = split-directory;
      some_front = some;
      some_rest = λ none. absurd (let count = ap length none in omega (arith, count));
    }

-- the list has each front of the components that is as long as what is left, or longer, but for all of them
abbrev pub HaveFrontsFrom : List Step → List Step → List NormalView → Type 0
HaveFrontsFrom cs left directories = (front rest : List Step) → cs ≡ front ++ rest → rest ≢ []
    → length left ≤ length front → Any (λ directory. view_components directory ≡ front) directories

pub HaveFrontsFrom-start : (cs : List Step) → HaveFrontsFrom cs cs []
HaveFrontsFrom-start cs = λ front rest is some long.
    absurd (some (nil_from_length rest (omega (arith, ap length is, length-append front rest, long))))

Any-more : {X : Type 0} (P : X → Type 0) (xs : List X) (y : X) → Any P xs → Any P (xs ++ y ∷ [])
Any-more P xs y (k, x, within, is, holds) = (
  k,
  x,
  omega (arith, within, length-append xs (y ∷ [])),
  get_or_append_left xs (y ∷ []) x k within ∙ is,
  holds,
)

pub HaveFrontsFrom-next : (cs left rest : List Step) (last : Step) (directories : List NormalView)
    (directory : NormalView) → cs ≡ left ++ rest → left ≡ view_components directory ++ last ∷ []
    → HaveFrontsFrom cs left directories
    → HaveFrontsFrom cs (view_components directory) (directories ++ directory ∷ [])
HaveFrontsFrom-next cs left rest last directories directory split is before = λ front other here some long.
    elim (cases_lt (length (view_components directory)) (length front)) [
      | inl less ↦
          let count : length left ≤ length front =
          omega (arith, less, ap length is, length-append (view_components directory) (last ∷ [])) in
          Any-more (λ one. view_components one ≡ front) directories directory (before front other here some count)
      | inr no_less ↦
          Any-push (λ one. view_components one ≡ front) directories directory
          (sym (same_front front (view_components directory) other (last ∷ rest)
          (sym here ∙ split-directory cs left (view_components directory) rest last split is)
          (omega (arith, long, no_less))))
    ]

-- at the end no shorter front is left
pub HaveFrontsFrom-end : (cs left : List Step) (directories : List NormalView) (front : List Step) → length left ≤ 1
    → HaveFrontsFrom cs left directories → HasDirectory cs front
    → Any (λ directory. view_components directory ≡ front) directories
HaveFrontsFrom-end cs left directories front short all has =
    let long = some_long front has.some_front in
    all front has.rest has.split has.some_rest (omega (arith, short, long))

-- ---- the texts of a set

-- a text comes after each that it goes on from
slice_cmp-shorter : (top : List ℕ) (b : ℕ) (rest : List ℕ) → slice_cmp nat_cmp (top ++ b ∷ rest) top ≡ Greater
slice_cmp-shorter [] b rest = refl
slice_cmp-shorter (x ∷ top) b rest = rw (nat_cmp-self x, slice_cmp-shorter top b rest) refl

-- what is above a path comes before it in a set of texts
pub AboveFirst-ordered : (texts : List (String Global))
    → IsStrictlySortedBy (λ one other. slice_cmp nat_cmp (string_bytes one) (string_bytes other)) texts
    → AboveFirst (map string_bytes texts)
AboveFirst-ordered [] sorted = λ i j l within. absurd (let w : j < 0 = within in omega (arith, w))
AboveFirst-ordered (x ∷ xs) sorted = λ i j l within below.
    let texts : List (String Global) = x ∷ xs in
    let w : j < length texts = rw length-map at within in
    let v : i < length texts = omega (arith, l, w) in
    let one = string_bytes (get_or texts i x) in
    let other = string_bytes (get_or texts j x) in
    let less : slice_cmp nat_cmp one other ≡ Less =
    Less-from_sorted (λ one other. slice_cmp nat_cmp (string_bytes one) (string_bytes other)) texts i j x sorted l w in
    let is : one ≡ other ++ slash ∷ below.0 =
    sym (get_or-map string_bytes texts i x [] v) ∙ below.1
    ∙ ap (λ top. top ++ slash ∷ below.0) (get_or-map string_bytes texts j x [] w) in
    let greater : slice_cmp nat_cmp one other ≡ Greater = rw is (slice_cmp-shorter other slash below.0) in
    absurd (let both : Less ≡ Greater = sym less ∙ greater in cc)

slice_cmp-self : (text : List ℕ) → slice_cmp nat_cmp text text ≡ Equal
slice_cmp-self [] = refl
slice_cmp-self (x ∷ text) = rw (nat_cmp-self x, slice_cmp-self text) refl

-- no two texts of a set are equal
pub AllPairs-ordered : (texts : List (String Global))
    → IsStrictlySortedBy (λ one other. slice_cmp nat_cmp (string_bytes one) (string_bytes other)) texts
    → AllPairs (λ one other. one ≢ other) (map string_bytes texts)
AllPairs-ordered [] sorted = λ i j d l within. absurd (let w : j < 0 = within in omega (arith, w))
AllPairs-ordered (x ∷ xs) sorted = λ i j d l within same.
    let texts : List (String Global) = x ∷ xs in
    let w : j < length texts = rw length-map at within in
    let v : i < length texts = omega (arith, l, w) in
    let one = string_bytes (get_or texts i x) in
    let other = string_bytes (get_or texts j x) in
    let less : slice_cmp nat_cmp one other ≡ Less =
    Less-from_sorted (λ one other. slice_cmp nat_cmp (string_bytes one) (string_bytes other)) texts i j x sorted l w in
    let is : one ≡ other =
    sym (get_or-map string_bytes texts i x d v) ∙ same ∙ get_or-map string_bytes texts j x d w in
    let equal : slice_cmp nat_cmp one other ≡ Equal = rw is (slice_cmp-self other) in
    absurd (let both : Less ≡ Equal = sym less ∙ equal in cc)

Contains-cons : {X : Type 0} (x : X) (xs : List X) (y : X) → Contains xs y → Contains (x ∷ xs) y
Contains-cons x xs y has = Contains-append_right (x ∷ []) xs y has

Contains-head : {X : Type 0} (x : X) (xs : List X) → Contains (x ∷ xs) x
Contains-head x xs = Contains-append_left (x ∷ []) xs x (Contains-push [] x)

module _ {K : Type 0} (cmp : K → K → Ordering) (text_of : K → List ℕ)
    (same : (x y : K) → cmp x y ≡ Equal → text_of x ≡ text_of y)
  where
    -- a set has the text that is inserted
    pub Contains-insert_key : (ks : List K) (k : K) → Contains (map text_of (insert_key cmp ks k)) (text_of k)
    Contains-insert_key [] k = Contains-head (text_of k) []
    Contains-insert_key (x ∷ xs) k = by (cmp k x) refl (Contains-insert_key xs k)
      where
        by : (o : Ordering) → cmp k x ≡ o → Contains (map text_of (insert_key cmp xs k)) (text_of k)
            → Contains (map text_of (match_ordering o (k ∷ x ∷ xs) (x ∷ xs) (x ∷ insert_key cmp xs k))) (text_of k)
        by Less is has = Contains-head (text_of k) (map text_of (x ∷ xs))
        by Equal is has =
            subst (Contains (map text_of (x ∷ xs))) (sym (same k x is)) (Contains-head (text_of x) (map text_of xs))
        by Greater is has = Contains-cons (text_of x) (map text_of (insert_key cmp xs k)) (text_of k) has

    -- and the texts that it had
    pub Contains-insert_key_kept : (ks : List K) (k : K) (text : List ℕ) → Contains (map text_of ks) text
        → Contains (map text_of (insert_key cmp ks k)) text
    Contains-insert_key_kept [] k text has = Contains-cons (text_of k) [] text has
    Contains-insert_key_kept (x ∷ xs) k text has = by (cmp k x) (Contains-insert_key_kept xs k text)
      where
        by : (o : Ordering) → (Contains (map text_of xs) text → Contains (map text_of (insert_key cmp xs k)) text)
            → Contains (map text_of (match_ordering o (k ∷ x ∷ xs) (x ∷ xs) (x ∷ insert_key cmp xs k))) text
        by Less kept = Contains-cons (text_of k) (map text_of (x ∷ xs)) text has
        by Equal kept = has
        by Greater kept = elim (Contains-append_cases (text_of x ∷ []) (map text_of xs) text has) [
          | inl here ↦ Contains-append_left (text_of x ∷ []) (map text_of (insert_key cmp xs k)) text here
          | inr later ↦ Contains-cons (text_of x) (map text_of (insert_key cmp xs k)) text (kept later)
        ]

-- the order of the texts of a set
abbrev pub text_cmp : String Global → String Global → Ordering
text_cmp one other = slice_cmp nat_cmp (string_bytes one) (string_bytes other)

pub text_ties : (one other : String Global) → text_cmp one other ≡ Equal → string_bytes one ≡ string_bytes other
text_ties one other is = exact_bytes (string_bytes one) (string_bytes other) is

-- after the last of them
pub reverse-taken : {X : Type 0} (taken left all : List X) → (0 < length left → ⊥) → taken ++ reverse left ≡ all → taken ≡ all
reverse-taken taken [] all none is = sym (append-nil taken) ∙ is
reverse-taken taken (x ∷ left) all none is = absurd (none (omega arith))

-- what holds of each element holds of each element of the list turned round
pub All-reverse : {X : Type 0} (P : X → Type 0) (xs : List X) → All P xs → All P (reverse xs)
All-reverse P xs all = λ k d within.
    let w : k < length xs = rw length-reverse at within in
    subst P (sym (get_or-reverse xs k d w)) (all (length xs - 1 - k) d (omega (arith, w)))

Contains-reverse : {X : Type 0} (xs : List X) (x : X) → Contains xs x → Contains (reverse xs) x
Contains-reverse xs x (k, within, is) = (
  length xs - 1 - k,
  rw length-reverse (omega (arith, within)),
  get_or-reverse xs (length xs - 1 - k) x (omega (arith, within)) ∙ ap (λ j. get_or xs j x) (omega (arith, within)) ∙ is,
)

-- ---- the directories that moves leave

pub IsLeftBehindByMove-here : (table moves : List Move) (k : ℕ) (path cs : List Step) (normal now text : List ℕ)
    → k < length moves → (move_at moves k).old ≡ path → IsNormalTextOf path normal → HasDirectory (components normal) cs
    → AtTreePath table cs (λ target. IsNormalTextOf target now) → text ≡ now → IsLeftBehindByMove table moves text
IsLeftBehindByMove-here table moves k path cs normal now text l here is has there same = (
  k,
  l,
  rw here (record {
    normal = normal;
    normal_of = is;
    directory = cs;
    above = has;
    now = rw same there;
  }),
)

-- where the directory is after the moves is one of the texts
abbrev pub IsLeftAt : List Move → List (List ℕ) → NormalView → Type 0
IsLeftAt table texts directory = HasLeftBehind table texts (view_components directory)

pub HasLeftBehind-more : (table : List Move) (texts more : List (List ℕ)) (cs : List Step)
    → ((text : List ℕ) → Contains texts text → Contains more text) → HasLeftBehind table texts cs
    → HasLeftBehind table more cs
HasLeftBehind-more table texts more cs kept left =
    record { text = left.text; now = left.now; has = kept left.text left.has }

pub HasLeftBehind-any : (table : List Move) (texts : List (List ℕ)) (directories : List NormalView) (cs : List Step)
    → All (IsLeftAt table texts) directories → Any (λ directory. view_components directory ≡ cs) directories
    → HasLeftBehind table texts cs
HasLeftBehind-any table texts directories cs all (k, directory, within, is, same) =
    subst (HasLeftBehind table texts) same (subst (IsLeftAt table texts) is (all k directory within))

pub AreAllLeftBehind-reverse : (table moves : List Move) (keys : List (String Global))
    → AreAllLeftBehind table moves (map string_bytes keys) → AreAllLeftBehind table moves (map string_bytes (reverse keys))
AreAllLeftBehind-reverse table moves keys all = λ k within directory above.
    HasLeftBehind-more table (map string_bytes keys) (map string_bytes (reverse keys)) directory
    (λ text has.
    subst (λ texts. Contains texts text) (sym (map-reverse string_bytes keys))
    (Contains-reverse (map string_bytes keys) text has))
    (all k within directory above)

-- ---- the directories that are missing

-- where an index finds nothing
pub IsNoneAt-found : (paths : List (List Step)) (cs : List Step) (found : Option ℕ) → is_some found ≡ false
    → IsFoundAt paths cs found → IsNoneAt paths cs
IsNoneAt-found paths cs None none is = is
IsNoneAt-found paths cs (Some k) none is = absurd (false≢true (sym none))

-- where an index finds something
pub IsNoneAt-not : (paths : List (List Step)) (cs : List Step) (found : Option ℕ) → is_some found ≡ true
    → IsFoundAt paths cs found → ¬ IsNoneAt paths cs
IsNoneAt-not paths cs None some is = absurd (false≢true some)
IsNoneAt-not paths cs (Some k) some is = λ none. none k is.within is.same

pub IsMissingText-here : (moves : List Move) (after : List (List Step)) (k : ℕ) (normal text : List ℕ) → k < length moves
    → IsNormalTextOf (move_at moves k).new normal → HasDirectory (components normal) (components text)
    → IsNormalTextOf (components text) text → IsNoneAt after (components text) → IsMissingText moves after text
IsMissingText-here moves after k normal text within normal_of above text_of none = (
  components text,
  record {
    move = k;
    within = within;
    above = record { normal = normal; normal_of = normal_of; above = above };
    none = none;
  },
  text_of,
)

pub HaveTextOf-more : (texts more : List (List ℕ)) (cs : List Step)
    → ((text : List ℕ) → Contains texts text → Contains more text) → HaveTextOf texts cs → HaveTextOf more cs
HaveTextOf-more texts more cs kept (text, has, is) = (text, kept text has, is)

-- if no path leads to the directory, one of the texts is its normal text
abbrev pub IsServed : List (List Step) → List (List ℕ) → NormalView → Type 0
IsServed after texts directory =
    IsNoneAt after (view_components directory) → HaveTextOf texts (view_components directory)

pub All-IsServed-more : (after : List (List Step)) (texts more : List (List ℕ)) (directories : List NormalView)
    → ((text : List ℕ) → Contains texts text → Contains more text) → All (IsServed after texts) directories
    → All (IsServed after more) directories
All-IsServed-more after texts more directories kept all =
    All-weaker (IsServed after texts) (IsServed after more)
    (λ directory served none. HaveTextOf-more texts more (view_components directory) kept (served none)) directories all

pub IsServed-any : (after : List (List Step)) (texts : List (List ℕ)) (directories : List NormalView) (cs : List Step)
    → All (IsServed after texts) directories → Any (λ directory. view_components directory ≡ cs) directories
    → IsNoneAt after cs → HaveTextOf texts cs
IsServed-any after texts directories cs all (k, directory, within, is, same) none =
    let served : IsServed after texts directory = subst (IsServed after texts) is (all k directory within) in
    subst (HaveTextOf texts) same (served (subst (IsNoneAt after) (sym same) none))

-- the text of the directory is added
pub IsServed-insert : (after : List (List Step)) (keys : List (String Global)) (key : String Global)
    (directory : NormalView) → string_bytes key ≡ view_text directory
    → IsNormalTextOf (view_components directory) (view_text directory)
    → IsServed after (map string_bytes (insert_key text_cmp keys key)) directory
IsServed-insert after keys key directory key_is is = λ none. (
  string_bytes key,
  Contains-insert_key text_cmp string_bytes text_ties keys key,
  subst (IsNormalTextOf (view_components directory)) (sym key_is) is,
)

-- a directory is above one normal text of a path if it is above another
pub HasDirectory-normal : (path directory : List Step) (normal : List ℕ) → IsNormalTextOf path normal
    → IsDirectoryAbove path directory → HasDirectory (components normal) directory
HasDirectory-normal path directory normal is above =
    subst (λ text. HasDirectory (components text) directory)
    (is.only above.normal above.normal_of.normal_text above.normal_of.same) above.above

-- the texts of an ordered list of missing directories
pub AreMissing-ordered : (moves : List Move) (after : List (List Step)) (texts : List (String Global))
    → IsStrictlySortedBy (λ one other. slice_cmp nat_cmp (string_bytes one) (string_bytes other)) texts
    → AreMissingTexts moves after texts
    → ((k : ℕ) → k < length moves → (directory : List Step) → IsDirectoryAbove (move_at moves k).new directory
    → IsNoneAt after directory → HaveTextOf (map string_bytes texts) directory)
    → AreMissing moves after (map string_bytes texts)
AreMissing-ordered moves after texts sorted sound complete = record {
  sound = All-map (IsMissingText moves after) string_bytes texts sound;
  complete = λ directory is. complete is.move is.within directory is.above is.none;
  order = AboveFirst-ordered texts sorted;
  different = AllPairs-ordered texts sorted;
}

pub IsTextTakenTo-here : (news : List Move) (directory seen now text : List ℕ) → seen ≡ directory → text ≡ now
    → AtTreePath news (components seen) (λ target. IsNormalTextOf target now) → IsTextTakenTo news directory text
IsTextTakenTo-here news directory seen now text is same there = rw (sym is, same) there

-- one more directory is taken
pub AllZip-IsTextTakenTo-next : (news : List Move) (taken made : List (String Global)) (directory text : String Global)
    → AllZip (IsTextTakenTo news) (map string_bytes taken) (map string_bytes made)
    → IsTextTakenTo news (string_bytes directory) (string_bytes text)
    → AllZip (IsTextTakenTo news) (map string_bytes (taken ++ directory ∷ [])) (map string_bytes (made ++ text ∷ []))
AllZip-IsTextTakenTo-next news taken made directory text before here =
    rw (map_push (string_bytes {Z = Global}) taken directory, map_push (string_bytes {Z = Global}) made text)
    (AllZip-push (IsTextTakenTo news) (map string_bytes taken) (map string_bytes made) (string_bytes directory)
    (string_bytes text) before here)

-- ---- the moves to names

pub length-moves_to_names : (moves : List Move) (names : List (List ℕ)) → length names ≡ length moves
    → length (moves_to_names moves names) ≡ length moves
length-moves_to_names moves names count =
    length-map (zip moves names) (λ pair. move_of pair.0.new (components pair.1))
    ∙ length-zip moves names ∙ omega (arith, count)

pub move_at-moves_to_names : (moves : List Move) (names : List (List ℕ)) (k : ℕ) → k < length moves → k < length names
    → move_at (moves_to_names moves names) k ≡ move_of (move_at moves k).new (components (get_or names k []))
move_at-moves_to_names moves names k within also =
    let long : k < length (zip moves names) = rw (length-zip moves names) (omega (arith, within, also)) in
    get_or-map (λ (pair : Move × List ℕ). move_of pair.0.new (components pair.1)) (zip moves names) k
    (move_of [] [], []) (move_of [] []) long
    ∙ ap (λ (pair : Move × List ℕ). move_of pair.0.new (components pair.1))
    (get_or-zip moves names k (move_of [] [], []) within also)

-- the new paths of the moves have file names, and so has each name
pub AreNamed-moves_to_names : (moves : List Move) (names : List (List ℕ)) (last : ℕ) → length names ≡ length moves
    → AreNamed moves → All (IsNumbered last) names → AreNamed (moves_to_names moves names)
AreNamed-moves_to_names moves names last count named numbered = λ k l lacks.
    let within : k < length moves = rw (length-moves_to_names moves names count) at l in
    let also : k < length names = rw count within in
    elim (rw (move_at-moves_to_names moves names k within also) at lacks) [
      | inl lacks_new ↦ named k within (inr lacks_new)
      | inr lacks_name ↦
          let is = numbered k [] also in
          let found : last_name (components (get_or names k [])) ≡ Some (numbered_name is.number) =
          ap last_name (ap components is.name_is ∙ components-numbered_name is.number)
          ∙ last_name-name [] (numbered_name is.number) in
          none-some (numbered_name is.number) (sym lacks_name ∙ found)
    ]

-- the moves to names leave from the new paths of the moves
pub AreApart-moves_to_names : (moves : List Move) (names : List (List ℕ)) → length names ≡ length moves
    → AreApart (turned moves) → AreApart (moves_to_names moves names)
AreApart-moves_to_names moves names count apart = λ j k same.
    let within : k < length moves = rw (length-moves_to_names moves names count) at same.within in
    let before = same.before in
    let old_is : (i : ℕ) → i < length moves → (move_at (moves_to_names moves names) i).old ≡ (move_at (turned moves) i).old =
    λ i l. ap (λ (move : Move). move.old) (move_at-moves_to_names moves names i l (rw count l))
    ∙ sym (ap (λ (move : Move). move.old)
    (get_or-map (λ (move : Move). move_of move.new move.old) moves i (move_of [] []) (move_of [] []) l)) in
    apart j k
    (record {
      before = before;
      within = rw length-map within;
      same = subst (λ cs. IsSame cs (move_at (turned moves) k).old) (old_is j (omega (arith, before, within)))
          (subst (IsSame (move_at (moves_to_names moves names) j).old) (old_is k within) same.same);
    })

-- one pair more
pub moves_to_names-next : (moves : List declared.Move) (names : List (String Global)) (news : List declared.Move) (k : ℕ)
    (move next : declared.Move) (item : String Global) → k < length moves → k < length names
    → move ≡ get_or moves k move → item ≡ get_or names k item → next.old ≡ move.new
    → path_text next.new ≡ string_bytes item
    → written_moves news ≡ take k (moves_to_names (written_moves moves) (map string_bytes names))
    → written_moves (news ++ next ∷ []) ≡ take (k + 1) (moves_to_names (written_moves moves) (map string_bytes names))
moves_to_names-next paths names news k move next item within also move_is item_is old_is name_is before =
    let moves = written_moves paths in
    let texts = map (string_bytes {Z = Global}) names in
    let all = moves_to_names moves texts in
    let one : k < length moves = rw (length-written paths) within in
    let other : k < length texts = rw length-map also in
    let long : k < length all =
    rw (length-map (zip moves texts) (λ (pair : Move × List ℕ). move_of pair.0.new (components pair.1)), length-zip moves texts)
    (omega (arith, one, other)) in
    let text_is : get_or texts k [] ≡ path_text next.new =
    get_or-map (string_bytes {Z = Global}) names k item [] also ∙ ap (string_bytes {Z = Global}) (sym item_is) ∙ sym name_is in
    let here : get_or all k (move_of [] []) ≡ move_of (path_components next.old) (path_components next.new) =
    move_at-moves_to_names moves texts k one other
    ∙ ap (λ (move : Move). move_of move.new (components (get_or texts k []))) (move_at-written paths k move within move_is)
    ∙ ap (λ (path : RelativePath). move_of (path_components path) (components (get_or texts k []))) (sym old_is)
    ∙ ap (λ (text : List ℕ). move_of (path_components next.old) (components text)) text_is in
    map_push (λ (move : declared.Move). move_of (path_components move.old) (path_components move.new)) news next
    ∙ ap (λ (moves : List Move). moves ++ move_of (path_components next.old) (path_components next.new) ∷ []) before
    ∙ ap (λ (move : Move). take k all ++ move ∷ []) (sym here) ∙ sym (take_more all k (move_of [] []) long)

-- ---- the names to which things leave

pub LeavesTo-with_removed : (actions : ActionTexts) (cs : List Step) (from name : List ℕ) → IsNormalTextOf cs from
    → LeavesTo (with_removed actions from name) cs name
LeavesTo-with_removed actions cs from name is = (from, is, Contains-push actions.staged (from, name))

pub LeavesTo-with_carried : (actions : ActionTexts) (cs : List Step) (from name to : List ℕ) → IsNormalTextOf cs from
    → LeavesTo (with_carried actions from name to) cs name
LeavesTo-with_carried actions cs from name to is = (from, is, Contains-push actions.staged (from, name))

pub LeavesTo-among : (actions more : ActionTexts) → AreAmong actions more → (cs : List Step) (name : List ℕ)
    → LeavesTo actions cs name → LeavesTo more cs name
LeavesTo-among actions more among cs name (old, is, has) = (old, is, among.staged (old, name) has)

pub LeaveToNames-among : (actions more : ActionTexts) → AreAmong actions more → (moves : List Move) (names : List (List ℕ))
    → LeaveToNames moves names actions → LeaveToNames moves names more
LeaveToNames-among actions more among moves names leave = record {
  count = leave.count;
  each = λ k l. LeavesTo-among actions more among (move_at moves k).old (get_or names k []) (leave.each k l);
}

pub LeavesTo-here : (actions : ActionTexts) (moves : List declared.Move) (move : declared.Move) (names : List (String Global))
    (k : ℕ) (item : String Global) (name : List ℕ) → k < length moves → move ≡ get_or moves k move → k < length names
    → item ≡ get_or names k item → name ≡ string_bytes item → LeavesTo actions (path_components move.old) name
    → LeavesTo actions (move_at (written_moves moves) k).old (get_or (map string_bytes names) k [])
LeavesTo-here actions moves move names k item name within is also item_is name_is leaves =
    rw (move_at-written moves k move within is, get_or-map (string_bytes {Z = Global}) names k item [] also)
    (subst (LeavesTo actions (path_components move.old)) (name_is ∙ ap (string_bytes {Z = Global}) item_is) leaves)
