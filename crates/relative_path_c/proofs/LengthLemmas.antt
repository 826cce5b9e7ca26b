-- How long the texts are that the calls write, by the lengths of the texts that they read.
use Rattle.std.proofs.Common.{◌≡◌, ◌≤◌, ◌<◌, ◌+◌, ◌-◌, ◌*◌, ℕ, zero, suc, Bool, true, false, cond, not, List, [], ◌∷◌, ◌++◌, length, map, filter, take, drop, replicate, Option, Some, None, option_and_then, option_map, bytes_eq, sym, refl, ap, ◌∙◌, subst, ⊎_elim, arith, append_assoc, append-nil, length-append, length-take, take-append-drop, take_at}
use Rattle.std.specs.List.{slice_split, onto_first}
use Rattle.std.proofs.lemmas.Bool.{cases_lt, cond_both}
use Rattle.std.proofs.lemmas.List.{length-replicate, take-replicate, map_push}
use Rattle.std.proofs.lemmas.Slice.Eq.{bytes_eq-Decides}
use Rattle.relative_path.specs.Editing.{without_cur_dirs}
use Rattle.relative_path.specs.Normalizing.{AreNames, IsNormal, IsNormalForm, IsNormalTextOf}
use Rattle.relative_path.specs.Relating.{Leads, IsShortest, IsShortestText, IsWayText}
use Rattle.relative_path.specs.Steps.{Step, cur, up, name, slash, dot, is_slash, is_not_empty, pieces, step_text, classed, components, spell, slashed_len}
use Rattle.relative_path.specs.Unix.{has_root, counted, unix_components, onto, way_to, shared_len, IsLogical}
use Rattle.relative_path.specs.Walk.{walk, above, IsSame}
use Rattle.relative_path.specs.Writing.{with_piece}
use Rattle.relative_path.proofs.ForCallers.{walk-append, walk-append_some, walk-names, IsNormalForm-some, IsSame-append_left, IsSame-sym, IsSame-trans}

-- ---- the components of a text

-- how many bytes the pieces have, with a slash after each
abbrev padded : List (List ℕ) → ℕ
padded [] = 0
padded (p ∷ ps) = length p + 1 + padded ps

padded-onto_first : (b : ℕ) (ps : List (List ℕ)) → 0 < length ps → padded (onto_first b ps) ≡ suc (padded ps)
padded-onto_first b [] some = absurd (omega (arith, some))
padded-onto_first b (p ∷ ps) some = omega arith

slice_split_some : (bs : List ℕ) → 0 < length (slice_split is_slash bs)
slice_split_some [] = omega arith
slice_split_some (b ∷ bs) = either (is_slash b) (slice_split is_slash bs)
  where
    either : (cut : Bool) (ps : List (List ℕ)) → 0 < length (cond cut ([] ∷ ps) (onto_first b ps))
    either true ps = omega arith
    either false [] = omega arith
    either false (p ∷ ps) = omega arith

padded-slice_split : (bs : List ℕ) → padded (slice_split is_slash bs) ≡ length bs + 1
padded-slice_split [] = omega arith
padded-slice_split (b ∷ bs) = either (is_slash b) (padded-slice_split bs)
  where
    rest : List (List ℕ)
    rest = slice_split is_slash bs

    either : (cut : Bool) → padded rest ≡ length bs + 1
        → padded (cond cut ([] ∷ rest) (onto_first b rest)) ≡ length (b ∷ bs) + 1
    either true is = omega (arith, is)
    either false is = omega (arith, is, padded-onto_first b rest (slice_split_some bs))

length-classed : (p : List ℕ) → length (step_text (classed p)) ≡ length p
length-classed p =
    cond_both (bytes_eq p (dot ∷ [])) cur (cond (bytes_eq p (dot ∷ dot ∷ [])) up (name p))
    (λ c. length (step_text c) ≡ length p) (λ e. sym (ap length ((bytes_eq-Decides p (dot ∷ [])).0 e)))
    (λ _. cond_both (bytes_eq p (dot ∷ dot ∷ [])) up (name p) (λ c. length (step_text c) ≡ length p)
    (λ e. sym (ap length ((bytes_eq-Decides p (dot ∷ dot ∷ [])).0 e))) (λ _. refl))

slashed_len-classed : (ps : List (List ℕ)) → slashed_len (map classed (filter is_not_empty ps)) ≤ padded ps
slashed_len-classed [] = omega arith
slashed_len-classed ([] ∷ ps) = omega (arith, slashed_len-classed ps)
slashed_len-classed ((b ∷ bs) ∷ ps) = omega (arith, slashed_len-classed ps, length-classed (b ∷ bs))

two_each : (ps : List (List ℕ))
    → 2 * length (map classed (filter is_not_empty ps)) ≤ slashed_len (map classed (filter is_not_empty ps))
two_each [] = omega arith
two_each ([] ∷ ps) = two_each ps
two_each ((b ∷ bs) ∷ ps) = omega (arith, two_each ps, length-classed (b ∷ bs))

-- a text is no shorter than its components with a slash between each two
slashed_len-components : (text : List ℕ) → slashed_len (components text) ≤ length text + 1
unfolding components pieces
slashed_len-components text = omega (arith, slashed_len-classed (slice_split is_slash text), padded-slice_split text)

-- a component has at least two bytes with its slash
length-components_le : (text : List ℕ) → 2 * length (components text) ≤ length text + 1
unfolding components pieces
length-components_le text =
    omega (
      arith,
      two_each (slice_split is_slash text),
      slashed_len-classed (slice_split is_slash text),
      padded-slice_split text,
    )

-- ---- the text that spells components

length-spell_some : (c : Step) (cs : List Step) → length (spell (c ∷ cs)) + 1 ≡ slashed_len (c ∷ cs)
length-spell_some c [] = omega arith
length-spell_some c (d ∷ cs) =
    omega (arith, length-append (step_text c) (slash ∷ spell (d ∷ cs)), length-spell_some d cs)

length-spell : (cs : List Step) → length (spell cs) ≡ slashed_len cs - 1
length-spell [] = omega arith
length-spell (c ∷ cs) = omega (arith, length-spell_some c cs)

slashed_len-append : (cs ds : List Step) → slashed_len (cs ++ ds) ≡ slashed_len cs + slashed_len ds
slashed_len-append [] ds = omega arith
slashed_len-append (c ∷ cs) ds = omega (arith, slashed_len-append cs ds)

slashed_len-ups : (n : ℕ) → slashed_len (replicate n up) ≡ 3 * n
slashed_len-ups zero = refl
slashed_len-ups (suc n) = omega (arith, slashed_len-ups n)

slashed_len-drop : (n : ℕ) (cs : List Step) → slashed_len (drop n cs) ≤ slashed_len cs
slashed_len-drop zero cs = omega arith
slashed_len-drop (suc n) [] = omega arith
slashed_len-drop (suc n) (c ∷ cs) = omega (arith, slashed_len-drop n cs)

length-drop_le : (n : ℕ) (cs : List Step) → length (drop n cs) ≤ length cs
length-drop_le zero cs = omega arith
length-drop_le (suc n) [] = omega arith
length-drop_le (suc n) (c ∷ cs) = omega (arith, length-drop_le n cs)

slashed_len-without_cur_dirs : (cs : List Step) → slashed_len (without_cur_dirs cs) ≤ slashed_len cs
slashed_len-without_cur_dirs [] = omega arith
slashed_len-without_cur_dirs (cur ∷ cs) = omega (arith, slashed_len-without_cur_dirs cs)
slashed_len-without_cur_dirs (up ∷ cs) = omega (arith, slashed_len-without_cur_dirs cs)
slashed_len-without_cur_dirs (name n ∷ cs) = omega (arith, slashed_len-without_cur_dirs cs)

length-without_cur_dirs : (cs : List Step) → length (without_cur_dirs cs) ≤ length cs
length-without_cur_dirs [] = omega arith
length-without_cur_dirs (cur ∷ cs) = omega (arith, length-without_cur_dirs cs)
length-without_cur_dirs (up ∷ cs) = omega (arith, length-without_cur_dirs cs)
length-without_cur_dirs (name n ∷ cs) = omega (arith, length-without_cur_dirs cs)

slashed_len-unix_components : (text : List ℕ) → slashed_len (unix_components text) ≤ length text + 1
slashed_len-unix_components text = those (has_root text) (components text) (slashed_len-components text)
  where
    those : (rooted : Bool) (cs : List Step) → slashed_len cs ≤ length text + 1
        → slashed_len (counted rooted cs) ≤ length text + 1
    those true cs le = omega (arith, le, slashed_len-without_cur_dirs cs)
    those false [] le = le
    those false (c ∷ cs) le = omega (arith, le, slashed_len-without_cur_dirs cs)

length-unix_components_le : (text : List ℕ) → 2 * length (unix_components text) ≤ length text + 1
length-unix_components_le text = those (has_root text) (components text) (length-components_le text)
  where
    those : (rooted : Bool) (cs : List Step) → 2 * length cs ≤ length text + 1
        → 2 * length (counted rooted cs) ≤ length text + 1
    those true cs le = omega (arith, le, length-without_cur_dirs cs)
    those false [] le = le
    those false (c ∷ cs) le = omega (arith, le, length-without_cur_dirs cs)

-- ---- platform paths

-- a platform path without any `.`
pub length_from_path_le : (text : List ℕ) → length (spell (without_cur_dirs (unix_components text))) ≤ length text
length_from_path_le text =
    omega (
      arith,
      length-spell (without_cur_dirs (unix_components text)),
      slashed_len-without_cur_dirs (unix_components text),
      slashed_len-unix_components text,
    )

with_piece_le : (root p : List ℕ) → length (with_piece root p) ≤ length root + 1 + length p
with_piece_le [] p = omega arith
with_piece_le (b ∷ bs) p = omega (arith, length-append (b ∷ bs) (slash ∷ p))

onto_le : (root : List ℕ) (cs : List Step) → length (onto root cs) ≤ length root + slashed_len cs
onto_le root [] = omega arith
onto_le root (c ∷ cs) =
    omega (arith, onto_le (with_piece root (step_text c)) cs, with_piece_le root (step_text c))

-- components that are added in turn
pub length_onto_le : (base text : List ℕ) → length (onto base (components text)) ≤ length base + 1 + length text
length_onto_le base text = omega (arith, onto_le base (components text), slashed_len-components text)

logical_le : (root : List ℕ) (cs : List Step) (path : List ℕ) → IsLogical root cs path
    → length path ≤ length root + slashed_len cs
logical_le root [] path is = omega (arith, ap length is)
logical_le root (cur ∷ cs) path is = omega (arith, logical_le root cs path is)
logical_le root (up ∷ cs) path (p, is_above, is) =
    omega (arith, logical_le p cs path is, ap length is_above.prefix, length-take (length p) root)
logical_le root (name n ∷ cs) path is = omega (arith, logical_le (with_piece root n) cs path is, with_piece_le root n)

-- the place where components lead
pub length_logical_le : (base text path : List ℕ) → IsLogical base (components text) path
    → length path ≤ length base + 1 + length text
length_logical_le base text path is =
    omega (arith, logical_le base (components text) path is, slashed_len-components text)

-- ---- how deep a place is

above_some : (ns : List (List ℕ)) → 0 < length ns → above ns ≡ Some (take (length ns - 1) ns)
above_some [] some = absurd (omega (arith, some))
above_some (n ∷ ns) some =
    let count : length ns ≡ length (n ∷ ns) - 1 = omega arith in ap (λ k. Some (take k (n ∷ ns))) count

-- each component leads one name down at most
place_le : (base place : List (List ℕ)) (cs : List Step) → walk base cs ≡ Some place
    → length place ≤ length base + length cs
place_le base place [] is = let same : base ≡ place = cc in omega (arith, ap length same)
place_le base place (cur ∷ cs) is = omega (arith, place_le base place cs is)
place_le [] place (up ∷ cs) is = absurd (cc)
place_le (n ∷ ns) place (up ∷ cs) is =
    omega (arith, place_le (take (length ns) (n ∷ ns)) place cs is, length-take (length ns) (n ∷ ns))
place_le base place (name n ∷ cs) is =
    omega (arith, place_le (base ++ n ∷ []) place cs is, length-append base (n ∷ []))

-- a way from one platform path to another
pub length_way_to_le : (text root : List ℕ) (path : List ℕ)
    → ((way : List Step) × (way_to text root ≡ Some way) × (path ≡ spell way))
    → length path ≤ 2 * length root + 1 + length text
length_way_to_le text root path (way, is, spelled) = leads (walk [] from) refl is
  where
    shared : ℕ
    shared = shared_len (unix_components text) (unix_components root)

    from : List Step
    from = drop shared (unix_components root)

    to : List Step
    to = drop shared (unix_components text)

    leads : (o : Option (List (List ℕ))) → walk [] from ≡ o
        → option_map (λ place. replicate (length place) up ++ to) o ≡ Some way
        → length path ≤ 2 * length root + 1 + length text
    leads None at e = absurd (cc)
    leads (Some place) at e =
        let written : way ≡ replicate (length place) up ++ to = cc in
        omega (
          arith,
          ap length spelled,
          ap (λ cs. length (spell cs)) written,
          length-spell (replicate (length place) up ++ to),
          slashed_len-append (replicate (length place) up) to,
          slashed_len-ups (length place),
          place_le [] place from at,
          length-drop_le shared (unix_components root),
          length-unix_components_le root,
          slashed_len-drop shared (unix_components text),
          slashed_len-unix_components text,
        )

-- ---- a normal list is the lightest that leads where it leads

-- this many `..`, and then these names
shape : (ds : List Step) → IsNormal ds
    → (ups : ℕ) × (ns : List (List ℕ)) × (ds ≡ replicate ups up ++ map name ns)
shape [] normal = (0, [], refl)
shape (cur ∷ ds) normal = absurd normal
shape (up ∷ ds) normal = let (ups, ns, is) = shape ds normal in (suc ups, ns, ap (λ cs. up ∷ cs) is)
shape (name n ∷ ds) normal = let (ns, is) = names ds normal in (0, n ∷ ns, ap (λ cs. name n ∷ cs) is)
  where
    names : (cs : List Step) → AreNames cs → (ns : List (List ℕ)) × (cs ≡ map name ns)
    names [] are = ([], refl)
    names (cur ∷ cs) are = absurd are
    names (up ∷ cs) are = absurd are
    names (name m ∷ cs) are = let (ns, is) = names cs are in (m ∷ ns, ap (λ x. name m ∷ x) is)

-- from as many names it leads to its own names
walk-shape : (x : List ℕ) (ups : ℕ) (ns : List (List ℕ)) → walk (replicate ups x) (replicate ups up ++ map name ns) ≡ Some ns
walk-shape x zero ns = walk-names [] ns
walk-shape x (suc ups) ns =
    let front : take (length (replicate ups x)) (x ∷ replicate ups x) ≡ replicate ups x =
    ap (λ k. take k (replicate (suc ups) x)) (length-replicate ups x) ∙ take-replicate ups (suc ups) x (omega arith) in
    ap (λ place. walk place (replicate ups up ++ map name ns)) front ∙ walk-shape x ups ns

above-names : (xs : List (List ℕ)) (m : List ℕ) (ms : List (List ℕ))
    → above (xs ++ m ∷ ms) ≡ Some (xs ++ take (length ms) (m ∷ ms))
above-names xs m ms =
    let front = take (length ms) (m ∷ ms) in
    let rest = drop (length ms) (m ∷ ms) in
    let cut : xs ++ m ∷ ms ≡ (xs ++ front) ++ rest =
    ap (λ ns. xs ++ ns) (sym (take-append-drop (length ms) (m ∷ ms))) ∙ sym (append_assoc xs front rest) in
    let whole = length-append xs (m ∷ ms) in
    let size : length (xs ++ front) ≡ length (xs ++ m ∷ ms) - 1 =
    omega (arith, whole, length-append xs front, length-take (length ms) (m ∷ ms)) in
    above_some (xs ++ m ∷ ms) (omega (arith, whole))
    ∙ ap (λ ns. Some (take (length (xs ++ m ∷ ms) - 1) ns)) cut
    ∙ ap Some (take_at (xs ++ front) rest (length (xs ++ m ∷ ms) - 1) size)

module _ (w : Step → ℕ) where
  abbrev weight : List Step → ℕ
  weight [] = 0
  weight (c ∷ cs) = w c + weight cs

  weight-append : (cs ds : List Step) → weight (cs ++ ds) ≡ weight cs + weight ds
  weight-append [] ds = omega arith
  weight-append (c ∷ cs) ds = omega (arith, weight-append cs ds)

  weight-take : (n : ℕ) (ns : List (List ℕ)) → weight (map name (take n ns)) ≤ weight (map name ns)
  weight-take zero ns = omega arith
  weight-take (suc n) [] = omega arith
  weight-take (suc n) (m ∷ ns) = omega (arith, weight-take n ns)

  -- where a list leads from equal names and then others: some of the equal names are left, and for each that is gone
  -- the list has a `..`
  record Left (x : List ℕ) (gone : ℕ) (own : List (List ℕ)) (cs : List Step) (place : List (List ℕ)) : Type 0 where
    pub count : ℕ
    pub names : List (List ℕ)
    pub is : place ≡ replicate count x ++ names
    pub lighter : weight (replicate gone up) + weight (map name names)
        ≤ weight (replicate count up) + weight (map name own) + weight cs

  left : (x : List ℕ) (n : ℕ) (own : List (List ℕ)) (cs : List Step) (place : List (List ℕ))
      → walk (replicate n x ++ own) cs ≡ Some place → Left x n own cs place
  left x n own [] place is = record {
    count = n;
    names = own;
    is = let same : replicate n x ++ own ≡ place = cc in sym same;
    lighter = omega arith;
  }
  left x n own (cur ∷ cs) place is =
      let h = left x n own cs place is in
      record { count = h.count; names = h.names; is = h.is; lighter = let l = h.lighter in omega (arith, l) }
  left x n own (name m ∷ cs) place is =
      let joined = append_assoc (replicate n x) own (m ∷ []) in
      let h = left x n (own ++ m ∷ []) cs place (ap (λ b. walk b cs) (sym joined) ∙ is) in
      record {
        count = h.count;
        names = h.names;
        is = h.is;
        lighter =
            let l = h.lighter in
            omega (arith, l, ap weight (map_push name own m), weight-append (map name own) (name m ∷ []));
      }
  left x n (m ∷ ms) (up ∷ cs) place is =
      let front = take (length ms) (m ∷ ms) in
      let above_is = ap (option_and_then (λ p. walk p cs)) (above-names (replicate n x) m ms) in
      let h = left x n front cs place (sym above_is ∙ is) in
      record {
        count = h.count;
        names = h.names;
        is = h.is;
        lighter = let l = h.lighter in omega (arith, l, weight-take (length ms) (m ∷ ms));
      }
  left x zero [] (up ∷ cs) place is = absurd (cc)
  left x (suc n) [] (up ∷ cs) place is =
      let base : take (length (replicate n x ++ [])) (x ∷ (replicate n x ++ [])) ≡ replicate n x ++ [] =
      ap (λ ns. take (length ns) (x ∷ ns)) (append-nil (replicate n x))
      ∙ ap (λ k. take k (replicate (suc n) x)) (length-replicate n x)
      ∙ take-replicate n (suc n) x (omega arith)
      ∙ sym (append-nil (replicate n x)) in
      let h = left x n [] cs place (ap (λ b. walk b cs) (sym base) ∙ is) in
      record { count = h.count; names = h.names; is = h.is; lighter = let l = h.lighter in omega (arith, l) }

  normal_lightest : (cs ds : List Step) → IsNormal ds → IsSame cs ds → weight ds ≤ weight cs
  normal_lightest cs ds normal same = from_shape (shape ds normal)
    where
      from_shape : ((ups : ℕ) × (ns : List (List ℕ)) × (ds ≡ replicate ups up ++ map name ns)) → weight ds ≤ weight cs
      from_shape (ups, ns, is) = none h.count h.is h.lighter
        where
          -- a name that is longer than each name of the list
          x : List ℕ
          x = replicate (slashed_len (map name ns)) 0

          leads : walk (replicate ups x ++ []) cs ≡ Some ns
          leads =
              ap (λ b. walk b cs) (append-nil (replicate ups x)) ∙ same.everywhere (replicate ups x)
              ∙ ap (walk (replicate ups x)) is ∙ walk-shape x ups ns

          h : Left x ups [] cs ns
          h = left x ups [] cs ns leads

          none : (count : ℕ) → ns ≡ replicate count x ++ h.names
              → weight (replicate ups up) + weight (map name h.names) ≤ weight (replicate count up) + 0 + weight cs
              → weight ds ≤ weight cs
          none zero all lighter =
              omega (
                arith,
                lighter,
                ap (λ ms. weight (map name ms)) all,
                ap weight is,
                weight-append (replicate ups up) (map name ns),
              )
          none (suc count) all lighter =
              let size = length-replicate {A = ℕ} (slashed_len (map name ns)) 0 in
              absurd (omega (arith, size, ap (λ ms. slashed_len (map name ms)) all))

weight-bytes : (cs : List Step) → weight (λ c. length (step_text c) + 1) cs ≡ slashed_len cs
weight-bytes [] = refl
weight-bytes (c ∷ cs) = omega (arith, weight-bytes cs)

weight-count : (cs : List Step) → weight (λ _. 1) cs ≡ length cs
weight-count [] = refl
weight-count (c ∷ cs) = omega (arith, weight-count cs)

slashed_len-normal : (cs ds : List Step) → IsNormal ds → IsSame cs ds → slashed_len ds ≤ slashed_len cs
slashed_len-normal cs ds normal same =
    omega (arith, normal_lightest (λ c. length (step_text c) + 1) cs ds normal same, weight-bytes cs, weight-bytes ds)

length-normal : (cs ds : List Step) → IsNormal ds → IsSame cs ds → length ds ≤ length cs
length-normal cs ds normal same =
    omega (arith, normal_lightest (λ _. 1) cs ds normal same, weight-count cs, weight-count ds)

-- ---- relative paths

-- the normal text of two paths in turn
pub length_join_normalized_le : (text path normal : List ℕ) → IsNormalTextOf (components text ++ components path) normal
    → length normal ≤ length text + 1 + length path
length_join_normalized_le text path normal is =
    omega (
      arith,
      ap length is.normal_text.spelled,
      length-spell (components normal),
      slashed_len-normal (components text ++ components path) (components normal) is.normal_text.normal is.same,
      slashed_len-append (components text) (components path),
      slashed_len-components text,
      slashed_len-components path,
    )

-- the shortest list is normal
normal-shortest : (f r t : List Step) → IsShortest f r t → IsNormal r
normal-shortest f r t is = from_form (IsNormalForm-some r)
  where
    from_form : ((ds : List Step) × IsNormalForm r ds) → IsNormal r
    from_form (ds, form) =
        let leads : Leads f ds t =
        IsSame-trans (IsSame-sym (IsSame-append_left f form.same)) is.leads in
        ⊎_elim (λ longer. absurd (omega (arith, longer, length-normal r ds form.normal form.same)))
        (λ same. subst IsNormal same form.normal) (is.shortest ds leads)

-- where `..` and then names lead: no more `..` than the base has names, and below it the names
ends_in : (base place : List (List ℕ)) (ups : ℕ) (ns : List (List ℕ))
    → walk base (replicate ups up ++ map name ns) ≡ Some place
    → (ups ≤ length base) × (slashed_len (map name ns) ≤ slashed_len (map name place))
ends_in base place zero ns is =
    let there : base ++ ns ≡ place = let led = walk-names base ns in cc in (
      omega arith,
      omega (arith, ap (λ ms. slashed_len (map name ms)) there, slashed_len-after base ns),
    )
  where
    slashed_len-after : (ms ns : List (List ℕ)) → slashed_len (map name ns) ≤ slashed_len (map name (ms ++ ns))
    slashed_len-after [] ns = omega arith
    slashed_len-after (m ∷ ms) ns = omega (arith, slashed_len-after ms ns)
ends_in [] place (suc ups) ns is = absurd (cc)
ends_in (b ∷ bs) place (suc ups) ns is =
    let up_one = take (length bs) (b ∷ bs) in
    let h = ends_in up_one place ups ns is in (
      omega (arith, h.0, length-take (length bs) (b ∷ bs)),
      h.1,
    )

shortest_le : (f r t : List Step) → IsShortest f r t → slashed_len r ≤ 3 * length f + slashed_len t
shortest_le f r t is = from_shapes (shape r (normal-shortest f r t is)) (IsNormalForm-some t)
  where
    from_shapes : ((ups : ℕ) × (ns : List (List ℕ)) × (r ≡ replicate ups up ++ map name ns))
        → ((ts : List Step) × IsNormalForm t ts) → slashed_len r ≤ 3 * length f + slashed_len t
    from_shapes (ups, ns, r_is) (ts, form) = from_target (shape ts form.normal)
      where
        from_target : ((more : ℕ) × (ms : List (List ℕ)) × (ts ≡ replicate more up ++ map name ms))
            → slashed_len r ≤ 3 * length f + slashed_len t
        from_target (more, ms, ts_is) = through (walk-append_some base ms f r arrives)
          where
            base : List (List ℕ)
            base = replicate more []

            arrives : walk base (f ++ r) ≡ Some ms
            arrives =
                is.leads.everywhere base ∙ form.same.everywhere base ∙ ap (walk base) ts_is ∙ walk-shape [] more ms

            through : ((between : List (List ℕ)) × (walk base f ≡ Some between) × (walk between r ≡ Some ms))
                → slashed_len r ≤ 3 * length f + slashed_len t
            through (between, first, second) =
                let ends = ends_in between ms ups ns (ap (walk between) (sym r_is) ∙ second) in
                omega (
                  arith,
                  ends.0,
                  ends.1,
                  place_le base between f first,
                  length-replicate {A = List ℕ} more [],
                  ap slashed_len r_is,
                  slashed_len-append (replicate ups up) (map name ns),
                  slashed_len-ups ups,
                  ap slashed_len ts_is,
                  slashed_len-append (replicate more up) (map name ms),
                  slashed_len-ups more,
                  slashed_len-normal t ts form.normal form.same,
                )

-- the shortest way
pub length_shortest_le : (text to way : List ℕ) → IsShortestText (components text) (components to) way
    → length way ≤ 2 * length text + 1 + length to
length_shortest_le text to way is =
    omega (
      arith,
      ap length is.spelled,
      length-spell (components way),
      shortest_le (components text) (components way) (components to) is.shortest,
      length-components_le text,
      slashed_len-components to,
    )

-- or the empty text
pub length_way_le : (text to way : List ℕ) → IsWayText (components text) (components to) way
    → length way ≤ 2 * length text + 1 + length to
length_way_le text to way is = ⊎_elim
    (λ longer.
    let none = is.unreachable (λ reachable. omega (arith, longer, length_shortest_le text to way (is.shortest reachable))) in
    omega (arith, ap length none))
    (λ fits. fits) (cases_lt (2 * length text + 1 + length to) (length way))
