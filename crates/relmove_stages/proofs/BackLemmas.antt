-- A stage that takes another back.
use Rattle.std.proofs.Common.{◌≡◌, ◌<◌, ◌+◌, ◌-◌, ℕ, zero, suc, List, [], ◌∷◌, length, map, take, get_or, Some, refl, sym, ◌∙◌, ap, subst, arith}
use Rattle.std.specs.List.{slice_get}
use Rattle.std.specs.Prelude.{reverse, option_map}
use Rattle.std.proofs.lemmas.List.{get_or-reverse, length-map, length-reverse, take_all}
use Rattle.std.proofs.lemmas.Option.{get_or_from_slice_get, slice_get-get_or, slice_get-map, slice_get_read, slice_get_within}
use Rattle.relmove_stages.specs.Runs.{IsOnStage}
use Rattle.relmove_stages.specs.StageActions.{IsAfter, IsReady, LeadsTo, StageAction, Takes, Makes, Clears, Removes, RemovesPart, tree_action}
use Rattle.relmove_stages.specs.Stages.{back, undone}
use Rattle.relmove_stages.proofs.ActionLemmas.{IsBackable, IsUndone, act_on, acts-on, back-acts, back-is, back-ready, undone-becomes, undone-is}
use Rattle.relmove_stages.proofs.ChainLemmas.{IsAfter-last, IsAfter-next, IsStage, LeadsTo-end, LeadsTo-ready, holds_on, some_at}
use Rattle.relmove_trees.proofs.FileTreesLemmas.{after_rename-whole, with_node-whole}
use Rattle.relmove_trees.specs.FileTrees.{Directory, IsWholeTree, Tree}
use Rattle.relmove_trees.specs.TreeActions.{Acts}

-- ---- the last first

slice_get-reverse : {X : Type 0} (xs : List X) (m i : ℕ) (x : X) → m + suc i ≡ length xs → slice_get xs i ≡ Some x
    → slice_get (reverse xs) m ≡ Some x
slice_get-reverse xs m i x sum at =
    let long = length-reverse xs in
    let index : length xs - 1 - m ≡ i = omega (arith, sum) in
    slice_get-get_or (reverse xs) m x (omega (arith, sum, long))
    ∙ ap (λ (y : _). Some y)
    (get_or-reverse xs m x (omega (arith, sum)) ∙ ap (λ k. get_or xs k x) index ∙ get_or_from_slice_get xs i x x at)

pub undone_at : (actions : List StageAction) (m i : ℕ) (action : StageAction) → m + suc i ≡ length actions
    → slice_get actions i ≡ Some action → slice_get (undone actions) m ≡ Some (back action)
undone_at actions m i action sum at =
    slice_get-reverse (map back actions) m i (back action)
    (sum ∙ sym (length-map actions back))
    (slice_get-map back actions i ∙ ap (option_map back) at)

pub undone-length : (actions : List StageAction) → length (undone actions) ≡ length actions
undone-length actions = length-reverse (map back actions) ∙ length-map actions back

-- the element that comes last but so many comes so many later in the reverse
pub reversed_element : {A B : Type 0} (of : A → B) (xs : List A) (m : ℕ) (x : A) → m < length xs
    → x ≡ get_or xs (length xs - 1 - m) x → slice_get (reverse (map of xs)) m ≡ Some (of x)
reversed_element of xs m x within is =
    let long = length-map xs of in
    slice_get-reverse (map of xs) m (length xs - 1 - m) (of x) (omega (arith, within, long))
    (slice_get-map of xs (length xs - 1 - m)
    ∙ ap (option_map of) (slice_get_read xs (length xs) (length xs - 1 - m) x refl (omega (arith, within)) is))

pub undone_element : {A : Type 0} (of : A → StageAction) (xs : List A) (m : ℕ) (x : A) → m < length xs
    → x ≡ get_or xs (length xs - 1 - m) x → slice_get (undone (map of xs)) m ≡ Some (back (of x))
undone_element of xs m x within is =
    let long = length-map xs of in
    undone_at (map of xs) m (length xs - 1 - m) (of x) (omega (arith, within, long))
    (slice_get-map of xs (length xs - 1 - m)
    ∙ ap (option_map of) (slice_get_read xs (length xs) (length xs - 1 - m) x refl (omega (arith, within)) is))

-- which action an action takes back
pub undone-of : (actions : List StageAction) (m : ℕ) (action : StageAction) → slice_get (undone actions) m ≡ Some action
    → (i : ℕ) × (before : StageAction) × (m + suc i ≡ length actions) × (slice_get actions i ≡ Some before)
    × (action ≡ back before)
undone-of actions m action at =
    let within = slice_get_within (undone actions) m action at in
    let long = undone-length actions in
    let i = length actions - 1 - m in
    let sum : m + suc i ≡ length actions = omega (arith, within, long) in
    let (before, at_2) = some_at actions i (omega (arith, sum)) in
    (i, before, sum, at_2, cc (sym at ∙ undone_at actions m i before sum at_2))

-- ---- trees on the way stay whole

whole-next : (action : StageAction) (old new : Tree) → IsBackable action → IsWholeTree old → IsReady action old
    → Acts (tree_action action) old new → IsWholeTree new
whole-next (Takes from to) old new backable whole ready acts =
    subst IsWholeTree (sym acts) (after_rename-whole old whole (from, to) ready)
whole-next (Makes place) old new backable whole ready acts =
    subst IsWholeTree (sym acts) (with_node-whole old whole place Directory ready)
whole-next (Clears place) old new backable whole ready acts = absurd backable
whole-next (Removes place digest) old new backable whole ready acts = absurd backable
whole-next (RemovesPart place digest) old new backable whole ready acts = absurd backable

-- each of them can be taken back
abbrev pub AreBackable : List StageAction → Type 0
AreBackable actions = (i : ℕ) (action : StageAction) → slice_get actions i ≡ Some action → IsBackable action

pub whole-after : (actions : List StageAction) (P : Tree → Type 0) (start : Tree) → AreBackable actions → IsWholeTree start
    → LeadsTo actions P start → (i : ℕ) (tree : Tree) → IsAfter (take i actions) start tree → IsWholeTree tree
whole-after actions P start backable whole leads zero tree is = subst IsWholeTree (sym is) whole
whole-after [] P start backable whole leads (suc i) tree is = subst IsWholeTree (sym is) whole
whole-after (first ∷ actions) P start backable whole leads (suc i) tree (next, acts, rest) =
    whole-after actions P next (λ j. backable (suc j)) (whole-next first start next (backable 0 first refl) whole leads.0 acts)
    (leads.1 next acts) i tree rest

-- there is a tree after them
pub IsAfter-there : (actions : List StageAction) (start : Tree) → AreBackable actions → (tree : Tree) × IsAfter actions start tree
IsAfter-there [] start backable = (start, refl)
IsAfter-there (first ∷ actions) start backable =
    let (tree, rest) = IsAfter-there actions (act_on first start) (λ j. backable (suc j)) in
    (tree, (act_on first start, acts-on first start (backable 0 first refl), rest))

-- ---- back

module _ (actions : List StageAction) (start end : Tree) (backable : AreBackable actions) (whole : IsWholeTree start)
    (leads : LeadsTo actions (λ tree. tree ≡ end) start) where
  ready_at : (i : ℕ) (action : StageAction) (tree : Tree) → slice_get actions i ≡ Some action → IsAfter (take i actions) start tree
      → IsReady action tree
  ready_at = LeadsTo-ready actions (λ tree. tree ≡ end) start leads

  all_to_end : (n : ℕ) (tree : Tree) → n ≡ length actions → IsAfter (take n actions) start tree → tree ≡ end
  all_to_end n tree all is =
      LeadsTo-end actions (λ tree. tree ≡ end) start leads tree
      (subst (λ (l : List StageAction). IsAfter l start tree) (take_all n actions (omega (arith, all))) is)

  end_is : IsAfter actions start end
  end_is =
      let (tree, is) = IsAfter-there actions start backable in
      subst (IsAfter actions start) (LeadsTo-end actions (λ tree. tree ≡ end) start leads tree is) is

  -- after the first k actions are taken back, the other actions are done
  pub forth_of : (k i : ℕ) (tree : Tree) → k + i ≡ length actions → IsAfter (take k (undone actions)) end tree
      → IsAfter (take i actions) start tree
  forth_of zero i tree sum is =
      subst (λ (l : List StageAction). IsAfter l start tree) (sym (take_all i actions (omega (arith, sum))))
      (subst (IsAfter actions start) (sym is) end_is)
  forth_of (suc k) i tree sum is =
      let (before, at) = some_at actions i (omega (arith, sum)) in
      let sum_2 : k + suc i ≡ length actions = omega (arith, sum) in
      let (mid, chain, acts) = IsAfter-last (undone actions) k (back before) end tree (undone_at actions k i before sum_2 at) is in
      let (old, chain_2, acts_2) = IsAfter-last actions i before start mid at (forth_of k (suc i) mid sum_2 chain) in
      let same = back-is before old mid tree (backable i before at) (ready_at i before old at chain_2) acts_2 acts in
      subst (IsAfter (take i actions) start) (sym same) chain_2

  -- and the other way round
  back_of : (m i : ℕ) (tree : Tree) → m + i ≡ length actions → IsAfter (take i actions) start tree
      → IsAfter (take m (undone actions)) end tree
  back_of zero i tree sum is = all_to_end i tree (omega (arith, sum)) is
  back_of (suc m) i tree sum is =
      let (before, at) = some_at actions i (omega (arith, sum)) in
      let sum_2 : m + suc i ≡ length actions = omega (arith, sum) in
      let next = act_on before tree in
      let acts = acts-on before tree (backable i before at) in
      let chain = back_of m (suc i) next sum_2 (IsAfter-next actions i before start tree next at is acts) in
      IsAfter-next (undone actions) m (back before) end next tree (undone_at actions m i before sum_2 at) chain
      (back-acts before tree next (backable i before at) (ready_at i before tree at is) acts)

  pub on_stage-back : (tree : Tree) → IsOnStage actions start tree → IsOnStage (undone actions) end tree
  on_stage-back tree on =
      let long = undone-length actions in
      record {
        done = length actions - on.done;
        within = omega (arith, long);
        is = back_of (length actions - on.done) on.done tree (omega (arith, on.within)) on.is;
      }

  -- in the end the tree is the one before
  pub back-end : (tree : Tree) → IsAfter (undone actions) end tree → tree ≡ start
  back-end tree is =
      let long = undone-length actions in
      forth_of (length actions) 0 tree (omega arith)
      (subst (λ (l : List StageAction). IsAfter l end tree) (sym (take_all (length actions) (undone actions) (omega (arith, long)))) is)

  -- what was taken back before an action, with the tree before that one
  at_back : (m : ℕ) (action : StageAction) (tree : Tree) → slice_get (undone actions) m ≡ Some action
      → IsAfter (take m (undone actions)) end tree
      → (i : ℕ) × (before : StageAction) × (old : Tree) × (slice_get actions i ≡ Some before) × (action ≡ back before)
      × IsAfter (take i actions) start old × Acts (tree_action before) old tree
  at_back m action tree at is =
      let (i, before, sum, at_2, same) = undone-of actions m action at in
      let (old, chain, acts) = IsAfter-last actions i before start tree at_2 (forth_of m (suc i) tree sum is) in
      (i, before, old, at_2, same, chain, acts)

  -- what stays taken back while another action is taken back
  abbrev pub Stays : Type 0
  Stays = (i j : ℕ) (one other : StageAction) (old new : Tree) → slice_get actions i ≡ Some one → slice_get actions j ≡ Some other
      → IsUndone (back one) old → IsReady (back other) old → Acts (tree_action (back other)) old new → IsUndone (back one) new

  pub stage-back : Stays → IsStage (undone actions) end
  stage-back stays = record {
    ready = ready;
    done = λ i k action tree at less within is.
        undone-is action tree (holds_on (undone actions) end IsUndone becomes keeps k i action tree at less within is);
  }
    where
      ready : (m : ℕ) (action : StageAction) (tree : Tree) → slice_get (undone actions) m ≡ Some action
          → IsAfter (take m (undone actions)) end tree → IsReady action tree
      ready m action tree at is =
          let (i, before, old, at_2, same, chain, acts) = at_back m action tree at is in
          subst (λ (a : StageAction). IsReady a tree) (sym same)
          (back-ready before old tree (backable i before at_2)
          (whole-after actions (λ tree. tree ≡ end) start backable whole leads i old chain) (ready_at i before old at_2 chain) acts)

      becomes : (m : ℕ) (action : StageAction) (old new : Tree) → slice_get (undone actions) m ≡ Some action
          → IsAfter (take m (undone actions)) end old → Acts (tree_action action) old new → IsUndone action new
      becomes m action old new at is acts =
          let (i, before, first, at_2, same, chain, acts_2) = at_back m action old at is in
          let acts_3 = subst (λ (a : StageAction). Acts (tree_action a) old new) same acts in
          let new_is = back-is before first old new (backable i before at_2) (ready_at i before first at_2 chain) acts_2 acts_3 in
          subst (λ (a : StageAction). IsUndone a new) (sym same)
          (subst (IsUndone (back before)) (sym new_is)
          (undone-becomes before first (backable i before at_2) (ready_at i before first at_2 chain)))

      keeps : (m n : ℕ) (action other : StageAction) (old new : Tree) → m < n → slice_get (undone actions) m ≡ Some action
          → slice_get (undone actions) n ≡ Some other → IsAfter (take n (undone actions)) end old
          → Acts (tree_action other) old new → IsUndone action old → IsUndone action new
      keeps m n action other old new less at at_2 is acts undone_2 =
          let (i, one, sum, one_at, same) = undone-of actions m action at in
          let (j, two, sum_2, two_at, same_2) = undone-of actions n other at_2 in
          subst (λ (a : StageAction). IsUndone a new) (sym same)
          (stays i j one two old new one_at two_at (subst (λ (a : StageAction). IsUndone a old) same undone_2)
          (subst (λ (a : StageAction). IsReady a old) same_2 (ready n other old at_2 is))
          (subst (λ (a : StageAction). Acts (tree_action a) old new) same_2 acts))
