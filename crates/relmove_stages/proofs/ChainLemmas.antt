-- Several actions, one after another.
use Rattle.std.proofs.Common.{◌≡◌, ◌⊎◌, inl, inr, ◌<◌, ◌≤◌, ℕ, zero, suc, List, [], ◌∷◌, length, map, take, Some, None, refl, sym, ◌∙◌, subst, arith}
use Rattle.std.specs.List.{slice_get}
use Rattle.std.proofs.lemmas.Bool.{cases_lt}
use Rattle.std.proofs.lemmas.List.{take_all}
use Rattle.std.proofs.lemmas.Option.{slice_get_within}
use Rattle.relmove_stages.specs.Runs.{IsOnStage, IsReached}
use Rattle.relmove_stages.specs.StageActions.{Does, IsAfter, IsDone, IsReady, LeadsTo, MayDo, StageAction, tree_action}
use Rattle.relmove_trees.specs.FileTrees.{Tree}
use Rattle.relmove_trees.specs.TreeActions.{Acts}

-- ---- elements

pub some_at : {X : Type 0} (xs : List X) (k : ℕ) → k < length xs → (x : X) × (slice_get xs k ≡ Some x)
some_at [] k less = absurd (omega (arith, less))
some_at (x ∷ xs) zero less = (x, refl)
some_at (x ∷ xs) (suc k) less = some_at xs k (omega (arith, less))

pub map_at : {X Y : Type 0} (f : X → Y) (xs : List X) (i : ℕ) (y : Y) → slice_get (map f xs) i ≡ Some y
    → (x : X) × (slice_get xs i ≡ Some x) × (f x ≡ y)
map_at f [] i y at = absurd (cc at)
map_at f (x ∷ xs) zero y at = (x, refl, cc at)
map_at f (x ∷ xs) (suc i) y at = map_at f xs i y at

-- what isn't there is past the end
pub past_end : {X : Type 0} (xs : List X) (k : ℕ) → None ≡ slice_get xs k → length xs ≤ k
past_end xs k none = elim (cases_lt k (length xs)) [
  | inl less ↦ let (x, at) = some_at xs k less in absurd (cc (none ∙ at))
  | inr past ↦ past
]

-- ---- one action more, and one less

pub IsAfter-next : (actions : List StageAction) (i : ℕ) (action : StageAction) (start mid new : Tree)
    → slice_get actions i ≡ Some action → IsAfter (take i actions) start mid → Acts (tree_action action) mid new
    → IsAfter (take (suc i) actions) start new
IsAfter-next [] i action start mid new at is acts = absurd (cc at)
IsAfter-next (first ∷ actions) zero action start mid new at is acts =
    let same : action ≡ first = sym (cc at) in
    let acts_2 : Acts (tree_action first) mid new = subst (λ (a : StageAction). Acts (tree_action a) mid new) same acts in
    (new, subst (λ (t : Tree). Acts (tree_action first) t new) is acts_2, refl)
IsAfter-next (first ∷ actions) (suc i) action start mid new at (next, first_acts, rest) acts =
    (next, first_acts, IsAfter-next actions i action next mid new at rest acts)

pub IsAfter-last : (actions : List StageAction) (i : ℕ) (action : StageAction) (start new : Tree)
    → slice_get actions i ≡ Some action → IsAfter (take (suc i) actions) start new
    → (mid : Tree) × IsAfter (take i actions) start mid × Acts (tree_action action) mid new
IsAfter-last [] i action start new at is = absurd (cc at)
IsAfter-last (first ∷ actions) zero action start new at (next, acts, is) =
    let same : first ≡ action = cc at in
    let acts_2 : Acts (tree_action first) start new = subst (λ (t : Tree). Acts (tree_action first) start t) (sym is) acts in
    (start, refl, subst (λ (a : StageAction). Acts (tree_action a) start new) same acts_2)
IsAfter-last (first ∷ actions) (suc i) action start new at (next, acts, rest) =
    let (mid, chain, last) = IsAfter-last actions i action next new at rest in
    (mid, (next, acts, chain), last)

-- ---- actions that lead somewhere

pub LeadsTo-ready : (actions : List StageAction) (P : Tree → Type 0) (start : Tree) → LeadsTo actions P start
    → (i : ℕ) (action : StageAction) (tree : Tree) → slice_get actions i ≡ Some action → IsAfter (take i actions) start tree
    → IsReady action tree
LeadsTo-ready [] P start leads i action tree at is = absurd (cc at)
LeadsTo-ready (first ∷ actions) P start leads zero action tree at is =
    let same : first ≡ action = cc at in
    subst (λ (a : StageAction). IsReady a tree) same (subst (IsReady first) (sym is) leads.0)
LeadsTo-ready (first ∷ actions) P start leads (suc i) action tree at (next, acts, rest) =
    LeadsTo-ready actions P next (leads.1 next acts) i action tree at rest

pub LeadsTo-end : (actions : List StageAction) (P : Tree → Type 0) (start : Tree) → LeadsTo actions P start
    → (tree : Tree) → IsAfter actions start tree → P tree
LeadsTo-end [] P start leads tree is = subst P (sym is) leads
LeadsTo-end (first ∷ actions) P start leads tree (next, acts, rest) =
    LeadsTo-end actions P next (leads.1 next acts) tree rest

-- ---- a stage

-- each action is ready when it comes, and is done from then on
pub record IsStage (actions : List StageAction) (start : Tree) : Type 0 where
  pub ready : (i : ℕ) (action : StageAction) (tree : Tree) → slice_get actions i ≡ Some action
      → IsAfter (take i actions) start tree → IsReady action tree
  pub done : (i k : ℕ) (action : StageAction) (tree : Tree) → slice_get actions i ≡ Some action → i < k
      → k ≤ length actions → IsAfter (take k actions) start tree → IsDone action tree

-- what holds when an action was done, and stays while later ones are done, holds from then on
pub holds_on : (actions : List StageAction) (start : Tree) (D : StageAction → Tree → Type 0)
    → ((i : ℕ) (action : StageAction) (old new : Tree) → slice_get actions i ≡ Some action → IsAfter (take i actions) start old
    → Acts (tree_action action) old new → D action new)
    → ((i j : ℕ) (action other : StageAction) (old new : Tree) → i < j → slice_get actions i ≡ Some action
    → slice_get actions j ≡ Some other → IsAfter (take j actions) start old → Acts (tree_action other) old new → D action old
    → D action new)
    → (k i : ℕ) (action : StageAction) (tree : Tree) → slice_get actions i ≡ Some action → i < k → k ≤ length actions
    → IsAfter (take k actions) start tree → D action tree
holds_on actions start D becomes stays zero i action tree at less within is = absurd (omega (arith, less))
holds_on actions start D becomes stays (suc k) i action tree at less within is =
    by (λ mid before. holds_on actions start D becomes stays k i action mid at before (omega (arith, within))) (cases_lt i k)
  where
    by : ((mid : Tree) → i < k → IsAfter (take k actions) start mid → D action mid) → (i < k) ⊎ (k ≤ i) → D action tree
    by earlier (inl before) =
        let (other, at_2) = some_at actions k (omega (arith, within)) in
        let (mid, chain, acts) = IsAfter-last actions k other start tree at_2 is in
        stays i k action other mid tree before at at_2 chain acts (earlier mid before chain)
    by earlier (inr not_before) =
        let same : i ≡ k = omega (arith, not_before, less) in
        let at_2 = subst (λ j. slice_get actions j ≡ Some action) same at in
        let (mid, chain, acts) = IsAfter-last actions k action start tree at_2 is in
        becomes k action mid tree at_2 chain acts

-- ---- on the way through a stage

pub on_stage : (actions : List StageAction) (start : Tree) (i : ℕ) (tree : Tree) → IsReached actions start i tree
    → IsOnStage actions start tree
on_stage actions start i tree reached = record { done = reached.done; within = reached.within; is = reached.is }

pub reached-all : (actions : List StageAction) (start : Tree) (i : ℕ) (tree : Tree) → length actions ≤ i
    → IsReached actions start i tree → IsAfter actions start tree
reached-all actions start i tree all reached =
    subst (λ (l : List StageAction). IsAfter l start tree)
    (take_all reached.done actions (omega (arith, all, reached.from))) reached.is

pub on_stage-none : (actions : List StageAction) (start tree : Tree) → tree ≡ start → IsOnStage actions start tree
on_stage-none actions start tree is = record { done = 0; within = omega arith; is = is }

-- the first i actions are done, and the first k, and maybe more
pub record IsPast (actions : List StageAction) (start : Tree) (k i : ℕ) (tree : Tree) : Type 0 where
  pub done : ℕ
  pub least : k ≤ done
  pub from : i ≤ done
  pub within : done ≤ length actions
  pub is : IsAfter (take done actions) start tree

module _ (actions : List StageAction) (start : Tree) (stage : IsStage actions start) (i : ℕ) (action : StageAction)
    (at : slice_get actions i ≡ Some action) where
  -- the action is the next one, or it is done
  pub next_or_done : (tree : Tree) → (reached : IsReached actions start i tree) → (IsReady action tree × (reached.done ≡ i))
      ⊎ (IsDone action tree × (i < reached.done))
  next_or_done tree reached = by (cases_lt i reached.done)
    where
      by : (i < reached.done) ⊎ (reached.done ≤ i)
          → (IsReady action tree × (reached.done ≡ i)) ⊎ (IsDone action tree × (i < reached.done))
      by (inl less) = inr (stage.done i reached.done action tree at less reached.within reached.is, less)
      by (inr least) =
          let same : reached.done ≡ i = omega (arith, least, reached.from) in
          inl (stage.ready i action tree at (subst (λ k. IsAfter (take k actions) start tree) same reached.is), same)

  next_one : (old new : Tree) → (reached : IsReached actions start i old) → reached.done ≡ i → Acts (tree_action action) old new
      → IsReached actions start (suc i) new
  next_one old new reached same acts = record {
    done = suc i;
    from = omega arith;
    within = let within = slice_get_within actions i action at in omega (arith, within);
    is = IsAfter-next actions i action start old new at (subst (λ k. IsAfter (take k actions) start old) same reached.is) acts;
  }

  same_tree : (j : ℕ) (old new : Tree) → IsReached actions start j old → new ≡ old → IsReached actions start j new
  same_tree j old new reached same = record {
    done = reached.done;
    from = reached.from;
    within = reached.within;
    is = subst (IsAfter (take reached.done actions) start) (sym same) reached.is;
  }

  pub reached-next : (old new : Tree) → IsReached actions start i old → Does action old new → IsReached actions start (suc i) new
  reached-next old new reached does = elim (next_or_done old reached) [
    | inl (ready, same) ↦ next_one old new reached same (does.acts ready)
    | inr (done, less) ↦ record {
      done = reached.done;
      from = omega (arith, less);
      within = reached.within;
      is = subst (IsAfter (take reached.done actions) start) (sym (does.stays done)) reached.is;
    }
  ]

  pub on_stage-may : (old new : Tree) → IsReached actions start i old → MayDo action old new → IsOnStage actions start new
  on_stage-may old new reached may = elim (next_or_done old reached) [
    | inl (ready, same) ↦ elim (may.acts ready) [
      | inl stays ↦ on_stage actions start i new (same_tree i old new reached stays)
      | inr acts ↦ on_stage actions start (suc i) new (next_one old new reached same acts)
    ]
    | inr (done, less) ↦ on_stage actions start i new (same_tree i old new reached (may.stays done))
  ]

  pub ready_or_done : (tree : Tree) → IsReached actions start i tree → IsReady action tree ⊎ IsDone action tree
  ready_or_done tree reached = elim (next_or_done tree reached) [
    | inl (ready, same) ↦ inl ready
    | inr (done, less) ↦ inr done
  ]

  -- as many are done as before, or one more
  pub past-next : (k : ℕ) (old new : Tree) → IsPast actions start k i old → Does action old new
      → IsPast actions start k (suc i) new
  past-next k old new past does =
      by (next_or_done old (record { done = past.done; from = past.from; within = past.within; is = past.is }))
    where
      by : (IsReady action old × (past.done ≡ i)) ⊎ (IsDone action old × (i < past.done)) → IsPast actions start k (suc i) new
      by (inl (ready, same)) = record {
        done = suc i;
        least = let least = past.least in omega (arith, least, same);
        from = omega arith;
        within = let within = slice_get_within actions i action at in omega (arith, within);
        is = IsAfter-next actions i action start old new at (subst (λ k. IsAfter (take k actions) start old) same past.is)
            (does.acts ready);
      }
      by (inr (done, less)) = record {
        done = past.done;
        least = past.least;
        from = omega (arith, less);
        within = past.within;
        is = subst (IsAfter (take past.done actions) start) (sym (does.stays done)) past.is;
      }

  pub past-may : (k : ℕ) (old new : Tree) → IsPast actions start k i old → MayDo action old new → IsReached actions start k new
  past-may k old new past may =
      by (next_or_done old (record { done = past.done; from = past.from; within = past.within; is = past.is }))
    where
      stays : new ≡ old → IsReached actions start k new
      stays same = record {
        done = past.done;
        from = past.least;
        within = past.within;
        is = subst (IsAfter (take past.done actions) start) (sym same) past.is;
      }

      by : (IsReady action old × (past.done ≡ i)) ⊎ (IsDone action old × (i < past.done)) → IsReached actions start k new
      by (inl (ready, same)) = elim (may.acts ready) [
        | inl nothing ↦ stays nothing
        | inr acts ↦ record {
          done = suc i;
          from = let least = past.least in omega (arith, least, same);
          within = let within = slice_get_within actions i action at in omega (arith, within);
          is = IsAfter-next actions i action start old new at (subst (λ k. IsAfter (take k actions) start old) same past.is) acts;
        }
      ]
      by (inr (done, less)) = stays (may.stays done)
