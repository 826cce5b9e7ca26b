-- The order of the stages.
use denote.Enum.Bare.{sameb}
use Rattle.std.proofs.Common.{◌≡◌, ◌≤◌, ◌⊎◌, arith, inl, inr, ℕ, zero, suc, Some, None, option_and_then, true, refl, sym, ◌∙◌, ap, subst}
use Rattle.std.proofs.lemmas.Option.{option_and_then_some}
use Rattle.relmove_journal.specs.contracts.work.Stage.{the_type}
use Rattle.relmove_journal.specs.declared.work.Stage.{Stage}
use Rattle.relmove_journal.specs.declared.work.Stage.TheVariants.{Writing, Staging, Making, Placing, Cleaning, Unplacing, Unmaking, Unstaging, Erasing}
use Rattle.relmove_journal.specs.declared.work.Work.{Work}
use Rattle.relmove_stages.specs.Runs.{EndsFrom, Trees}
use Rattle.relmove_stages.specs.Stages.{ComesTo, next_stage, stage_after, stage_back, stages_left}
use Rattle.relmove_stages.specs.States.{CanComeTo, IsEndKnown, Journal, State, journal_of}
use Rattle.relmove_stages.proofs.LeadsLemmas.{ends-before, next_is}
use Rattle.relmove_trees.specs.FileTrees.{Tree}

-- ---- on the way

pub comes-here : (stage : Stage) → ComesTo stage stage
comes-here stage = (0, refl)

-- one stage later
pub comes-next : (first stage next : Stage) → ComesTo first stage → next_stage stage ≡ Some next → ComesTo first next
comes-next first stage next (k, is) some = (suc k, ap (option_and_then next_stage) is ∙ some)

-- what holds of a stage, and of the next one if of one, holds of all later ones
comes-all : (P : Stage → Type 0) (first : Stage) → P first
    → ((stage next : Stage) → next_stage stage ≡ Some next → P stage → P next)
    → (k : ℕ) (stage : Stage) → stage_after k first ≡ Some stage → P stage
comes-all P first here next zero stage is = subst P (next_is first stage is) here
comes-all P first here next (suc k) stage is =
    option_and_then_some next_stage (stage_after k first) stage is
    (λ before at some. next before stage some (comes-all P first here next k before at))

-- so many stages later, and then again so many
pub comes-on : (first stage later : Stage) → ComesTo first stage → ComesTo stage later → ComesTo first later
comes-on first stage later comes (k, is) =
    comes-all (ComesTo first) stage comes (λ one next some before. comes-next first one next before some) k later is

-- after the last stage there is no other
pub comes-last : (first stage : Stage) → next_stage first ≡ None → ComesTo first stage → stage ≡ first
comes-last first stage last (k, is) =
    comes-all (λ (s : Stage). s ≡ first) first refl
    (λ one next some same. absurd (cc (sym some ∙ ap next_stage same ∙ last))) k stage is

-- a run at a later stage ends as one at the first
pub ends-from : (work : Work) (trees : Trees) (first stage : Stage) (tree : Tree) → ComesTo first stage
    → EndsFrom work trees stage tree → EndsFrom work trees first tree
ends-from work trees first stage tree (k, is) =
    comes-all (λ (s : Stage). EndsFrom work trees s tree → EndsFrom work trees first tree) first (λ ends. ends)
    (λ one next some before ends. before (ends-before work trees one next tree some ends)) k stage is

-- ---- no stage comes twice

-- fewer stages are left
next-left : (stage next : Stage) → next_stage stage ≡ Some next → suc (stages_left next) ≡ stages_left stage
next-left Writing next some = absurd (cc some)
next-left Staging next some = ap (λ s. suc (stages_left s)) (sym (next_is Making next some))
next-left Making next some = ap (λ s. suc (stages_left s)) (sym (next_is Placing next some))
next-left Placing next some = ap (λ s. suc (stages_left s)) (sym (next_is Cleaning next some))
next-left Cleaning next some = absurd (cc some)
next-left Unplacing next some = ap (λ s. suc (stages_left s)) (sym (next_is Unmaking next some))
next-left Unmaking next some = ap (λ s. suc (stages_left s)) (sym (next_is Unstaging next some))
next-left Unstaging next some = ap (λ s. suc (stages_left s)) (sym (next_is Erasing next some))
next-left Erasing next some = absurd (cc some)

comes-left : (first stage : Stage) → ComesTo first stage → stages_left stage ≤ stages_left first
comes-left first stage (k, is) =
    comes-all (λ (s : Stage). stages_left s ≤ stages_left first) first (omega arith)
    (λ one next some before. let fewer = next-left one next some in omega (arith, fewer, before)) k stage is

-- a run that went on doesn't come back
pub no_return : (first stage next : Stage) → ComesTo first stage → next_stage stage ≡ Some next → ¬ ComesTo next first
no_return first stage next comes some again =
    let left = comes-left first stage comes in
    let fewer = next-left stage next some in
    let left_2 = comes-left next first again in
    omega (arith, left, fewer, left_2)

-- ---- the three ways

-- the number of the way that a stage is on
abbrev way_of : Stage → ℕ
way_of Writing = 0
way_of Staging = 1
way_of Making = 1
way_of Placing = 1
way_of Cleaning = 1
way_of Unplacing = 2
way_of Unmaking = 2
way_of Unstaging = 2
way_of Erasing = 2

next-way : (stage next : Stage) → next_stage stage ≡ Some next → way_of next ≡ way_of stage
next-way Writing next some = absurd (cc some)
next-way Staging next some = ap way_of (sym (next_is Making next some))
next-way Making next some = ap way_of (sym (next_is Placing next some))
next-way Placing next some = ap way_of (sym (next_is Cleaning next some))
next-way Cleaning next some = absurd (cc some)
next-way Unplacing next some = ap way_of (sym (next_is Unmaking next some))
next-way Unmaking next some = ap way_of (sym (next_is Unstaging next some))
next-way Unstaging next some = ap way_of (sym (next_is Erasing next some))
next-way Erasing next some = absurd (cc some)

-- a run stays on its way
comes-way : (first stage : Stage) → ComesTo first stage → way_of stage ≡ way_of first
comes-way first stage (k, is) =
    comes-all (λ (s : Stage). way_of s ≡ way_of first) first refl (λ one next some before. next-way one next some ∙ before) k stage is

-- where a run turns back it doesn't come by going on, unless it is there
back-elsewhere : (stage back : Stage) → stage_back stage ≡ Some back → ComesTo stage back → stage ≡ back
back-elsewhere Writing back some comes = next_is Writing back some
back-elsewhere Staging back some comes =
    absurd (cc (ap way_of (next_is Unstaging back some) ∙ comes-way Staging back comes))
back-elsewhere Making back some comes = absurd (cc (ap way_of (next_is Unmaking back some) ∙ comes-way Making back comes))
back-elsewhere Placing back some comes = absurd (cc (ap way_of (next_is Unplacing back some) ∙ comes-way Placing back comes))
back-elsewhere Cleaning back some comes = absurd (cc some)
back-elsewhere Unplacing back some comes = next_is Unplacing back some
back-elsewhere Unmaking back some comes = next_is Unmaking back some
back-elsewhere Unstaging back some comes = next_is Unstaging back some
back-elsewhere Erasing back some comes = next_is Erasing back some

-- ---- what is known of the journal's stage

journal_is : (one other : Journal) → Some one ≡ Some other → one ≡ other
journal_is one other some = cc some

-- it can end
pub end-known : (state : State) (journal : Journal) → state.disk.journal ≡ Some journal → state.completed ≡ Some journal
    → IsEndKnown state
end-known state journal there completed = λ one is. completed ∙ sym there ∙ is

-- so the next one can come
pub can-go_on : (state : State) (journal : Journal) (next : Stage) → state.disk.journal ≡ Some journal
    → state.completed ≡ Some journal → CanComeTo state next
can-go_on state journal next there completed = λ one is comes. completed ∙ sym there ∙ is

-- a stage that doesn't come by going on can come
can-turn : (state : State) (journal : Journal) (next : Stage) → state.disk.journal ≡ Some journal
    → ¬ ComesTo journal.stage next → CanComeTo state next
can-turn state journal next there not =
    λ one is comes.
    absurd (not (subst (λ (j : Journal). ComesTo j.stage next) (journal_is one journal (sym is ∙ there)) comes))

module _ (work : Work) where
  -- such as the one that takes it back
  pub can-turn_back : (state : State) (stage back : Stage) → state.disk.journal ≡ Some (journal_of work stage)
      → stage_back stage ≡ Some back → ¬ (stage ≡ back) → CanComeTo state back
  can-turn_back state stage back there some differ =
      can-turn state (journal_of work stage) back there (λ comes. differ (back-elsewhere stage back some comes))

  -- after the new texts everything can get its staging name
  pub can-stage : (state : State) → state.disk.journal ≡ Some (journal_of work Writing) → CanComeTo state Staging
  can-stage state there =
      can-turn state (journal_of work Writing) Staging there (λ comes. cc (comes-way Writing Staging comes))

  -- or the new texts can be removed
  pub can-erase : (state : State)
      → (state.disk.journal ≡ Some (journal_of work Writing)) ⊎ (state.disk.journal ≡ Some (journal_of work Staging))
      → CanComeTo state Erasing
  can-erase state (inl there) =
      can-turn state (journal_of work Writing) Erasing there (λ comes. cc (comes-way Writing Erasing comes))
  can-erase state (inr there) =
      can-turn state (journal_of work Staging) Erasing there (λ comes. cc (comes-way Staging Erasing comes))

  -- the next journal isn't the first
  pub not_first : (first stage next : Stage) → ComesTo first stage → next_stage stage ≡ Some next
      → ¬ (Some (journal_of work next) ≡ Some (journal_of work first))
  not_first first stage next comes some same =
      no_return first stage next comes some
      (0, ap (λ (j : Journal). Some j.stage) (journal_is (journal_of work next) (journal_of work first) same))

-- the code finds that a stage is itself
pub same-itself : (stage : Stage) → sameb the_type stage stage ≡ true
same-itself Writing = refl
same-itself Staging = refl
same-itself Making = refl
same-itself Placing = refl
same-itself Cleaning = refl
same-itself Unplacing = refl
same-itself Unmaking = refl
same-itself Unstaging = refl
same-itself Erasing = refl
