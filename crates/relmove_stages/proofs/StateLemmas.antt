-- How calls go on, and what they leave.
use Rattle.std.proofs.Common.{◌≡◌, ◌⊎◌, inl, inr, Option, Some, None, refl, sym, ◌∙◌, subst, arith}
use Rattle.relmove_journal.specs.declared.work.Stage.{Stage}
use Rattle.relmove_journal.specs.declared.work.Work.{Work}
use Rattle.relmove_stages.specs.Runs.{Guards, IsAtStage, IsOnTheWayFrom, IsTreeFrom, Trees}
use Rattle.relmove_stages.specs.Stages.{ComesTo}
use Rattle.relmove_stages.specs.States.{Disk, IsOneCall, Journal, Leaves, State, journal_of}
use Rattle.relmove_stages.proofs.OrderLemmas.{comes-on, ends-from}

pub Leaves-none : (P : Disk → Type 0) (state : State) → Leaves P state state
Leaves-none P state = record {
  later = omega arith;
  crash = λ c left. inl left;
  any_moment = λ t c le left. inl left;
  keeps = λ t c le left. left;
  no_less = omega arith;
  clean = λ clean. clean;
}

pub Leaves-then : (P Q : Disk → Type 0) (old mid new : State) → Leaves P old mid → Leaves Q mid new
    → ((c : Disk) → Q c → P c) → Leaves P old new
Leaves-then P Q old mid new one two to = record {
  later = let l = one.later in let m = two.later in omega (arith, l, m);
  crash = λ c left. elim (two.crash c left) [ inl before ↦ one.crash c before | inr now ↦ inr (to c now) ];
  any_moment = λ t c le left. elim (two.any_moment t c (let l = one.later in omega (arith, le, l)) left) [
    | inl before ↦ one.any_moment t c le before
    | inr (inl may) ↦ inr (one.crash c may)
    | inr (inr now) ↦ inr (inr (to c now))
  ];
  keeps = λ t c le left. two.keeps t c (let l = one.later in omega (arith, le, l)) (one.keeps t c le left);
  no_less = let l = one.no_less in let m = two.no_less in omega (arith, l, m);
  clean = λ clean. one.clean (two.clean clean);
}

-- ---- calls that leave only disks that have P

module _ (P : Disk → Type 0) where
  pub guards-none : (state : State) → P state.disk → Guards P state state
  guards-none state way = record { way = way; leaves = Leaves-none P state }

  -- one call more
  pub guards-call : (old mid new : State) → Guards P old mid → IsOneCall mid new → P new.disk → Guards P old new
  guards-call old mid new guards call way = record {
    way = way;
    leaves = Leaves-then P (λ c. (c ≡ mid.disk) ⊎ (c ≡ new.disk)) old mid new guards.leaves call
        (λ c is. elim is [
          | inl before ↦ subst P (sym before) guards.way
          | inr after ↦ subst P (sym after) way
        ]);
  }

  -- several calls more, which leave only disks that have Q
  pub guards-then : (Q : Disk → Type 0) (old mid new : State) → ((c : Disk) → Q c → P c) → Guards P old mid → Guards Q mid new
      → Guards P old new
  guards-then Q old mid new to one two = record {
    way = to new.disk two.way;
    leaves = Leaves-then P Q old mid new one.leaves two.leaves to;
  }

  -- what has Q has P
  pub guards-to : (Q : Disk → Type 0) (old new : State) → ((c : Disk) → Q c → P c) → Guards Q old new → Guards P old new
  guards-to Q old new to guards = record {
    way = to new.disk guards.way;
    leaves = Leaves-then P Q old old new (Leaves-none P old) guards.leaves to;
  }

  -- what might be left at a moment was there before, or has P
  pub guards-moment : (old new : State) → Guards P old new → ((c : Disk) → old.left_since old.moment c → old.may_leave c)
      → (c : Disk) → new.left_since old.moment c → old.may_leave c ⊎ P c
  guards-moment old new guards now c left = elim (guards.leaves.any_moment old.moment c (omega arith) left) [
    | inl before ↦ inl (now c before)
    | inr may ↦ may
  ]

-- ---- a run

module _ (work : Work) (trees : Trees) (first : Stage) where
  pub way-at : (disk : Disk) (journal : Option Journal) → disk.journal ≡ journal → IsTreeFrom work trees first journal disk.tree
      → IsOnTheWayFrom work trees first disk
  way-at disk journal is at = subst (λ (j : Option Journal). IsTreeFrom work trees first j disk.tree) (sym is) at

  -- the disk after a call that leaves the tree
  pub way-journal : (old new : Disk) (journal : Option Journal) → new.tree ≡ old.tree
      → (new.journal ≡ old.journal) ⊎ (new.journal ≡ journal) → IsOnTheWayFrom work trees first old
      → IsTreeFrom work trees first journal old.tree → IsOnTheWayFrom work trees first new
  way-journal old new journal same (inl stays) way at =
      way-at new old.journal stays (subst (IsTreeFrom work trees first old.journal) (sym same) way)
  way-journal old new journal same (inr put) way at =
      way-at new journal put (subst (IsTreeFrom work trees first journal) (sym same) at)

  -- a call that goes on in a stage
  pub guards-act : (stage : Stage) (old mid new : State) → ComesTo first stage → Guards (IsOnTheWayFrom work trees first) old mid
      → IsOneCall mid new → mid.disk.journal ≡ Some (journal_of work stage) → new.disk.journal ≡ mid.disk.journal
      → IsAtStage work trees stage new.disk.tree → Guards (IsOnTheWayFrom work trees first) old new
  guards-act stage old mid new comes guards call is same at =
      guards-call (IsOnTheWayFrom work trees first) old mid new guards call
      (way-at new.disk (Some (journal_of work stage)) (same ∙ is) (refl, comes, at))

  -- a call that puts another journal, or removes it
  pub guards-put : (journal : Option Journal) (old mid new : State) → Guards (IsOnTheWayFrom work trees first) old mid
      → IsOneCall mid new → new.disk.tree ≡ mid.disk.tree
      → (new.disk.journal ≡ mid.disk.journal) ⊎ (new.disk.journal ≡ journal)
      → IsTreeFrom work trees first journal mid.disk.tree → Guards (IsOnTheWayFrom work trees first) old new
  guards-put journal old mid new guards call same outcome at =
      guards-call (IsOnTheWayFrom work trees first) old mid new guards call
      (way-journal mid.disk new.disk journal same outcome guards.way at)

  -- what is on the way from a later stage is on the way from the first
  pub way-later : (stage : Stage) → ComesTo first stage → (disk : Disk) → IsOnTheWayFrom work trees stage disk
      → IsOnTheWayFrom work trees first disk
  way-later stage comes disk way = way-at disk disk.journal refl (by disk.journal way)
    where
      by : (journal : Option Journal) → IsTreeFrom work trees stage journal disk.tree → IsTreeFrom work trees first journal disk.tree
      by None ends = ends-from work trees first stage disk.tree comes ends
      by (Some later) (same, comes_2, at) = (same, comes-on first stage later.stage comes comes_2, at)
