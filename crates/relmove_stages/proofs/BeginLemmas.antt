-- How a run begins.
use Rattle.std.proofs.Common.{◌≡◌, ◌⊎◌, inl, inr, ◌≤◌, ℕ, Option, zero, suc, List, [], ◌∷◌, Some, None, drop, length, refl, sym, ◌∙◌, ap, subst, arith}
use Rattle.std.specs.List.{slice_get}
use Rattle.relmove_journal.specs.declared.work.Stage.{Stage}
use Rattle.relmove_journal.specs.declared.work.Stage.TheVariants.{Writing, Staging, Erasing}
use Rattle.relmove_journal.specs.declared.work.TextFile.{TextFile}
use Rattle.relmove_journal.specs.declared.work.Work.{Work}
use Rattle.relmove_stages.specs.Halts.{IsAfterHalt}
use Rattle.relmove_stages.specs.Runs.{CanInitiate, CanWrite, Guards, HasNewPart, HasParts, IsAtStage, IsOnTheWay, IsOnTheWayFrom, IsTreeFrom, Leads, Trees, writes_of}
use Rattle.relmove_stages.specs.Stages.{ComesTo, removes, removes_part}
use Rattle.relmove_stages.specs.StageActions.{MayWrite, place_of}
use Rattle.relmove_stages.specs.declared.beginning.Halt.{Halt}
use Rattle.relmove_stages.specs.declared.beginning.Halt.TheVariants.{Left, Refused, Stopped}
use Rattle.relmove_stages.specs.States.{Disk, IsOneCall, Journal, Leaves, State, journal_of}
use Rattle.relmove_stages.proofs.MachineLemmas.{at-begin}
use Rattle.relmove_stages.proofs.OrderLemmas.{comes-here, comes-last}
use Rattle.relmove_stages.proofs.PartsLemmas.{parts-less, texts-free, written-parts}
use Rattle.relmove_stages.proofs.StateLemmas.{Leaves-then, guards-call, guards-none, guards-put, guards-then, guards-to, way-at}
use Rattle.relmove_trees.proofs.FileTreesLemmas.{place_or, with_node-at, with_node-elsewhere}
use Rattle.relmove_trees.specs.FileTrees.{File, Place, Tree, with_node}
use Rattle.relmove_trees.specs.TreeActions.{Action, LeadTo, Write}

-- ---- new texts

-- before the first there are no parts
pub parts-none : (texts : List TextFile) (before tree : Tree) → tree ≡ before → HasParts texts before tree
parts-none texts before tree same = λ place. inl (ap (λ (t : Tree). t place) same)

-- what a write may leave is a part
pub write-parts : (texts : List TextFile) (before old new : Tree) (i : ℕ) (text : TextFile) → slice_get texts i ≡ Some text
    → HasParts texts before old → MayWrite (place_of text.path) text.digest old new → HasParts texts before new
write-parts texts before old new i text at parts (inl same) = subst (HasParts texts before) (sym same) parts
write-parts texts before old new i text at parts (inr (takes, bytes, part, acts)) = λ place. by place (place_or place top)
  where
    top : Place
    top = place_of text.path

    stays : (place : Place) → new place ≡ old place → (old place ≡ before place) ⊎ HasNewPart texts place old
        → (new place ≡ before place) ⊎ HasNewPart texts place new
    stays place same (inl is) = inl (same ∙ is)
    stays place same (inr (j, other, at_2, is, (bytes_2, there, part_2))) = inr (j, other, at_2, is, (bytes_2, same ∙ there, part_2))

    by : (place : Place) → (place ≡ top) ⊎ (place ≡ top → ⊥) → (new place ≡ before place) ⊎ HasNewPart texts place new
    by place (inl same) = inr (
      i,
      text,
      at,
      same,
      (bytes, ap new same ∙ ap (λ (t : Tree). t top) acts ∙ with_node-at top (Some (File bytes)) old, part),
    )
    by place (inr differ) =
        stays place (ap (λ (t : Tree). t place) acts ∙ with_node-elsewhere top (Some (File bytes)) old place differ) (parts place)

-- the next text is written, and then those after it
writes-next : (texts : List TextFile) (all : List (List ℕ)) (i : ℕ) (text : TextFile) (bytes : List ℕ)
    → slice_get texts i ≡ Some text → slice_get all i ≡ Some bytes
    → writes_of (drop i texts) (drop i all) ≡ Write (place_of text.path) bytes ∷ writes_of (drop (suc i) texts) (drop (suc i) all)
writes-next [] all i text bytes at at_2 = absurd (cc at)
writes-next (first ∷ texts) [] i text bytes at at_2 = absurd (cc at_2)
writes-next (first ∷ texts) (one ∷ all) zero text bytes at at_2 =
    let is : first ≡ text = cc at in
    let is_2 : one ≡ bytes = cc at_2 in
    ap (λ (t : TextFile). Write (place_of t.path) one ∷ writes_of texts all) is
    ∙ ap (λ (b : List ℕ). Write (place_of text.path) b ∷ writes_of texts all) is_2
writes-next (first ∷ texts) (one ∷ all) (suc i) text bytes at at_2 = writes-next texts all i text bytes at at_2

-- after the last no text is left
writes-last : (texts : List TextFile) (all : List (List ℕ)) (i : ℕ) → length texts ≤ i → writes_of (drop i texts) all ≡ []
writes-last [] all zero past = refl
writes-last [] all (suc i) past = refl
writes-last (first ∷ texts) all zero past = absurd (omega (arith, past))
writes-last (first ∷ texts) all (suc i) past = writes-last texts all i (omega (arith, past))

-- the texts from this number on lead to the tree with all of them
abbrev pub IsLeft : Work → List (List ℕ) → Trees → ℕ → Tree → Type 0
IsLeft work all trees i tree =
    LeadTo (writes_of (drop i work.texts.items) (drop i all)) (λ end. end ≡ trees.written) tree

module _ (work : Work) (all : List (List ℕ)) (trees : Trees) where
  pub left-first : (tree : Tree) → CanInitiate work all trees → tree ≡ trees.before → IsLeft work all trees 0 tree
  left-first tree can is = subst (LeadTo (writes_of work.texts.items all) (λ end. end ≡ trees.written)) (sym is) can.writes

  pub left-last : (i : ℕ) (tree : Tree) → length work.texts.items ≤ i → IsLeft work all trees i tree → tree ≡ trees.written
  left-last i tree past left =
      subst (λ (l : List Action). LeadTo l (λ end. end ≡ trees.written) tree) (writes-last work.texts.items (drop i all) i past) left

  pub left-can : (i : ℕ) (text : TextFile) (tree : Tree) → CanInitiate work all trees → slice_get work.texts.items i ≡ Some text
      → IsLeft work all trees i tree → CanWrite all i text tree
  left-can i text tree can at left =
      let (bytes, at_2, is) = can.digests i text at in
      let next =
      subst (λ (l : List Action). LeadTo l (λ end. end ≡ trees.written) tree)
      (writes-next work.texts.items all i text bytes at at_2) left in
      (next.0, bytes, at_2, is)

  pub left-next : (i : ℕ) (text : TextFile) (old new : Tree) → CanInitiate work all trees → slice_get work.texts.items i ≡ Some text
      → ((bytes : List ℕ) → slice_get all i ≡ Some bytes → new ≡ with_node (place_of text.path) (Some (File bytes)) old)
      → IsLeft work all trees i old → IsLeft work all trees (suc i) new
  left-next i text old new can at written left =
      let (bytes, at_2, is) = can.digests i text at in
      let next =
      subst (λ (l : List Action). LeadTo l (λ end. end ≡ trees.written) old)
      (writes-next work.texts.items all i text bytes at at_2) left in
      next.1 new (written bytes at_2)

-- ---- a run

module _ (work : Work) (trees : Trees) where
  pub way-first : (disk : Disk) → (disk.journal ≡ None) ⊎ (disk.journal ≡ Some (journal_of work Writing)) → disk.tree ≡ trees.before
      → IsOnTheWayFrom work trees Writing disk
  way-first disk (inl none) is = way-at work trees Writing disk None none is
  way-first disk (inr writing) is =
      way-at work trees Writing disk (Some (journal_of work Writing)) writing
      (refl, comes-here Writing, at-begin work trees Writing disk.tree (parts-none work.texts.items trees.before disk.tree is))

  -- the first journal
  pub begin-guards : (old new : State) → old.disk.journal ≡ None → old.disk.tree ≡ trees.before → IsOneCall old new
      → new.disk.tree ≡ old.disk.tree
      → (new.disk.journal ≡ old.disk.journal) ⊎ ((old.disk.journal ≡ None) × (new.disk.journal ≡ Some (journal_of work Writing)))
      → Guards (IsOnTheWayFrom work trees Writing) old new
  begin-guards old new none is call same outcome =
      guards-put work trees Writing (Some (journal_of work Writing)) old old new
      (guards-none (IsOnTheWayFrom work trees Writing) old (way-first old.disk (inl none) is)) call same (by outcome)
      (refl, comes-here Writing, at-begin work trees Writing old.disk.tree (parts-none work.texts.items trees.before old.disk.tree is))
    where
      by : (new.disk.journal ≡ old.disk.journal) ⊎ ((old.disk.journal ≡ None) × (new.disk.journal ≡ Some (journal_of work Writing)))
          → (new.disk.journal ≡ old.disk.journal) ⊎ (new.disk.journal ≡ Some (journal_of work Writing))
      by (inl stays) = inl stays
      by (inr put) = inr put.1

  -- a new text
  pub write-guards : (i : ℕ) (text : TextFile) (old mid new : State) → slice_get work.texts.items i ≡ Some text
      → Guards (IsOnTheWayFrom work trees Writing) old mid → mid.disk.journal ≡ Some (journal_of work Writing)
      → HasParts work.texts.items trees.before mid.disk.tree
      → Leaves (λ c. (c.journal ≡ mid.disk.journal) × MayWrite (place_of text.path) text.digest mid.disk.tree c.tree) mid new
      → new.disk.journal ≡ mid.disk.journal → MayWrite (place_of text.path) text.digest mid.disk.tree new.disk.tree
      → Guards (IsOnTheWayFrom work trees Writing) old new
  write-guards i text old mid new at guards journal parts crash same may = record {
    way = way new.disk same may;
    leaves = Leaves-then (IsOnTheWayFrom work trees Writing)
        (λ c. (c.journal ≡ mid.disk.journal) × MayWrite (place_of text.path) text.digest mid.disk.tree c.tree)
        old mid new guards.leaves crash (λ c left. way c left.0 left.1);
  }
    where
      way : (disk : Disk) → disk.journal ≡ mid.disk.journal → MayWrite (place_of text.path) text.digest mid.disk.tree disk.tree
          → IsOnTheWayFrom work trees Writing disk
      way disk stays may =
          way-at work trees Writing disk (Some (journal_of work Writing)) (stays ∙ journal) (
            refl,
            comes-here Writing,
            at-begin work trees Writing disk.tree
                (write-parts work.texts.items trees.before mid.disk.tree disk.tree i text at parts may),
          )

  -- ---- the three ways

  pub way-writing : (disk : Disk) → IsOnTheWayFrom work trees Writing disk → IsOnTheWay work trees disk
  way-writing disk way = inl way

  pub way-staging : (disk : Disk) → IsOnTheWayFrom work trees Staging disk → IsOnTheWay work trees disk
  way-staging disk way = inr (inl way)

  pub way-erasing : (disk : Disk) → IsOnTheWayFrom work trees Erasing disk → IsOnTheWay work trees disk
  way-erasing disk way = inr (inr way)

  -- the calls after the first journal
  pub begun-then : (Q : Disk → Type 0) (old mid new : State) → ((c : Disk) → Q c → IsOnTheWay work trees c)
      → Guards (IsOnTheWayFrom work trees Writing) old mid → Guards Q mid new → Guards (IsOnTheWay work trees) old new
  begun-then Q old mid new to one two =
      guards-then (IsOnTheWay work trees) Q old mid new to
      (guards-to (IsOnTheWay work trees) (IsOnTheWayFrom work trees Writing) old mid way-writing one) two

  -- the first journal, and then new texts
  pub wrote-guards : (old mid new : State) → Guards (IsOnTheWayFrom work trees Writing) old mid
      → Guards (IsOnTheWayFrom work trees Writing) mid new → Guards (IsOnTheWayFrom work trees Writing) old new
  wrote-guards old mid new one two =
      guards-then (IsOnTheWayFrom work trees Writing) (IsOnTheWayFrom work trees Writing) old mid new (λ disk way. way) one two

  -- one of the last stages of the way back
  pub way-back : (stage : Stage) → (stage ≡ Writing) ⊎ (stage ≡ Erasing) → (disk : Disk) → IsOnTheWayFrom work trees stage disk
      → IsOnTheWayFrom work trees Writing disk ⊎ IsOnTheWayFrom work trees Erasing disk
  way-back stage (inl is) disk way = inl (subst (λ (s : Stage). IsOnTheWayFrom work trees s disk) is way)
  way-back stage (inr is) disk way = inr (subst (λ (s : Stage). IsOnTheWayFrom work trees s disk) is way)

  pub way-any : (stage : Stage) → (stage ≡ Writing) ⊎ (stage ≡ Erasing) → (disk : Disk) → IsOnTheWayFrom work trees stage disk
      → IsOnTheWay work trees disk
  way-any stage last disk way = elim (way-back stage last disk way) [
    | inl writing ↦ way-writing disk writing
    | inr erasing ↦ way-erasing disk erasing
  ]

  -- a journal that is put where a disk with the same tree is on the way
  pub enter-guards : (first : Stage) (old new : State) → ((c : Disk) → IsOnTheWayFrom work trees first c → IsOnTheWay work trees c)
      → IsOnTheWay work trees old.disk → IsAtStage work trees first old.disk.tree → IsOneCall old new
      → new.disk.tree ≡ old.disk.tree → (new.disk.journal ≡ old.disk.journal) ⊎ (new.disk.journal ≡ Some (journal_of work first))
      → Guards (IsOnTheWay work trees) old new
  enter-guards first old new to way at call same outcome =
      guards-call (IsOnTheWay work trees) old old new (guards-none (IsOnTheWay work trees) old way) call (by outcome)
    where
      by : (new.disk.journal ≡ old.disk.journal) ⊎ (new.disk.journal ≡ Some (journal_of work first)) → IsOnTheWay work trees new.disk
      by (inl stays) = subst (IsOnTheWay work trees) (λ i. record { journal = sym stays i; tree = sym same i }) way
      by (inr put) =
          to new.disk
          (way-at work trees first new.disk (Some (journal_of work first)) put
          (refl, comes-here first, subst (IsAtStage work trees first) (sym same) at))

  -- and then the run goes on from there
  pub enter-then : (first : Stage) (old mid new : State) → ((c : Disk) → IsOnTheWayFrom work trees first c → IsOnTheWay work trees c)
      → IsOnTheWay work trees old.disk → IsAtStage work trees first old.disk.tree → IsOneCall old mid
      → mid.disk.tree ≡ old.disk.tree → (mid.disk.journal ≡ old.disk.journal) ⊎ (mid.disk.journal ≡ Some (journal_of work first))
      → Guards (IsOnTheWayFrom work trees first) mid new → Guards (IsOnTheWay work trees) old new
  enter-then first old mid new to way at call same outcome two =
      guards-then (IsOnTheWay work trees) (IsOnTheWayFrom work trees first) old mid new to
      (enter-guards first old mid to way at call same outcome) two

-- ---- how a run stops

pub after_halt-more : {F : Type 0} (work : Work) (trees : Trees) (least more : ℕ) (state : State) (halt : Halt F) → least ≤ more
    → IsAfterHalt work trees more state halt → IsAfterHalt work trees least state halt
after_halt-more work trees least more state (Refused fault) le is = is
after_halt-more work trees least more state (Left fault) le is = (let less = is.0 in omega (arith, le, less), is.1, is.2)
after_halt-more work trees least more state (Stopped fault) le (inl way) = inl way
after_halt-more work trees least more state (Stopped fault) le (inr is) = inr (let less = is.0 in omega (arith, le, less), is.1)

module _ (work : Work) (trees : Trees) (leads : Leads work trees) where
  free : (i : ℕ) (text : TextFile) → slice_get work.texts.items i ≡ Some text → trees.before (place_of text.path) ≡ None
  free = texts-free work.texts.items trees.before trees.written leads.texts

  stage-parts : (stage : Stage) (tree : Tree) → (stage ≡ Writing) ⊎ (stage ≡ Erasing) → IsAtStage work trees stage tree
      → HasParts work.texts.items trees.before tree
  stage-parts stage tree (inl is) at =
      let (start, begins, on) = subst (λ (s : Stage). IsAtStage work trees s tree) is at in
      parts-less removes_part (λ text old new acts. acts) work.texts.items work.texts.items trees.before start tree on.done free
      begins on.is
  stage-parts stage tree (inr is) at =
      let (start, begins, on) = subst (λ (s : Stage). IsAtStage work trees s tree) is at in
      parts-less removes (λ text old new acts. acts) work.texts.items work.texts.items trees.before start tree on.done free
      (subst (HasParts work.texts.items trees.before) (sym begins)
      (written-parts work.texts.items trees.before trees.written leads.texts)) on.is

  -- a run that takes its new texts back has nothing else
  pub back-parts : (stage : Stage) → (stage ≡ Writing) ⊎ (stage ≡ Erasing) → (disk : Disk)
      → IsOnTheWayFrom work trees stage disk → HasParts work.texts.items trees.before disk.tree
  back-parts stage last disk way = by last disk.journal way
    where
      by : (stage ≡ Writing) ⊎ (stage ≡ Erasing) → (journal : Option Journal) → IsTreeFrom work trees stage journal disk.tree
          → HasParts work.texts.items trees.before disk.tree
      by (inl is) None ends =
          parts-none work.texts.items trees.before disk.tree
          (subst (λ (s : Stage). IsTreeFrom work trees s None disk.tree) is ends)
      by (inr is) None ends =
          parts-none work.texts.items trees.before disk.tree
          (subst (λ (s : Stage). IsTreeFrom work trees s None disk.tree) is ends)
      by (inl is) (Some later) (same, comes, at) =
          let comes_2 = subst (λ (s : Stage). ComesTo s later.stage) is comes in
          stage-parts later.stage disk.tree (inl (comes-last Writing later.stage refl comes_2)) at
      by (inr is) (Some later) (same, comes, at) =
          let comes_2 = subst (λ (s : Stage). ComesTo s later.stage) is comes in
          stage-parts later.stage disk.tree (inr (comes-last Erasing later.stage refl comes_2)) at
