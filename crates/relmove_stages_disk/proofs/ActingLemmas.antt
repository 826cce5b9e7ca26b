-- What an action may return.
use Rattle.std.proofs.Common.{◌≡◌, inl, inr, ℕ, List, Some, None, IsSome, IfOk, Result, Ok, Err, Vec, refl, sym, subst}
use Rattle.std.specs.declared.alloc.AllocError.{AllocError}
use Rattle.std.specs.declared.alloc.Global.{Global}
use Rattle.relmove_journal.specs.declared.text_digest.TextDigest.{TextDigest}
use Rattle.relmove_stages.specs.StageActions.{Clears, Does, HasPart, HasText, IsPart, IsText, Makes, Removes, RemovesPart, StageAction, Takes}
use Rattle.relmove_stages_disk.proofs.LookingLemmas.{takes-none}
use Rattle.relmove_stages_disk.proofs.NodesLemmas.{with_node-none}
use Rattle.relmove_stages_disk.specs.Acting.{Answers, IsGivenMemory}
use Rattle.relmove_stages_disk.specs.Entries.{entries_tree}
use Rattle.relmove_stages_disk.specs.declared.entry.Entry.{Entry}
use Rattle.relmove_stages_disk.specs.declared.fault.Fault.{Fault}
use Rattle.relmove_stages_disk.specs.declared.fault.Fault.TheVariants.{Refused}
use Rattle.relmove_trees.proofs.FileTreesLemmas.{some_is, some_none}
use Rattle.relmove_trees.specs.FileTrees.{CanTake, Directory, File, HasBelow, IsUnder, Place, Tree, after_rename, names_of, with_node}

-- copies that have the tree after the action
pub changed : (action : StageAction) (old new : Tree) (copies : Result (Vec Entry Global) AllocError)
    (result : Result (Vec Entry Global) Fault) → IsGivenMemory copies result
    → IfOk copies (λ copies. entries_tree copies.items ≡ new)
    → Does action old new → Answers action old result
changed action old new (Ok copies) result given same does =
    subst (Answers action old) (sym given) (subst (Does action old) (sym same) does)
changed action old new (Err error) result given same does = subst (Answers action old) (sym given) tt

pub changed-if : (P : Type 0) (action : StageAction) (old new : Tree) (copies : Result (Vec Entry Global) AllocError)
    (result : Result (Vec Entry Global) Fault) → IsGivenMemory copies result → P
    → IfOk copies (λ copies. P → entries_tree copies.items ≡ new) → Does action old new → Answers action old result
changed-if P action old new (Ok copies) result given holds same does = changed action old new (Ok copies) result given (same holds) does
changed-if P action old new (Err error) result given holds same does = changed action old new (Err error) result given tt does

directory-some : (tree : Tree) (place : Place) → tree place ≡ Some Directory → IsSome (tree place)
directory-some tree place is = some_is (Some Directory) (tree place) (sym is) refl

-- ---- a rename

-- paths that are other views of the same texts
pub at_paths : (from from_2 to to_2 : List ℕ) (tree : Tree) (result : Result (Vec Entry Global) Fault) → from ≡ from_2 → to ≡ to_2
    → Answers (Takes (names_of from) (names_of to)) tree result → Answers (Takes (names_of from_2) (names_of to_2)) tree result
at_paths from from_2 to to_2 tree result same same_2 answers =
    subst (λ text. Answers (Takes (names_of text) (names_of to_2)) tree result) same
    (subst (λ text. Answers (Takes (names_of from) (names_of text)) tree result) same_2 answers)

pub rename-gone : (old : Tree) (from to : Place) → old from ≡ None → IsSome (old to) → Does (Takes from to) old old
rename-gone old from to none some = record {
  can = inr (none, some);
  acts = λ ready. absurd (some_none (old from) ready.there none);
  stays = λ done. refl;
}

pub rename-done : (old : Tree) (from to : Place) → IsSome (old from) → CanTake old to → ¬ IsUnder to from
    → Does (Takes from to) old (after_rename (from, to) old)
rename-done old from to some takes apart = record {
  can = inl (record { there = some; takes = takes; apart = apart });
  acts = λ ready. refl;
  stays = λ done. absurd (some_none (old from) some done.0);
}

pub rename-nothing : (old : Tree) (from to : Place) → old from ≡ None → old to ≡ None → Answers (Takes from to) old (Err Refused)
rename-nothing old from to none none_2 =
    (λ ready. some_none (old from) ready.there none, λ done. some_none (old to) done.1 none_2)

pub rename-under : (old : Tree) (from to : Place) → IsSome (old from) → IsUnder to from → Answers (Takes from to) old (Err Refused)
rename-under old from to some under = (λ ready. ready.apart under, λ done. some_none (old from) some done.0)

pub rename-no_room : (old : Tree) (from to : Place) → IsSome (old from) → ¬ CanTake old to
    → Answers (Takes from to) old (Err Refused)
rename-no_room old from to some not = (λ ready. not ready.takes, λ done. some_none (old from) some done.0)

-- ---- a directory made

pub make-there : (old : Tree) (place : Place) → old place ≡ Some Directory → Does (Makes place) old old
make-there old place is = record {
  can = inr is;
  acts = λ ready. absurd (some_none (old place) (directory-some old place is) (takes-none old place ready));
  stays = λ done. refl;
}

pub make-done : (old : Tree) (place : Place) → (old place ≡ Some Directory → ⊥) → CanTake old place
    → Does (Makes place) old (with_node place (Some Directory) old)
make-done old place not takes = record { can = inl takes; acts = λ ready. refl; stays = λ done. absurd (not done) }

pub make-no_room : (old : Tree) (place : Place) → (old place ≡ Some Directory → ⊥) → ¬ CanTake old place
    → Answers (Makes place) old (Err Refused)
make-no_room old place not no_room = (no_room, not)

-- ---- a directory removed

pub clear-below : (old : Tree) (place : Place) → HasBelow old place → Does (Clears place) old old
clear-below old place below = record { can = inr (inr below); acts = λ ready. inr (below, refl); stays = λ done. refl }

pub clear-gone : (old : Tree) (place : Place) → old place ≡ None → Does (Clears place) old old
clear-gone old place none = record {
  can = inr (inl none);
  acts = λ ready. absurd (some_none (old place) (directory-some old place ready) none);
  stays = λ done. refl;
}

pub clear-done : (old : Tree) (place : Place) → ¬ HasBelow old place → old place ≡ Some Directory
    → Does (Clears place) old (with_node place None old)
clear-done old place not is = record {
  can = inl is;
  acts = λ ready. inl (not, refl);
  stays = λ done. elim done [
    | inl none ↦ absurd (some_none (old place) (directory-some old place is) none)
    | inr below ↦ absurd (not below)
  ];
}

pub clear-other : (old : Tree) (place : Place) → ¬ HasBelow old place → IsSome (old place) → (old place ≡ Some Directory → ⊥)
    → Answers (Clears place) old (Err Refused)
clear-other old place not some other = (
  other,
  λ done. elim done [
    | inl none ↦ some_none (old place) some none
    | inr below ↦ not below
  ],
)

-- ---- a text removed

pub remove-gone : (old : Tree) (place : Place) (digest : TextDigest) → old place ≡ None → Does (Removes place digest) old old
remove-gone old place digest none = record {
  can = inr none;
  acts = λ (bytes, is, text). absurd (some_none (old place) (some_is (Some (File bytes)) (old place) (sym is) refl) none);
  stays = λ done. refl;
}

pub remove-done : (old : Tree) (place : Place) (digest : TextDigest) → IsSome (old place) → HasText place digest old
    → Does (Removes place digest) old (with_node place None old)
remove-done old place digest some is = record {
  can = inl is;
  acts = λ ready. refl;
  stays = λ done. absurd (some_none (old place) some done);
}

pub remove-other : (old : Tree) (place : Place) (digest : TextDigest) → IsSome (old place)
    → ((bytes : List ℕ) → old place ≡ Some (File bytes) → ¬ IsText digest bytes)
    → Answers (Removes place digest) old (Err Refused)
remove-other old place digest some other = (λ (bytes, is, text). other bytes is text, λ done. some_none (old place) some done)

-- ---- a text removed that may be a part

pub part-gone : (old : Tree) (place : Place) (digest : TextDigest) → old place ≡ None → Does (RemovesPart place digest) old old
part-gone old place digest none = record {
  can = inr none;
  acts = λ ready. sym (with_node-none place old none);
  stays = λ done. refl;
}

pub part-done : (old : Tree) (place : Place) (digest : TextDigest) → IsSome (old place) → HasPart place digest old
    → Does (RemovesPart place digest) old (with_node place None old)
part-done old place digest some is = record {
  can = inl (inr is);
  acts = λ ready. refl;
  stays = λ done. absurd (some_none (old place) some done);
}

pub part-other : (old : Tree) (place : Place) (digest : TextDigest) → IsSome (old place)
    → ((bytes : List ℕ) → old place ≡ Some (File bytes) → ¬ IsPart digest bytes)
    → Answers (RemovesPart place digest) old (Err Refused)
part-other old place digest some other = (
  λ ready. elim ready [
    | inl none ↦ some_none (old place) some none
    | inr (bytes, is, part) ↦ other bytes is part
  ],
  λ done. some_none (old place) some done,
)
