-- How a disk goes on.
use Rattle.std.proofs.Common.{Bool, true, false, true≢false, cond, ◌∙◌, ◌≡◌, ◌⊎◌, inl, inr, ℕ, zero, suc, ◌+◌, ◌-◌, ◌^◌, ◌<◌, ◌≤◌, List, [], ◌∷◌, ◌++◌, IsTrue, OnErr, OnOk, IfErr, Some, Result, Vec, Ok, Err, drop, take, length, refl, ap, sym, subst, arith, length-append}
use Rattle.std.specs.List.{slice_get}
use Rattle.std.specs.Prelude.{nat_lt}
use Rattle.std.proofs.lemmas.Bool.{cases_lt}
use Rattle.std.proofs.lemmas.Bool.Decides.{nat_tests}
use Rattle.std.proofs.Common.{get_or}
use Rattle.std.specs.Option.{option_map}
use Rattle.std.proofs.lemmas.List.{length-map, length-take-le, take_all}
use Rattle.std.proofs.lemmas.Option.{slice_get-map, slice_get_read, slice_get_within}
use Rattle.std.specs.declared.alloc.Global.{Global}
use Rattle.relmove_journal.specs.declared.text_digest.TextDigest.{TextDigest}
use Rattle.relmove_journal.specs.declared.work.TextFile.{TextFile}
use Rattle.relmove_stages.specs.Runs.{CanWrite}
use Rattle.relmove_stages.specs.StageActions.{Does, IsDone, IsPart, IsReady, IsText, MayDo, MayWrite, StageAction, place_of}
use Rattle.relmove_stages.specs.States.{Disk, IsOneCall, Leaves}
use Rattle.relmove_stages_disk.specs.Acting.{HasActed, HasWritten}
use Rattle.relmove_stages_disk.specs.Disks.{GoesOn, Had, WritesOn, bytes_of, count_up, HadSince, disk_of, faults_after, none_after, only_now, state_of}
use Rattle.relmove_stages_disk.specs.Journals.{said}
use Rattle.relmove_stages_disk.specs.declared.disk.MemoryDisk.{MemoryDisk}
use Rattle.relmove_stages_disk.specs.declared.fault.Fault.{Fault}
use Rattle.relmove_stages_disk.specs.declared.fault.Fault.TheVariants.{Failed, OutOfMemory, Refused}
use Rattle.relmove_stages_disk.specs.declared.moment.Moment.{Moment}
use Rattle.relmove_trees.specs.FileTrees.{CanTake, File, Tree, with_node}
use Rattle.relmove_trees.specs.TreeActions.{Acts, Write}

none_had : (k : ℕ) (disk : Disk) → Had (drop k []) disk → ⊥
none_had zero disk had = had
none_had (suc k) disk had = had

-- of a past that got one more moment
Had-push : (past : List Moment) (last : Moment) (k : ℕ) (disk : Disk) → Had (drop k (past ++ last ∷ [])) disk
    → Had (drop k past) disk ⊎ (disk ≡ disk_of last)
Had-push [] last zero disk (inl is) = inr is
Had-push [] last zero disk (inr none) = absurd none
Had-push [] last (suc k) disk had = absurd (none_had k disk had)
Had-push (moment ∷ past) last zero disk (inl is) = inl (inl is)
Had-push (moment ∷ past) last zero disk (inr had) = elim (Had-push past last zero disk had) [
  | inl before ↦ inl (inr before)
  | inr is ↦ inr is
]
Had-push (moment ∷ past) last (suc k) disk had = Had-push past last k disk had

HadSince-goes : (old new : MemoryDisk) → GoesOn old.now old.past.items new.now new.past.items → (k : ℕ) (disk : Disk)
    → HadSince new k disk → HadSince old k disk ⊎ ((disk ≡ disk_of old.now) ⊎ (disk ≡ disk_of new.now))
HadSince-goes old new goes k disk (inl now) = inr (inr now)
HadSince-goes old new (inl (same, past)) k disk (inr had) = inl (inr (subst (λ ms. Had (drop k ms) disk) past had))
HadSince-goes old new (inr past) k disk (inr had) =
    elim (Had-push old.past.items old.now k disk (subst (λ ms. Had (drop k ms) disk) past had)) [
      | inl before ↦ inl (inr before)
      | inr is ↦ inr (inl is)
    ]

-- what was there at an earlier moment stays
Had-longer : (past : List Moment) (last : Moment) (k : ℕ) (disk : Disk) → Had (drop k past) disk
    → Had (drop k (past ++ last ∷ [])) disk
Had-longer [] last k disk had = absurd (none_had k disk had)
Had-longer (moment ∷ past) last zero disk (inl is) = inl is
Had-longer (moment ∷ past) last zero disk (inr had) = inr (Had-longer past last zero disk had)
Had-longer (moment ∷ past) last (suc k) disk had = Had-longer past last k disk had

Had-last : (past : List Moment) (last : Moment) (k : ℕ) (disk : Disk) → k ≤ length past → disk ≡ disk_of last
    → Had (drop k (past ++ last ∷ [])) disk
Had-last [] last zero disk le is = inl is
Had-last [] last (suc k) disk le is = absurd (omega (arith, le))
Had-last (moment ∷ past) last zero disk le is = inr (Had-last past last zero disk (omega arith) is)
Had-last (moment ∷ past) last (suc k) disk le is = Had-last past last k disk (omega (arith, le)) is

had-goes : (now next : Moment) (past past_next : List Moment) → GoesOn now past next past_next → (k : ℕ) (disk : Disk)
    → k ≤ length past → (disk ≡ disk_of now) ⊎ Had (drop k past) disk → (disk ≡ disk_of next) ⊎ Had (drop k past_next) disk
had-goes now next past past_next (inl (same, is)) k disk le (inl here) = inl (here ∙ ap disk_of (sym same))
had-goes now next past past_next (inl (same, is)) k disk le (inr had) = inr (subst (λ ms. Had (drop k ms) disk) (sym is) had)
had-goes now next past past_next (inr is) k disk le (inl here) =
    inr (subst (λ ms. Had (drop k ms) disk) (sym is) (Had-last past now k disk le here))
had-goes now next past past_next (inr is) k disk le (inr had) =
    inr (subst (λ ms. Had (drop k ms) disk) (sym is) (Had-longer past now k disk had))

HadSince-stays : (old new : MemoryDisk) → GoesOn old.now old.past.items new.now new.past.items → (k : ℕ) (disk : Disk)
    → k ≤ length old.past.items → HadSince old k disk → HadSince new k disk
HadSince-stays old new goes k disk le left = had-goes old.now new.now old.past.items new.past.items goes k disk le left

-- a call leaves what might have been left before, what was there or what is there
pub one_call : (old new : MemoryDisk) → GoesOn old.now old.past.items new.now new.past.items
    → (new.durable ≡ old.durable) ⊎ (new.durable ≡ length old.past.items) → old.faults ≤ new.faults
    → IsOneCall (state_of old) (state_of new)
one_call old new goes durable no_less = record {
  later = later goes;
  crash = λ disk left. crash durable disk left;
  any_moment = λ t disk le left. elim (HadSince-goes old new goes t disk left) [
    | inl before ↦ inl before
    | inr is ↦ inr (inr is)
  ];
  keeps = λ t disk le left. HadSince-stays old new goes t disk le left;
  no_less = no_less;
  clean = clean;
}
  where
    later : GoesOn old.now old.past.items new.now new.past.items → length old.past.items ≤ length new.past.items
    later (inl (same, past)) = let count = ap length past in omega (arith, count)
    later (inr past) =
        let count = ap length past in
        let long = length-append old.past.items (old.now ∷ []) in
        omega (arith, count, long)

    crash : (new.durable ≡ old.durable) ⊎ (new.durable ≡ length old.past.items) → (disk : Disk) → HadSince new new.durable disk
        → HadSince old old.durable disk ⊎ ((disk ≡ disk_of old.now) ⊎ (disk ≡ disk_of new.now))
    crash (inl same) disk left = HadSince-goes old new goes old.durable disk (subst (λ k. HadSince new k disk) same left)
    crash (inr synced) disk left =
        elim (HadSince-goes old new goes (length old.past.items) disk (subst (λ k. HadSince new k disk) synced left)) [
          | inl before ↦ inl (only_now old disk before)
          | inr is ↦ inr is
        ]

    clean : IsTrue (nat_lt new.faults (2 ^ 64 - 1)) → IsTrue (nat_lt old.faults (2 ^ 64 - 1))
    clean is = grind (arith, nat_tests)

-- a write leaves what might have been left before, or P holds of it
pub write_call : (P : Disk → Type 0) (text : TextFile) (old new : MemoryDisk)
    → WritesOn text old.now old.past.items new.now new.past.items → new.durable ≡ old.durable → old.faults ≤ new.faults
    → P (disk_of old.now) → ((mid : Moment) → said mid.journal ≡ said old.now.journal
    → MayWrite (place_of text.path) text.digest (disk_of old.now).tree (disk_of mid).tree → P (disk_of mid))
    → P (disk_of new.now) → Leaves P (state_of old) (state_of new)
write_call P text old new (mid, between, goes, goes_2, same, may) durable no_less at_old at_mid at_new = record {
  later = let one = later goes in let two = later goes_2 in omega (arith, one, two);
  crash = λ disk left.
      since old.durable disk (subst (λ k. HadSince new k disk) durable left);
  any_moment = λ t disk le left. elim (since t disk left) [ inl before ↦ inl before | inr is ↦ inr (inr is) ];
  keeps = λ t disk le left.
      had-goes mid new.now between new.past.items goes_2 t disk (let one = later goes in omega (arith, one, le))
      (had-goes old.now mid old.past.items between goes t disk le left);
  no_less = no_less;
  clean = λ is. grind (arith, nat_tests);
}
  where
    later : {now next : Moment} {past past_next : List Moment} → GoesOn now past next past_next → length past ≤ length past_next
    later {now = now} {past = past} (inl (same, is)) = let count = ap length is in omega (arith, count)
    later {now = now} {past = past} (inr is) =
        let count = ap length is in
        let long = length-append past (now ∷ []) in
        omega (arith, count, long)

    had : (now next : Moment) (past past_next : List Moment) → GoesOn now past next past_next → (k : ℕ) (disk : Disk)
        → Had (drop k past_next) disk → Had (drop k past) disk ⊎ (disk ≡ disk_of now)
    had now next past past_next (inl (same, is)) k disk in_past = inl (subst (λ ms. Had (drop k ms) disk) is in_past)
    had now next past past_next (inr is) k disk in_past = Had-push past now k disk (subst (λ ms. Had (drop k ms) disk) is in_past)

    of_moment : (moment : Moment) (disk : Disk) → P (disk_of moment) → disk ≡ disk_of moment → P disk
    of_moment moment disk p is = subst P (sym is) p

    since : (k : ℕ) (disk : Disk) → HadSince new k disk → HadSince old k disk ⊎ P disk
    since k disk (inl now) = inr (of_moment new.now disk at_new now)
    since k disk (inr in_past) = elim (had mid new.now between new.past.items goes_2 k disk in_past) [
      | inl before ↦ elim (had old.now mid old.past.items between goes k disk before) [
        | inl earlier ↦ inl (inr earlier)
        | inr is ↦ inr (of_moment old.now disk at_old is)
      ]
      | inr is ↦ inr (of_moment mid disk (at_mid mid same may) is)
    ]

count_up-more : (old new : ℕ) → new ≡ count_up old → IsTrue (nat_lt new (2 ^ 64 - 1)) → old < new
count_up-more old new is clean = by (nat_lt old (2 ^ 64 - 1)) refl
  where
    by : (b : Bool) → nat_lt old (2 ^ 64 - 1) ≡ b → old < new
    by true less = let one : new ≡ old + 1 = is ∙ ap (λ b. cond b (old + 1) old) less in omega (arith, one)
    by false more =
        let same : new ≡ old = is ∙ ap (λ b. cond b (old + 1) old) more in
        absurd (true≢false (sym clean ∙ ap (λ n. nat_lt n (2 ^ 64 - 1)) same ∙ more))

count_up-no_less : (old new : ℕ) → new ≡ count_up old → old ≤ new
count_up-no_less old new is = by (nat_lt old (2 ^ 64 - 1)) refl
  where
    by : (b : Bool) → nat_lt old (2 ^ 64 - 1) ≡ b → old ≤ new
    by true less = let one : new ≡ old + 1 = is ∙ ap (λ b. cond b (old + 1) old) less in omega (arith, one)
    by false more = let same : new ≡ old = is ∙ ap (λ b. cond b (old + 1) old) more in omega (arith, same)

more_faults : (fault : Fault) (old new : ℕ) → new ≡ faults_after fault old → IsTrue (nat_lt new (2 ^ 64 - 1))
    → (fault ≡ Refused → ⊥)
    → old < new
more_faults Failed old new is clean not = count_up-more old new is clean
more_faults OutOfMemory old new is clean not = count_up-more old new is clean
more_faults Refused old new is clean not = absurd (not refl)

-- failures don't get fewer
pub no_less : {T : Type 0} (outcome : Result T Fault) (old new : ℕ) → OnOk outcome (new ≡ old)
    → IfErr outcome (λ fault. new ≡ faults_after fault old) → old ≤ new
no_less (Ok done) old new same counted = omega (arith, same)
no_less (Err Failed) old new same counted = count_up-no_less old new counted
no_less (Err OutOfMemory) old new same counted = count_up-no_less old new counted
no_less (Err Refused) old new same counted = omega (arith, counted)

-- a refusal that comes only where P doesn't hold
pub refused_if : {T : Type 0} (P : Type 0) (outcome : Result T Fault) → IfErr outcome (λ fault. fault ≡ Refused → ¬ P)
    → outcome ≡ Err Refused → P → ⊥
refused_if P (Ok done) not is = absurd (cc is)
refused_if P (Err fault) not is = let same : fault ≡ Refused = cc is in not same

-- a refusal that comes only where P and Q don't both hold
pub refused_if-both : {T : Type 0} (P Q : Type 0) (outcome : Result T Fault)
    → IfErr outcome (λ fault. fault ≡ Refused → P → ¬ Q) → outcome ≡ Err Refused → P → Q → ⊥
refused_if-both P Q (Ok done) not is = absurd (cc is)
refused_if-both P Q (Err fault) not is = let same : fault ≡ Refused = cc is in not same

pub ok_then : {T : Type 0} (P Q : Type 0) (outcome result : Result T Fault) → result ≡ outcome → OnOk outcome Q
    → OnOk result (P → Q)
ok_then {T = T} P Q outcome result same holds = subst (λ r. OnOk r (P → Q)) (sym same) (by outcome holds)
  where
    by : (outcome : Result T Fault) → OnOk outcome Q → OnOk outcome (P → Q)
    by (Ok done) holds = λ p. holds
    by (Err fault) holds = tt

-- what follows from it holds too
pub ok_to : {T : Type 0} (P Q R : Type 0) (outcome result : Result T Fault) → result ≡ outcome → (Q → R) → OnOk outcome Q
    → OnOk result (P → R)
ok_to {T = T} P Q R outcome result same to holds = ok_then P R outcome result same (by outcome holds)
  where
    by : (outcome : Result T Fault) → OnOk outcome Q → OnOk outcome R
    by (Ok done) holds = to holds
    by (Err fault) holds = tt

-- a crash leaves what was there before a call, or what is there
abbrev pub IsLast : MemoryDisk → MemoryDisk → Type 0
IsLast old new = (disk : Disk) → HadSince new new.durable disk → (disk ≡ disk_of old.now) ⊎ (disk ≡ disk_of new.now)

-- so it is after a call that waited for the disk
only_last : (old new : MemoryDisk) → GoesOn old.now old.past.items new.now new.past.items
    → new.durable ≡ length old.past.items → IsLast old new
only_last old new goes synced disk left =
    elim (HadSince-goes old new goes (length old.past.items) disk (subst (λ k. HadSince new k disk) synced left)) [
      | inl (inl was) ↦ inl was
      | inl (inr had) ↦ absurd (none_after old.past.items disk had)
      | inr is ↦ is
    ]

pub ok_synced : {T : Type 0} (P : Type 0) (old new : MemoryDisk) (outcome result : Result T Fault) → result ≡ outcome
    → GoesOn old.now old.past.items new.now new.past.items → OnOk outcome (new.durable ≡ length old.past.items)
    → OnOk result (P → IsLast old new)
ok_synced {T = T} P old new outcome result same goes synced = ok_then P (IsLast old new) outcome result same (by outcome synced)
  where
    by : (outcome : Result T Fault) → OnOk outcome (new.durable ≡ length old.past.items) → OnOk outcome (IsLast old new)
    by (Ok done) synced = only_last old new goes synced
    by (Err fault) synced = tt

-- a call that fails is counted, unless it was refused
pub has_cause : {T : Type 0} (P : Type 0) (outcome : Result T Fault) (old new : ℕ)
    → IfErr outcome (λ fault. new ≡ faults_after fault old) → (outcome ≡ Err Refused → P → ⊥)
    → OnErr outcome (IsTrue (nat_lt new (2 ^ 64 - 1)) → P → old < new)
has_cause P (Ok done) old new counted not = tt
has_cause P (Err fault) old new counted not = λ clean can. more_faults fault old new counted clean (λ is. not (ap Err is) can)

-- ---- what an action leaves

may_do : (action : StageAction) (old new : Tree) → Does action old new → MayDo action old new
may_do action old new does = record {
  only = elim does.can [ inl ready ↦ inr ready | inr done ↦ inl (does.stays done) ];
  acts = λ ready. inr (does.acts ready);
  stays = does.stays;
}

may_stay : (action : StageAction) (old new : Tree) → new ≡ old → MayDo action old new
may_stay action old new same = record { only = inl same; acts = λ ready. inl same; stays = λ done. same }

pub HasActed-does : {T : Type 0} (P : Type 0) (asked : Bool) (action : StageAction) (old new : Tree) (result : Result T Fault)
    → HasActed asked action old new result → OnOk result (P → Does action old new)
HasActed-does P asked action old new (Ok done) acted = λ holds. acted.1
HasActed-does P asked action old new (Err fault) acted = tt

pub HasActed-asked : {T : Type 0} (P Q : Type 0) (asked : Bool) (action : StageAction) (old new : Tree) (result : Result T Fault)
    → (IsTrue asked → Q) → HasActed asked action old new result → OnOk result (P → Q)
HasActed-asked P Q asked action old new (Ok done) to acted = λ holds. to acted.0
HasActed-asked P Q asked action old new (Err fault) to acted = tt

pub HasActed-may_do : {T : Type 0} (asked : Bool) (action : StageAction) (old new : Tree) (result : Result T Fault)
    → HasActed asked action old new result → MayDo action old new
HasActed-may_do asked action old new (Ok done) acted = may_do action old new acted.1
HasActed-may_do asked action old new (Err Failed) acted = acted
HasActed-may_do asked action old new (Err OutOfMemory) acted = may_stay action old new acted
HasActed-may_do asked action old new (Err Refused) acted = may_stay action old new acted.0

pub HasActed-refused : {T : Type 0} (asked : Bool) (action : StageAction) (old new : Tree) (result : Result T Fault)
    → HasActed asked action old new result → result ≡ Err Refused → IsTrue asked → IsReady action old ⊎ IsDone action old → ⊥
HasActed-refused asked action old new (Ok done) acted is known can = cc
HasActed-refused asked action old new (Err Failed) acted is known can = cc
HasActed-refused asked action old new (Err OutOfMemory) acted is known can = cc
HasActed-refused asked action old new (Err Refused) acted is known can = elim can [
  | inl ready ↦ (acted.1 known).0 ready
  | inr done ↦ (acted.1 known).1 done
]

-- a call that fails is counted, unless it was refused, where two things hold
pub has_cause-both : {T : Type 0} (P Q : Type 0) (outcome : Result T Fault) (old new : ℕ)
    → IfErr outcome (λ fault. new ≡ faults_after fault old) → (outcome ≡ Err Refused → P → Q → ⊥)
    → OnErr outcome (IsTrue (nat_lt new (2 ^ 64 - 1)) → P → Q → old < new)
has_cause-both P Q (Ok done) old new counted not = tt
has_cause-both P Q (Err fault) old new counted not =
    λ clean one two. more_faults fault old new counted clean (λ is. not (ap Err is) one two)

-- ---- what a write leaves

pub HasWritten-written : {T : Type 0} (P : Type 0) (texts : List (List ℕ)) (number : ℕ) (text : TextFile) (old new : Tree)
    (result : Result T Fault) → HasWritten texts number text old new result
    → OnOk result (P → (bytes : List ℕ) → slice_get texts number ≡ Some bytes → Acts (Write (place_of text.path) bytes) old new)
HasWritten-written P texts number text old new (Ok done) (takes, bytes, at, is, acts) =
    λ holds other at_2.
    let same : bytes ≡ other = cc (sym at ∙ at_2) in
    subst (λ b. Acts (Write (place_of text.path) b) old new) same acts
HasWritten-written P texts number text old new (Err fault) written = tt

pub HasWritten-may : {T : Type 0} (texts : List (List ℕ)) (number : ℕ) (text : TextFile) (old new : Tree) (result : Result T Fault)
    → HasWritten texts number text old new result → MayWrite (place_of text.path) text.digest old new
HasWritten-may texts number text old new (Ok done) (takes, bytes, at, is, acts) = inr (takes, bytes, inr is, acts)
HasWritten-may texts number text old new (Err Failed) written = written
HasWritten-may texts number text old new (Err OutOfMemory) written = written
HasWritten-may texts number text old new (Err Refused) written = inl written.0

pub HasWritten-can : {T : Type 0} (P : Type 0) (texts : List (List ℕ)) (number : ℕ) (text : TextFile) (old new : Tree)
    (result : Result T Fault) → HasWritten texts number text old new result → OnOk result (P → CanWrite texts number text old)
HasWritten-can P texts number text old new (Ok done) (takes, bytes, at, is, acts) = λ holds. (takes, bytes, at, is)
HasWritten-can P texts number text old new (Err fault) written = tt

pub HasWritten-refused : {T : Type 0} (texts : List (List ℕ)) (number : ℕ) (text : TextFile) (old new : Tree) (result : Result T Fault)
    → HasWritten texts number text old new result → result ≡ Err Refused → CanWrite texts number text old → ⊥
HasWritten-refused texts number text old new (Ok done) written is can = cc
HasWritten-refused texts number text old new (Err Failed) written is can = cc
HasWritten-refused texts number text old new (Err OutOfMemory) written is can = cc
HasWritten-refused texts number text old new (Err Refused) written is can = written.1 can

-- the first bytes of a text are a part of it
pub part_of : (digest : TextDigest) (bytes : List ℕ) (k : ℕ) → IsText digest bytes → IsPart digest (take k bytes)
part_of digest bytes k is = elim (cases_lt k (length bytes)) [
  | inl less ↦ inl (let long = length-take-le k bytes (omega (arith, less)) in let all = is.0 in omega (arith, less, long, all))
  | inr past ↦ inr (subst (IsText digest) (sym (take_all k bytes past)) is)
]

-- what comes first when a text is written
pub write_first : (text : TextFile) (bytes : List ℕ) (k : ℕ) (now mid : Moment)
    → CanTake (disk_of now).tree (place_of text.path) → IsText text.digest bytes
    → (disk_of mid).tree ≡ with_node (place_of text.path) (Some (File (take k bytes))) (disk_of now).tree
    → MayWrite (place_of text.path) text.digest (disk_of now).tree (disk_of mid).tree
write_first text bytes k now mid takes is acts = inr (takes, take k bytes, part_of text.digest bytes k is, acts)

-- a write that changed nothing, and one that wrote a part first
pub writes-none : (text : TextFile) (now next : Moment) (past past_next : List Moment) → next ≡ now → past_next ≡ past
    → WritesOn text now past next past_next
writes-none text now next past past_next same same_2 =
    (now, past, inl (refl, refl), inl (same, same_2), refl, inl refl)

pub writes-on : (text : TextFile) (bytes : List ℕ) (k : ℕ) (now mid next : Moment) (past between past_next : List Moment)
    → CanTake (disk_of now).tree (place_of text.path) → IsText text.digest bytes → said mid.journal ≡ said now.journal
    → (disk_of mid).tree ≡ with_node (place_of text.path) (Some (File (take k bytes))) (disk_of now).tree
    → between ≡ past ++ now ∷ [] → GoesOn mid between next past_next → WritesOn text now past next past_next
writes-on text bytes k now mid next past between past_next takes is journal acts same goes =
    (mid, between, inr same, goes, journal, write_first text bytes k now mid takes is acts)

-- ---- texts that can't be written

-- past the last text there is none
pub no_text : (texts : List (Vec ℕ Global)) (number : ℕ) (text : TextFile) (tree : Tree) → length texts ≤ number
    → CanWrite (bytes_of texts) number text tree → ⊥
no_text texts number text tree past (takes, bytes, at, is) =
    let within = slice_get_within (bytes_of texts) number bytes at in
    let long = length-map texts (λ text. text.items) in
    absurd (omega (arith, past, within, long))

-- the bytes of this number
pub text_at : (texts : List (Vec ℕ Global)) (number : ℕ) (bytes : Vec ℕ Global) → number < length texts
    → bytes ≡ get_or texts number bytes → slice_get (bytes_of texts) number ≡ Some bytes.items
text_at texts number bytes within is =
    slice_get-map (λ text. text.items) texts number
    ∙ ap (option_map (λ text. text.items)) (slice_get_read texts (length texts) number bytes refl within is)

pub other_text : (texts : List (List ℕ)) (number : ℕ) (bytes : List ℕ) (text : TextFile) (tree : Tree)
    → slice_get texts number ≡ Some bytes → ¬ IsText text.digest bytes → CanWrite texts number text tree → ⊥
other_text texts number bytes text tree at not (takes, other, at_2, is) =
    let same : other ≡ bytes = cc (sym at_2 ∙ at) in
    not (subst (IsText text.digest) same is)

-- what a write returned
pub has_written : {T : Type 0} (texts : List (List ℕ)) (number : ℕ) (text : TextFile) (bytes : List ℕ) (old new : Tree)
    (result : Result T Fault) → CanTake old (place_of text.path) → slice_get texts number ≡ Some bytes → IsText text.digest bytes
    → OnOk result (Acts (Write (place_of text.path) bytes) old new) → MayWrite (place_of text.path) text.digest old new
    → IfErr result (λ fault. fault ≡ Refused → ⊥) → HasWritten texts number text old new result
has_written texts number text bytes old new (Ok done) takes at is acts may not = (takes, bytes, at, is, acts)
has_written texts number text bytes old new (Err Failed) takes at is acts may not = may
has_written texts number text bytes old new (Err OutOfMemory) takes at is acts may not = may
has_written texts number text bytes old new (Err Refused) takes at is acts may not = absurd (not refl)
