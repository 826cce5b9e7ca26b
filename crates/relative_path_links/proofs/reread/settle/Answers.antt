-- New targets are given up only where the finder found something else.
use Rattle.std.proofs.Common.{◌∙◌, inl, refl, sym, subst, arith}
use Rattle.std.proofs.lemmas.List.Elements.{length_all_zip}
use Rattle.std.specs.List.{AllZip}
use Rattle.relative_path_links.specs.Targets.{HasTargets}
use Rattle.relative_path_links.specs.Edits.{IsSettled}
use Rattle.relative_path_links.proofs.EditsLemmas.{AllZip-settled_refl, AllZip-settled_trans, HadCause-next, HasCause-had, HasCause-tried, targets_of-settled, with_edits-kept, written_back}
use Rattle.relative_path_links.proofs.reread.settle.Goals as goal

pub loop-init : goal.loop-init
loop-init g c = record { settled = AllZip-settled_refl c.args.edits.items; cause = inl (refl, refl) }

pub returns-then-not-have_new-clause-text : goal.returns-then-not-have_new-clause-text
returns-then-not-have_new-clause-text g c =
    with_edits-kept c.args.page.now c.loop.settled.items
    (subst (HasTargets c.args.page.now 0)
    (sym (targets_of-settled c.args.edits.items c.loop.settled.items c.loop.invariant.settled)) c.requires)
    (rw c.deref.ensures.value at (sym c.have_new.ensures ∙ c.if-not-have_new.true))

pub edited-requires : goal.edited-requires
edited-requires g c = record {
  targets =
      rw c.deref-in-loop.ensures.value
      (subst (HasTargets c.args.page.now 0)
      (sym (targets_of-settled c.args.edits.items c.loop.settled.items c.loop.invariant.settled)) c.requires);
}

pub first_difference-requires : goal.first_difference-requires
first_difference-requires g c =
    rw c.deref-in-loop-3.ensures.value
    (subst (HasTargets c.args.page.now 0)
    (sym (targets_of-settled c.args.edits.items c.loop.settled.items c.loop.invariant.settled)) c.requires)

pub loop-preserved : goal.loop-preserved
loop-preserved g c =
    let edits = c.args.edits.items in
    let settled = c.loop.settled.items in
    let next = c.give_up.new.edits in
    let are : AllZip IsSettled settled next = rw c.deref_mut.ensures.value at c.give_up.ensures.settled in
    let is = written_back settled next c.loop.settled.len
    (sym (rw c.deref_mut.ensures.value at c.deref_mut.ensures.len)) (length_all_zip IsSettled settled next are) in
    record {
      settled = rw is (AllZip-settled_trans edits settled next c.loop.invariant.settled are);
      cause =
          rw is
          (HadCause-next (g.F.Finder.finds c.args.finder.now) c.args.page.now edits settled next c.loop.counter _ _
          c.in_ok-found.found.items c.loop.invariant.cause c.in_ok-found.ensures.found
          (c.deref-in-loop-2.ensures ∙ (rw c.deref-in-loop.ensures.value at c.in_ok-text.ensures.text))
          (rw (c.deref-in-loop-3.ensures.value, c.deref-in-loop-4.ensures.value) at c.in-Some.ensures.some));
    }

pub returns-then-not-have_new-clause-cause : goal.returns-then-not-have_new-clause-cause
returns-then-not-have_new-clause-cause g c =
    HasCause-had (g.F.Finder.finds c.args.finder.now) c.args.page.now c.args.edits.items c.loop.settled.items c.loop.counter
    c.loop.invariant.cause

pub returns-then-eq-clause-cause : goal.returns-then-eq-clause-cause
returns-then-eq-clause-cause g c =
    HasCause-had (g.F.Finder.finds c.args.finder.now) c.args.page.now c.args.edits.items c.loop.settled.items c.loop.counter
    c.loop.invariant.cause

pub returns-in_default-clause-cause : goal.returns-in_default-clause-cause
returns-in_default-clause-cause g c =
    HasCause-had (g.F.Finder.finds c.args.finder.now) c.args.page.now c.args.edits.items c.loop.settled.items c.loop.counter
    c.loop.invariant.cause

pub returns-clause-edits : goal.returns-clause-edits
returns-clause-edits g c =
    let settled = c.loop.settled.items in
    let last = c.give_up-2.new.edits in
    let are : AllZip IsSettled settled last = rw c.deref_mut-2.ensures.value at c.give_up-2.ensures.settled in
    rw (written_back settled last c.loop.settled.len
    (sym (rw c.deref_mut-2.ensures.value at c.deref_mut-2.ensures.len)) (length_all_zip IsSettled settled last are))
    (AllZip-settled_trans c.args.edits.items settled last c.loop.invariant.settled are)

pub returns-clause-cause : goal.returns-clause-cause
returns-clause-cause g c =
    HasCause-tried (g.F.Finder.finds c.args.finder.now) c.args.page.now c.args.edits.items c.loop.settled.items _
    c.loop.counter (omega (arith, c.loop-test.false)) c.loop.invariant.cause

pub returns-clause-text : goal.returns-clause-text
returns-clause-text g c =
    let edits = c.args.edits.items in
    let settled = c.loop.settled.items in
    let last = c.give_up-2.new.edits in
    let are : AllZip IsSettled settled last = rw c.deref_mut-2.ensures.value at c.give_up-2.ensures.settled in
    let targets = targets_of-settled edits last (AllZip-settled_trans edits settled last c.loop.invariant.settled are) in
    rw (written_back settled last c.loop.settled.len
    (sym (rw c.deref_mut-2.ensures.value at c.deref_mut-2.ensures.len)) (length_all_zip IsSettled settled last are))
    (with_edits-kept c.args.page.now last (subst (HasTargets c.args.page.now 0) (sym targets) c.requires)
    (c.give_up-2.ensures.all refl))
