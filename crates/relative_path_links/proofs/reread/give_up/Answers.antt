-- Each turn settles the next edit.
use Rattle.std.proofs.Common.{◌+◌, [], ◌∷◌, ap, ap₂, ◌∙◌, arith, false, ◌||◌, refl, take}
use Rattle.std.proofs.lemmas.Grind.{take-set_at}
use Rattle.std.proofs.lemmas.List.Folds.{list_any-append}
use Rattle.std.specs.List.{list_any}
use Rattle.relative_path_links.specs.declared.edit.Edit.{Edit}
use Rattle.relative_path_links.specs.Edits.{is_new}
use Rattle.relative_path_links.proofs.EditsLemmas.{AllZip-settled_refl, AllZip-settled_set, AllZip-settled_trans}
use Rattle.relative_path_links.proofs.reread.give_up.Goals as goal

pub loop-k-init : goal.loop-k-init
loop-k-init c = record { settled = AllZip-settled_refl c.args.edits.now; all = λ _. refl }

pub loop-k-preserved : goal.loop-k-preserved
loop-k-preserved c =
    let edits = c.loop-k.edits in
    let k = c.loop-k.k in
    let edit = c.give_up.new.self in
    let is_new_edit = λ (edit : Edit). is_new edit.change in
    record {
      settled =
          AllZip-settled_trans c.args.edits.now edits _ c.loop-k.invariant.settled
          (AllZip-settled_set edits k c.index-edits-k.result edit c.give_up.ensures.settled);
      all = λ none.
          ap (list_any is_new_edit)
          (take-set_at edits k (k + 1) edit (omega arith) (omega (arith, c.loop-k-test.true, c.loop-k.auto.edits)))
          ∙ list_any-append is_new_edit (take k edits) (edit ∷ [])
          ∙ ap₂ ◌||◌ (c.loop-k.invariant.all none)
          (ap (λ b. b || false) (c.give_up.ensures.given_up (c.is_one.ensures none)));
    }
