-- Each turn adds the text of the next directory, unless a path leads there.
use Rattle.std.proofs.Common.{◌≡◌, Global, List, arith, map, string_bytes, take, sym, ap, subst, ◌∙◌}
use Rattle.std.proofs.lemmas.List.Elements.{All-more, All-nil}
use Rattle.std.proofs.lemmas.Map.Views.{All-insert_key}
use Rattle.std.specs.BTreeSet.{insert_key}
use Rattle.relative_path.proofs.ForCallers.{IsSame-refl}
use Rattle.relative_path_places.proofs.ForCallers.{IsNormalTextOf-view}
use Rattle.relative_path_places.specs.Views.{view_components, view_text}
use Rattle.relative_path.specs.Steps.{Step}
use Rattle.relative_path_places.specs.PlaceIndex.{Indexes}
use Rattle.relmove_steps.specs.Directories.{HasDirectory, IsMissingText}
use Rattle.relmove_steps.proofs.CarryLemmas.{All-taken}
use Rattle.relmove_steps.proofs.DirectoriesLemmas.{All-IsServed-more, Contains-insert_key_kept, IsMissingText-here, IsNoneAt-found, IsNoneAt-not, IsServed, IsServed-any, IsServed-insert, text_cmp, text_ties}
use Rattle.relmove_steps.proofs.directories.add_missing.Goals as goal
use Rattle.relmove_steps.proofs.directories.add_missing.Goals.{then-is_none+in_ok-from_str+in_ok-insert, else-is_none}

pub loop-directory-init : goal.loop-directory-init
loop-directory-init c = record {
  kept = λ text has. has;
  sound = λ moves paths k has l is before. before;
  complete = λ paths has. All-nil (IsServed paths (map (string_bytes {Z = Global}) c.args.missing.now.keys));
}

pub loop-directory-preserved : goal.loop-directory-preserved
loop-directory-preserved c =
    let items = c.deref-directory-items.result.now in
    let value = c.deref-directory-items.ensures.value in
    let k = c.loop-directory.directory-index in
    let within = c.loop-directory-test.true in
    let directory = c.directory-item.result in
    let here = c.directory-item.is in
    let keys = c.loop-directory.missing.keys in
    let before = map (string_bytes {Z = Global}) keys in
    let so_far = c.loop-directory.invariant in
    let above : HasDirectory (view_components c.args.path) (view_components directory) =
    subst (λ directory. HasDirectory (view_components c.args.path) (view_components directory)) (sym here)
    ((rw (sym value) at c.in_ok-directories.ensures.above) k directory within) in
    let is = IsNormalTextOf-view directory in
    let found = λ (paths : List (List Step)) (has : Indexes paths c.args.after.now).
    c.get_view.ensures.found paths (view_components directory) has (IsSame-refl (view_components directory)) in
    elim c.if-is_none.branch [
      | then-is_none+in_ok-from_str+in_ok-insert w ↦
          let key = w.in_ok-from_str.field-0 in
          let after = insert_key text_cmp keys key in
          let now = map (string_bytes {Z = Global}) after in
          let keys_are : c.if-is_none.missing.keys ≡ after = ap (λ set. set.keys) w.missing-is ∙ w.in_ok-insert.ensures.keys in
          let key_is : string_bytes key ≡ view_text directory =
          w.in_ok-from_str.ensures.ok ∙ w.as_str-text.ensures ∙ w.as_relative_path.ensures.text in
          let kept = Contains-insert_key_kept text_cmp string_bytes text_ties keys key in
          record {
            kept = λ text has. rw keys_are (kept text (so_far.kept text has));
            sound = λ moves paths j has l is_new are.
                rw keys_are
                (All-insert_key text_cmp key (λ text. IsMissingText moves paths (string_bytes text)) keys
                (so_far.sound moves paths j has l is_new are)
                (subst (IsMissingText moves paths) (sym key_is)
                (IsMissingText-here moves paths j (view_text c.args.path) (view_text directory) l is_new above is
                (IsNoneAt-found paths (view_components directory) c.get_view.result w.if-is_none.ensures (found paths has)))));
            complete = λ paths has.
                rw keys_are
                (All-more (IsServed paths now) items k directory within
                (All-IsServed-more paths before now (take k items) kept (so_far.complete paths has))
                (subst (IsServed paths now) here (IsServed-insert paths keys key directory key_is is)));
          }
      | else-is_none w ↦ record {
        kept = λ text has. rw w.missing-is (so_far.kept text has);
        sound = λ moves paths j has l is_new are. rw w.missing-is (so_far.sound moves paths j has l is_new are);
        complete = λ paths has.
            rw w.missing-is
            (All-more (IsServed paths before) items k directory within (so_far.complete paths has)
            (subst (IsServed paths before) here
            (λ none. absurd (IsNoneAt-not paths (view_components directory) c.get_view.result
            w.if-is_none.ensures (found paths has) none))));
      }
    ]

pub returns-clause-complete : goal.returns-clause-complete
returns-clause-complete c = λ paths directory has above none.
    let now = map (string_bytes {Z = Global}) c.loop-directory.missing.keys in
    let items = c.deref-directory-items.result.now in
    let last = c.loop-directory-test.false in
    IsServed-any paths now items directory
    (All-taken (IsServed paths now) items c.loop-directory.directory-index (omega (arith, last))
    (c.loop-directory.invariant.complete paths has))
    (rw (sym c.deref-directory-items.ensures.value) at (c.in_ok-directories.ensures.all directory above)) none
