-- Each turn adds where the next directory is after the moves.
use Rattle.std.proofs.Common.{◌∙◌, Global, arith, take, subst, sym, map, string_bytes}
use Rattle.std.specs.BTreeSet.{insert_key}
use Rattle.std.proofs.lemmas.List.Elements.{All-more, All-nil, All-weaker}
use Rattle.std.proofs.lemmas.Map.Views.{All-insert_key}
use Rattle.relative_path.specs.Normalizing.{IsNormalTextOf}
use Rattle.relative_path.specs.RelativePath.{path_components}
use Rattle.relative_path_moves.specs.TreeMoves.{AtTreePath}
use Rattle.relative_path_places.proofs.ForCallers.{IsNormalTextOf-view}
use Rattle.relative_path.specs.Steps.{components}
use Rattle.relative_path_places.specs.Views.{view_components}
use Rattle.relmove_steps.specs.Directories.{AreLeftBehindByMoves, HasDirectory, IsLeftBehindByMove}
use Rattle.relmove_steps.proofs.CarryLemmas.{All-taken}
use Rattle.relmove_steps.proofs.DirectoriesLemmas.{Contains-insert_key, Contains-insert_key_kept, HasDirectory-normal, HasLeftBehind-any, HasLeftBehind-more, IsLeftAt, IsLeftBehindByMove-here, text_cmp, text_ties}
use Rattle.relmove_steps.proofs.directories.add_left.Goals as goal

pub loop-directory-init : goal.loop-directory-init
loop-directory-init c = record {
  left = λ moves k l here before. before;
  kept = λ text has. has;
  all = All-nil (IsLeftAt c.args.table.now (map (string_bytes {Z = Global}) c.args.left.now.keys));
}

pub loop-directory-preserved : goal.loop-directory-preserved
loop-directory-preserved c =
    let tree = c.args.table.now in
    let normal = c.normal-path.result.now in
    let above = rw (c.view.ensures.text) at c.in_ok-directories.ensures.above in
    let has = rw (sym c.deref-directory-items.ensures.value) at above in
    let directory = c.directory-item.result in
    let k = c.loop-directory.directory-index in
    let within = c.loop-directory-test.true in
    let key = c.into_string.result in
    let text = string_bytes key in
    let keys = c.loop-directory.left.keys in
    let before = map (string_bytes {Z = Global}) keys in
    let now = map (string_bytes {Z = Global}) (insert_key text_cmp keys key) in
    let kept = Contains-insert_key_kept text_cmp string_bytes text_ties keys key in
    let same = c.into_string.ensures.text ∙ c.into_relative_path_buf.ensures.text in
    let at = c.in_ok-now.ensures (view_components directory) (IsNormalTextOf-view directory) in
    record {
      left = λ moves k_2 l here first.
          let is : IsLeftBehindByMove tree moves text =
          IsLeftBehindByMove-here tree moves k_2 (path_components c.args.path.now) _ normal c.in_ok-now.now text l here
          c.normal-path.ensures
          (subst (λ directory. HasDirectory (components normal) (view_components directory)) (sym c.directory-item.is)
          (has k directory within)) at same in
          subst (AreLeftBehindByMoves tree moves) (sym c.in_ok-insert.ensures.keys)
          (All-insert_key _ key (λ text. IsLeftBehindByMove tree moves (string_bytes text)) keys
          (c.loop-directory.invariant.left moves k_2 l here first) is);
      kept = λ text has. rw c.in_ok-insert.ensures.keys (kept text (c.loop-directory.invariant.kept text has));
      all = rw c.in_ok-insert.ensures.keys
          (All-more (IsLeftAt tree now) c.deref-directory-items.result.now k directory within
          (All-weaker (IsLeftAt tree before) (IsLeftAt tree now) (λ one. HasLeftBehind-more tree before now (view_components one) kept)
          (take k c.deref-directory-items.result.now) c.loop-directory.invariant.all)
          (subst (IsLeftAt tree now) c.directory-item.is (record {
            text = text;
            now = subst (λ text. AtTreePath tree (view_components directory) (λ target. IsNormalTextOf target text)) (sym same) at;
            has = Contains-insert_key text_cmp string_bytes text_ties keys key;
          })));
    }

pub returns-clause-left : goal.returns-clause-left
returns-clause-left c = c.loop-directory.invariant.left

pub returns-clause-kept : goal.returns-clause-kept
returns-clause-kept c = c.loop-directory.invariant.kept

pub returns-clause-all : goal.returns-clause-all
returns-clause-all c = λ directory above.
    let tree = c.args.table.now in
    let texts = map (string_bytes {Z = Global}) c.loop-directory.left.keys in
    let items = c.deref-directory-items.result.now in
    let last = c.loop-directory-test.false in
    HasLeftBehind-any tree texts items directory
    (All-taken (IsLeftAt tree texts) items c.loop-directory.directory-index (omega (arith, last))
    c.loop-directory.invariant.all)
    (rw (sym c.deref-directory-items.ensures.value) at (c.in_ok-directories.ensures.all directory
    (rw c.view.ensures.text
    (HasDirectory-normal (path_components c.args.path.now) directory c.normal-path.result.now c.normal-path.ensures above))))
