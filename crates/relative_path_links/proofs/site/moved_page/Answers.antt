-- The page is rewritten between its normal directories.
use Rattle.std.proofs.Common.{◌≡◌, ◌∙◌, sym, subst}
use Rattle.relative_path.specs.Steps.{components}
use Rattle.relative_path_links.specs.Edits.{targets_of}
use Rattle.relative_path_links.specs.Targets.{HasTargets}
use Rattle.relative_path_links.proofs.EditsLemmas.{targets_of-settled}
use Rattle.relative_path_links.proofs.SiteLemmas.{ForMovedPage-rewritten}
use Rattle.relative_path_links.proofs.site.moved_page.Goals as goal

pub settle-requires : goal.settle-requires
settle-requires g c =
    subst (HasTargets c.args.page.text.now 0)
    (sym (rw c.deref.ensures.value at c.in_ok-edits.ensures.targets)) c.in_ok-targets.ensures.in_order

pub returns : goal.returns
returns g c =
    let finds = g.F.Finder.finds c.args.finder.now in
    let page = c.args.page.text.now in
    let written = c.in_ok-edits.edits.items in
    let edits = c.in_ok-settled.settled.edits.items in
    let targets : targets_of edits ≡ c.in_ok-targets.targets.items =
    targets_of-settled written edits c.in_ok-settled.ensures.edits
    ∙ (rw c.deref.ensures.value at c.in_ok-edits.ensures.targets) in
    ForMovedPage-rewritten finds c.args.root.now c.args.moves.now c.args.links.now (components c.args.page.path.now)
    c.in_ok-moved.moved page edits c.in_ok-settled.settled.text c.in_ok-moved.ensures.before c.in_ok-moved.ensures.after
    (record {
      found = subst (finds page) (sym targets) c.in_ok-targets.ensures.found;
      in_order = subst (HasTargets page 0) (sym targets) c.in_ok-targets.ensures.in_order;
      written = written;
      become = c.in_ok-edits.ensures.changes;
      new = c.in_ok-edits.ensures.new;
      settled = c.in_ok-settled.ensures.edits;
      cause = c.in_ok-settled.ensures.cause;
      text_is = c.in_ok-settled.ensures.text;
    })
