-- A page lacks a file name if `file_name` is `None`.
use Rattle.relative_path_links.proofs.SiteMapLemmas.{named-next, IsFirstNamelessPage-here}
use Rattle.relative_path_links.proofs.site_map.first_nameless.Goals as goal

pub loop-k-preserved : goal.loop-k-preserved
loop-k-preserved c =
    named-next c.args.pages.now _ c.loop-k.k _ _ c.loop-k-test.true c.loop-k.invariant c.file_name.ensures.text
    c.is_none.ensures c.if-is_none.false

pub returns-then-is_none : goal.returns-then-is_none
returns-then-is_none c =
    IsFirstNamelessPage-here c.args.pages.now _ c.loop-k.k _ _ c.loop-k-test.true c.loop-k.invariant
    c.file_name.ensures.text c.is_none.ensures c.if-is_none.true
