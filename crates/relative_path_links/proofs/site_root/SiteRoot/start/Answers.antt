-- A target leads from the site's root only if that is known, and the target begins with one slash.
use Rattle.std.proofs.Common.{◌≡◌, ◌∙◌, sym, ap, None, if◌then◌else◌}
use Rattle.relative_path_links.specs.SiteRoot.{moving_by, page_moving, root_for, root_steps}
use Rattle.relative_path_links.proofs.SiteRootLemmas.{root_for-unknown}
use Rattle.relative_path_links.proofs.site_root.SiteRoot.start.Goals as goal

pub returns-in-None : goal.returns-in-None
returns-in-None c = λ moves.
    let unknown : c.args.self.now ≡ None = sym c.self.view_is ∙ ap root_steps c.in-None.is in
    let none : root_for c.args.self.now c.args.target.now ≡ None =
    ap (λ root. root_for root c.args.target.now) unknown ∙ root_for-unknown c.args.target.now in
    c.from_page.ensures moves ∙ sym (ap (moving_by (page_moving c.args.self.now moves c.args.page.now)) none)

pub returns-else-begins_rooted : goal.returns-else-begins_rooted
returns-else-begins_rooted c = λ moves.
    let none : root_for c.args.self.now c.args.target.now ≡ None =
    ap (λ t. if t then c.args.self.now else None) (sym c.begins_rooted.ensures ∙ c.if-begins_rooted.false) in
    c.from_page-else-begins_rooted.ensures moves
    ∙ sym (ap (moving_by (page_moving c.args.self.now moves c.args.page.now)) none)
