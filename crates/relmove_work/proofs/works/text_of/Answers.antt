-- The look-ups find the page and its text.
use Rattle.std.proofs.Common.{◌≡◌, Some, None, subst, sym, rules}
use Rattle.relmove_work.specs.Pages.{text_at}
use Rattle.relmove_work.proofs.MakingLemmas.{IsFound, text-found, text-not_found}
use Rattle.relmove_work.proofs.works.text_of.Goals as goal

pub returns : goal.returns
returns c = λ renames has.
    text-found renames c.args.olds.now c.args.pages.now c.args.path.now c.in_ok-page.page.now c.copied.result has
    (let e : text_at c.args.olds.now c.args.path.now ≡ Some c.in_ok-page.page.now = search rules in e)
    (let e : c.copied.result ≡ text_at c.args.pages.now c.in_ok-page.page.now.now = search rules in e)

pub returns-in_err-page : goal.returns-in_err-page
returns-in_err-page c = λ renames has.
    let at : text_at c.args.olds.now c.args.path.now ≡ None = search rules in
    let is : c.from_residual.result ≡ None = search rules in
    subst (λ o. IsFound renames c.args.pages.now c.args.path.now o) (sym is)
    (text-not_found renames c.args.olds.now c.args.pages.now c.args.path.now has at)
