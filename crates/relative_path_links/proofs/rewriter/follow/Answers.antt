-- What becomes of the path is what the table says.
use Rattle.std.proofs.Common.{Err, ap, refl}
use Rattle.relative_path_links.specs.SiteRoot.{moving_from}
use Rattle.relative_path_links.proofs.RewriterLemmas.{ChangesPath-at}
use Rattle.relative_path_links.proofs.rewriter.follow.Goals as goal

pub returns-in-Ok-None-clause-change : goal.returns-in-Ok-None-clause-change
returns-in-Ok-None-clause-change c = λ _.
    (rw (c.new-path_on.ensures, c.in-Ok-None.is, c.in-Ok-None.field-0-is) at c.in_ok-file.ensures.stays) refl

pub returns-in_ok-change-in-Ok-Some-clause-change : goal.returns-in_ok-change-in-Ok-Some-clause-change
returns-in_ok-change-in-Ok-Some-clause-change c = λ is_tail.
    ChangesPath-at (moving_from c.args.moves.now c.args.start) c.args.syntax c.args.path.now c.args.tail.now is_tail
    c.in-Ok-Some.way.text
    (rw (c.new-path_on.ensures, c.in-Ok-Some.is, c.in-Ok-Some.field-0-is) at c.in_ok-file.ensures.shortest) c.requires
    c.in_ok-change-in-Ok-Some.change c.in_ok-change-in-Ok-Some.ensures.change

pub returns-in-Err-NoPath-clause-change : goal.returns-in-Err-NoPath-clause-change
returns-in-Err-NoPath-clause-change c = λ _.
    let none = rw c.in-Err-NoPath.is at c.in-Err-NoPath.field-0-is in
    (rw (c.new-path_on.ensures, c.in-Err-NoPath.is) at c.in_ok-file.ensures.no_path) (ap Err none)
