use Rattle.std.proofs.Common.{sym, ap, ◌∙◌, ◌&&◌}
use Rattle.relmove_journal.specs.Shape.{below_run_directory, leads_from_number, names}
use Rattle.relmove_journal.proofs.ShapeLemmas.{run_directory-strip}
use Rattle.relmove_journal.proofs.shape.is_made_below.Goals as goal

pub returns-in-Some : goal.returns-in-Some
returns-in-Some c =
    let (inside, rest) = rw c.in-Some.is at (run_directory-strip c.args.path.now _ c.strip_prefix.ensures.cases) in
    c.leads_from_number.ensures ∙ ap (λ path. leads_from_number (names path)) rest
    ∙ sym (ap (λ b. b && leads_from_number (names (below_run_directory c.args.path.now))) inside)

pub returns-in-None : goal.returns-in-None
returns-in-None c =
    let other = rw c.in-None.is at (run_directory-strip c.args.path.now _ c.strip_prefix.ensures.cases) in
    sym (ap (λ b. b && leads_from_number (names (below_run_directory c.args.path.now))) other)
