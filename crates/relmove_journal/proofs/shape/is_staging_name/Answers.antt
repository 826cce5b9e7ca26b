use Rattle.std.proofs.Common.{sym, ap, ◌∙◌, ◌&&◌}
use Rattle.relmove_journal.specs.Shape.{below_run_directory, is_number}
use Rattle.relmove_journal.proofs.ShapeLemmas.{run_directory-strip}
use Rattle.relmove_journal.proofs.shape.is_staging_name.Goals as goal

pub returns-in-Some : goal.returns-in-Some
returns-in-Some c =
    let (inside, rest) = rw c.in-Some.is at (run_directory-strip c.args.path.now _ c.strip_prefix.ensures.cases) in
    c.is_number.ensures ∙ ap is_number rest ∙ sym (ap (λ b. b && is_number (below_run_directory c.args.path.now)) inside)

pub returns-in-None : goal.returns-in-None
returns-in-None c =
    let other = rw c.in-None.is at (run_directory-strip c.args.path.now _ c.strip_prefix.ensures.cases) in
    sym (ap (λ b. b && is_number (below_run_directory c.args.path.now)) other)
