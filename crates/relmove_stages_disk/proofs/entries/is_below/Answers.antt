use Rattle.std.proofs.Common.{sym, true≢false, ◌∙◌}
use Rattle.relative_path.specs.RelativePath.{path_text}
use Rattle.relmove_stages_disk.proofs.PathsLemmas.{is_below, not_below-apart, not_below-same}
use Rattle.relmove_stages_disk.proofs.entries.is_below.Goals as goal

pub returns-then-eq-clause-none : goal.returns-then-eq-clause-none
returns-then-eq-clause-none c =
    λ is. not_below-same (path_text c.args.path) (path_text c.args.top) (c.eq.ensures.same.0 c.if-eq.true)

pub returns-clause-below : goal.returns-clause-below
returns-clause-below c =
    λ starts.
    is_below (path_text c.args.path) (path_text c.args.top) (c.starts_with.ensures.0 starts)
    (λ same. true≢false (sym (c.eq.ensures.same.1 same) ∙ c.if-eq.false))

pub returns-clause-none : goal.returns-clause-none
returns-clause-none c =
    λ none.
    not_below-apart (path_text c.args.path) (path_text c.args.top)
    (λ starts. true≢false (sym (c.starts_with.ensures.1 starts) ∙ none))
