use Rattle.relative_path.proofs.RelatingLemmas.{MatchApart-same, MatchApart-none, MatchApart-some}
use Rattle.relative_path.proofs.path.RelativePath.leads_apart.Goals as goal

pub returns-clause-none : goal.returns-clause-none
returns-clause-none c =
    let first = c.in_ok-form.ensures.normal_form.same in
    let second = c.in_ok-other.ensures.normal_form.same in
    MatchApart-none _ _ _ (MatchApart-same _ _ _ _ _ first second c.shortest_separating_base.ensures)

pub returns-clause-some : goal.returns-clause-some
returns-clause-some c =
    let first = c.in_ok-form.ensures.normal_form.same in
    let second = c.in_ok-other.ensures.normal_form.same in
    MatchApart-some _ _ _ (MatchApart-same _ _ _ _ _ first second c.shortest_separating_base.ensures)
