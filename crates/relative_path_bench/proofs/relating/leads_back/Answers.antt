use Rattle.std.proofs.Common.{ℕ, List, ◌++◌, subst}
use Rattle.relative_path.specs.RelativePath.{path_components}
use Rattle.relative_path.specs.Steps.{components}
use Rattle.relative_path.specs.Normalizing.{IsNormalTextOf}
use Rattle.relative_path_bench.proofs.RelatingLemmas.{same_texts, IsNormalTextOf-empty}
use Rattle.relative_path_bench.proofs.relating.leads_back.Goals as goal

pub returns-clause-stays : goal.returns-clause-stays
returns-clause-stays c = λ none.
    let from = path_components c.args.from in
    let P = λ (x : List ℕ). IsNormalTextOf (from ++ components x) c.in_ok-back.back.text in
    let there = subst P c.as_relative_path.ensures c.in_ok-back.ensures.normal_form in
    IsNormalTextOf-empty from _ _ (c.in_ok-way.ensures.way.unreachable none) there

pub returns-clause-same : goal.returns-clause-same
returns-clause-same c =
    let from = path_components c.args.from in
    let way = c.in_ok-way.way.text in
    let P = λ (x : List ℕ). IsNormalTextOf (from ++ components x) c.in_ok-back.back.text in
    let there = subst P c.as_relative_path.ensures c.in_ok-back.ensures.normal_form in
    let to = path_components c.args.to in
    let texts = same_texts (from ++ components way) to _ _ there c.in_ok-normalize.ensures.normal_form in (
      λ same. (components way, texts.0 same),
      λ reachable. texts.1 (c.in_ok-way.ensures.way.shortest reachable).shortest.leads,
    )
