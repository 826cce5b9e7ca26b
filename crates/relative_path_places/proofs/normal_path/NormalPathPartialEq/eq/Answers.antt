-- Normal texts are equal exactly if they lead to the same.
use Rattle.std.proofs.Common.{◌≡◌, ◌↔◌, IsTrue, rules}
use Rattle.relative_path_places.proofs.NormalPathLemmas.{normal_text_same}
use Rattle.relative_path_places.proofs.normal_path.NormalPathPartialEq.eq.Goals as goal

pub returns-clause-leads : goal.returns-clause-leads
returns-clause-leads c =
    let equal : IsTrue c.eq.result ↔ (c.args.self.now ≡ c.args.other.now) = search rules in
    let same =
    normal_text_same c.args.self.now c.args.other.now c.as_relative_path.ensures.normal c.as_relative_path-2.ensures.normal in
    (λ yes. same.0 (equal.0 yes), λ leads. equal.1 (same.1 leads))
