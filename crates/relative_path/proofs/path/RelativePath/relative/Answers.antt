use Rattle.std.proofs.Common.{refl}
use Rattle.relative_path.specs.RelativePath.{path_components}
use Rattle.relative_path.proofs.RelatingLemmas.{IsReachable-climb, IsReachable-same, Leads-through}
use Rattle.relative_path.proofs.WalkLemmas.{IsSame-refl}
use Rattle.relative_path.proofs.path.RelativePath.relative.Goals as goal

pub returns-in_err-way-clause-climbs : goal.returns-in_err-way-clause-climbs
returns-in_err-way-clause-climbs c = IsReachable-climb (path_components c.args.self) (path_components c.args.to)

pub returns-in_err-way-clause-through : goal.returns-in_err-way-clause-through
returns-in_err-way-clause-through c = λ middle r s. Leads-through _ r middle s _

pub returns-in-Some-clause-climbs : goal.returns-in-Some-clause-climbs
returns-in-Some-clause-climbs c = IsReachable-climb (path_components c.args.self) (path_components c.args.to)

pub returns-in-Some-clause-through : goal.returns-in-Some-clause-through
returns-in-Some-clause-through c = λ middle r s. Leads-through _ r middle s _

pub returns-in-None-clause-climbs : goal.returns-in-None-clause-climbs
returns-in-None-clause-climbs c = IsReachable-climb (path_components c.args.self) (path_components c.args.to)

pub returns-in-None-clause-through : goal.returns-in-None-clause-through
returns-in-None-clause-through c = λ middle r s. Leads-through _ r middle s _

pub returns-in-None-clause-shortest_from : goal.returns-in-None-clause-shortest_from
returns-in-None-clause-shortest_from c = λ from normal reachable.
    let self = path_components c.args.self in
    let to = path_components c.args.to in
    let there = IsReachable-same from self to to normal.same (IsSame-refl to) reachable in
    absurd ((rw c.in-None.is at c.in_ok-way.ensures.none).0 refl there)

pub returns-in-None-clause-shortest_to : goal.returns-in-None-clause-shortest_to
returns-in-None-clause-shortest_to c = λ target normal reachable.
    let self = path_components c.args.self in
    let to = path_components c.args.to in
    let there = IsReachable-same self self target to (IsSame-refl self) normal.same reachable in
    absurd ((rw c.in-None.is at c.in_ok-way.ensures.none).0 refl there)

pub returns-in-None-clause-way : goal.returns-in-None-clause-way
returns-in-None-clause-way c = record {
  shortest = λ there. absurd ((rw c.in-None.is at c.in_ok-way.ensures.none).0 refl there);
  unreachable = λ _. c.new.ensures;
}

pub returns-in-Some-clause-way : goal.returns-in-Some-clause-way
returns-in-Some-clause-way c =
    let way = rw c.in-Some.is at c.in_ok-way.ensures.shortest in record {
      shortest = λ _. way;
      unreachable = λ none. absurd (none (_, way.shortest.leads));
    }
