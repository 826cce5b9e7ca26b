-- The next path is a new one.
use Rattle.std.proofs.Common.{map, refl}
use Rattle.std.proofs.lemmas.List.{length-map}
use Rattle.relative_path.specs.Steps.{components}
use Rattle.relative_path_places.specs.PlaceIndex.{IsFirstAt, path_at}
use Rattle.relmove_checks.proofs.TreesLemmas.{Indexes-paths, IsFirstAt-paths, IsFirstAt-self, length-take_paths}
use Rattle.relmove_checks.proofs.after.index_after.Goals as goal
use borrow.Author.Count.{below_more}

pub loop-number-preserved : goal.loop-number-preserved
loop-number-preserved c =
    let texts = c.args.paths.now in
    let k = c.loop-number.number in
    let text = c.index-paths-number.result in
    let within = c.loop-number-test.true in
    let count =
    length-take_paths c.args.paths.now c.loop-number.number c.index-paths-number.result c.loop-number-test.true
    c.index-paths-number.is in
    let normal = c.in_ok-copy.ensures.normal in
    let indexes = c.in_ok-first.ensures.indexes _ (components text) c.loop-number.invariant.indexes count normal in
    let first = c.in_ok-first.ensures.first _ (components text) c.loop-number.invariant.indexes count normal in
    record {
      indexes = Indexes-paths texts k text within c.index-paths-number.is c.insert_normal.new.self
          indexes;
      distinct = below_more (λ f. IsFirstAt (map components texts) (path_at (map components texts) f) f) k
          c.loop-number.invariant.distinct
          (IsFirstAt-self (map components texts) k c.in_ok-first.first
          (IsFirstAt-paths texts k text within c.index-paths-number.is c.in_ok-first.first
          first) c.if-first-number.false);
    }

pub returns-then-first-number-clause-refused : goal.returns-then-first-number-clause-refused
returns-then-first-number-clause-refused c =
    let texts = c.args.paths.now in
    let k = c.loop-number.number in
    let text = c.index-paths-number.result in
    let within = c.loop-number-test.true in
    let count = length-take_paths texts k text within c.index-paths-number.is in
    let normal = c.in_ok-copy.ensures.normal in
    let first = c.in_ok-first.ensures.first _ (components text) c.loop-number.invariant.indexes count normal in
    rw c.in_ok-refusal.ensures
    (record {
      first = c.index-entries-first.result;
      second = c.index-entries-number.result;
      d = c.in_ok-first.first;
      e = k;
      same = record {
        earlier = c.if-first-number.true;
        within = rw (length-map texts components) within;
        same = IsFirstAt-paths texts k text within c.index-paths-number.is c.in_ok-first.first first;
        first = c.loop-number.invariant.distinct;
      };
      is_first = c.index-entries-first.is;
      is_second = c.index-entries-number.is;
      one_is = refl;
      other_is = refl;
    })
