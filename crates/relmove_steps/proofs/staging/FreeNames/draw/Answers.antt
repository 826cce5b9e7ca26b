-- Each turn finds one more number taken.
use Rattle.std.proofs.Common.{rules, ◌≡◌, ◌<◌, ◌+◌, ◌-◌, ◌++◌, IsSome, inl, inr, ap, subst, arith}
use Rattle.std.proofs.lemmas.Bool.{cases_lt}
use Rattle.relative_path.specs.Normalizing.{IsNormalTextOf}
use Rattle.relative_path.specs.RelativePath.{path_text}
use Rattle.relative_path.specs.Steps.{components}
use Rattle.relative_path_places.specs.IndexEntries.{entry_count, number_at}
use Rattle.relmove_steps.specs.StagingNames.{numbered_file, numbered_name}
use Rattle.relmove_steps.proofs.DrawingLemmas.{AreTaken-few, numbered_file-made}
use Rattle.relmove_steps.proofs.staging.FreeNames.draw.Goals as goal

pub loop-self-smaller : goal.loop-self-smaller
loop-self-smaller c =
    let few = AreTaken-few c.args.self.now.entries.now (path_text c.args.directory) c.args.self.now.last c.loop-self.self.last
    c.loop-self.invariant.taken in
    let next = c.in_ok-self.ensures in
    let less : entry_count c.args.self.now.entries.now + 1 + c.args.self.now.last - c.in_ok-self.field-0
    < entry_count c.args.self.now.entries.now + 1 + c.args.self.now.last - c.loop-self.self.last = omega (arith, few, next) in
    less

pub loop-self-preserved : goal.loop-self-preserved
loop-self-preserved c =
    let entries = c.args.self.now.entries.now in
    let first = c.args.self.now.last in
    let text = path_text c.args.directory in
    let next = c.in_ok-self.field-0 in
    let late = c.loop-self.invariant.late in
    let next_is = c.in_ok-self.ensures in
    let name_is : path_text c.new.result ≡ numbered_name next = search rules in
    let file_is = numbered_file-made text c.in_ok-path.path next c.requires
    (subst (λ name. IsNormalTextOf (components text ++ components name) c.in_ok-path.path) name_is c.in_ok-path.ensures) in
    let there : IsSome (number_at c.loop-self.self.entries.now c.in_ok-path.path) = search rules in
    let taken : IsSome (number_at entries (numbered_file (components text) next)) =
    subst (λ file. IsSome (number_at entries file)) file_is
    (subst (λ (index : _). IsSome (number_at index c.in_ok-path.path))
    (ap (λ entries. entries.now) c.loop-self.invariant.entries) there) in
    record {
      entries = c.loop-self.invariant.entries;
      late = omega (arith, late, next_is);
      taken = λ n after within. elim (cases_lt n next) [
        | inl before ↦ c.loop-self.invariant.taken n after (omega (arith, before, next_is))
        | inr last ↦
            let same : next ≡ n = omega (arith, within, last) in
            subst (λ n. IsSome (number_at entries (numbered_file (components text) n))) same taken
      ];
    }
