use Rattle.std.proofs.Common.{◌≡◌, ◌<◌, ◌+◌, ◌-◌, length, bytes_eq, ◌∙◌, arith}
use Rattle.std.specs.List.{common_prefix_len}
use Rattle.std.proofs.lemmas.List.Sums.{common_prefix_len-le}
use Rattle.relative_path.specs.NormalForm.{form_climb, form_names}
use Rattle.relative_path.proofs.RelatingLemmas.{unreachable_higher, IsShortest-common, IsShortest-higher}
use Rattle.relative_path.proofs.relating.Way.between.Goals as goal
use Rattle.relative_path.proofs.relating.Way.between.Goals.{then-higher-eq0, else-higher-eq0}

pub returns-in_err-higher-clause-none : goal.returns-in_err-higher-clause-none
returns-in_err-higher-clause-none c = λ _.
    let lower = c.in_err-higher.ensures in
    let higher : form_climb c.args.to.now < form_climb c.args.from.now = omega (arith, lower) in
    unreachable_higher _ _ _ _ higher

pub overflow_sub-result : goal.overflow_sub-result
overflow_sub-result c =
    let within = common_prefix_len-le bytes_eq (form_names c.args.from.now) (form_names c.args.to.now) in
    elim c.if-higher-eq0.branch [ then-higher-eq0 w ↦ omega (arith, within.0) | else-higher-eq0 w ↦ omega arith ]

pub returns-clause-within : goal.returns-clause-within
returns-clause-within c =
    let within = common_prefix_len-le bytes_eq (form_names c.args.from.now) (form_names c.args.to.now) in
    elim c.if-higher-eq0.branch [ then-higher-eq0 w ↦ omega (arith, within.1) | else-higher-eq0 w ↦ omega arith ]

pub returns-clause-shortest : goal.returns-clause-shortest
returns-clause-shortest c =
    let from = form_names c.args.from.now in
    let to = form_names c.args.to.now in
    let up = form_climb c.args.from.now in
    let higher = c.in_ok-higher.higher in
    let told = c.in_ok-higher.ensures in
    let climbs : form_climb c.args.to.now ≡ up + higher = omega (arith, told) in
    elim c.if-higher-eq0.branch [
      | then-higher-eq0 w ↦
          let common = w.common-is ∙ w.common_len-common.ensures in
          let level : up + higher ≡ up = omega arith in
          let shared = common_prefix_len bytes_eq from to in
          let ups : length from - shared ≡ c.names_len.result - c.if-higher-eq0.common + higher = omega arith in
          rw (← ups, common, climbs, level) (IsShortest-common up from to)
      | else-higher-eq0 w ↦
          let ups : length from + higher ≡ c.names_len.result - c.if-higher-eq0.common + higher = omega arith in
          rw (← ups, w.common-is, climbs) (IsShortest-higher up higher from to (omega arith))
    ]
