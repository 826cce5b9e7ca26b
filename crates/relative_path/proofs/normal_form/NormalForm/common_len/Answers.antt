use Rattle.std.proofs.Common.{◌≡◌, [], true, false, slice_index_or, sym, drop, arith, bytes_eq, length-drop}
use Rattle.std.proofs.lemmas.Bool.{not-false, not-true}
use Rattle.std.proofs.lemmas.List.Sums.{common_prefix_len-le, common_prefix_len-drop_no, common_prefix_len-drop_yes}
use Rattle.relative_path.specs.NormalForm.{form_names}
use Rattle.relative_path.proofs.normal_form.NormalForm.common_len.Goals as goal

pub returns : goal.returns
returns c =
    let names = form_names c.args.self.now in
    let other_names = form_names c.args.other.now in
    let index = c.loop-index.index in
    let bounds = common_prefix_len-le bytes_eq (drop index names) (drop index other_names) in
    let invariant = c.loop-index.invariant in
    omega (arith, bounds.0, bounds.1, length-drop index names, length-drop index other_names, c.min-most.ensures)

pub loop-index-preserved : goal.loop-index-preserved
loop-index-preserved c =
    let names = form_names c.args.self.now in
    let other_names = form_names c.args.other.now in
    let index = c.loop-index.index in
    let same : bytes_eq (slice_index_or names index []) (slice_index_or other_names index []) ≡ true =
    rw (← c.name.ensures, ← c.name-in-loop-index.ensures) (not-false _ (sym c.if-ne.ensures)) in
    let before = c.loop-index.invariant in
    let one_more = common_prefix_len-drop_yes bytes_eq names other_names index [] []
    (omega (arith, c.min-most.ensures, c.names_len.ensures))
    (omega (arith, c.min-most.ensures, c.names_len-2.ensures)) same in
    omega (arith, before, one_more)

pub returns-then-ne : goal.returns-then-ne
returns-then-ne c =
    let names = form_names c.args.self.now in
    let other_names = form_names c.args.other.now in
    let index = c.loop-index.index in
    let differ : bytes_eq (slice_index_or names index []) (slice_index_or other_names index []) ≡ false =
    rw (← c.name.ensures, ← c.name-in-loop-index.ensures) (not-true _ (sym c.if-ne.ensures)) in
    let before = c.loop-index.invariant in
    let none = common_prefix_len-drop_no bytes_eq names other_names index [] []
    (omega (arith, c.min-most.ensures, c.names_len.ensures))
    (omega (arith, c.min-most.ensures, c.names_len-2.ensures)) differ in
    omega (arith, before, none)
