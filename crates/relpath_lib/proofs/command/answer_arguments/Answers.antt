-- The arguments are as many as the command takes, so each is a field.
use Rattle.std.proofs.Common.{◌≡◌, ◌∙◌, ℕ, List, [], Bor, length, ap, arith}
use Rattle.relpath_lib.specs.Command.{arity_of}
use Rattle.relpath_lib.proofs.CommandLemmas.{field-map}
use Rattle.relpath_lib.proofs.command.answer_arguments.Goals as goal

abbrev none : Bor (List ℕ)
none = record { ref_ptr = (0, 0); now = [] }

pub returns-in-Normalize-len1 : goal.returns-in-Normalize-len1
returns-in-Normalize-len1 c =
    let count : length c.args.arguments.now ≡ 1 = c.requires ∙ ap arity_of c.in-Normalize-len1.is-0 in
    rw (
      c.in-Normalize-len1.is-0,
      field-map c.args.arguments.now 0 none (omega (arith, count)),
    ) c.answer_normalize.ensures

pub returns-in-Join-len2 : goal.returns-in-Join-len2
returns-in-Join-len2 c =
    let count : length c.args.arguments.now ≡ 2 = c.requires ∙ ap arity_of c.in-Join-len2.is-0 in
    rw (
      c.in-Join-len2.is-0,
      field-map c.args.arguments.now 0 none (omega (arith, count)),
      field-map c.args.arguments.now 1 none (omega (arith, count)),
    ) c.answer_join.ensures

pub returns-in-Relative-len2 : goal.returns-in-Relative-len2
returns-in-Relative-len2 c =
    let count : length c.args.arguments.now ≡ 2 = c.requires ∙ ap arity_of c.in-Relative-len2.is-0 in
    rw (
      c.in-Relative-len2.is-0,
      field-map c.args.arguments.now 0 none (omega (arith, count)),
      field-map c.args.arguments.now 1 none (omega (arith, count)),
    ) c.answer_relative.ensures

pub returns-in-TryRelative-len2 : goal.returns-in-TryRelative-len2
returns-in-TryRelative-len2 c =
    let count : length c.args.arguments.now ≡ 2 = c.requires ∙ ap arity_of c.in-TryRelative-len2.is-0 in
    rw (
      c.in-TryRelative-len2.is-0,
      field-map c.args.arguments.now 0 none (omega (arith, count)),
      field-map c.args.arguments.now 1 none (omega (arith, count)),
    ) c.answer_try_relative.ensures

pub returns-in-RelativeTo-len2 : goal.returns-in-RelativeTo-len2
returns-in-RelativeTo-len2 c =
    let count : length c.args.arguments.now ≡ 2 = c.requires ∙ ap arity_of c.in-RelativeTo-len2.is-0 in
    rw (
      c.in-RelativeTo-len2.is-0,
      field-map c.args.arguments.now 0 none (omega (arith, count)),
      field-map c.args.arguments.now 1 none (omega (arith, count)),
    ) c.answer_relative_to.ensures

pub returns-in-Move-len3 : goal.returns-in-Move-len3
returns-in-Move-len3 c =
    let count : length c.args.arguments.now ≡ 3 = c.requires ∙ ap arity_of c.in-Move-len3.is-0 in
    rw (
      c.in-Move-len3.is-0,
      field-map c.args.arguments.now 0 none (omega (arith, count)),
      field-map c.args.arguments.now 1 none (omega (arith, count)),
      field-map c.args.arguments.now 2 none (omega (arith, count)),
    ) c.answer_move.ensures
