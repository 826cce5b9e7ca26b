use Rattle.std.proofs.Common.{rules, tests, sym, ap, ◌∙◌, ◌&&◌}
use Rattle.std.specs.Char.{is_ascii_digit}
use Rattle.std.specs.List.{list_all}
use Rattle.std.proofs.lemmas.Iterator.Adapters.{YieldsList-from_bytes}
use Rattle.std.proofs.lemmas.Iterator.Search.{all_from_yields_List}
use Rattle.relmove_journal.proofs.ShapeLemmas.{is_not_empty-length}
use Rattle.relmove_journal.proofs.shape.is_number.Goals as goal

pub returns-then-not-is_empty : goal.returns-then-not-is_empty
returns-then-not-is_empty c =
    let digits = YieldsList-from_bytes c.args.text.now c.bytes.ensures.rest in
    let all =
    all_from_yields_List is_ascii_digit _ _ c.all.result c.all.ensures.ran digits (λ x b q k. search (rules, tests)) in
    let some = is_not_empty-length c.args.text.now (sym c.is_empty.ensures ∙ c.if-not-is_empty.true) in
    all ∙ sym (ap (λ b. b && list_all is_ascii_digit c.args.text.now) some)
