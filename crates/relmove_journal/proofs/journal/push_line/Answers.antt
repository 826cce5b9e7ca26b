use Rattle.std.proofs.Common.{[], ◌∷◌, ◌++◌, map, ap, ◌∙◌, lit<, string_bytes}
use Rattle.std.specs.List.{flat_map}
use Rattle.relmove_journal.specs.Journals.{field_bytes}
use Rattle.relmove_journal.proofs.LoopLemmas.{grows}
use Rattle.relmove_journal.proofs.journal.push_line.Goals as goal

pub returns : goal.returns
returns c =
    let old = string_bytes c.args.text.now in
    let word = c.args.word.now in
    let fields = flat_map field_bytes (map (λ field. field.now) c.args.fields.now) in
    let end = c.in_ok-push.ensures.bytes ∙ ap (λ l. string_bytes c.push_fields.new.text ++ l) (c.in_ok-push.ensures.ascii (lit< tt)) in
    grows old (word ++ fields) (10 ∷ []) _ _ (grows old word fields _ _ c.in_ok-push_str.ensures.bytes c.in_ok-push_fields.ensures) end
