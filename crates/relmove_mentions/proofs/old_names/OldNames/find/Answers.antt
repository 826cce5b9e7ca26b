-- The bytes as they are stand for no path, so what they stand for when they are decoded is all.
use Rattle.std.proofs.Common.{◌≡◌, refl, sym, ◌∙◌}
use Rattle.std.proofs.lemmas.Result.{IfOk-weaker}
use Rattle.percent_encoding.specs.Percent.{percent_decode}
use Rattle.relmove_mentions.specs.Written.{StandsFor}
use Rattle.relmove_mentions.proofs.OldNamesLemmas.{Finds-second}
use Rattle.relmove_mentions.proofs.WrittenLemmas.{Finds-plain}
use Rattle.relmove_mentions.proofs.old_names.OldNames.find.Goals as goal

pub returns-then-not-has_percent : goal.returns-then-not-has_percent
returns-then-not-has_percent c = λ olds has.
    Finds-plain olds c.args.searched.file c.args.others c.args.bytes.now
    (sym c.has_percent.ensures ∙ c.if-not-has_percent.true) (rw c.in_default.is at (c.in_ok-old.ensures olds has))

pub returns : goal.returns
returns c =
    let bytes = c.args.bytes.now in
    let is_text : c.as_slice.result.now ≡ percent_decode c.args.bytes.now =
    rw (
      c.as_slice.ensures.value,
      c.in_ok-append_to.ensures.ok,
      c.new-text.ensures.items,
      c.percent_decode.ensures.bytes,
    ) refl in
    IfOk-weaker c.find_text-2.result _ _
    (λ found is olds has.
    Finds-second olds c.args.others (StandsFor olds c.args.searched.file bytes)
    (StandsFor olds c.args.searched.file (percent_decode bytes)) found
    (rw c.in_default.is at (c.in_ok-old.ensures olds has)) (rw is_text at (is olds has))) c.find_text-2.ensures
