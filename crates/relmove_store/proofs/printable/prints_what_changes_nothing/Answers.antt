use Rattle.std.proofs.lemmas.Str.{scalars-chars}
use Rattle.std.specs.Str.{chars}
use Rattle.relmove_store.proofs.PrintingLemmas.{printed-changes_nothing}
use Rattle.relmove_store.proofs.printable.prints_what_changes_nothing.Goals as goal

pub returns : goal.returns
returns c = (printed-changes_nothing (chars c.args.text.now) (scalars-chars c.args.text.now c.utf8.text)).1
