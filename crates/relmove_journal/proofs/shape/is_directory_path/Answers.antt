use Rattle.std.proofs.Common.{rules, tests, lit<, ◌∙◌}
use Rattle.std.proofs.lemmas.Iterator.Search.{all_from_yields_List}
use Rattle.std.proofs.lemmas.Iterator.Splits.{YieldsList-from_str_split}
use Rattle.relmove_journal.specs.Shape.{is_directory_name}
use Rattle.relmove_journal.proofs.ShapeLemmas.{list_all-names}
use Rattle.relmove_journal.proofs.shape.is_directory_path.Goals as goal

pub returns : goal.returns
returns c =
    let parts =
    YieldsList-from_str_split 47 c.args.path.now (lit< tt) c.split.ensures.text c.split.ensures.has_more
    c.split.ensures.pattern in
    all_from_yields_List is_directory_name _ _ c.all.result c.all.ensures.ran parts (λ x b q k. search (rules, tests))
    ∙ list_all-names c.args.path.now
