-- The path's normal form is inserted.
use Rattle.std.proofs.lemmas.Result.{IfOk-weaker}
use Rattle.relative_path.specs.RelativePath.{path_components}
use Rattle.relative_path_places.proofs.place_index.PlaceIndex.insert.Goals as goal

pub returns-clause-indexes : goal.returns-clause-indexes
returns-clause-indexes c =
    IfOk-weaker c.insert_normal.result _ _
    (λ _ is paths index next. is paths (path_components c.args.path) index next c.in_ok-of.ensures)
    c.insert_normal.ensures.indexes

pub returns-clause-first : goal.returns-clause-first
returns-clause-first c =
    IfOk-weaker c.insert_normal.result _ _
    (λ first is paths index next. is paths (path_components c.args.path) index next c.in_ok-of.ensures)
    c.insert_normal.ensures.first
