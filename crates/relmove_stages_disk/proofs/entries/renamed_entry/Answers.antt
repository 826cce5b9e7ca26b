use Rattle.std.proofs.Common.{IfOk, ap, is_ok, subst, sym, true≢false, ◌∙◌, ◌≡◌}
use Rattle.relative_path.specs.Prefixing.{StartsWith}
use Rattle.relative_path.specs.RelativePath.{path_text}
use Rattle.relative_path.specs.Steps.{components}
use Rattle.relmove_trees.specs.FileTrees.{names_of}
use Rattle.relmove_stages_disk.proofs.EntriesLemmas.{moved-elsewhere, moved-is}
use Rattle.relmove_stages_disk.proofs.PathsLemmas.{names_of-append, not_under}
use Rattle.relmove_stages_disk.specs.Entries.{Item, item_of}
use Rattle.relmove_stages_disk.proofs.entries.renamed_entry.Goals as goal

pub returns-in_default : goal.returns-in_default
returns-in_default c =
    let none : ¬ StartsWith (components c.args.entry.now.path.text) (components (path_text c.args.from)) =
    λ starts.
    true≢false (sym (c.strip_prefix.ensures.found.1
    (subst (λ text. StartsWith (components text) (components (path_text c.args.from))) (sym c.as_relative_path.ensures) starts))
    ∙ ap is_ok c.in_default.is) in
    subst (λ (item : Item). IfOk c.copy.result (λ copy. item_of copy ≡ item))
    (sym (moved-elsewhere (names_of (path_text c.args.from)) (names_of (path_text c.args.to)) (item_of c.args.entry.now)
    (not_under c.args.entry.now.path.text (path_text c.args.from) none))) c.copy.ensures

pub returns : goal.returns
returns c =
    moved-is (names_of (path_text c.args.from)) (names_of (path_text c.args.to)) (names_of (path_text c.in-Ok.rest))
    (item_of c.args.entry.now) (item_of (record { path = c.in_ok-join.field-0; node = c.in_ok-copy.field-0 }))
    (names_of-append c.args.entry.now.path.text (path_text c.args.from) (path_text c.in-Ok.rest)
    (ap components (sym c.as_relative_path.ensures) ∙ c.in-Ok.ensures.components))
    (names_of-append c.in_ok-join.field-0.text (path_text c.args.to) (path_text c.in-Ok.rest) c.in_ok-join.ensures.components)
    c.in_ok-copy.ensures
