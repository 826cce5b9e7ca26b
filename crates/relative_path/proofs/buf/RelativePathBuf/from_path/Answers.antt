use Rattle.std.proofs.Common.{◌∙◌, sym, ap, arith, length}
use Rattle.relative_path.specs.Editing.{without_cur_dirs}
use Rattle.relative_path.specs.Steps.{spell}
use Rattle.relative_path.specs.Unix.{unix_components}
use Rattle.relative_path.proofs.UnixTextsLemmas.{onto-without_cur_dirs, length-spell-without_cur_dirs}
use Rattle.relative_path.proofs.UnixComponentsLemmas.{without_cur_dirs-unix}
use Rattle.relative_path.proofs.buf.RelativePathBuf.from_path.Goals as goal

pub push_components-requires : goal.push_components-requires
push_components-requires c =
    let text = c.as_str-path.result.now in
    let written = onto-without_cur_dirs _ _ text c.in_ok-text.ensures.bytes c.without_cur_dirs.ensures in
    omega (arith, ap length written, length-spell-without_cur_dirs text, c.in_ok-text.ensures.capacity)

pub returns-clause-ok : goal.returns-clause-ok
returns-clause-ok c =
    let text = c.as_str-path.result.now in
    let unrooted = sym c.has_root.ensures ∙ c.if-has_root.false in
    c.into-2.ensures.0
    ∙ c.push_components.ensures
    ∙ onto-without_cur_dirs _ _ text c.in_ok-text.ensures.bytes c.without_cur_dirs.ensures
    ∙ ap spell (sym (without_cur_dirs-unix text unrooted) ∙ ap (λ t. without_cur_dirs (unix_components t)) c.as_str-path.ensures)
