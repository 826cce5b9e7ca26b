use Rattle.std.proofs.Common.{true≢false, sym}
use Rattle.relative_path.specs.RelativePath.{path_text, path_components}
use Rattle.relative_path.specs.Steps.{name}
use Rattle.relative_path.specs.Editing.{kept_len}
use Rattle.relative_path_bench.proofs.NamingLemmas.{nonempty_text, without_last_curs-kept}
use Rattle.relative_path_bench.proofs.naming.parent_law.Goals as goal

pub returns-in_err-parent-clause-found : goal.returns-in_err-parent-clause-found
returns-in_err-parent-clause-found c =
    let cs = path_components c.args.path in
    let non_slash = nonempty_text (path_text c.args.path) (kept_len cs)
    (name c.in_ok-file_name.file_name.now) c.in_ok-file_name.ensures.placed in
    absurd (true≢false (sym (c.in_err-parent.ensures.some.1 non_slash)))

pub returns-clause-joined : goal.returns-clause-joined
returns-clause-joined c =
    without_last_curs-kept _ _ _ c.in_ok-parent.ensures.text.same_components c.in_ok-file_name.ensures.placed
