-- The components of the new name come after those that the path keeps.
use Rattle.std.proofs.lemmas.Result.{IfOk-weaker}
use Rattle.relative_path.specs.RelativePath.{path_text}
use Rattle.relative_path.proofs.NamingEditsLemmas.{file_name-IsNamed, IsBeside-IsNamed}
use Rattle.relative_path.proofs.path.RelativePath.with_file_name.Goals as goal

pub returns-clause-name : goal.returns-clause-name
returns-clause-name c =
    let text = path_text c.args.self in
    IfOk-weaker c.join.result _ _ (λ named joined one. file_name-IsNamed text c.args.file_name.now named.text
    (c.base_of.result.now, c.base_of.ensures, rw (← c.new.ensures, ← c.new-2.ensures) joined) one) c.join.ensures.text

pub returns-clause-beside : goal.returns-clause-beside
returns-clause-beside c =
    let text = path_text c.args.self in
    IfOk-weaker c.join.result _ _ (λ named joined found one. IsBeside-IsNamed text c.args.file_name.now named.text
    (c.base_of.result.now, c.base_of.ensures, rw (← c.new.ensures, ← c.new-2.ensures) joined) found one) c.join.ensures.text
