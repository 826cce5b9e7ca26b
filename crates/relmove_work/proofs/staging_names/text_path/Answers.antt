use Rattle.std.proofs.Common.{◌≡◌, IfOk, string_bytes, sym, subst}
use Rattle.relmove_work.specs.StagingPaths as paths
use Rattle.relmove_work.proofs.PathsLemmas.{last_name-of}
use Rattle.relmove_work.proofs.staging_names.text_path.Goals as goal

pub returns : goal.returns
returns c = record {
  path =
      subst (λ n. IfOk c.staging_path.result (λ full. string_bytes full ≡ paths.staging_path n))
      (sym (last_name-of c.args.file.now c.name_of.result.now c.name_of.ensures.name)) c.staging_path.ensures.path;
}
