use Rattle.std.proofs.Common.{string_bytes, sym, subst, ap, ◌∙◌}
use Rattle.relmove_journal.specs.Paths.{IsNameOf}
use Rattle.relmove_work.specs.StagingPaths as paths
use Rattle.relmove_work.proofs.PathsLemmas.{last_name-of}
use Rattle.relmove_work.proofs.staging_names.is_of_text.Goals as goal

pub returns : goal.returns
returns c = record {
  text =
      c.begins_as_label.ensures
      ∙ ap paths.begins_as_label (sym (last_name-of (string_bytes c.args.rename.now.from) c.name_of.result.now
      (subst (IsNameOf c.name_of.result.now) c.as_str.ensures.value c.name_of.ensures.name)));
}
