-- No name of an old path ends in the last name of the base and then the path, if that is one name or two.
use Rattle.std.proofs.Common.{ap, ap₂, sym, true≢false, ◌∙◌}
use Rattle.relative_path.specs.RelativePath.{path_components}
use Rattle.relmove_mentions.specs.Bases.{base_components}
use Rattle.relmove_mentions.specs.NameHashes.{two_hash}
use Rattle.relmove_mentions.specs.OldNames.{may_end_in}
use Rattle.relmove_mentions.proofs.OldNamesLemmas.{LeadsToPath-short}
use Rattle.relmove_mentions.proofs.old_names.OldNames.find_below.Goals as goal

pub returns-then-not-may_end_in : goal.returns-then-not-may_end_in
returns-then-not-may_end_in c = λ olds has old is_old (few, leads).
    let set = c.args.self.now in
    let two = LeadsToPath-short olds set (base_components c.args.base) (path_components c.args.path) old has is_old leads in
    true≢false
    (sym two ∙ sym (ap (may_end_in set) (c.two_hash.ensures ∙ ap₂ two_hash c.args.base.hashed c.requires.short))
    ∙ sym c.may_end_in.ensures ∙ c.if-not-may_end_in.true)
