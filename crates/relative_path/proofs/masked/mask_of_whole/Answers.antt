use Rattle.relative_path.proofs.MaskedLemmas.{KnowsSlashes-ended, ended-some}
use Rattle.relative_path.proofs.masked.mask_of_whole.Goals as goal

pub returns-clause-known : goal.returns-clause-known
returns-clause-known g c =
    rw (c.slashes_in.ensures, c.slashes_in-2.ensures)
    (KnowsSlashes-ended c.args.bytes.now _ c.requires.few c.requires.least c.requires.most)

pub returns-clause-some : goal.returns-clause-some
returns-clause-some g c =
    rw (c.slashes_in.ensures, c.slashes_in-2.ensures) (ended-some c.args.bytes.now _ c.requires.few c.requires.least c.requires.most)
