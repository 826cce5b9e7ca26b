use Rattle.relative_path.proofs.CountingLemmas.{starts_from-block, ones-block}
use Rattle.relative_path.proofs.counting.starts_in_block.Goals as goal

pub returns-clause-count : goal.returns-clause-count
returns-clause-count c =
    rw (c.slashes_in.ensures, c.slashes_in-2.ensures)
    (starts_from-block c.args.bytes.now c.args.start c.args.skipped c.requires.start c.requires.block c.requires.skipped)

pub returns-clause-bound : goal.returns-clause-bound
returns-clause-bound c =
    rw (c.slashes_in.ensures, c.slashes_in-2.ensures)
    (ones-block c.args.bytes.now c.args.start c.args.skipped c.requires.start c.requires.block c.requires.skipped)
