use Rattle.relative_path.proofs.SlashesLemmas.{last_in}
use Rattle.relative_path.proofs.slashes.last_in.Goals as goal

pub returns-clause-none : goal.returns-clause-none
returns-clause-none g c =
    rw c.slashes_in.ensures (last_in c.args.bytes.now c.args.start _ c.requires.block c.requires.lanes c.requires.before).0

pub returns-clause-some : goal.returns-clause-some
returns-clause-some g c =
    rw c.slashes_in.ensures (last_in c.args.bytes.now c.args.start _ c.requires.block c.requires.lanes c.requires.before).1
