-- A page that moves has a file name after the moves, so its directory after them is that of its normal path.
use Rattle.std.proofs.Common.{inl}
use Rattle.relative_path.specs.Steps.{components}
use Rattle.relative_path_moves.proofs.TreeMovesLemmas.{directory-path}
use Rattle.relative_path_moves.proofs.tree_moves.TreeMoves.moved_page.Goals as goal

pub returns-in_ok-after-in-Some-clause-after : goal.returns-in_ok-after-in-Some-clause-after
returns-in_ok-after-in-Some-clause-after c =
    let (target, taken, normal) = (rw (c.in-Some.is, c.view.ensures.text) at c.in_ok-path.ensures.own) in (
      target,
      inl taken,
      (
        normal,
        directory-path c.args.self.now (components c.args.page.now) target c.in-Some.path c.in_ok-after-in-Some.after
            (rw c.in-Some.is at c.in_ok-path.ensures.named) taken normal c.in_ok-after-in-Some.ensures,
      ),
    )
