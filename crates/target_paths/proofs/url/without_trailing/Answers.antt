use Rattle.std.proofs.Common.{◌∙◌, sym}
use Rattle.target_paths.proofs.UrlLemmas.{without_trailing-drop, without_trailing-none}
use Rattle.target_paths.proofs.url.without_trailing.Goals as goal

pub loop-left-preserved : goal.loop-left-preserved
loop-left-preserved c =
    without_trailing-drop c.loop-left.left.now c.in-len1-up.len_at_least c.if-last-gt32.false ∙ c.loop-left.invariant

pub returns-then-last-gt32 : goal.returns-then-last-gt32
returns-then-last-gt32 c =
    sym (without_trailing-none c.loop-left.left.now c.in-len1-up.len_at_least c.if-last-gt32.true)
    ∙ c.loop-left.invariant
