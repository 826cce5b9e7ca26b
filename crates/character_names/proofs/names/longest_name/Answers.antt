use Rattle.std.proofs.Common.{sym, subst, ◌∙◌}
use Rattle.character_names.specs.Names.{IsLongest}
use Rattle.character_names.proofs.LongestLemmas.{longest_name-is, longest_within-here, longest_within-end}
use Rattle.character_names.proofs.names.longest_name.Goals as goal

pub returns-in-Some-clause-longest : goal.returns-in-Some-clause-longest
returns-in-Some-clause-longest c =
    let text = c.args.text.now in
    let found = longest_within-here c.loop-len.len text c.in-Some.characters c.loop-len-test.true c.in-Some.ensures.characters in
    subst (IsLongest text) (sym (found ∙ c.loop-len.invariant.left)) (longest_name-is text)

pub returns-clause-longest : goal.returns-clause-longest
returns-clause-longest c =
    let text = c.args.text.now in
    let ended = longest_within-end c.loop-len.len text c.loop-len-test.false in
    subst (IsLongest text) (sym (ended ∙ c.loop-len.invariant.left)) (longest_name-is text)
