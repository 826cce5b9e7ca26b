-- The path is one of them, or the first that isn't before it begins with it, or none does.
use Rattle.relmove_checks.proofs.ForeignLemmas.{Any-equal, MatchBool-first, All-before}
use Rattle.relmove_checks.proofs.foreign.has_path_below.Goals as goal

pub returns-in-Ok : goal.returns-in-Ok
returns-in-Ok c =
    Any-equal c.args.paths.now c.args.path c.in-Ok.field-0 c.in-Ok.ensures.bound c.in-Ok.ensures.ok

pub returns-in-Some : goal.returns-in-Some
returns-in-Some c =
    MatchBool-first c.args.paths.now c.args.path c.in-Err.at c.requires c.in-Err.ensures.position c.in-Some.first.now
    c.starts_with.result c.in-Some.ensures.lookup.3 c.starts_with.ensures

pub returns-in-None : goal.returns-in-None
returns-in-None c =
    All-before c.args.paths.now c.args.path c.in-Err.at c.requires c.in-Err.ensures.position c.in-None.ensures.lookup.3
