use Rattle.std.proofs.Common.{◌∙◌, rules}
use Rattle.relative_path.proofs.SlashesLemmas.{components-strip_prefix, components-trim_start, start-trim_start, suffix-trans}
use Rattle.relative_path.proofs.slashes.without_leading_slashes_slow.Goals as goal

pub loop-shorter-preserved : goal.loop-shorter-preserved
loop-shorter-preserved c =
    let strips = c.in-Some.ensures.cases in
    record {
      utf8 = search rules;
      suffix = suffix-trans c.args.text.now _ _ _ c.loop-shorter.invariant.suffix strips.2;
      same = components-strip_prefix 16 _ _ strips ∙ c.loop-shorter.invariant.same;
    }

pub returns-clause-suffix : goal.returns-clause-suffix
returns-clause-suffix c =
    suffix-trans c.args.text.now _ _ _ c.loop-shorter.invariant.suffix c.trim_start_matches.ensures.value

pub returns-clause-start : goal.returns-clause-start
returns-clause-start c = start-trim_start _ _ c.trim_start_matches.ensures.matches

pub returns-clause-same : goal.returns-clause-same
returns-clause-same c =
    components-trim_start _ _ c.trim_start_matches.ensures.matches ∙ c.loop-shorter.invariant.same
