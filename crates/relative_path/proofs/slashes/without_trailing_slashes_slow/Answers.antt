use Rattle.std.proofs.Common.{◌∙◌, rules}
use Rattle.relative_path.proofs.SlashesLemmas.{components-strip_suffix, components-trim_end, end-trim_end, prefix-strip_suffix, prefix-trans}
use Rattle.relative_path.proofs.slashes.without_trailing_slashes_slow.Goals as goal

pub loop-shorter-preserved : goal.loop-shorter-preserved
loop-shorter-preserved c =
    let strips = c.in-Some.ensures.cases in
    record {
      utf8 = search rules;
      prefix = prefix-trans c.args.text.now _ _ c.loop-shorter.invariant.prefix (prefix-strip_suffix 16 _ _ strips);
      same = components-strip_suffix 16 _ _ strips ∙ c.loop-shorter.invariant.same;
    }

pub returns-clause-prefix : goal.returns-clause-prefix
returns-clause-prefix c =
    prefix-trans c.args.text.now _ _ c.loop-shorter.invariant.prefix c.trim_end_matches.ensures.value

pub returns-clause-end : goal.returns-clause-end
returns-clause-end c = end-trim_end _ _ c.trim_end_matches.ensures.matches

pub returns-clause-same : goal.returns-clause-same
returns-clause-same c = components-trim_end _ _ c.trim_end_matches.ensures.matches ∙ c.loop-shorter.invariant.same
