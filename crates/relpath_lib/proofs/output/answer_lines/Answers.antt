-- Each turn takes the first line of the remaining text, and adds its answer and a line feed.
use Rattle.std.proofs.Common.{rules, ◌++◌, string_bytes, append-nil, ap, ◌∙◌, lit<}
use Rattle.relpath_lib.proofs.UniquenessLemmas.{IsOutput-only}
use Rattle.relpath_lib.proofs.OutputLemmas.{IsOutput-none, IsOutput-next}
use Rattle.relpath_lib.proofs.output.answer_lines.Goals as goal

pub loop-line-preserved : goal.loop-line-preserved
loop-line-preserved c =
    let before = string_bytes c.loop-line.output in
    let first = c.in-Some.ensures.first in
    let answer = c.in_ok-answer_line.ensures in
    let so_far = c.loop-line.invariant.output in
    let left = c.loop-line.left.now in
    let line = c.in-Some.line.now in
    let rest = c.in-Some.rest.now in
    let middle = string_bytes c.answer_line.new.output in
    let fed = c.in_ok-push.ensures.bytes ∙ ap (λ feed. middle ++ feed) (c.in_ok-push.ensures.ascii (lit< tt)) in
    record {
      text = search rules;
      output = IsOutput-next c.args.text.now left line rest before middle _ first answer fed so_far;
    }

pub returns-clause-output : goal.returns-clause-output
returns-clause-output c =
    rw append-nil at (c.loop-line.invariant.output _ (IsOutput-none c.loop-line.left.now c.in_default.ensures.none))

pub returns-clause-only : goal.returns-clause-only
returns-clause-only c other o = IsOutput-only c.args.text.now _ other (returns-clause-output c) o
