use Rattle.std.proofs.Common.{Some, None, codes, refl, ap, lit<, rules}
use Rattle.std.proofs.lemmas.Str.Pattern.{split_after}
use Rattle.relmove_journal.specs.Reading.{Content, content_of, parts_of}
use Rattle.relmove_journal.proofs.LinesLemmas.{IsLeft-all, IsLeft-next}
use Rattle.relmove_journal.proofs.ReadingLemmas.{Lacks-above, Lacks-get_or}
use Rattle.relmove_journal.proofs.journal.read_lines.Goals as goal

pub loop-line-init : goal.loop-line-init
loop-line-init c = record {
  utf8 = search rules;
  lines = λ origin stage work run.
      IsLeft-all c.args.text.now c.in-Some.left.now _ origin stage work run.fits run.written c.new.ensures.nothing
      (λ back cut. (split_after 10 c.args.text.now (codes "relmove journal 3") back
      (Some (c.in-Some.field-0-0, c.in-Some.left)) c.in-Some.ensures.cases (lit< tt) cut
      (Lacks-get_or 10 (codes "relmove journal 3") (Lacks-above 10 (lit< tt) (codes "relmove journal 3") refl))).1);
}

pub returns-in_err-read_line : goal.returns-in_err-read_line
returns-in_err-read_line c = λ origin stage work run.
    let all : Content = record { origin = origin; stage = stage; work = parts_of work } in
    let next =
    IsLeft-next c.loop-line.left.now (content_of c.loop-line.journal) all
    (Some (c.in-Some-split_once.line, c.in-Some-split_once.rest))
    c.in-Some-split_once.ensures.cases (c.loop-line.invariant.lines origin stage work run) in
    let fault = c.in_err-read_line.ensures next.said next.is next.written in search rules

pub loop-line-preserved : goal.loop-line-preserved
loop-line-preserved c = record {
  utf8 = search rules;
  lines = λ origin stage work run.
      let all : Content = record { origin = origin; stage = stage; work = parts_of work } in
      let next =
      IsLeft-next c.loop-line.left.now (content_of c.loop-line.journal) all
      (Some (c.in-Some-split_once.line, c.in-Some-split_once.rest))
      c.in-Some-split_once.ensures.cases (c.loop-line.invariant.lines origin stage work run) in
      next.others _ (c.in_ok-read_line.ensures next.said next.is next.written);
}

pub returns : goal.returns
returns c = λ origin stage work run.
    let all : Content = record { origin = origin; stage = stage; work = parts_of work } in
    let same = IsLeft-next c.loop-line.left.now (content_of c.loop-line.journal) all None c.in_default-split_once.ensures.cases
    (c.loop-line.invariant.lines origin stage work run) in
    record {
      same_origin = ap (λ (content : Content). content.origin) same;
      same_stage = ap (λ (content : Content). content.stage) same;
      same_work = ap (λ (content : Content). content.work) same;
    }
