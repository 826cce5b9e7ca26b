use Rattle.std.proofs.Common.{◌≡◌, sym, ap, ◌∙◌, append-nil}
use Rattle.relmove_journal.specs.Reading.Line.{OfOrigin, AtStage}
use Rattle.relmove_journal.specs.Reading.OriginNumber.{File, Owner, Root, Run, Time}
use Rattle.relmove_journal.specs.Reading.{Content, GivenMemory, IsLine, content_of, fields_text, line_fields, with_line}
use Rattle.relmove_journal.proofs.FieldLemmas.{escaped-decimal, escaped-stage_name}
use Rattle.relmove_journal.proofs.ReadingLemmas.{GivenMemory-map, at_origin, at_stage}
use Rattle.relmove_journal.proofs.journal.read_fields.Goals as goal

pub returns-in-root : goal.returns-in-root
returns-in-root c = λ said fits word fields.
    let old = content_of c.args.journal.now in
    let new = c.set_number.new.number in
    at_origin (λ line. IsLine line → c.args.fields.now ≡ fields_text (line_fields line)
    → GivenMemory c.set_number.result (λ x. with_line old (OfOrigin Root new) ≡ with_line old line)) Root
    (λ number small is. GivenMemory-map c.set_number.result (λ x. new ≡ number)
    (λ x. with_line old (OfOrigin Root new) ≡ with_line old (OfOrigin Root number))
    (λ x same. ap (λ n. with_line old (OfOrigin Root n)) same)
    (c.set_number.ensures number small (is ∙ append-nil _ ∙ escaped-decimal number small)))
    said (sym word ∙ c.in-root.is) fits fields

pub returns-in-file : goal.returns-in-file
returns-in-file c = λ said fits word fields.
    let old = content_of c.args.journal.now in
    let new = c.set_number-in-file.new.number in
    at_origin (λ line. IsLine line → c.args.fields.now ≡ fields_text (line_fields line)
    → GivenMemory c.set_number-in-file.result (λ x. with_line old (OfOrigin File new) ≡ with_line old line)) File
    (λ number small is. GivenMemory-map c.set_number-in-file.result (λ x. new ≡ number)
    (λ x. with_line old (OfOrigin File new) ≡ with_line old (OfOrigin File number))
    (λ x same. ap (λ n. with_line old (OfOrigin File n)) same)
    (c.set_number-in-file.ensures number small (is ∙ append-nil _ ∙ escaped-decimal number small)))
    said (sym word ∙ c.in-file.is) fits fields

pub returns-in-run : goal.returns-in-run
returns-in-run c = λ said fits word fields.
    let old = content_of c.args.journal.now in
    let new = c.set_number-in-run.new.number in
    at_origin (λ line. IsLine line → c.args.fields.now ≡ fields_text (line_fields line)
    → GivenMemory c.set_number-in-run.result (λ x. with_line old (OfOrigin Run new) ≡ with_line old line)) Run
    (λ number small is. GivenMemory-map c.set_number-in-run.result (λ x. new ≡ number)
    (λ x. with_line old (OfOrigin Run new) ≡ with_line old (OfOrigin Run number))
    (λ x same. ap (λ n. with_line old (OfOrigin Run n)) same)
    (c.set_number-in-run.ensures number small (is ∙ append-nil _ ∙ escaped-decimal number small)))
    said (sym word ∙ c.in-run.is) fits fields

pub returns-in-owner : goal.returns-in-owner
returns-in-owner c = λ said fits word fields.
    let old = content_of c.args.journal.now in
    let new = c.set_number-in-owner.new.number in
    at_origin (λ line. IsLine line → c.args.fields.now ≡ fields_text (line_fields line)
    → GivenMemory c.set_number-in-owner.result (λ x. with_line old (OfOrigin Owner new) ≡ with_line old line)) Owner
    (λ number small is. GivenMemory-map c.set_number-in-owner.result (λ x. new ≡ number)
    (λ x. with_line old (OfOrigin Owner new) ≡ with_line old (OfOrigin Owner number))
    (λ x same. ap (λ n. with_line old (OfOrigin Owner n)) same)
    (c.set_number-in-owner.ensures number small (is ∙ append-nil _ ∙ escaped-decimal number small)))
    said (sym word ∙ c.in-owner.is) fits fields

pub returns-in-time : goal.returns-in-time
returns-in-time c = λ said fits word fields.
    let old = content_of c.args.journal.now in
    let new = c.set_number-in-time.new.number in
    at_origin (λ line. IsLine line → c.args.fields.now ≡ fields_text (line_fields line)
    → GivenMemory c.set_number-in-time.result (λ x. with_line old (OfOrigin Time new) ≡ with_line old line)) Time
    (λ number small is. GivenMemory-map c.set_number-in-time.result (λ x. new ≡ number)
    (λ x. with_line old (OfOrigin Time new) ≡ with_line old (OfOrigin Time number))
    (λ x same. ap (λ n. with_line old (OfOrigin Time n)) same)
    (c.set_number-in-time.ensures number small (is ∙ append-nil _ ∙ escaped-decimal number small)))
    said (sym word ∙ c.in-time.is) fits fields

pub returns-in-stage : goal.returns-in-stage
returns-in-stage c = λ said fits word fields.
    let old = content_of c.args.journal.now in
    let new : Content = record { origin = old.origin; stage = c.set_stage.new.stage; work = old.work } in
    at_stage (λ line. IsLine line → c.args.fields.now ≡ fields_text (line_fields line)
    → GivenMemory c.set_stage.result (λ x. new ≡ with_line old line))
    (λ stage fits is. GivenMemory-map c.set_stage.result (λ x. c.set_stage.new.stage ≡ stage)
    (λ x. new ≡ with_line old (AtStage stage))
    (λ x same. ap (λ s. record { origin = old.origin; stage = s; work = old.work }) same)
    (c.set_stage.ensures stage (is ∙ append-nil _ ∙ escaped-stage_name stage)))
    said (sym word ∙ c.in-stage.is) fits fields
