-- A mention is where an old path is written, within bounds and outside what was read.
use Rattle.std.proofs.Common.{◌≡◌, ◌==◌, ◌||◌, ◌≤◌, Some, ap, sym, subst, arith, true≢false, false, ◌∙◌}
use Rattle.std.specs.Prelude.{nat_lt}
use Rattle.std.specs.List.{list_any}
use Rattle.std.proofs.lemmas.Bool.{and_from, and_parts, ltb-false, or_parts}
use Rattle.std.proofs.lemmas.Result.{IfOk-weaker}
use Rattle.relmove_mentions.specs.Mentions.{IsMention}
use Rattle.relmove_mentions.specs.Spans.{others_in, span_bytes}
use Rattle.relmove_mentions.specs.Endings.{may_end}
use Rattle.percent_encoding.specs.Percent.{percent_sign}
use Rattle.relative_path.specs.Steps.{is_slash}
use Rattle.relmove_mentions.specs.NameHashes.{hash_of, two_hash}
use Rattle.relmove_mentions.specs.OldNames.{WithOthers, endings_for, may_end_in}
use Rattle.relmove_mentions.specs.declared.bases.Base.{Base}
use Rattle.relmove_mentions.specs.declared.endings.Ending.{Ending}
use Rattle.relmove_mentions.proofs.EndingsLemmas.{ending_of-alone}
use Rattle.relmove_mentions.specs.Written.{IsWritten}
use Rattle.relmove_mentions.proofs.OldNamesLemmas.{Finds-map}
use Rattle.relmove_mentions.proofs.WrittenLemmas.{StandsFor-alone, StandsFor-written, may_end-for}
use Rattle.relmove_mentions.proofs.old_names.OldNames.find_at.Goals as goal

pub returns-then-not-may_end_at : goal.returns-then-not-may_end_at
returns-then-not-may_end_at c = λ olds has old is_old is.
    let set = c.args.self.now in
    let bytes = span_bytes c.args.searched.file.text.now c.args.span in
    let few = subst (λ n. n ≤ others_in old) (sym c.requires.others) is.few in
    let end = may_end-for olds set c.args.searched.file bytes old c.args.others has is_old few is.written in
    true≢false
    (sym (and_from _ _ is.bounded.after (ap (may_end (endings_for set c.args.others)) c.requires.ending ∙ end))
    ∙ sym c.may_end_at.ensures ∙ c.if-not-may_end_at.true)

pub returns-then-not-may_write : goal.returns-then-not-may_write
returns-then-not-may_write c = λ olds has old is_old is.
    let set = c.args.self.now in
    let file = c.args.searched.file in
    let bases = c.args.searched.directories.now in
    let ending = c.args.ending in
    let bytes = span_bytes file.text.now c.args.span in
    let below = list_any (λ (base : Base). may_end_in set (two_hash base.name (Some ending.hash))) bases in
    let (some, rest) = or_parts (nat_lt 0 c.args.others) (ending.encoded || (list_any is_slash bytes || below))
    (sym c.may_write.ensures ∙ c.if-not-may_write.true) in
    let (encoded, more) = or_parts ending.encoded (list_any is_slash bytes || below) rest in
    let (no_slash, none) = or_parts (list_any is_slash bytes) below more in
    let no_other : others_in bytes ≡ 0 = omega (arith, c.requires.others, ltb-false 0 c.args.others some) in
    let (hash, percent) = ending_of-alone bytes (record { no_slash = no_slash; no_other = no_other }) in
    let plain : list_any (λ b. b == percent_sign) bytes ≡ false =
    sym percent ∙ ap (λ (e : Ending). e.encoded) (sym c.requires.ending) ∙ encoded in
    let same : ending.hash ≡ hash_of bytes = ap (λ (e : Ending). e.hash) c.requires.ending ∙ hash in
    true≢false
    (sym (StandsFor-alone olds set file bases bytes old has is_old c.args.searched.directories_same no_slash
    (StandsFor-written olds file bytes old plain is.written))
    ∙ ap (λ h. list_any (λ (base : Base). may_end_in set (two_hash base.name (Some h))) bases) (sym same) ∙ none)

pub returns-then-not-is_unread : goal.returns-then-not-is_unread
returns-then-not-is_unread c = λ olds has old is_old is.
    true≢false
    (sym is.unread ∙ sym (c.requires.passed c.args.span (omega arith)) ∙ sym c.is_unread.ensures ∙ c.if-not-is_unread.true)

pub returns : goal.returns
returns c =
    let text = c.args.searched.file.text.now in
    let bytes = span_bytes text c.args.span in
    IfOk-weaker c.find.result _ _
    (λ found finds olds has.
    Finds-map olds (WithOthers c.args.others (IsWritten olds c.args.searched.file bytes))
    (IsMention olds c.args.searched.file c.args.span) found
    (λ old is_old (some, written). record {
      is_old = is_old;
      bounded = record {
        order = c.requires.order;
        within = c.requires.within;
        before = c.requires.before;
        after = (and_parts _ _ (sym c.may_end_at.ensures ∙ c.if-not-may_end_at.false)).0;
      };
      few = subst (λ n. n ≤ others_in old) c.requires.others some;
      unread =
          sym (c.requires.passed c.args.span (omega arith)) ∙ sym c.is_unread.ensures ∙ c.if-not-is_unread.false;
      written = written;
    })
    (λ old is. (subst (λ n. n ≤ others_in old) (sym c.requires.others) is.few, is.written)) (finds olds has)) c.find.ensures
