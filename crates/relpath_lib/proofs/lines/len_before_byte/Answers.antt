-- The first index of the byte in the first bytes, or in the rest.
use Rattle.std.proofs.Common.{◌≡◌, None, Some, length, take, drop, sym, ap, ◌∙◌, arith, subst}
use Rattle.std.proofs.lemmas.List.{length-drop}
use Rattle.memchr.specs.Find.{IsFirstByte, is_byte}
use Rattle.relpath_lib.proofs.LinesLemmas.{first, first-found, first-nowhere, first-near, first-far}
use Rattle.relpath_lib.proofs.lines.len_before_byte.Goals as goal

pub returns-then-len-lt-NEAR : goal.returns-then-len-lt-NEAR
returns-then-len-lt-NEAR c =
    let near = c.len_before-len.ensures.first ∙ ap (first c.args.byte) c.split_at.ensures.front in
    near ∙ first-near c.args.byte 64 c.args.text.now
    (omega (arith, sym near, c.if-len-lt-NEAR.true, ap length c.split_at.ensures.front, c.split_at.ensures.front_len))

pub returns-in-Some : goal.returns-in-Some
returns-in-Some c =
    let near = c.len_before-len.ensures.first ∙ ap (first c.args.byte) c.split_at.ensures.front in
    let size = sym (ap length c.split_at.ensures.front) ∙ c.split_at.ensures.front_len in
    let within = c.len_before-len.ensures.within in
    let none : first c.args.byte (take 64 c.args.text.now) ≡ length (take 64 c.args.text.now) =
    omega (arith, sym near, c.if-len-lt-NEAR.false, within, size, c.split_at.ensures.front_len) in
    let found = subst (λ far. IsFirstByte (is_byte c.args.byte) far (Some c.in-Some.at)) c.split_at.ensures.back c.in-Some.ensures in
    let far = first-found c.args.byte (drop 64 c.args.text.now) c.in-Some.at found in
    omega (arith, size, far, first-far c.args.byte 64 c.args.text.now none)

pub returns-in-None : goal.returns-in-None
returns-in-None c =
    let near = c.len_before-len.ensures.first ∙ ap (first c.args.byte) c.split_at.ensures.front in
    let size = sym (ap length c.split_at.ensures.front) ∙ c.split_at.ensures.front_len in
    let within = c.len_before-len.ensures.within in
    let none : first c.args.byte (take 64 c.args.text.now) ≡ length (take 64 c.args.text.now) =
    omega (arith, sym near, c.if-len-lt-NEAR.false, within, size, c.split_at.ensures.front_len) in
    let found = subst (λ far. IsFirstByte (is_byte c.args.byte) far None) c.split_at.ensures.back c.in-None.ensures in
    let far = first-nowhere c.args.byte (drop 64 c.args.text.now) found in
    omega (arith, size, far, length-drop 64 c.args.text.now, c.if-text-le-NEAR.false, first-far c.args.byte 64 c.args.text.now none)
