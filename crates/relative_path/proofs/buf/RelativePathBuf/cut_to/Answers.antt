-- The end of a prefix that is UTF-8 is a character boundary.
use Rattle.std.proofs.Common.{◌≤◌, string_bytes, ap, subst, take, length, sym, arith}
use Rattle.std.specs.Str.{IsUtf8}
use Rattle.std.proofs.lemmas.Str.{IsUtf8-string_bytes, IsCharBoundary-from_take}
use Rattle.relative_path.proofs.buf.RelativePathBuf.cut_to.Goals as goal

pub truncate-requires : goal.truncate-requires
truncate-requires c =
    let text = string_bytes c.self.inside.text in
    let front = subst (λ x. IsUtf8 (take c.args.len x)) (sym (ap (λ b. b.text) c.self.view_is)) c.requires in
    λ within.
    let short : c.args.len ≤ length text = omega (arith, within, c.self.inside.text.bytes.ok.0) in
    let boundary = IsCharBoundary-from_take text c.args.len (IsUtf8-string_bytes c.self.inside.text) short front in
    (boundary.0, λ _. boundary.1)
