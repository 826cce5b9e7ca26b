-- A slash is a character of one byte.
use Rattle.std.proofs.Common.{[], ◌∷◌, arith, refl, subst, sym}
use Rattle.std.specs.Char.{encode_utf8}
use Rattle.std.specs.Str.{IsUtf8}
use Rattle.std.proofs.lemmas.Grind.{common_steps}
use Rattle.std.proofs.lemmas.Str.{IsUtf8-append}
use Rattle.relative_path.specs.Steps.{slash}
use Rattle.relative_path.proofs.bytes.append_slash.Goals as goal

pub returns-clause-text : goal.returns-clause-text
returns-clause-text c = grind (arith, common_steps)

pub returns-clause-utf8 : goal.returns-clause-utf8
unfolding encode_utf8
returns-clause-utf8 c = λ front. subst IsUtf8 (sym (returns-clause-text c)) (IsUtf8-append _ _ front (slash ∷ [], (refl, refl)))
