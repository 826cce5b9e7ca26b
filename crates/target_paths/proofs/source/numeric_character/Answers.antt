use Rattle.std.proofs.Common.{◌∙◌}
use Rattle.target_paths.specs.CharacterReferences.{body_number}
use Rattle.target_paths.proofs.NumbersLemmas.{character_unless_replaced-found}
use Rattle.target_paths.proofs.source.numeric_character.Goals as goal

pub returns : goal.returns
returns c =
    c.character_unless_replaced.ensures
    ∙ character_unless_replaced-found c.args.syntax (body_number c.args.body.now) c.in_ok-number.field-0 c.in_ok-number.ensures
