use Rattle.character_names.specs.Names.{characters_of, rows}
use Rattle.character_names.proofs.TableLemmas.{is_table-NAMES}
use Rattle.character_names.proofs.names.characters_of.Goals as goal

pub find-requires : goal.find-requires
find-requires c = is_table-NAMES

pub returns : goal.returns
unfolding characters_of rows
returns c = record { characters = c.find.ensures }
