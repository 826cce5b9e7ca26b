-- What a journal in memory says.
use Rattle.std.specs.Prelude.{Option, string_bytes}
use Rattle.std.specs.Option.{option_map}
use Rattle.relmove_stages.specs.States as states
use Rattle.relmove_stages_disk.specs.declared.moment.Journal.{Journal}

-- what it says
abbrev pub said_by : Journal → states.Journal
said_by journal = record { stage = journal.stage; text = string_bytes journal.text }

-- if there is one
abbrev pub said : Option Journal → Option states.Journal
said journal = option_map said_by journal
