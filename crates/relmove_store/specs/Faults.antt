-- Which fault a text is that isn't read as a journal.
use Rattle.relmove_journal.specs.declared.error.JournalError.{JournalError}
use Rattle.relmove_journal.specs.declared.error.JournalError.TheVariants as errors
use Rattle.relmove_store.specs.declared.fault.RunFault.{RunFault}
use Rattle.relmove_store.specs.declared.fault.RunFault.TheVariants.{OutOfMemory, NotAJournal, OldJournal}

-- the fault of the same name
abbrev pub fault_of_error : JournalError → RunFault
fault_of_error errors.OutOfMemory = OutOfMemory
fault_of_error errors.NotAJournal = NotAJournal
fault_of_error errors.OldJournal = OldJournal
