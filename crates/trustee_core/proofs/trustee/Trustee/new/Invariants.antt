use Rattle.opening_journal.specs.Journal.{state_of}
use Rattle.trustee_core.specs.Notes.{first_notes}
use Rattle.trustee_core.proofs.trustee.Trustee.new.Given as goal

abbrev pub ghost-of : goal.ghost-of
ghost-of g a = first_notes (state_of a._seen.now)
