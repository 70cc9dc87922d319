use Rattle.opening_journal.specs.Journal.{state_of}
use Rattle.trustee_core.proofs.Noting.{noted}
use Rattle.trustee_core.proofs.trustee.Trustee.enter.Given as goal

abbrev pub ghost-of : goal.ghost-of
ghost-of g a =
    let seen = a._seen.now in
    noted seen.log.value.notes (state_of seen.journal.value).entries seen.ask.value seen.moment seen.result.value
