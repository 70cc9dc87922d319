use Rattle.std.proofs.Common.{◌≡◌, ◌^◌, List, subst, sym}
use Rattle.lms_bytes.specs.declared.params.Params.{Params}
use Rattle.opening_journal.proofs.Held.{holds}
use Rattle.opening_journal.specs.Entries.{StandsFor}
use Rattle.opening_journal.specs.Journal.{disk_of, state_of}
use Rattle.trustee_core.specs.Notes.{HasNote, entries_in}
use Rattle.trustee_core.specs.declared.note.Note.{Note}
use Rattle.trustee_core.specs.declared.note.Note.TheVariants.{Doubted}
use Rattle.trustee_core.proofs.NoteLists.{entries-first, first-doubt}
use Rattle.trustee_core.proofs.Restarting.{restarts}
use Rattle.trustee_core.proofs.trustee.Trustee.new.Goals as goal

pub returns-clause-restarts : goal.returns-clause-restarts
returns-clause-restarts g c = λ told none old stands.
    let journal = c.args.journal in
    let file = g.D.Pages.reads (disk_of journal) in
    let now = subst (λ (q : Params). StandsFor q.n (2 ^ q.h) file (state_of journal)) c.requires.params ((holds journal).reads told).stands in
    restarts c.args.share c.args.share.params.n file old (state_of journal) none now stands

pub invariant_of-result-clause-made : goal.invariant_of-result-clause-made
invariant_of-result-clause-made g c =
    subst (λ (n : List Note). entries_in n ≡ (state_of c.args.journal).entries) (sym c.of-log.ensures) (entries-first (state_of c.args.journal))

pub invariant_of-result-clause-doubted : goal.invariant_of-result-clause-doubted
invariant_of-result-clause-doubted g c = λ entry is.
    subst (λ (n : List Note). HasNote n (Doubted entry)) (sym c.of-log.ensures) (first-doubt (state_of c.args.journal) entry is)
