use Rattle.std.proofs.Common.{◌≡◌, ◌^◌, [], None, subst}
use Rattle.opening_journal.specs.Entries.{JournalState, StandsFor}
use Rattle.opening_journal.specs.Journal.{IsTold, disk_of, state_of}
use Rattle.share_files.specs.declared.share.Share.{Share}
use Rattle.trustee_core.specs.Lives.{Lives}
use Rattle.trustee_core.proofs.trustee.Trustee.of_keeper.Goals as goal

pub returns-clause-restarts : goal.returns-clause-restarts
returns-clause-restarts g c =
    let journal = c.args.journal in
    subst (λ (share : Share). IsTold journal → (state_of journal).doubt ≡ None → (earlier : JournalState)
    → StandsFor share.params.n (2 ^ share.params.h) (g.D.Pages.reads (disk_of journal)) earlier → Lives share earlier [] (state_of journal))
    c.share.ensures c.new.ensures.restarts
