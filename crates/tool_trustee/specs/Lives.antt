-- All runs of `trustee` over one journal.
use Rattle.std.specs.Prelude.{◌≡◌, ◌≤◌, ◌++◌, ℕ, List, [], map, Some, IsTrue}
use Rattle.opening_journal.specs.Entries.{JournalState}
use Rattle.share_files.specs.declared.share.Share.{Share}
use Rattle.stream_io.specs.Net.{NetState}
use Rattle.stream_io.specs.Store.{StoreState}
use Rattle.tool_base.specs.Ending.{Ending}
use Rattle.tool_base.specs.World.{Outside, TimeState}
use Rattle.tool_trustee.specs.Journals.{StandsAs}
use Rattle.tool_trustee.specs.Trustee.{ServedTrustee}
use Rattle.tool_words.specs.Words.{TrusteeWords}
use Rattle.trustee_node.specs.Turns.{Turn}
use Rattle.trustee_node.specs.Workers.{turns_of}
use Rattle.trustee_node.specs.Ports.{PortRun}

-- the turns of a run, port by port
abbrev pub passes_of : {words : TrusteeWords} {before after : Outside} {end : Ending}
    → ServedTrustee words before after end → List (List Turn)
passes_of run = map (λ (port : PortRun). turns_of port.served) run.net.served.runs

-- what its journal stands for at the end
abbrev pub left_by : {words : TrusteeWords} {before after : Outside} {end : Ending}
    → ServedTrustee words before after end → JournalState
left_by run = record { entries = run.new.entries; doubt = run.doubt }

-- Runs of `trustee` over one journal, one after another, from what the journal stands for before the first: each begins
-- with a file that stands for what the run before it left, whether it is the file at its end or what a crash made of
-- it. Store, net, time, words and book may differ in each run.
pub data ServedRuns (share : Share) {S : Type 0} (store : S → StoreState)
    : JournalState → List (List Turn) → Type 0 where
  no_run : (state : JournalState) → ServedRuns share store state []
  one_run : (state : JournalState) (words : TrusteeWords) (before after : S) (net_old net_new : NetState)
      (time later : TimeState) (end : Ending)
      (run : ServedTrustee words (record { store = store before; net = net_old; time = time })
      (record { store = store after; net = net_new; time = later }) end) (rest : List (List Turn))
      → run.share ≡ share → 1 ≤ words.workers → IsTrue (store before).told
      → ((file : List ℕ) → (store before).file words.journal ≡ Some file → StandsAs share state file)
      → ServedRuns share store (left_by run) rest → ServedRuns share store state (passes_of run ++ rest)
