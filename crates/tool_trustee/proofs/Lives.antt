-- All runs of one journal.
use Rattle.std.proofs.Common.{◌≤◌, ◌^◌, ◌++◌, ◌∷◌, [], ℕ, List, All, length, inl, inr, refl, sym, ap, ◌∙◌, subst, arith}
use Rattle.std.proofs.lemmas.List.{length-map}
use mathlib.Core.List.{IsPrefix}
use Rattle.opening_journal.specs.Entries.{HasEntries, JournalState, StandsFor}
use Rattle.opening_journal.specs.declared.entry.Entry.{Entry}
use Rattle.share_files.specs.declared.share.Share.{Share}
use Rattle.stream_io.specs.Store.{StoreState}
use Rattle.tool_trustee.specs.Journals.{IsJournal}
use Rattle.tool_trustee.specs.Lives.{ServedRuns, left_by, no_run, one_run, passes_of}
use Rattle.trustee_core.specs.Lives.{OneOpening}
use Rattle.trustee_node.specs.Places as node
use Rattle.trustee_node.specs.Places.{IsLegal, Runs, StandUnder, granted_by}
use Rattle.trustee_node.specs.Turns.{Turn}
use Rattle.trustee_node.proofs.Opening.{one-opening-of-runs}
use Rattle.trustee_node.specs.Ports.{PortRun}
use Rattle.trustee_node.proofs.PortOpening.{runs-begin, runs-stand}

-- a run that begins with a file that stands for the state
run_on : (share : Share) (state left last : JournalState) (entries : List Entry) (file : List ℕ) (passes rest : List (List Turn))
    → StandsFor share.params.n (2 ^ share.params.h) file state → HasEntries share.params.n (2 ^ share.params.h) file entries
    → IsPrefix entries left.entries → IsLegal left → All (StandUnder share left.entries) passes → Runs share left rest last → Runs share state (passes ++ rest) last
run_on share state left last entries file passes rest (inl has) own begins legal stand more =
    node.run state left last state.entries entries passes rest (inl refl) (λ leaf below. sym (own leaf below) ∙ has leaf below) begins legal stand more
run_on share state left last entries file passes rest (inr made) own begins legal stand more =
    node.run state left last (state.entries ++ made.0 ∷ []) entries passes rest (inr (made.0, made.1, refl)) (λ leaf below. sym (own leaf below) ∙ made.2 leaf below) begins legal stand more

module _ (share : Share) {S : Type 0} (store : S → StoreState) where
  to_runs : (state : JournalState) (passes : List (List Turn)) → ServedRuns share store state passes → (last : JournalState) × Runs share state passes last
  to_runs state _ (no_run at) = (state, node.stopped state)
  to_runs state _ (one_run at words before after net_old net_new time later end run rest mine some told begins more) =
      let goes = to_runs (left_by run) rest more in
      let read = run.trustee_is.journal_is in
      let own : IsJournal share run.old.entries read.file = subst (λ (s : Share). IsJournal s run.old.entries read.file) mine (read.is told) in
      let runs = run.net.served.runs in
      let many : 1 ≤ length runs =
      (let a = length-map runs (λ (port : PortRun). port.before) in let b = ap length run.net.served.before in let c = run.net.many in omega (arith, a, b, c, some)) in
      let grows = runs-begin run.share run.ids words.connections run.old.entries run.new.entries runs many run.net.served.are in
      let stand : All (StandUnder share run.new.entries) (passes_of run) =
      subst (λ (s : Share). All (StandUnder s run.new.entries) (passes_of run)) mine (runs-stand run.share run.ids words.connections run.old.entries run.new.entries runs run.net.served.are) in (
        goes.0,
        run_on share state (left_by run) goes.0 run.old.entries read.file (passes_of run) rest (begins read.file (read.is_read told)).stands own.has grows run.left.legal stand goes.1,
      )

  pub one_opening : (state : JournalState) (passes : List (List Turn)) → IsLegal state → ServedRuns share store state passes → OneOpening share (granted_by passes)
  one_opening state passes legal runs = let goes = to_runs state passes runs in one-opening-of-runs share state goes.0 passes legal goes.1
