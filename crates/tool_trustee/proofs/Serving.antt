-- How a service over ports ends.
use Rattle.std.proofs.Common.{◌≡◌, ◌++◌, ℕ, Bool, List, [], ◌∷◌, length, map, Option, Some, Result, Ok, Err, All, IsTrue, IfOk, OnErr, sym, ap, ◌∙◌, subst}
use Rattle.std.proofs.lemmas.List.{length-map}
use Rattle.std.proofs.lemmas.List.Elements.{All-cons, All-head, All-nil, All-tail}
use Rattle.disk_trait.specs.Faults.{Rose}
use Rattle.memory.specs.declared.NoMemory.{NoMemory}
use Rattle.share_files.specs.declared.share.Share.{Share}
use Rattle.stream_io.specs.Net.{IsNewPort, NetState, PortState, SomeUnaccepted}
use Rattle.tool_base.proofs.Heard.{heard_new}
use Rattle.tool_base.specs.Ending.{Ending}
use Rattle.tool_base.specs.World.{TimeState}
use Rattle.tool_words.specs.Words.{TrusteeWords}
use Rattle.trustee_node.specs.Connections.{ClockState, clock_state}
use Rattle.opening_journal.specs.declared.entry.Entry.{Entry}
use Rattle.trustee_node.specs.Ports.{IsPortRun, PortRun, ServedPorts, ports_run}
use Rattle.node_workers.specs.Ports.{PortEnds, failed, full, none_waits}
use Rattle.stream_io.specs.declared.totals.Totals.{Totals}
use Rattle.tool_base.specs.Services.{HasAccepted, ServiceEnds}
use Rattle.tool_trustee.specs.Nets.{IsNewClock, NetServiceEnds, Service, no_memory, served}

module _ {C : Type 0} (told : C → Bool) (answers : C → ℕ → ℕ) (time : TimeState) where
  pub dated_by : (clocks : List C) → (IsTrue time.told → All (λ clock. IsTrue (told clock)) clocks)
      → (IsTrue time.told → (j : ℕ) → All (λ clock. answers clock j ≡ time.answers j) clocks)
      → All (IsNewClock time) (map (clock_state told answers) clocks)
  dated_by [] tells same = All-nil (IsNewClock time)
  dated_by (clock ∷ clocks) tells same = All-cons (IsNewClock time) (clock_state told answers clock) (map (clock_state told answers) clocks)
      (record {
        told = λ is. All-head (λ clock. IsTrue (told clock)) clock clocks (tells is);
        answers = λ is j. All-head (λ clock. answers clock j ≡ time.answers j) clock clocks (same is j);
      })
      (dated_by clocks (λ is. All-tail (λ clock. IsTrue (told clock)) clock clocks (tells is))
      (λ is j. All-tail (λ clock. answers clock j ≡ time.answers j) clock clocks (same is j)))

accepted-by : (asked done : ℕ) (before after : PortState) → PortEnds asked done before after → before.accept_count ≡ 0 → IsTrue after.steady → after.accept_count ≡ 0
accepted-by asked done before after (full all same) none_yet is = same ∙ none_yet
accepted-by asked done before after (none_waits empty same) none_yet is = same ∙ none_yet
accepted-by asked done before after (failed rose unsteady) none_yet is = absurd (unsteady is)

module _ (share : Share) (ids : Option (List (List ℕ))) (asked : ℕ) (log last : List Entry) (net : NetState) (place : Option (List ℕ)) (is_steady : IsTrue net.steady) where
  all-accepted : (runs : List PortRun) → All (IsPortRun share ids asked log last) runs → All (IsNewPort net place) (map (λ (run : PortRun). run.before) runs)
      → All HasAccepted (map (λ (run : PortRun). run.after) runs)
  all-accepted [] are new = All-nil HasAccepted
  all-accepted (run ∷ runs) are new =
      let one = All-head (IsPortRun share ids asked log last) run runs are in
      let made = All-head (IsNewPort net place) run.before (map (λ (run : PortRun). run.before) runs) new in
      All-cons HasAccepted run.after (map (λ (run : PortRun). run.after) runs)
      (accepted-by asked (length run.served) run.before run.after one.ends made.accept_count (rw one.onward.steady (made.steady is_steady)))
      (all-accepted runs (All-tail (IsPortRun share ids asked log last) run runs are) (All-tail (IsNewPort net place) run.before (map (λ (run : PortRun). run.before) runs) new))

module _ (words : TrusteeWords) (service : Service) (ids : Option (List (List ℕ))) (same : Type 0)
    (net_old net_new : NetState) (time : TimeState) where
  pub net_ends : (ports_old ports_new : List PortState) (clocks : List ClockState) (totals : Result Totals NoMemory) (end : Ending)
      → length ports_old ≡ words.workers → (IsTrue net_old.told → IsTrue (net_old.offers words.place))
      → All (IsNewPort net_old (Some words.place)) ports_old → All (IsNewClock time) clocks
      → IfOk totals (λ totals. ServedPorts service.share ids words.connections service.old service.new (ports_run ports_old ports_new clocks) totals)
      → (IsTrue net_old.told → net_new.kept ≡ net_old.kept ++ ports_new)
      → (SomeUnaccepted ports_new → Rose net_old.port_count net_new.port_count)
      → (rest : Type 0) → OnErr totals (same × rest) → (rest → ports_new ≡ ports_old) → ServiceEnds ports_new totals end
      → NetServiceEnds words service ids same net_old net_new time end
  net_ends ports_old ports_new clocks (Ok totals) end many offered made dated serves kept deaf rest refused back ends = served end (record {
    ports_old = ports_old;
    ports_new = ports_new;
    clocks = clocks;
    totals = totals;
    many = many;
    offered = offered;
    made = made;
    dated = dated;
    served = serves;
    kept = kept;
    ends = ends;
    deaf = deaf;
    hears = λ is. subst (All HasAccepted) serves.after (all-accepted service.share ids words.connections service.old.entries service.new.entries net_old (Some words.place) is serves.runs serves.are
        (subst (All (IsNewPort net_old (Some words.place))) (sym serves.before) made));
  })
  net_ends ports_old ports_new clocks (Err none) end many offered made dated serves kept deaf rest refused back ends =
      rw ends (no_memory refused.0 (heard_new net_old net_new words.place ports_old made (λ told. kept told ∙ ap (λ l. net_old.kept ++ l) (back refused.1))))

  pub ports_many : {P : Type 0} (state : P → PortState) (ports_old ports_new : List P) (clocks : List ClockState) (totals : Result Totals NoMemory)
      → IfOk totals (λ totals. ServedPorts service.share ids words.connections service.old service.new (ports_run (map state ports_old) (map state ports_new) clocks) totals)
      → OnErr totals (same × (ports_new ≡ ports_old)) → length (map state ports_new) ≡ length (map state ports_old)
  ports_many state ports_old ports_new clocks (Ok totals) serves refused =
      ap length (sym serves.after) ∙ length-map serves.runs (λ (run : PortRun). run.after) ∙ sym (length-map serves.runs (λ (run : PortRun). run.before)) ∙ ap length serves.before
  ports_many state ports_old ports_new clocks (Err none) serves refused = ap (λ l. length (map state l)) refused.1
