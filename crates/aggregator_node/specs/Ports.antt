-- Ports at which the clients of one table were served, all side by side.
use Rattle.std.specs.Prelude.{◌≡◌, ◌≤◌, ◌<◌, ◌+◌, ◌-◌, ◌^◌, ℕ, Bool, List, All, length, map, min, count_by, IsTrue}
use Rattle.std.specs.Prelude.{Option, Some}
use Rattle.std.specs.List.{flat_map, sum_by, zip}
use mathlib.Core.List.{IsPrefix}
use Rattle.aggregator_node.specs.Clients.{IsExact, ReferenceState, Request, SameReference}
use Rattle.aggregator_node.specs.Connections.{Connection, Works, added_by, frames_of, requests_of, with_status}
use Rattle.disk_trait.specs.declared.faults.Faults as faults
use Rattle.leaf_table.specs.declared.lease.Lease.{Lease}
use Rattle.leaf_table.specs.declared.table.TableName.{TableName}
use Rattle.aggregator_session.specs.Desks.{DeskState}
use Rattle.aggregator_session.specs.Tables.{TableSeen}
use Rattle.reference_value.specs.declared.cells.Cells as cells
use Rattle.stream_io.specs.Net.{PortOnward, PortState}
use Rattle.node_workers.specs.Ports.{PortEnds}
use Rattle.stream_io.specs.declared.totals.Totals.{Totals}
use Rattle.turn_lock.specs.Pass.{Seen}

-- a port, the reference that its worker reads, and the count of faults of that
pub record Place : Type 0 where
  pub port : PortState
  pub reference : ReferenceState
  pub faults : ℕ

module _ {X : Type 0} (c : cells.Ghosts X) (f : faults.Ghosts X) where
  -- cells seen as a reference
  abbrev pub reference_state : X → ReferenceState
  reference_state own = record { told = c.told own; steady = f.steady own; leaves = c.leaves own }

  -- these ports and these cells as places, one to one
  abbrev pub places_of : {P : Type 0} → (P → PortState) → List P → List X → List Place
  places_of state ports own = map (λ both. record {
    port = state both.0;
    reference = reference_state both.1;
    faults = f.count both.1;
  }) (zip ports own)

-- a place before and after, and the connections that were served at it
pub record PortRun : Type 0 where
  pub before : Place
  pub after : Place
  pub served : List Connection

-- A port was served: the worker's connections had their turns one after the other, by a pass that began with this name
-- and this log, and whose log at the end begins the last one.
pub record IsPortRun (desk : DeskState) (asked : ℕ) (name : Option TableName) (log last : List Lease) (run : PortRun)
    : Type 0 where
  pub first : Seen Lease TableName
  pub done : Seen Lease TableName
  pub named : first.name ≡ name
  pub begins : first.log ≡ log
  pub stands : IsPrefix done.log last
  pub works : Works desk run.before.reference
      (record { pass = first; port = run.before.port; faults = run.before.faults }) run.served
      (record { pass = done; port = run.after.port; faults = run.after.faults })
  pub same : SameReference run.before.reference run.after.reference
  pub onward : PortOnward run.before.port run.after.port
  pub most : length run.served ≤ asked
  pub ends : PortEnds asked (length run.served) run.before.port run.after.port

-- all requests of these runs
abbrev pub requests_in : List PortRun → List Request
requests_in runs = flat_map (λ (run : PortRun). requests_of run.served) runs

-- the counts of faults of all references, before
abbrev pub faults_before : List PortRun → ℕ
faults_before runs = sum_by (λ (run : PortRun). run.before.faults) runs

-- and after
abbrev pub faults_after : List PortRun → ℕ
faults_after runs = sum_by (λ (run : PortRun). run.after.faults) runs

-- What failures say about the devices: the number of replies with failure 10 is no more than the counts of the table's
-- disk and of the references rose together, and 0 if all are steady and give what they have. No pass is worn.
pub record HasFailures (desk : DeskState) (old new : TableSeen) (runs : List PortRun) : Type 0 where
  pub rises : new.faults < 2 ^ 64 - 1 → All (λ (run : PortRun). run.after.faults < 2 ^ 64 - 1) runs
      → old.faults + faults_before runs + with_status 10 (requests_in runs) ≤ new.faults + faults_after runs
  pub steady : IsTrue new.name.steady → IsTrue new.name.told
      → All (λ (run : PortRun). IsExact desk run.before.reference) runs → with_status 10 (requests_in runs) ≡ 0
  pub worn : with_status 16 (requests_in runs) ≡ 0

-- how many connections these runs had, and how many replies were written whole in them, each at most 2^32 - 1
pub record HasTotals (runs : List PortRun) (totals : Totals) : Type 0 where
  pub connections :
      totals.connections ≡ min (sum_by (λ (run : PortRun). length run.served) runs) (2 ^ 32 - 1)
  pub frames : totals.frames ≡ min (sum_by (λ (run : PortRun). frames_of run.served) runs) (2 ^ 32 - 1)

-- What serving clients at these places did to a table and to them, in their order. If there was no fault, each entry is
-- in the last log as often as in the first one and in what the requests added together.
pub record ServedClients (desk : DeskState) (asked : ℕ) (old new : TableSeen) (places_old places_new : List Place)
    (totals : Totals) : Type 0 where
  pub runs : List PortRun
  pub before : map (λ (run : PortRun). run.before) runs ≡ places_old
  pub after : map (λ (run : PortRun). run.after) runs ≡ places_new
  pub are : All (IsPortRun desk asked (Some old.name) old.state.entries new.state.entries) runs
  pub failures : HasFailures desk old new runs
  pub adds : new.faults ≡ 0 → (test : Lease → Bool)
      → count_by test new.state.entries
      ≡ count_by test old.state.entries + count_by test (added_by (requests_in runs))
  pub totals_are : HasTotals runs totals
