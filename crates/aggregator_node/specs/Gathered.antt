-- Workers that were given places, that are done, and whose passes are joined.
use Rattle.aggregator_session.specs.Desks.{DeskState}
use Rattle.std.specs.Prelude.{◌≡◌, ◌≤◌, ◌<◌, ◌+◌, ◌*◌, ◌-◌, ◌^◌, ℕ, List, All, length, map}
use Rattle.aggregator_node.specs.Clients.{IsExact}
use Rattle.aggregator_node.specs.Turns.{HasSteadyDisk}
use Rattle.aggregator_node.specs.Ports.{HasTotals, IsPortRun, Place, PortRun, faults_after, faults_before, requests_in}
use Rattle.aggregator_node.specs.Connections.{added_by, with_status}
use Rattle.aggregator_node.specs.Workers.{WorkEnds, Worked, WorkerState}
use Rattle.leaf_table.specs.declared.lease.Lease.{Lease}
use Rattle.leaf_table.specs.declared.table.TableName.{TableName}
use Rattle.stream_io.specs.declared.totals.Totals.{Totals}
use Rattle.turn_lock.specs.Lock.{Lock}
use Rattle.turn_lock.specs.Pass.{SamePass, Seen, first_pass}

-- internal: a worker of this kind, before and after it was run
pub record IsDone (desk : DeskState) (asked : ℕ) (old new : WorkerState) : Type 0 where
  pub worked : Worked desk old new
  pub small : asked < 2 ^ 32
  pub most : new.connections ≤ asked
  pub ends : WorkEnds asked new

-- internal: What the requests of these runs did to a pass in which the passes of their workers are joined. At most two
-- tickets are drawn for a request.
pub record HasDone (desk : DeskState) (lock : Lock Lease TableName) (pass : Seen Lease TableName) (runs : List PortRun)
    : Type 0 where
  pub draws : pass.draws ≤ 2 * length (requests_in runs)
  pub fresh : pass.greatest < 2 ^ 62 → with_status 16 (requests_in runs) ≡ 0
  pub rises : pass.floor < 2 ^ 64 - 1 → All (λ (run : PortRun). run.after.faults < 2 ^ 64 - 1) runs
      → faults_before runs + with_status 10 (requests_in runs) ≤ pass.rises + faults_after runs
  pub steady : HasSteadyDisk pass.name → All (λ (run : PortRun). IsExact desk run.before.reference) runs
      → with_status 10 (requests_in runs) ≡ 0
  pub own : pass.floor ≡ 0 → pass.own ≡ added_by (requests_in runs)
  pub most : length (requests_in runs) ≤ 2 ^ 49 * length runs
  pub same : SamePass (first_pass lock) pass
  pub joined : pass.joined ≡ length runs

-- internal: the pass in which the passes of these places' workers are joined
pub record Gathered (desk : DeskState) (asked : ℕ) (lock : Lock Lease TableName) (pass : Seen Lease TableName)
    (places_old places_new : List Place) (totals : Totals) : Type 0 where
  pub runs : List PortRun
  pub before : map (λ (run : PortRun). run.before) runs ≡ places_old
  pub after : map (λ (run : PortRun). run.after) runs ≡ places_new
  pub are : pass.greatest < 2 ^ 62 → All (IsPortRun desk asked lock.name lock.opening_log pass.log) runs
  pub done : HasDone desk lock pass runs
  pub totals_are : HasTotals runs totals
