-- What the worker of a port has done.
use Rattle.std.specs.Prelude.{◌≡◌, ◌≤◌, ◌*◌, ◌-◌, ◌^◌, ℕ, Bool, true, false, List, length, min, IsTrue}
use Rattle.aggregator_node.specs.Clients.{HasEnded, ReferenceState, Request, SameReference, Serves}
use Rattle.aggregator_node.specs.Turns.{IsIdle}
use Rattle.aggregator_node.specs.Ports.{reference_state}
use Rattle.aggregator_node.specs.Connections.{Connection, WorkerParts, Works, frames_of, requests_of}
use Rattle.disk_trait.specs.declared.faults.Faults as faults
use Rattle.leaf_table.specs.declared.lease.Lease.{Lease}
use Rattle.leaf_table.specs.declared.table.TableName.{TableName}
use Rattle.aggregator_session.specs.Desks.{DeskState, ReadsFor}
use Rattle.aggregator_session.specs.declared.desk.Desk.{Desk}
use Rattle.reference_value.specs.declared.cells.Cells as cells
use Rattle.stream_io.specs.Net.{HangsUp, PortOnward, PortState}
use Rattle.stream_io.specs.Store.{RisesWhere}
use Rattle.stream_io.specs.Talk.{Talk}
use Rattle.node_workers.specs.declared.served.Served.{Served}
use Rattle.node_workers.specs.declared.worker.Worker.{Worker}
use Rattle.turn_lock.specs.Lock.{Lock}
use Rattle.turn_lock.specs.Pass.{Seen}

-- a worker in one state: where it stands, the reference that it reads, and what it did
pub record WorkerState : Type 0 where
  pub parts : WorkerParts
  pub reference : ReferenceState
  pub connections : ℕ
  pub frames : ℕ
  pub worn : Bool
  pub failed : Bool

-- the state of a worker whose port and cells have these members
abbrev pub worker_state : {P T X L : Type 0} → (P → PortState) → cells.Ghosts X → faults.Ghosts X
    → Worker P T X L Lease TableName → WorkerState
worker_state state c f worker = record {
  parts = record { pass = worker.pass; port = state worker.port; faults = f.count worker.own };
  reference = reference_state c f worker.own;
  connections = worker.connections;
  frames = worker.frames;
  worn = worker.worn;
  failed = worker.failed;
}

-- messages can be signed by this pass with these cells: the pass is idle, and the cells are of the desk's set and plan
pub record IsReady {X : Type 0} (c : cells.Ghosts X) (lock : Lock Lease TableName) (desk : Desk)
    (pass : Seen Lease TableName) (own : X) : Type 0 where
  pub idle : IsIdle lock desk.plan.now pass
  pub reads : ReadsFor c desk own

-- internal: a link, steady if this says so, was served from where the worker stood, and hung up where it stands now
pub record HasServedLink (desk : DeskState) (reference : ReferenceState) (old new : WorkerParts) (link : Talk)
    (steady : Bool) (served : Served) : Type 0 where
  pub talk : Talk
  pub requests : List Request
  pub done : PortState
  pub serves : Serves desk reference
      (record { pass = old.pass; port = old.port; faults = old.faults; talk = link }) requests served.frames
      served.ended (record { pass = new.pass; port = done; faults = new.faults; talk = talk })
  pub ends : HasEnded desk.key.params steady link.room served
  pub hung_up : HangsUp done talk new.port
  pub onward : PortOnward done new.port

-- Everything about a worker: its connections, one after the other, its numbers, and whether accepting failed. A worn
-- pass has drawn a ticket of 2^62 or more.
pub record Worked (desk : DeskState) (old new : WorkerState) : Type 0 where
  pub served : List Connection
  pub works : Works desk old.reference old.parts served new.parts
  pub few : length (requests_of served) ≤ 65537 * length served
  pub same : SameReference old.reference new.reference
  pub onward : PortOnward old.parts.port new.parts.port
  pub accepts : RisesWhere (new.failed ≡ true) old.parts.port.accept_count new.parts.port.accept_count
  pub connections : new.connections ≡ length served
  pub frames : new.frames ≡ min (frames_of served) (2 ^ 32 - 1)
  pub worn : new.worn ≡ true → 2 ^ 62 ≤ new.parts.pass.greatest

-- why a worker ended: it served as many connections as it was to, there is no further link, accepting failed, or its
-- pass is worn
pub data WorkEnds (asked : ℕ) (new : WorkerState) : Type 0 where
  served_all : new.connections ≡ asked → new.failed ≡ false → WorkEnds asked new
  no_further : (IsTrue new.parts.port.told → new.parts.port.waiting ≡ 0) → new.failed ≡ false → WorkEnds asked new
  accept_failed : new.failed ≡ true → (IsTrue new.parts.port.steady → ⊥) → WorkEnds asked new
  pass_worn : new.worn ≡ true → new.failed ≡ false → WorkEnds asked new
