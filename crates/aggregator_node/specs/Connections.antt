-- What a worker does with the links of its clients.
use Rattle.std.specs.Prelude.{◌==◌, ℕ, Bool, List, [], ◌∷◌, Result, Ok, Err, if◌then◌else◌}
use Rattle.std.specs.List.{flat_map, sum_by}
use Rattle.aggregator_session.specs.Desks.{DeskState}
use Rattle.aggregator_session.specs.declared.fault.SignFault.{SignFault}
use Rattle.aggregator_node.specs.Clients.{HasEnded, ReferenceState, Request, Serves}
use Rattle.aggregator_node.specs.Failures.{failure_of}
use Rattle.leaf_table.specs.declared.lease.Lease.{Lease}
use Rattle.leaf_table.specs.declared.table.TableName.{TableName}
use Rattle.aggregator_session.specs.Signing.{Signature}
use Rattle.stream_io.specs.Net.{Accepts, KeepsTalk, PortOnward, PortState, SameLinks}
use Rattle.stream_io.specs.Talk.{Ended, Talk}
use Rattle.node_workers.specs.declared.served.Served.{Served}
use Rattle.turn_lock.specs.Pass.{Seen}

-- where a worker stands: what its pass has seen, its port, and the count of faults of the reference that it reads
pub record WorkerParts : Type 0 where
  pub pass : Seen Lease TableName
  pub port : PortState
  pub faults : ℕ

-- a client's connection: its link as it was accepted, as it was hung up and as it then ended, its requests, and how
-- serving it ended
pub record Connection : Type 0 where
  pub link : Talk
  pub talk : Talk
  pub last : Talk
  pub requests : List Request
  pub served : Served

-- A link was accepted, served and hung up. The members of its requests were dialled from the same port.
pub record ServesLink (desk : DeskState) (reference : ReferenceState) (old new : WorkerParts) (one : Connection)
    : Type 0 where
  pub steady : Bool
  pub begun : PortState
  pub done : PortState
  pub accepted : Accepts old.port one.link steady one.link.room begun
  pub serves : Serves desk reference
      (record { pass = old.pass; port = begun; faults = old.faults; talk = one.link })
      one.requests one.served.frames one.served.ended
      (record { pass = new.pass; port = done; faults = new.faults; talk = one.talk })
  pub ends : HasEnded desk.key.params steady one.link.room one.served
  pub ended : Ended one.talk one.last
  pub kept : KeepsTalk done one.last new.port
  pub onward : PortOnward old.port new.port

-- no link was accepted, and none was asked for any more
pub record Leaves (old new : PortState) : Type 0 where
  pub links : SameLinks old new
  pub onward : PortOnward old new

-- A worker's connections, one after the other, from where it stood to where it stands.
pub data Works (desk : DeskState) (reference : ReferenceState)
    : WorkerParts → List Connection → WorkerParts → Type 0 where
  left : (old : WorkerParts) (port : PortState) → Leaves old.port port
      → Works desk reference old [] (record old { port = port })
  next : (old mid new : WorkerParts) (one : Connection) (others : List Connection)
      → ServesLink desk reference old mid one → Works desk reference mid others new
      → Works desk reference old (one ∷ others) new

-- all requests of these connections
abbrev pub requests_of : List Connection → List Request
requests_of served = flat_map (λ (one : Connection). one.requests) served

-- how many replies were written whole in them
abbrev pub frames_of : List Connection → ℕ
frames_of served = sum_by (λ (one : Connection). one.served.frames) served

-- what requests added to the table's log
abbrev pub added_by : List Request → List Lease
added_by requests = flat_map (λ (request : Request). request.added) requests

-- the status that a client is told for an outcome, and 0 for a signature
abbrev pub status_of : Result Signature SignFault → ℕ
status_of (Ok signature) = 0
status_of (Err fault) = (failure_of fault).status

-- how many of these requests came to this status
abbrev pub with_status : ℕ → List Request → ℕ
with_status status requests =
    sum_by (λ (request : Request). if status_of request.outcome == status then 1 else 0) requests
