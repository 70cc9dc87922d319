-- What a worker does with its links.
use Rattle.std.specs.Prelude.{◌≡◌, ◌≤◌, ◌+◌, ◌-◌, ◌*◌, ◌^◌, ◌++◌, ℕ, Bool, true, false, List, All, length, map, min}
use Rattle.std.specs.Prelude.{Option, None, IsTrue}
use Rattle.std.specs.List.{flat_map, sum_by}
use Rattle.share_files.specs.declared.share.Share.{Share}
use Rattle.stream_io.specs.Net.{HangsUp, IsNewLink, PortOnward, PortState}
use Rattle.stream_io.specs.Store.{RisesWhere}
use Rattle.stream_io.specs.Talk.{Ended, Talk}
use Rattle.trustee_core.specs.declared.kept.TrusteeName.{TrusteeName}
use Rattle.trustee_core.specs.declared.note.Note.{Note}
use Rattle.turn_lock.specs.Pass.{Seen}
use Rattle.trustee_node.specs.Connections.{ClockState, Conversation, EndsBy, FailsForRoom, HasRead, HasWritten}
use Rattle.trustee_node.specs.Connections.{IsDated, LinkState, ServerState, clock_state}
use Rattle.node_workers.specs.Ends.{IsLinkFault}
use Rattle.trustee_node.specs.Replies.{longest_reply, replies}
use Rattle.trustee_node.specs.Turns.{Serves, Turn, with_code}
use Rattle.node_workers.specs.declared.served.Served.{Served}
use Rattle.node_workers.specs.declared.worker.Worker.{Worker}

-- a worker in one state: its port, its pass and its clock, and what it did
pub record WorkerState : Type 0 where
  pub port : PortState
  pub pass : Seen Note TrusteeName
  pub clock : ClockState
  pub connections : ℕ
  pub frames : ℕ
  pub worn : Bool
  pub failed : Bool

-- the state of a worker whose port and clock have these members
abbrev pub worker_state : {P T C L : Type 0} → (P → PortState) → (C → Bool) → (C → ℕ → ℕ)
    → Worker P T C L Note TrusteeName → WorkerState
worker_state state told answers worker = record {
  port = state worker.port;
  pass = worker.pass;
  clock = clock_state told answers worker.own;
  connections = worker.connections;
  frames = worker.frames;
  worn = worker.worn;
  failed = worker.failed;
}

-- a link was served, and then hung up at its port
pub record ServesLink (share : Share) (ids : Option (List (List ℕ))) (old new : ServerState) (link : LinkState)
    (port_old port_new : PortState) (served : Served) : Type 0 where
  pub talk : Talk
  pub conversation : Conversation share ids old new link talk served
  pub hung : HangsUp port_old talk port_new

-- a connection that was served: its link when it was accepted, when it was hung up and when it then ended, its turns,
-- and how serving it ended
pub record Connection : Type 0 where
  pub link : Talk
  pub talk : Talk
  pub last : Talk
  pub turns : List Turn
  pub served : Served

-- The link was new at this port as the port stood by then, was served in this way, and ended in this way.
pub record IsConnection (share : Share) (port : PortState) (one : Connection) : Type 0 where
  pub by_then : PortState
  pub since : PortOnward port by_then
  pub steady : Bool
  pub accepted : IsNewLink by_then None one.link steady one.link.room
  pub read : IsTrue one.link.told → HasRead share.params one.link one.talk one.served.ended one.turns
  pub written : IsTrue one.link.told → HasWritten share one.link one.talk one.served.ended one.turns
  pub ends : EndsBy one.served.ended one.served.frames one.turns
  pub most : length one.turns ≤ 65536
  pub small : length (replies share one.turns) ≤ length one.turns * longest_reply share.params
  pub cause : RisesWhere (IsLinkFault one.served.ended) one.link.count one.talk.count
  pub fails : FailsForRoom share steady one.link.room one.served.ended one.turns
  pub told : one.talk.told ≡ one.link.told
  pub place : one.talk.place ≡ one.link.place
  pub ended : Ended one.talk one.last

-- all turns of these connections
abbrev pub turns_of : List Connection → List Turn
turns_of served = flat_map (λ (one : Connection). one.turns) served

-- how many replies were written whole in them
abbrev pub frames_of : List Connection → ℕ
frames_of served = sum_by (λ (one : Connection). one.served.frames) served

-- All of a worker, given the connections that it served, one after another: its pass, its clock and its port, its
-- numbers, and whether accepting failed. If its pass is worn, at least one ask met a worn pass.
pub record Worked (share : Share) (ids : Option (List (List ℕ))) (old new : WorkerState) : Type 0 where
  pub served : List Connection
  pub are : All (IsConnection share old.port) served
  pub serves : Serves share ids old.pass new.pass (turns_of served)
  pub dated : IsTrue old.clock.told → IsDated old.clock.answers new.clock.answers (turns_of served)
  pub talks : IsTrue old.port.told → new.port.talks ≡ old.port.talks ++ map (λ (one : Connection). one.last) served
  pub waiting : IsTrue old.port.told → old.port.waiting ≡ new.port.waiting + length served
  pub onward : PortOnward old.port new.port
  pub accepts : RisesWhere (new.failed ≡ true) old.port.accept_count new.port.accept_count
  pub clock_told : new.clock.told ≡ old.clock.told
  pub connections : new.connections ≡ length served
  pub frames : new.frames ≡ min (frames_of served) (2 ^ 32 - 1)
  pub worn : new.worn ≡ true → 1 ≤ with_code 11 (turns_of served)

-- why a worker ended: it served as many connections as it was meant to, there is no further link, accepting failed, or
-- its pass is worn
pub data WorkEnds (asked : ℕ) (new : WorkerState) : Type 0 where
  served_all : new.connections ≡ asked → new.failed ≡ false → WorkEnds asked new
  no_further : (IsTrue new.port.told → new.port.waiting ≡ 0) → new.failed ≡ false → WorkEnds asked new
  accept_failed : new.failed ≡ true → (IsTrue new.port.steady → ⊥) → WorkEnds asked new
  pass_worn : new.worn ≡ true → new.failed ≡ false → WorkEnds asked new
