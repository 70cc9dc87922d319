-- What a worker did.
use Rattle.std.specs.Prelude.{◌≡◌, ◌+◌, ◌-◌, ◌^◌, Bool, true, false, IsTrue, min}
use Rattle.node_workers.specs.declared.served.Served.{Served}
use Rattle.node_workers.specs.declared.worker.Worker.{Worker}
use Rattle.stream_io.specs.Net.{PortState, SameLinks}
use Rattle.turn_lock.specs.Lock.{Lock}
use Rattle.turn_lock.specs.Pass.{Seen}

-- the pass is of this lock, and holds no turn
abbrev pub IsFree : {E N : Type 0} → Lock E N → Seen E N → Type 0
IsFree lock pass = (pass.lock ≡ lock) × (pass.in_turn ≡ false)

-- a worker that has served one more connection, after which its pass is worn if this says so
abbrev pub counted : {P T C L E N : Type 0} → Worker P T C L E N → Served → Bool → Worker P T C L E N
counted worker served worn = record worker {
  connections = worker.connections + 1;
  frames = min (worker.frames + served.frames) (2 ^ 32 - 1);
  worn = worn;
}

-- a port gave no link: no further one will come, or accepting failed if this says so
pub record NoLink (old new : PortState) (failed : Bool) : Type 0 where
  pub links : SameLinks old new
  pub none_waits : failed ≡ false → IsTrue new.told → new.waiting ≡ 0
  pub unsteady : failed ≡ true → IsTrue new.steady → ⊥
