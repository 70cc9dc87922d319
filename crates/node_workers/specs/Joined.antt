-- Workers that were run, joined one after another.
use Rattle.std.specs.Prelude.{◌+◌, ◌-◌, ◌^◌, ◌++◌, List, [], ◌∷◌, min}
use Rattle.node_workers.specs.declared.worker.Worker.{Worker}
use Rattle.stream_io.specs.declared.totals.Totals.{Totals}
use Rattle.turn_lock.specs.Pass.{Joins, Seen}

module _ {P T X L E N : Type 0} where
  -- the numbers of a worker
  abbrev pub numbers_of : Worker P T X L E N → Totals
  numbers_of worker = record { connections = worker.connections; frames = worker.frames }

  -- these, and those of one more worker, each at most 2^32 - 1
  abbrev pub with_numbers : Totals → Worker P T X L E N → Totals
  with_numbers totals worker = record {
    connections = min (totals.connections + worker.connections) (2 ^ 32 - 1);
    frames = min (totals.frames + worker.frames) (2 ^ 32 - 1);
  }

  -- The passes of these workers are joined in this one, their numbers are added, and their ports and what each alone
  -- used come back, the last worker's first.
  pub data Joined : List (Worker P T X L E N) → Seen E N → List P → List X → Totals → Type 0 where
    joined_last : (worker : Worker P T X L E N)
        → Joined (worker ∷ []) worker.pass (worker.port ∷ []) (worker.own ∷ []) (numbers_of worker)
    joined_more : (worker : Worker P T X L E N) (workers : List (Worker P T X L E N)) (pass new : Seen E N)
        (ports : List P) (owns : List X) (totals : Totals) → Joined workers pass ports owns totals
        → Joins pass worker.pass new
        → Joined (worker ∷ workers) new (ports ++ worker.port ∷ []) (owns ++ worker.own ∷ [])
        (with_numbers totals worker)
