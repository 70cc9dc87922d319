-- Workers before they are run.
use Rattle.std.specs.Prelude.{◌++◌, false, List, [], ◌∷◌}
use Rattle.node_workers.specs.declared.worker.Worker.{Worker}
use Rattle.turn_lock.specs.Pass.{Seen}

module _ {P T X L E N : Type 0} (pass : Seen E N) where
  -- a worker of this port, with this of its own, that has done nothing
  abbrev pub fresh_worker : P → X → Worker P T X L E N
  fresh_worker port own = record {
    port = port;
    pass = pass;
    own = own;
    connections = 0;
    frames = 0;
    worn = false;
    failed = false;
  }

  -- one for each port, with what stands at the same place; the worker of the first port is the last one
  unfoldable pub fresh_workers : List P → List X → List (Worker P T X L E N)
  fresh_workers [] owns = []
  fresh_workers (port ∷ ports) [] = []
  fresh_workers (port ∷ ports) (own ∷ owns) = fresh_workers ports owns ++ fresh_worker port own ∷ []
