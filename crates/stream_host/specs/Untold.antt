-- What is said of objects that tell nothing of their content: their counts, and the place of a port.
use Rattle.std.specs.Prelude.{◌≡◌, ℕ, false, List, [], Option, None, IsFalse}
use Rattle.stream_io.specs.Net.{NetState, PortState}
use Rattle.stream_io.specs.Store.{StoreState}
use Rattle.stream_io.specs.Talk.{Talk}

-- a stream with this count of faults
abbrev pub untold_talk : ℕ → Talk
untold_talk count = record {
  told = false;
  place = None;
  taken = [];
  left = [];
  written = [];
  room = 0;
  count = count;
}

-- a store with this count of faults, and with this one of the disks and views that were given back
abbrev pub untold_store : ℕ → ℕ → StoreState
untold_store count disk_count = record {
  told = false;
  steady = false;
  count = count;
  disk_count = disk_count;
  views = 0;
  file = λ _. None;
  leaves = λ _ _. ⊥;
  disks = λ _. record { told = false; honest = false; steady = false };
  out = λ _. None;
  readers = λ _. None;
}

-- the store tells nothing of its content, no call of it has failed, and no disk or view was given back that had failed
pub record IsNewStore (store : StoreState) : Type 0 where
  pub told : IsFalse store.told
  pub steady : IsFalse store.steady
  pub count : store.count ≡ 0
  pub disk_count : store.disk_count ≡ 0

-- a port that listens at this place, or only dials, with its count of faults and that of accepting
abbrev pub untold_port : Option (List ℕ) → ℕ → ℕ → PortState
untold_port place count accept_count = record {
  told = false;
  steady = false;
  place = place;
  count = count;
  accept_count = accept_count;
  waiting = 0;
  reaches = λ _. false;
  room = 0;
  talks = [];
}

-- a net with its count of faults and that of its ports
abbrev pub untold_net : ℕ → ℕ → NetState
untold_net count port_count = record {
  told = false;
  steady = false;
  count = count;
  port_count = port_count;
  offers = λ _. false;
  room = 0;
  out = 0;
  kept = [];
}
