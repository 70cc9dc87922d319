-- The buffers of a disk in memory, and the state that they stand for.
use Rattle.std.specs.Prelude.{◌≡◌, ℕ, ◌≤◌, ◌<◌, Bool, true, false, List, length, take, slice_index, slice_index_or}
use Rattle.disk_trait.specs.MemDisk.{MemState}
use Rattle.disk_trait.specs.declared.mem_disk.MemDisk.TheInside.{Inside}

abbrev pub state_of : Inside → MemState
state_of disk = record {
  bytes = take disk.len disk.bytes.items;
  stable = take disk.stable_len disk.stable.items;
  pending = take disk.len disk.pending.items;
  capacity = length disk.bytes.items;
  bound = disk.bound;
  changes = disk.changes;
  calls = disk.calls;
  fails = disk.fails;
  stops = disk.stops;
  faults = disk.faults;
}

-- each of the first bytes that is not pending is as at the last sync
pub record AgreeBelow (len stable_len : ℕ) (bytes stable : List ℕ) (pending : List Bool) : Type 0 where
  pub within : (k : ℕ) → k < len → slice_index_or pending k true ≡ false → k < stable_len
  pub same : (k : ℕ) → k < len → slice_index_or pending k true ≡ false → slice_index bytes k ≡ slice_index stable k

pub record IsWhole (disk : Inside) : Type 0 where
  pub stable_size : length disk.stable.items ≡ length disk.bytes.items
  pub pending_size : length disk.pending.items ≡ length disk.bytes.items
  pub stable_within : disk.stable_len ≤ disk.len
  pub within : disk.len ≤ length disk.bytes.items
  pub agree : AgreeBelow disk.len disk.stable_len disk.bytes.items disk.stable.items disk.pending.items
