-- States of a disk in memory.
use Rattle.std.proofs.Common.{◌≡◌, ℕ, Bool, false, List, length, replicate, None}
use Rattle.disk_trait.specs.MemDisk.{MemState, stable_disk}

abbrev state_with : List ℕ → List ℕ → List Bool → ℕ → ℕ → MemState
state_with bytes stable pending capacity bound = record {
  bytes = bytes;
  stable = stable;
  pending = pending;
  capacity = capacity;
  bound = bound;
  changes = 0;
  calls = 0;
  fails = None;
  stops = None;
  faults = 0;
}

pub state_with-stable : (bytes b s : List ℕ) (p : List Bool) (capacity c bound : ℕ) → b ≡ bytes → s ≡ bytes → p ≡ replicate (length bytes) false → c ≡ capacity → state_with b s p c bound ≡ stable_disk bytes capacity bound
state_with-stable bytes b s p capacity c bound is_b is_s is_p is_c = cc

pub with-pending : (disk : MemState) (p q : List Bool) → p ≡ q → record disk { pending = p } ≡ record disk { pending = q }
with-pending disk p q is = cc

pub with-bytes : (disk : MemState) (b d : List ℕ) (p q : List Bool) → b ≡ d → p ≡ q → record disk { bytes = b; pending = p } ≡ record disk { bytes = d; pending = q }
with-bytes disk b d p q is is_p = cc

pub with-stable : (disk : MemState) (s : List ℕ) (p : List Bool) → s ≡ disk.bytes → p ≡ replicate (length disk.bytes) false → record disk { stable = s; pending = p } ≡ record disk { stable = disk.bytes; pending = replicate (length disk.bytes) false }
with-stable disk s p is is_p = cc
