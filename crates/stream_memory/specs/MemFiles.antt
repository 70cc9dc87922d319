-- What a file in memory stands for. The proof stands with the definitions, since the toolchain requires whatever an
-- implementation names to be among them.
use Rattle.std.specs.Prelude.{ℕ, ◌≡◌, ◌≤◌, length, max}
use Rattle.std.proofs.Common.{arith}
use Rattle.disk_trait.specs.MemDisk.{MemState, is_steady}

-- how many bytes there is room for: the capacity, which no disk exceeds
abbrev pub room_of : MemState → ℕ
room_of disk = max disk.capacity (length disk.bytes)

-- what is there fits in the room
pub has_room : (disk : MemState) → length disk.bytes ≤ room_of disk
has_room disk = omega arith

-- internal: whether calls are listed to fail, and what there is room for, are as they were
pub record SameLimits (old new : MemState) : Type 0 where
  pub steady : is_steady new ≡ is_steady old
  pub room : new.capacity ≡ old.capacity
