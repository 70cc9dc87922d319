-- What a disk in memory stands for, its calls, and what a crash leaves of it.
use Rattle.std.specs.Prelude.{◌≡◌, ◌==◌, ◌&&◌, ◌||◌, ℕ, ◌+◌, ◌-◌, ◌^◌, ◌%◌, ◌≤◌, ◌<◌, min, Bool, true, false, not}
use Rattle.std.specs.Prelude.{if◌then◌else◌, nat_lt, nat_le, List, [], ◌∷◌, ◌++◌, length, take, drop, replicate}
use Rattle.std.specs.Prelude.{slice_index, slice_index_or, Option, None, Some, is_none}
use Rattle.disk_trait.specs.Images.{written}
use Rattle.disk_trait.specs.Generator.{state_after, draw_of}

pub record MemState : Type 0 where
  -- what a read gives
  pub bytes : List ℕ
  -- what it gave at the last sync that succeeded
  pub stable : List ℕ
  -- of each byte, whether a write has named it since
  pub pending : List Bool
  pub capacity : ℕ
  -- how many writes and syncs may succeed: 2 ^ 64 - 1 sets no bound
  pub bound : ℕ
  -- how many writes and syncs there were
  pub changes : ℕ
  -- how many calls there were
  pub calls : ℕ
  -- the number of the call that fails
  pub fails : Option ℕ
  -- the number of the first call of those that fail from then on
  pub stops : Option ℕ
  pub faults : ℕ

-- a disk that has these bytes, all of them stable, and was never called
abbrev pub stable_disk : List ℕ → ℕ → ℕ → MemState
stable_disk bytes capacity bound = record {
  bytes = bytes;
  stable = bytes;
  pending = replicate (length bytes) false;
  capacity = capacity;
  bound = bound;
  changes = 0;
  calls = 0;
  fails = None;
  stops = None;
  faults = 0;
}

-- no call is listed, and no bound is set
abbrev pub is_steady : MemState → Bool
is_steady disk = is_none disk.fails && is_none disk.stops && (disk.bound == 2 ^ 64 - 1)

-- a count of 64 bits, which stands still at its end
abbrev pub counted : ℕ → ℕ
counted n = if nat_lt n (2 ^ 64 - 1) then n + 1 else n

abbrev pub is_call : Option ℕ → ℕ → Bool
is_call None call = false
is_call (Some listed) call = call == listed

abbrev pub is_from : Option ℕ → ℕ → Bool
is_from None call = false
is_from (Some listed) call = nat_le listed call

-- the call that comes is listed to fail
abbrev pub is_listed : MemState → Bool
is_listed disk = is_call disk.fails disk.calls || is_from disk.stops disk.calls

-- as many writes and syncs as may succeed are made
abbrev pub is_spent : MemState → Bool
is_spent disk = not (disk.bound == 2 ^ 64 - 1) && nat_le disk.bound disk.changes

-- a read fails if it is listed, or if it reaches past the end
abbrev pub read_fails : MemState → ℕ → ℕ → Bool
read_fails disk at n = is_listed disk || nat_lt (length disk.bytes) (at + n)

-- a sync fails if it is listed, or past the bound
abbrev pub sync_fails : MemState → Bool
sync_fails disk = is_listed disk || is_spent disk

-- a write begins within what is there, and ends within the capacity
abbrev pub has_room : MemState → ℕ → ℕ → Bool
has_room disk at n = nat_le at (length disk.bytes) && nat_le (at + n) disk.capacity

-- a write fails if a sync would, or if it has no room
abbrev pub write_fails : MemState → ℕ → ℕ → Bool
write_fails disk at n = sync_fails disk || not (has_room disk at n)

-- after a call, given whether it failed
abbrev pub called : Bool → MemState → MemState
called failed disk = record disk {
  calls = counted disk.calls;
  faults = if failed then counted disk.faults else disk.faults;
}

-- after a write or a sync
abbrev pub changed : Bool → MemState → MemState
changed failed disk = record (called failed disk) { changes = counted disk.changes }

-- the bytes of a range are pending
abbrev pub named : List Bool → ℕ → ℕ → List Bool
named pending at n = take at pending ++ replicate (min n (length pending - at)) true ++ drop (at + n) pending

-- after a write that succeeded, and after one that failed
abbrev pub with_written : MemState → ℕ → List ℕ → MemState
with_written disk at bytes = record (changed false disk) {
  bytes = written disk.bytes at bytes;
  pending = written disk.pending at (replicate (length bytes) true);
}

abbrev pub with_named : MemState → ℕ → ℕ → MemState
with_named disk at n = record (changed true disk) { pending = named disk.pending at n }

-- after a sync that succeeded
abbrev pub with_stable : MemState → MemState
with_stable disk = record (changed false disk) { stable = disk.bytes; pending = replicate (length disk.bytes) false }

-- A crash may leave this: no byte differs except those that are pending, and the length is between that of the last
-- sync and the present one, which is no shorter.
pub record IsImage (bytes stable : List ℕ) (pending : List Bool) (image : List ℕ) : Type 0 where
  pub no_shorter : min (length stable) (length bytes) ≤ length image
  pub no_longer : length image ≤ length bytes
  pub others : (k : ℕ) → k < length image → slice_index_or pending k true ≡ false
      → slice_index image k ≡ slice_index bytes k

abbrev pub MayLeave : MemState → List ℕ → Type 0
MayLeave disk image = IsImage disk.bytes disk.stable disk.pending image

-- the pending bytes are the low bytes of the draws that begin with this state
abbrev pub filled : List ℕ → List Bool → ℕ → List ℕ
filled [] pending state = []
filled (byte ∷ bytes) [] state = byte ∷ bytes
filled (byte ∷ bytes) (false ∷ pending) state = byte ∷ filled bytes pending state
filled (byte ∷ bytes) (true ∷ pending) state = (draw_of state % 256) ∷ filled bytes pending (state_after state)

-- the image of a pick: what was stable, what a read gives, or what is drawn
abbrev pub crash_image : MemState → ℕ → List ℕ
crash_image disk pick =
    if pick == 0 then disk.stable else (if pick == 1 then disk.bytes else filled disk.bytes disk.pending pick)
