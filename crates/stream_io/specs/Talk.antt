-- What has gone over a stream, and what a call on it changes.
use Rattle.std.specs.Prelude.{◌≡◌, ◌+◌, ◌<◌, ◌≤◌, ◌++◌, ℕ, Bool, List, [], Option, Result, IsTrue, IfOk, MatchResult}
use Rattle.std.specs.Prelude.{length, take, drop}
use Rattle.stream_io.specs.declared.failed.Failed.{Failed}

-- A stream in one state: whether it tells its bytes, the place that was dialled or none, the bytes that were read from
-- it and those that a peer has given and nobody has read, the bytes that were written to it, the oldest byte first
-- each, how many more bytes it takes for sure if it is steady, and its count of faults. The bytes mean something only
-- if they are told.
pub record Talk : Type 0 where
  pub told : Bool
  pub place : Option (List ℕ)
  pub taken : List ℕ
  pub left : List ℕ
  pub written : List ℕ
  pub room : ℕ
  pub count : ℕ

-- a call that reads: what was written stays, there is no less room to write, and no count falls
pub record OnlyRead (old new : Talk) : Type 0 where
  pub told : new.told ≡ old.told
  pub place : new.place ≡ old.place
  pub written : new.written ≡ old.written
  pub room : old.room ≤ new.room
  pub count : old.count ≤ new.count

-- a call that writes: what was read and what is left stays, and no count falls
pub record OnlyWrote (old new : Talk) : Type 0 where
  pub told : new.told ≡ old.told
  pub place : new.place ≡ old.place
  pub taken : new.taken ≡ old.taken
  pub left : new.left ≡ old.left
  pub count : old.count ≤ new.count

-- `size` bytes were left, and just these were read
pub record Took (old new : Talk) (size : ℕ) : Type 0 where
  pub there : size ≤ length old.left
  pub taken : new.taken ≡ old.taken ++ take size old.left
  pub left : new.left ≡ drop size old.left

-- What a read answers for a room of that size, and what then stands in the room: as many bytes as were taken, and none
-- for a room that is not empty exactly at the end.
pub record HasRead (old new : Talk) (room : ℕ) (out : List ℕ) (result : Result ℕ Failed) : Type 0 where
  pub size : IfOk result (λ n. n ≤ room)
  pub bytes : IsTrue old.told → IfOk result (λ n. take n out ≡ take n old.left)
  pub took : IsTrue old.told → MatchResult result (λ n. Took old new n) (λ _. Took old new 0)
  pub end : IsTrue old.told → IfOk result (λ n. n ≡ 0 → 0 < room → old.left ≡ [])

-- bytes were read, or none, but fewer than were asked for
pub record TookPart (old new : Talk) (asked : ℕ) : Type 0 where
  pub size : ℕ
  pub short : size < asked
  pub took : Took old new size

-- What a write of these bytes answers: how many of them were written, at least one if there is one.
pub record HasWritten (old new : Talk) (bytes : List ℕ) (result : Result ℕ Failed) : Type 0 where
  pub size : IfOk result (λ n. n ≤ length bytes)
  pub progress : IfOk result (λ n. 0 < length bytes → 0 < n)
  pub wrote : IsTrue old.told → MatchResult result
      (λ n. new.written ≡ old.written ++ take n bytes) (λ _. new.written ≡ old.written)

-- a write takes no more of the room than what it wrote
abbrev pub TakesRoom : ℕ → ℕ → Result ℕ Failed → Type 0
TakesRoom old new result = MatchResult result (λ n. old ≤ new + n) (λ _. old ≤ new)

-- a beginning of the bytes was written, which may be empty, and not all of them
pub record WrotePart (old new : Talk) (bytes : List ℕ) : Type 0 where
  pub size : ℕ
  pub short : size < length bytes
  pub written : new.written ≡ old.written ++ take size bytes

-- What is kept of a link that was ended. Bytes that were read ahead of its reads count as read. All that was written
-- went out, or a beginning of it, and then a fault was counted.
pub record Ended (talk last : Talk) : Type 0 where
  pub told : last.told ≡ talk.told
  pub place : last.place ≡ talk.place
  pub count : talk.count ≤ last.count
  pub unread : List ℕ
  pub taken : IsTrue talk.told → last.taken ≡ talk.taken ++ unread
  pub left : IsTrue talk.told → talk.left ≡ unread ++ last.left
  pub lost : List ℕ
  pub written : IsTrue talk.told → last.written ++ lost ≡ talk.written
  pub whole : IsTrue talk.told → last.count ≡ 0 → last.written ≡ talk.written
