-- What has gone over a link that reads ahead and holds back what is written.
use Rattle.std.specs.Prelude.{◌≡◌, ◌≤◌, ◌+◌, ◌-◌, ◌++◌, ℕ, List, [], false, length, take, IsTrue, IfOk, OnOk, OnErr}
use Rattle.std.specs.Prelude.{Result, if◌then◌else◌}
use Rattle.disk_trait.specs.Faults.{HasCause}
use Rattle.stream_io.specs.declared.failed.Failed.{Failed}
use Rattle.stream_io.specs.Net.{PortState}
use Rattle.stream_io.specs.Talk.{OnlyWrote, Talk}

-- The bytes that were read ahead are not taken, but left; those that are held back are written.
abbrev pub buffered_talk : Talk → List ℕ → List ℕ → Talk
buffered_talk inner ahead held = record {
  told = inner.told;
  place = inner.place;
  taken = take (length inner.taken - length ahead) inner.taken;
  left = ahead ++ inner.left;
  written = if inner.told then inner.written ++ held else [];
  room = inner.room - length held;
  count = inner.count;
}

-- the bytes that were read ahead are the last that were taken from the link
abbrev pub IsAhead : Talk → List ℕ → Type 0
IsAhead inner ahead =
    IsTrue inner.told → inner.taken ≡ take (length inner.taken - length ahead) inner.taken ++ ahead

-- a link below, the bytes that were read ahead from it, and those that are held back
pub record WithAhead (L : Type 0) : Type 0 where
  pub link : L
  pub ahead : List ℕ
  pub behind : List ℕ

-- all of it is as it was, except that there may be more room, and that the count may have risen
pub record SameBytes (old new : Talk) : Type 0 where
  pub told : new.told ≡ old.told
  pub place : new.place ≡ old.place
  pub taken : new.taken ≡ old.taken
  pub left : new.left ≡ old.left
  pub written : new.written ≡ old.written
  pub room : old.room ≤ new.room
  pub count : old.count ≤ new.count

-- internal: Bytes were read before anyone asked for them: none after a refusal, and otherwise none exactly at the end.
pub record ReadsAhead (old new : Talk) (ahead : List ℕ) (result : Result (Unit {0}) Failed) : Type 0 where
  pub bytes : IsTrue old.told → old.left ≡ ahead ++ new.left
  pub taken : IsTrue old.told → new.taken ≡ old.taken ++ ahead
  pub end : IsTrue old.told → IfOk result (λ _. ahead ≡ [] → old.left ≡ [])
  pub none : OnErr result (ahead ≡ [])

-- internal: a beginning of what was held was written, and the rest of it is held
pub record Passes (old new : Talk) (held rest : List ℕ) : Type 0 where
  pub less : length rest ≤ length held
  pub passed : IsTrue old.told → new.written ++ rest ≡ old.written ++ held
  pub only : OnlyWrote old new
  pub room : old.room + length rest ≤ new.room + length held

-- What the link below has when all is over: the bytes that nobody has read were taken from it, and all that was written
-- reached it, or a beginning of that, and then the count has risen.
pub record Ends (talk last : Talk) (unread : List ℕ) (result : Result (Unit {0}) Failed) : Type 0 where
  pub told : last.told ≡ talk.told
  pub place : last.place ≡ talk.place
  pub taken : IsTrue talk.told → last.taken ≡ talk.taken ++ unread
  pub left : talk.left ≡ unread ++ last.left
  pub written : IsTrue talk.told → OnOk result (last.written ≡ talk.written)
  pub lost : List ℕ
  pub part : IsTrue talk.told → last.written ++ lost ≡ talk.written
  pub cause : HasCause talk.count last.count result

-- a port in one state each of whose links is buffered, and so is not steady
abbrev pub buffered_state : PortState → PortState
buffered_state below = record below { steady = false }
