-- Bytes that are written to a sink.
use Rattle.std.specs.Prelude.{◌≡◌, ◌≤◌, ◌+◌, ◌++◌, ℕ, Bool, List, length, Result, IsOk, IsTrue, MatchResult}
use Rattle.disk_trait.specs.Faults.{HasCause}
use Rattle.stream_io.specs.Talk.{OnlyWrote, Talk, WrotePart}

-- these bytes were written, or a proper beginning of them if the call failed
abbrev pub Wrote : {V E : Type 0} → Talk → Talk → List ℕ → Result V E → Type 0
Wrote old new bytes result = IsTrue old.told → MatchResult result
    (λ _. new.written ≡ old.written ++ bytes) (λ _. WrotePart old new bytes)

-- internal: a sink in one state: its talk, whether it is steady, and how much it has room for
pub record SinkState : Type 0 where
  pub talk : Talk
  pub steady : Bool
  pub room : ℕ

-- internal: the state of a sink that has these members
abbrev pub sink_state : {K : Type 0} → (K → Talk) → (K → Bool) → (K → ℕ) → K → SinkState
sink_state talk steady room sink = record { talk = talk sink; steady = steady sink; room = room sink }

-- internal: These bytes were to be written, and they were, or a beginning of them if a write failed. A steady sink that
-- has room for them takes them.
pub record Sends {V E : Type 0} (bytes : List ℕ) (old new : SinkState) (result : Result V E) : Type 0 where
  pub wrote : Wrote old.talk new.talk bytes result
  pub only : OnlyWrote old.talk new.talk
  pub cause : HasCause old.talk.count new.talk.count result
  pub succeeds : IsTrue old.steady → length bytes ≤ old.room → IsOk result
  pub room : old.room ≤ new.room + length bytes
  pub steady : new.steady ≡ old.steady
