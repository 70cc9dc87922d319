-- What is written by one call for two strings.
use Rattle.std.proofs.Common.{◌≡◌, ◌≤◌, ◌+◌, ◌++◌, List, ℕ, Result, length, length-append, subst, sym}
use Rattle.std.specs.Prelude.{IsOk, IsTrue}
use Rattle.disk_trait.specs.Faults.{HasCause}
use Rattle.stream_io.specs.Talk.{OnlyWrote}
use Rattle.round_frames.specs.Sending.{Sends, SinkState, Wrote}

-- a head that is known by another name, and what follows it
pub sends-both : {V E : Type 0} (head front rest : List ℕ) (old new : SinkState) (result : Result V E) → head ≡ front
    → Wrote old.talk new.talk (head ++ rest) result → OnlyWrote old.talk new.talk → HasCause old.talk.count new.talk.count result
    → (IsTrue old.steady → length head + length rest ≤ old.room → IsOk result) → old.room ≤ new.room + (length head + length rest)
    → new.steady ≡ old.steady → Sends (front ++ rest) old new result
sends-both head front rest old new result same wrote only cause succeeds room steady =
    let long : length head + length rest ≡ length (head ++ rest) = sym (length-append head rest) in
    subst (λ bytes. Sends (bytes ++ rest) old new result) same (record {
      wrote = wrote;
      only = only;
      cause = cause;
      succeeds = λ was fits. succeeds was (subst (λ k. k ≤ old.room) (sym long) fits);
      room = subst (λ k. old.room ≤ new.room + k) long room;
      steady = steady;
    })
