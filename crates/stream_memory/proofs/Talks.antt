-- What goes over a link in memory is what goes over its source and its sink.
use Rattle.std.proofs.Common.{◌≡◌, ◌+◌, ◌-◌, ◌^◌, ℕ, List, Result, Ok, Err, MatchResult, append-nil, arith, min, refl, sym, ◌∙◌}
use Rattle.disk_trait.specs.Faults.{HasCause}
use Rattle.stream_io.specs.Talk.{HasRead, HasWritten, OnlyRead, OnlyWrote, Talk, Took}
use Rattle.stream_io.specs.declared.failed.Failed.{Failed}
use Rattle.stream_memory.specs.Waiting.{with_vain}

-- a talk that was read, and another that has the same bytes to read
module _ (a b c d : Talk) (told : c.told ≡ a.told) (taken : c.taken ≡ a.taken) (left : c.left ≡ a.left) (taken' : d.taken ≡ b.taken)
    (left' : d.left ≡ b.left) where
  as_took : (n : ℕ) → Took a b n → Took c d n
  as_took n it = record {
    there = rw left it.there;
    taken = rw (taken, left, taken') it.taken;
    left = rw (left, left') it.left;
  }

  either_took : (result : Result ℕ Failed) → MatchResult result (λ n. Took a b n) (λ _. Took a b 0)
      → MatchResult result (λ n. Took c d n) (λ _. Took c d 0)
  either_took (Ok n) it = as_took n it
  either_took (Err e) it = as_took 0 it

  pub has_read : (room : ℕ) (out : List ℕ) (result : Result ℕ Failed) → HasRead a b room out result → HasRead c d room out result
  has_read room out result it = record {
    size = it.size;
    bytes = λ t. rw left (it.bytes (sym told ∙ t));
    took = λ t. either_took result (it.took (sym told ∙ t));
    end = λ t. rw left (it.end (sym told ∙ t));
  }

-- a talk that was written to, and another that has the same bytes written
pub has_written : (a b c d : Talk) (bytes : List ℕ) (result : Result ℕ Failed) → c.told ≡ a.told → c.written ≡ a.written → d.written ≡ b.written
    → HasWritten a b bytes result → HasWritten c d bytes result
has_written a b c d bytes result told written written' it = record {
  size = it.size;
  progress = it.progress;
  wrote = λ t. rw (written, written') (it.wrote (sym told ∙ t));
}

-- what a call leaves of a talk, it also leaves if waits in vain are counted as well
module _ (a b : Talk) (vain : ℕ) where
  pub vain_read : OnlyRead a b → OnlyRead (with_vain a vain) (with_vain b vain)
  vain_read it =
      let later = it.count in
      record { told = it.told; place = it.place; written = it.written; room = it.room; count = omega (arith, later) }

  pub vain_wrote : OnlyWrote a b → OnlyWrote (with_vain a vain) (with_vain b vain)
  vain_wrote it =
      let later = it.count in
      record { told = it.told; place = it.place; taken = it.taken; left = it.left; count = omega (arith, later) }

-- a wait in vain, at which nothing was read or written
module _ (talk : Talk) (vain vain' : ℕ) (counted : vain' ≡ min (vain + 1) (2 ^ 64 - 1)) where
  pub in_vain_cause : {T E : Type 0} (fault : E) → HasCause {T = T} {E = E} (with_vain talk vain).count (with_vain talk vain').count (Err fault)
  in_vain_cause fault = record { later = omega (arith, counted); succeeded = tt; failed = omega (arith, counted) }

  pub in_vain_read : OnlyRead (with_vain talk vain) (with_vain talk vain')
  in_vain_read = record { told = refl; place = refl; written = refl; room = omega arith; count = omega (arith, counted) }

  pub nothing_read : (room : ℕ) (out : List ℕ) (fault : Failed) → HasRead (with_vain talk vain) (with_vain talk vain') room out (Err fault)
  nothing_read room out fault = record {
    size = tt;
    bytes = λ told. tt;
    took = λ told. record { there = omega arith; taken = sym (append-nil talk.taken); left = refl };
    end = λ told. tt;
  }
