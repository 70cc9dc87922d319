-- Masks that are written batch by batch.
use Rattle.std.proofs.Common.{◌≡◌, ◌+◌, ◌<◌, ◌≤◌, ◌++◌, ℕ, List, Ok, Err, IsTrue, true, false, length, take, inl, inr, refl, ap, ◌∙◌, subst, arith, length-append}
use Rattle.disk_trait.specs.Faults.{Rose}
use Rattle.lms_bytes.specs.Bytes.{joined}
use Rattle.node_workers.proofs.Prefixes.{prefix-in}
use Rattle.round_frames.specs.Sending.{Sends, SinkState}
use Rattle.stream_io.proofs.Pieces.{wrote-same, wrote-then}
use Rattle.stream_io.specs.Talk.{OnlyWrote, WrotePart}
use Rattle.trustee_node.proofs.Masks.{Gathered, gathered-all, gathered-on, gathered-part, joined-begins, part-of, room-all, room-on, room-there}

-- no write failed, and the front and the masks before `next` were written, or none of it
pub record Batched (f : ℕ → List ℕ) (head : List ℕ) (old now : SinkState) (front : ℕ) (room : List ℕ) (next : ℕ) : Type 0 where
  pub only : OnlyWrote old.talk now.talk
  pub quiet : now.talk.count ≡ old.talk.count
  pub steady : now.steady ≡ old.steady
  pub takes : old.room + length (take front room) ≤ now.room + length (head ++ joined f next)
  pub gathered : IsTrue old.talk.told → Gathered f old.talk now.talk front room head next

module _ (f : ℕ → List ℕ) (old : SinkState) (front : ℕ) (room : List ℕ) where
  -- nothing is written yet
  pub batched-none : Batched f (take front room) old old front room 0
  batched-none = record {
    only = wrote-same old.talk;
    quiet = refl;
    steady = refl;
    takes = omega (arith, length-append (take front room) (joined f 0));
    gathered = λ told. inl (refl, refl, refl);
  }

module _ (f : ℕ → List ℕ) (head : List ℕ) (old now : SinkState) (front : ℕ) (room : List ℕ) (next : ℕ) (had : Batched f head old now front room next) where
  module _ (new : SinkState) (more piece : List ℕ) (after : ℕ) (on : joined f next ++ more ≡ joined f after) (is : piece ≡ take front room ++ more)
      (only : OnlyWrote now.talk new.talk) (left : now.room ≤ new.room + length piece) (stays : new.steady ≡ now.steady) where
    takes-on : old.room ≤ new.room + length (head ++ joined f after)
    takes-on = room-on f old.room now.room new.room (take front room) head more piece next after had.takes on is left

    -- a piece was written whole
    pub batched-on : (later : List ℕ) → (IsTrue now.talk.told → new.talk.written ≡ now.talk.written ++ piece) → new.talk.count ≡ now.talk.count → Batched f head old new 0 later after
    batched-on later wrote quiet = record {
      only = wrote-then old.talk now.talk new.talk had.only only;
      quiet = quiet ∙ had.quiet;
      steady = stays ∙ had.steady;
      takes = (let all = takes-on in omega (arith, all));
      gathered = λ told. inr (
        refl,
        gathered-on f old.talk now.talk new.talk front room head more next after (had.gathered told) on
            (wrote (had.only.told ∙ told) ∙ ap (λ (l : List ℕ). now.talk.written ++ l) is),
      );
    }

    -- a piece was not written whole
    pub sends-part : {V E : Type 0} (count : ℕ) (why : E) → after ≤ count → (IsTrue now.talk.told → WrotePart now.talk new.talk piece)
        → now.talk.count ≤ new.talk.count → Rose now.talk.count new.talk.count → (IsTrue now.steady → length piece ≤ now.room → false ≡ true)
        → Sends {V = V} {E = E} (head ++ joined f count) old new (Err why)
    sends-part count why le wrote later rose succeeds = record {
      wrote = λ told.
          part-of old.talk new.talk (head ++ joined f after) (head ++ joined f count) (prefix-in head (joined f after) (joined f count) (joined-begins f after count le))
          (gathered-part f old.talk now.talk new.talk front room head more next after (had.gathered told) on
          (subst (WrotePart now.talk new.talk) is (wrote (had.only.told ∙ told))));
      only = wrote-then old.talk now.talk new.talk had.only only;
      cause = record {
        later = (let quiet = had.quiet in omega (arith, quiet, later));
        succeeded = tt;
        failed = subst (λ (n : ℕ). Rose n new.talk.count) had.quiet rose;
      };
      succeeds = λ steady fits.
          succeeds (had.steady ∙ steady) (room-there f old.room now.room (take front room) head more piece next after count had.takes on is le fits);
      room = room-all f old.room new.room head after count takes-on le;
      steady = stays ∙ had.steady;
    }

  -- all was written
  pub sends-all : {V E : Type 0} (value : V) (count : ℕ) → next ≡ count → 0 < count → Sends {V = V} {E = E} (head ++ joined f count) old now (Ok value)
  sends-all value count whole some = record {
    wrote = λ told.
        gathered-all f old.talk now.talk front room head next (had.gathered told) (omega (arith, whole, some))
        ∙ ap (λ (k : ℕ). old.talk.written ++ (head ++ joined f k)) whole;
    only = had.only;
    cause = record { later = (let quiet = had.quiet in omega (arith, quiet)); succeeded = had.quiet; failed = tt };
    succeeds = λ steady fits. refl;
    room = room-all f old.room now.room head next count (let t = had.takes in omega (arith, t)) (omega (arith, whole));
    steady = had.steady;
  }
