-- What a write is for a buffered link: held back, or one of the link below once nothing is held back.
use Rattle.std.proofs.Common.{◌≡◌, ◌-◌, ◌++◌, ℕ, Bool, true, false, List, [], Result, Ok, Err, IsErr, IsTrue, length, take, if◌then◌else◌, refl, ap, subst, sym, ◌∙◌, arith, append_assoc, append-nil}
use Rattle.std.proofs.Math.Seq.{take-length}
use Rattle.std.proofs.lemmas.Bool.{false≢true}
use Rattle.stream_io.specs.declared.failed.Failed.{Failed}
use Rattle.stream_io.specs.Talk.{HasWritten, OnlyWrote, Talk}
use Rattle.stream_host.specs.Buffered.{SameBytes, WithAhead, buffered_talk}

same-wrote : (a b : Talk) → SameBytes a b → OnlyWrote a b
same-wrote a b s = record { told = s.told; place = s.place; taken = s.taken; left = s.left; count = s.count }

-- a write that was refused, and wrote nothing
pub refused-written : (a b : Talk) (bytes : List ℕ) (r : Result ℕ Failed) → IsErr r → SameBytes a b → HasWritten a b bytes r
refused-written a b bytes (Ok n) err s = absurd (false≢true err)
refused-written a b bytes (Err e) err s = record { size = tt; progress = tt; wrote = λ told. s.written }

-- what comes after a change that leaves all bytes as they were
module _ (a b c : Talk) (s : SameBytes a b) where
  written-after : (bytes : List ℕ) (r : Result ℕ Failed) → HasWritten b c bytes r → HasWritten a c bytes r
  written-after bytes (Ok n) h = record {
    size = h.size;
    progress = h.progress;
    wrote = λ told. h.wrote (s.told ∙ told) ∙ ap (λ w. w ++ take n bytes) s.written;
  }
  written-after bytes (Err e) h = record {
    size = tt;
    progress = tt;
    wrote = λ told. h.wrote (s.told ∙ told) ∙ s.written;
  }

  wrote-after : OnlyWrote b c → OnlyWrote a c
  wrote-after o = record {
    told = o.told ∙ s.told;
    place = o.place ∙ s.place;
    taken = o.taken ∙ s.taken;
    left = o.left ∙ s.left;
    count = (let x = s.count in let y = o.count in omega arith);
  }

-- what holds of a link that is as it was holds of the one before
module _ {L : Type 0} (talk : L → Talk) (old new mid : WithAhead L) (link : new.link ≡ old.link) (ahead : new.ahead ≡ old.ahead)
    (held : new.behind ≡ old.behind)
    (s : SameBytes (buffered_talk (talk new.link) new.ahead new.behind) (buffered_talk (talk mid.link) mid.ahead mid.behind))
  where
    pub as-before : SameBytes (buffered_talk (talk old.link) old.ahead old.behind) (buffered_talk (talk mid.link) mid.ahead mid.behind)
    as-before =
        let t = buffered_talk (talk mid.link) mid.ahead mid.behind in
        subst (λ x. SameBytes (buffered_talk (talk old.link) old.ahead x) t) held
        (subst (λ x. SameBytes (buffered_talk (talk old.link) x new.behind) t) ahead
        (subst (λ l. SameBytes (buffered_talk (talk l) new.ahead new.behind) t) link s))

    pub only-before : OnlyWrote (buffered_talk (talk old.link) old.ahead old.behind) (buffered_talk (talk mid.link) mid.ahead mid.behind)
    only-before = same-wrote _ _ as-before

-- a piece is held back after what was
behind : (told : Bool) (w held piece : List ℕ) → IsTrue told
    → (if told then w ++ (held ++ piece) else []) ≡ (if told then w ++ held else []) ++ take (length piece) piece
behind true w held piece is = sym (append_assoc w held piece) ∙ ap (λ x. (w ++ held) ++ x) (sym (take-length piece))
behind false w held piece is = absurd (false≢true is)

module _ {L : Type 0} (talk : L → Talk) (old new : WithAhead L) (piece : List ℕ) (link : new.link ≡ old.link)
    (ahead : new.ahead ≡ old.ahead) (held : new.behind ≡ old.behind ++ piece)
  where
    as-held : (P : Talk → Type 0) → P (buffered_talk (talk old.link) old.ahead (old.behind ++ piece))
        → P (buffered_talk (talk new.link) new.ahead new.behind)
    as-held P p =
        subst (λ l. P (buffered_talk (talk l) new.ahead new.behind)) (sym link)
        (subst (λ x. P (buffered_talk (talk old.link) x new.behind)) (sym ahead)
        (subst (λ x. P (buffered_talk (talk old.link) old.ahead x)) (sym held) p))

    pub held-written : HasWritten (buffered_talk (talk old.link) old.ahead old.behind)
        (buffered_talk (talk new.link) new.ahead new.behind) piece (Ok (length piece))
    held-written =
        as-held (λ t. HasWritten (buffered_talk (talk old.link) old.ahead old.behind) t piece (Ok (length piece)))
        (record {
          size = omega arith;
          progress = λ some. some;
          wrote = behind (talk old.link).told (talk old.link).written old.behind piece;
        })

    pub held-only : OnlyWrote (buffered_talk (talk old.link) old.ahead old.behind)
        (buffered_talk (talk new.link) new.ahead new.behind)
    held-only =
        as-held (λ t. OnlyWrote (buffered_talk (talk old.link) old.ahead old.behind) t)
        (record { told = refl; place = refl; taken = refl; left = refl; count = omega arith })

    -- the same after a change that leaves all bytes as they were
    pub written-behind : (first : Talk) → SameBytes first (buffered_talk (talk old.link) old.ahead old.behind)
        → HasWritten first (buffered_talk (talk new.link) new.ahead new.behind) piece (Ok (length piece))
    written-behind first s = written-after first _ _ s piece (Ok (length piece)) held-written

    pub only-behind : (first : Talk) → SameBytes first (buffered_talk (talk old.link) old.ahead old.behind)
        → OnlyWrote first (buffered_talk (talk new.link) new.ahead new.behind)
    only-behind first s = wrote-after first _ _ s held-only

-- if nothing is held back
shown : (told : Bool) (w : List ℕ) → IsTrue told → (if told then w ++ [] else []) ≡ w
shown true w is = append-nil w
shown false w is = absurd (false≢true is)

module _ (t u : Talk) (ahead : List ℕ) (o : OnlyWrote t u) where
  written-below : (bytes : List ℕ) (r : Result ℕ Failed) → HasWritten t u bytes r
      → HasWritten (buffered_talk t ahead []) (buffered_talk u ahead []) bytes r
  written-below bytes (Ok n) h = record {
    size = h.size;
    progress = h.progress;
    wrote = λ told. shown u.told u.written (o.told ∙ told) ∙ h.wrote told
        ∙ ap (λ w. w ++ take n bytes) (sym (shown t.told t.written told));
  }
  written-below bytes (Err e) h = record {
    size = tt;
    progress = tt;
    wrote = λ told. shown u.told u.written (o.told ∙ told) ∙ h.wrote told ∙ sym (shown t.told t.written told);
  }

  wrote-below : OnlyWrote (buffered_talk t ahead []) (buffered_talk u ahead [])
  wrote-below = record {
    told = o.told;
    place = o.place;
    taken = ap (λ l. take (length l - length ahead) l) o.taken;
    left = ap (λ l. ahead ++ l) o.left;
    count = o.count;
  }

module _ {L : Type 0} (talk : L → Talk) (old : Talk) (inside held mid : WithAhead L) (last : L) (is : inside ≡ held)
    (link : held.link ≡ mid.link) (ahead : held.ahead ≡ mid.ahead) (same : held.behind ≡ mid.behind)
    (none : mid.behind ≡ []) (s : SameBytes old (buffered_talk (talk mid.link) mid.ahead mid.behind))
    (o : OnlyWrote (talk inside.link) (talk last))
  where
    none-held : inside.behind ≡ []
    none-held = ap (λ v. v.behind) is ∙ same ∙ none

    -- the link right before the write to the one below
    ready : SameBytes old (buffered_talk (talk inside.link) inside.ahead [])
    ready =
        subst (λ v. SameBytes old (buffered_talk (talk v.link) v.ahead [])) (sym is)
        (subst (λ l. SameBytes old (buffered_talk (talk l) held.ahead [])) (sym link)
        (subst (λ x. SameBytes old (buffered_talk (talk mid.link) x [])) (sym ahead)
        (subst (λ x. SameBytes old (buffered_talk (talk mid.link) mid.ahead x)) none s)))

    pub written-through : (bytes : List ℕ) (r : Result ℕ Failed) → HasWritten (talk inside.link) (talk last) bytes r
        → HasWritten old (buffered_talk (talk last) inside.ahead inside.behind) bytes r
    written-through bytes r h =
        subst (λ x. HasWritten old (buffered_talk (talk last) inside.ahead x) bytes r) (sym none-held)
        (written-after old _ _ ready bytes r (written-below (talk inside.link) (talk last) inside.ahead o bytes r h))

    pub wrote-through : OnlyWrote old (buffered_talk (talk last) inside.ahead inside.behind)
    wrote-through =
        subst (λ x. OnlyWrote old (buffered_talk (talk last) inside.ahead x)) (sym none-held)
        (wrote-after old _ _ ready (wrote-below (talk inside.link) (talk last) inside.ahead o))
