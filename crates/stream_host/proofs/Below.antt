-- What a read of the link below is for a buffered link, once nothing is held back.
use Rattle.std.proofs.Common.{◌≡◌, ◌-◌, ◌≤◌, ◌++◌, ℕ, List, [], ◌∷◌, Result, Ok, Err, IsErr, IsTrue, length, min, take, drop, if◌then◌else◌, refl, ap, subst, sym, ◌∙◌, arith, append-nil, length-append}
use Rattle.std.proofs.Math.Seq.{take-length}
use Rattle.std.proofs.lemmas.Bool.{false≢true}
use Rattle.std.proofs.lemmas.List.{places, same_lists, take-append-le}
use Rattle.stream_io.specs.declared.failed.Failed.{Failed}
use Rattle.stream_io.specs.Talk.{HasRead, OnlyRead, Talk, Took}
use Rattle.stream_host.specs.Buffered.{ReadsAhead, SameBytes, WithAhead, buffered_talk}

-- what comes after a change that leaves all bytes as they were
module _ (a b c : Talk) (s : SameBytes a b) where
  took-after : (n : ℕ) → Took b c n → Took a c n
  took-after n t = record {
    there = subst (λ l. n ≤ length l) s.left t.there;
    taken = t.taken ∙ ap (λ x. x ++ take n b.left) s.taken ∙ ap (λ l. a.taken ++ take n l) s.left;
    left = t.left ∙ ap (drop n) s.left;
  }

  read-after : (room : ℕ) (out : List ℕ) (r : Result ℕ Failed) → HasRead b c room out r → HasRead a c room out r
  read-after room out (Ok n) h = record {
    size = h.size;
    bytes = λ told. h.bytes (s.told ∙ told) ∙ ap (take n) s.left;
    took = λ told. took-after n (h.took (s.told ∙ told));
    end = λ told none some. sym s.left ∙ h.end (s.told ∙ told) none some;
  }
  read-after room out (Err e) h = record {
    size = tt;
    bytes = λ told. tt;
    took = λ told. took-after 0 (h.took (s.told ∙ told));
    end = λ told. tt;
  }

  only-after : OnlyRead b c → OnlyRead a c
  only-after o = record {
    told = o.told ∙ s.told;
    place = o.place ∙ s.place;
    written = o.written ∙ s.written;
    room = (let x = s.room in let y = o.room in omega arith);
    count = (let x = s.count in let y = o.count in omega arith);
  }

-- a read that was refused, and took nothing
pub refused-read : (a b : Talk) (room : ℕ) (out : List ℕ) (r : Result ℕ Failed) → IsErr r → (IsTrue a.told → SameBytes a b)
    → HasRead a b room out r
refused-read a b room out (Ok n) err same = absurd (false≢true err)
refused-read a b room out (Err e) err same = record {
  size = tt;
  bytes = λ told. tt;
  took = λ told. record {
    there = omega arith;
    taken = (same told).taken ∙ sym (append-nil a.taken);
    left = (same told).left;
  };
  end = λ told. tt;
}

empty : (xs : List ℕ) → length xs ≡ 0 → xs ≡ []
empty [] none = refl
empty (x ∷ xs) none = absurd (omega arith)

-- a read of bytes that stand ahead
pub served-read : (a b c : Talk) (ahead rest : List ℕ) (n room : ℕ) (out : List ℕ) → b.left ≡ ahead ++ rest
    → n ≡ min room (length ahead) → take n out ≡ take n ahead → (IsTrue a.told → SameBytes a b) → (IsTrue b.told → Took b c n)
    → (IsTrue a.told → ahead ≡ [] → a.left ≡ []) → HasRead a c room out (Ok n)
served-read a b c ahead rest n room out is size bytes same took end = record {
  size = omega arith;
  bytes = λ told. bytes ∙ sym (take-append-le n ahead rest (omega arith)) ∙ ap (take n) (sym is ∙ (same told).left);
  took = λ told. took-after a b c (same told) n (took ((same told).told ∙ told));
  end = λ told none some. end told (empty ahead (omega arith));
}

pub same-only : (a b : Talk) → SameBytes a b → OnlyRead a b
same-only a b s = record { told = s.told; place = s.place; written = s.written; room = s.room; count = s.count }

whole : (xs : List ℕ) → take (length xs - 0) xs ≡ xs
whole xs = same_lists _ _ (grind (arith, places)) (λ k d below. grind (arith, places))

-- if nothing is ahead and nothing is held back
module _ (t u : Talk) where
  took-below : (n : ℕ) → Took t u n → Took (buffered_talk t [] []) (buffered_talk u [] []) n
  took-below n k = record {
    there = k.there;
    taken = whole u.taken ∙ k.taken ∙ ap (λ x. x ++ take n t.left) (sym (whole t.taken));
    left = k.left;
  }

  read-below : (room : ℕ) (out : List ℕ) (r : Result ℕ Failed) → HasRead t u room out r
      → HasRead (buffered_talk t [] []) (buffered_talk u [] []) room out r
  read-below room out (Ok n) h = record {
    size = h.size;
    bytes = h.bytes;
    took = λ told. took-below n (h.took told);
    end = h.end;
  }
  read-below room out (Err e) h = record {
    size = tt;
    bytes = λ told. tt;
    took = λ told. took-below 0 (h.took told);
    end = λ told. tt;
  }

-- what is ahead does not matter to what a read leaves alone
only-below : (t u : Talk) (x y : List ℕ) → OnlyRead t u → OnlyRead (buffered_talk t x []) (buffered_talk u y [])
only-below t u x y o = record {
  told = o.told;
  place = o.place;
  written = ap (λ w. if u.told then w ++ [] else []) o.written ∙ ap (λ b. if b then t.written ++ [] else []) o.told;
  room = (let r = o.room in omega arith);
  count = o.count;
}

-- what was read ahead is left, as it was
received : (t u : Talk) (a : List ℕ) → OnlyRead t u → t.left ≡ a ++ u.left → u.taken ≡ t.taken ++ a
    → SameBytes (buffered_talk t [] []) (buffered_talk u a [])
received t u a o left taken =
    let size : length u.taken - length a ≡ length t.taken =
    (let e = ap length taken ∙ length-append t.taken a in omega arith) in
    let below = only-below t u [] a o in
    record {
      told = o.told;
      place = o.place;
      taken = ap (λ m. take m u.taken) size ∙ ap (take (length t.taken)) taken
          ∙ take-append-le (length t.taken) t.taken a (omega arith) ∙ take-length t.taken ∙ sym (whole t.taken);
      left = sym left;
      written = below.written;
      room = below.room;
      count = o.count;
    }

same-then : (a b c : Talk) → SameBytes a b → SameBytes b c → SameBytes a c
same-then a b c s o = record {
  told = o.told ∙ s.told;
  place = o.place ∙ s.place;
  taken = o.taken ∙ s.taken;
  left = o.left ∙ s.left;
  written = o.written ∙ s.written;
  room = (let x = s.room in let y = o.room in omega arith);
  count = (let x = s.count in let y = o.count in omega arith);
}

pub same-received : {L : Type 0} (talk : L → Talk) (inside first mid last : WithAhead L) (r : Result (Unit {0}) Failed)
    → inside ≡ first → inside.ahead ≡ [] → mid.ahead ≡ first.ahead → mid.behind ≡ [] → last.behind ≡ []
    → SameBytes (buffered_talk (talk first.link) first.ahead first.behind) (buffered_talk (talk mid.link) mid.ahead mid.behind)
    → OnlyRead (talk mid.link) (talk last.link) → ReadsAhead (talk mid.link) (talk last.link) last.ahead r
    → IsTrue (talk first.link).told
    → SameBytes (buffered_talk (talk first.link) first.ahead first.behind) (buffered_talk (talk last.link) last.ahead last.behind)
same-received talk inside first mid last r is none same mid_none last_none s o reads told =
    let old = buffered_talk (talk first.link) first.ahead first.behind in
    let none_ahead : mid.ahead ≡ [] = same ∙ sym (ap (λ v. v.ahead) is) ∙ none in
    subst (λ x. SameBytes old (buffered_talk (talk last.link) last.ahead x)) (sym last_none)
    (same-then old _ _
    (subst (λ x. SameBytes old (buffered_talk (talk mid.link) x [])) none_ahead
    (subst (λ x. SameBytes old (buffered_talk (talk mid.link) mid.ahead x)) mid_none s))
    (received (talk mid.link) (talk last.link) last.ahead o (reads.bytes (s.told ∙ told)) (reads.taken (s.told ∙ told))))

pub only-received : {L : Type 0} (talk : L → Talk) (old : Talk) (mid last : WithAhead L) → mid.behind ≡ [] → last.behind ≡ []
    → SameBytes old (buffered_talk (talk mid.link) mid.ahead mid.behind) → OnlyRead (talk mid.link) (talk last.link)
    → OnlyRead old (buffered_talk (talk last.link) last.ahead last.behind)
only-received talk old mid last mid_none last_none s o =
    subst (λ x. OnlyRead old (buffered_talk (talk last.link) last.ahead x)) (sym last_none)
    (only-after old _ _ (subst (λ x. SameBytes old (buffered_talk (talk mid.link) mid.ahead x)) mid_none s)
    (only-below (talk mid.link) (talk last.link) mid.ahead last.ahead o))

module _ {L : Type 0} (talk : L → Talk) (old : Talk) (inside mid : WithAhead L) (last : L) (is : inside ≡ mid)
    (none_ahead : mid.ahead ≡ []) (none_held : mid.behind ≡ []) (s : SameBytes old (buffered_talk (talk mid.link) mid.ahead mid.behind))
  where
    -- the link right before the read of the one below
    ready : SameBytes old (buffered_talk (talk inside.link) [] [])
    ready =
        subst (λ v. SameBytes old (buffered_talk (talk v.link) [] [])) (sym is)
        (subst (λ x. SameBytes old (buffered_talk (talk mid.link) [] x)) none_held
        (subst (λ x. SameBytes old (buffered_talk (talk mid.link) x mid.behind)) none_ahead s))

    as-inside : (P : Talk → Type 0) → P (buffered_talk (talk last) [] []) → P (buffered_talk (talk last) inside.ahead inside.behind)
    as-inside P p =
        subst (λ v. P (buffered_talk (talk last) v.ahead v.behind)) (sym is)
        (subst (λ x. P (buffered_talk (talk last) mid.ahead x)) (sym none_held)
        (subst (λ x. P (buffered_talk (talk last) x [])) (sym none_ahead) p))

    pub read-through : (room : ℕ) (out : List ℕ) (r : Result ℕ Failed) → HasRead (talk inside.link) (talk last) room out r
        → HasRead old (buffered_talk (talk last) inside.ahead inside.behind) room out r
    read-through room out r h =
        as-inside (λ t. HasRead old t room out r)
        (read-after old _ _ ready room out r (read-below (talk inside.link) (talk last) room out r h))

    pub only-through : OnlyRead (talk inside.link) (talk last)
        → OnlyRead old (buffered_talk (talk last) inside.ahead inside.behind)
    only-through o = as-inside (λ t. OnlyRead old t) (only-after old _ _ ready (only-below (talk inside.link) (talk last) [] [] o))
