-- What is kept of a link that was ended, and of the link below it.
use Rattle.std.proofs.Common.{◌≡◌, ◌++◌, ℕ, List, Result, Ok, Err, OnOk, IsTrue, ap, refl, sym, ◌∙◌, arith, append_assoc, append-nil, []}
use Rattle.disk_trait.specs.Faults.{HasCause}
use Rattle.stream_io.specs.declared.failed.Failed.{Failed}
use Rattle.stream_io.specs.Talk.{Ended, Talk}
use Rattle.stream_host.specs.Buffered.{Ends}

whole-of : (r : Result (Unit {0}) Failed) (talk last : Talk) → HasCause talk.count last.count r → OnOk r (last.written ≡ talk.written) → last.count ≡ 0 → last.written ≡ talk.written
whole-of (Ok a) talk last cause same none = same
whole-of (Err e) talk last cause same none = absurd (let f = cause.failed in omega arith)

pub ended-of : (talk last : Talk) (unread : List ℕ) (r : Result (Unit {0}) Failed) → Ends talk last unread r → Ended talk last
ended-of talk last unread r e = record {
  told = e.told;
  place = e.place;
  count = e.cause.later;
  unread = unread;
  taken = e.taken;
  left = λ _. e.left;
  lost = e.lost;
  written = e.part;
  whole = λ told. whole-of r talk last e.cause (e.written told);
}

pub ended-then : (a b c : Talk) → Ended a b → Ended b c → Ended a c
ended-then a b c x y =
    let on = λ (t : IsTrue a.told). x.told ∙ t in
    record {
      told = y.told ∙ x.told;
      place = y.place ∙ x.place;
      count = (let p = x.count in let q = y.count in omega arith);
      unread = x.unread ++ y.unread;
      taken = λ t. y.taken (on t) ∙ ap (λ s. s ++ y.unread) (x.taken t) ∙ append_assoc a.taken x.unread y.unread;
      left = λ t. x.left t ∙ ap (λ s. x.unread ++ s) (y.left (on t)) ∙ sym (append_assoc x.unread y.unread c.left);
      lost = y.lost ++ x.lost;
      written = λ t. sym (append_assoc c.written y.lost x.lost) ∙ ap (λ s. s ++ x.lost) (y.written (on t)) ∙ x.written t;
      whole = λ t none. y.whole (on t) none ∙ x.whole t (let p = y.count in omega arith);
    }

-- a link that neither reads ahead nor holds back
pub ended-same : (talk : Talk) → Ended talk talk
ended-same talk = record {
  told = refl;
  place = refl;
  count = omega arith;
  unread = [];
  taken = λ _. sym (append-nil talk.taken);
  left = λ _. refl;
  lost = [];
  written = λ _. append-nil talk.written;
  whole = λ _ _. refl;
}
