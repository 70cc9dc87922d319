-- What a port says of accepting a link holds of one whose links are buffered.
use Rattle.std.proofs.Common.{◌≡◌, ◌-◌, ◌++◌, ℕ, Bool, true, false, List, [], length, take, Option, IsTrue, if◌then◌else◌, refl, subst, sym, ap, ◌∙◌, arith, append-nil}
use Rattle.std.proofs.lemmas.Bool.{false≢true}
use Rattle.stream_host.specs.Buffered.{WithAhead, buffered_state, buffered_talk}
use Rattle.stream_io.specs.Net.{Accepts, IsNewLink, PortOnward, PortState, SameLinks}
use Rattle.stream_io.specs.Store.{RisesWhere}
use Rattle.stream_io.specs.Talk.{Talk}
use Rattle.stream_io.specs.declared.port.Accepted.{Accepted}

-- which answer it is
abbrev IsLink : {A : Type 0} → Accepted A → Type 0
IsLink (Accepted.Link link) = Unit {0}
IsLink Accepted.End = ⊥
IsLink Accepted.Failed = ⊥

abbrev IsEnd : {A : Type 0} → Accepted A → Type 0
IsEnd (Accepted.Link link) = ⊥
IsEnd Accepted.End = Unit {0}
IsEnd Accepted.Failed = ⊥

module _ {A : Type 0} where
  pub link≢end : {a : A} → Accepted.Link a ≡ Accepted.End → ⊥
  link≢end e = subst IsLink e tt

  pub link≢failed : {a : A} → Accepted.Link a ≡ Accepted.Failed → ⊥
  link≢failed e = subst IsLink e tt

  pub end≢link : {a : A} → Accepted.End ≡ Accepted.Link a → ⊥
  end≢link e = subst IsEnd e tt

  pub end≢failed : ◌≡◌ {A = Accepted A} Accepted.End Accepted.Failed → ⊥
  end≢failed e = subst IsEnd e tt

  pub failed≢link : {a : A} → Accepted.Failed ≡ Accepted.Link a → ⊥
  failed≢link e = subst IsLink (sym e) tt

  pub failed≢end : ◌≡◌ {A = Accepted A} Accepted.Failed Accepted.End → ⊥
  failed≢end e = subst IsEnd (sym e) tt

pub rises : {P Q : Type 0} {m n : ℕ} → (Q → P) → (P → Q) → RisesWhere P m n → RisesWhere Q m n
rises back on r = record {
  later = r.later;
  rose = λ q. r.rose (back q);
  same = λ no. r.same (λ p. no (on p));
}

pub onward : (old new : PortState) → PortOnward old new → PortOnward (buffered_state old) (buffered_state new)
onward old new o = record {
  told = o.told;
  steady = refl;
  place = o.place;
  count = o.count;
  accept_count = o.accept_count;
  room = o.room;
}

pub same-links : (old new : PortState) → SameLinks old new → SameLinks (buffered_state old) (buffered_state new)
same-links old new s = record { waiting = s.waiting; reaches = s.reaches; talks = s.talks }

-- nothing was written, and nothing is held back
none-written : (told : Bool) (written : List ℕ) → IsTrue told → written ≡ []
    → (if told then written ++ [] else []) ≡ []
none-written true written is e = append-nil written ∙ e
none-written false written is e = refl

pub new-link : (port : PortState) (dialled : Option (List ℕ)) (inner : Talk) (steady : Bool) (room : ℕ)
    → inner.room ≡ room → IsNewLink port dialled inner steady room
    → IsNewLink (buffered_state port) dialled (buffered_talk inner [] []) false (inner.room - 0)
new-link port dialled inner steady room is l = record {
  told = l.told;
  steady = λ steady. absurd (false≢true steady);
  place = l.place;
  taken = λ told. ap (λ t. take (length t - 0) t) (l.taken told);
  written = λ told. none-written inner.told inner.written (l.told told) (l.written told);
  count = l.count;
  room = (let r = l.room in omega arith);
}

pub accepts : (old new : PortState) (inner : Talk) (steady : Bool) (room : ℕ)
    → inner.room ≡ room → Accepts old inner steady room new
    → Accepts (buffered_state old) (buffered_talk inner [] []) false (inner.room - 0) (buffered_state new)
accepts old new inner steady room is a = record {
  listens = a.listens;
  link = new-link old _ inner steady room is a.link;
  waiting = a.waiting;
  reaches = a.reaches;
  talks = a.talks;
}

-- a link over another, as it is passed on and as a clause has it
module _ {L : Type 0} (talk : L → Talk) (old new : PortState) where
  abbrev AcceptsOver : L → List ℕ → List ℕ → Type 0
  AcceptsOver link ahead behind =
      Accepts (buffered_state old) (buffered_talk (talk link) ahead behind) false ((talk link).room - length behind) (buffered_state new)

  abbrev link-of : WithAhead L → Accepted (WithAhead L) → WithAhead L
  link-of other (Accepted.Link link) = link
  link-of other Accepted.End = other
  link-of other Accepted.Failed = other

  pub accepts-over : (inner : L) (made link : WithAhead L) (steady : Bool) (room : ℕ)
      → Accepted.Link made ≡ Accepted.Link link → made.link ≡ inner → made.ahead ≡ [] → made.behind ≡ []
      → (talk inner).room ≡ room → Accepts old (talk inner) steady room new → AcceptsOver link.link link.ahead link.behind
  accepts-over inner made link steady room is below ahead behind has a =
      subst (λ v. AcceptsOver v.link v.ahead v.behind) (ap (link-of made) is)
      (subst (λ l. AcceptsOver l made.ahead made.behind) (sym below)
      (subst (λ s. AcceptsOver inner s made.behind) (sym ahead)
      (subst (λ s. AcceptsOver inner [] s) (sym behind) (accepts old new (talk inner) steady room has a))))
