use Rattle.std.proofs.Common.{◌≡◌, ℕ, Bool, true, false, List, None, Some, length, refl, sym, ◌∙◌, ap, arith, if◌then◌else◌}
use Rattle.lms_bytes.specs.declared.ask.ReplyHead.{ReplyHead}
use Rattle.session_core.specs.Replies.{IsWhole, answers, with_delivery}
use Rattle.session_core.specs.Seats.{Seat, is_filled, seat_of, with_reply}
use Rattle.session_core.specs.SessionInside.{seen}
use Rattle.session_core.specs.State.{State, seats_of, with_seats}
use Rattle.session_core.proofs.Keeping.{written_back}
use Rattle.session_core.proofs.Taking.{first-round, second-round, first-whole, second-whole, room-enough, kept-seats}
use Rattle.session_core.proofs.session.Session.take.Goals as goal

-- a session that keeps its seats, or has them with one more reply
one-more : (test : Bool) (s : State) (head : ReplyHead) (body : List ℕ) → answers s head body ≡ true → is_filled (seat_of (seats_of s) head.member) ≡ test
    → with_delivery s head body ≡ (if test then s else with_seats s (with_reply (seats_of s) head.member head.code body))
one-more test s head body mine is = rw (mine, is) refl

chosen-first : (test : Bool) (s : State) (new more : List Seat) → new ≡ (if test then s.first else more)
    → record s { first = new } ≡ (if test then s else record s { first = more })
chosen-first true s new more e = rw e refl
chosen-first false s new more e = rw e refl

chosen-second : (test : Bool) (s : State) (new more : List Seat) → new ≡ (if test then s.second else more)
    → record s { second = new } ≡ (if test then s else record s { second = more })
chosen-second true s new more e = rw e refl
chosen-second false s new more e = rw e refl

with-first : (s : State) (seats : List Seat) → s.c ≡ None → with_seats s seats ≡ record s { first = seats }
with-first s seats none = rw none refl

with-second : (s : State) (seats : List Seat) (c : List ℕ) → s.c ≡ Some c → with_seats s seats ≡ record s { second = seats }
with-second s seats c some = rw some refl

taken-first : (s : State) (head : ReplyHead) (body : List ℕ) (new : List Seat) → s.c ≡ None → answers s head body ≡ true
    → new ≡ (if is_filled (seat_of s.first head.member) then s.first else with_reply s.first head.member head.code body)
    → record s { first = new } ≡ with_delivery s head body
taken-first s head body new none mine is =
    let test = is_filled (seat_of s.first head.member) in
    let more : List Seat → List Seat = λ seats. with_reply seats head.member head.code body in
    let round = first-round s none in
    chosen-first test s new (more s.first) is ∙ sym (one-more test s head body mine (ap (λ seats. is_filled (seat_of seats head.member)) round)
    ∙ ap (λ z. if test then s else z) (ap (λ seats. with_seats s (more seats)) round ∙ with-first s (more s.first) none))

taken-second : (s : State) (head : ReplyHead) (body : List ℕ) (new : List Seat) (c : List ℕ) → s.c ≡ Some c → answers s head body ≡ true
    → new ≡ (if is_filled (seat_of s.second head.member) then s.second else with_reply s.second head.member head.code body)
    → record s { second = new } ≡ with_delivery s head body
taken-second s head body new c some mine is =
    let test = is_filled (seat_of s.second head.member) in
    let more : List Seat → List Seat = λ seats. with_reply seats head.member head.code body in
    let round = second-round s c some in
    chosen-second test s new (more s.second) is ∙ sym (one-more test s head body mine (ap (λ seats. is_filled (seat_of seats head.member)) round)
    ∙ ap (λ z. if test then s else z) (ap (λ seats. with_seats s (more seats)) round ∙ with-second s (more s.second) c some))

pub keep_first-requires-clause-room : goal.keep_first-requires-clause-room
keep_first-requires-clause-room c =
    let at : IsWhole (seen c.self.inside) c.args.head.now c.args.body.now = rw (← c.self.view_is) at (c.answers.ensures.whole c.if-answers.true) in
    let whole = first-whole (seen c.self.inside) c.args.head.now c.args.body.now c.in-None.is at in
    rw c.deref_mut.ensures.value (room-enough _ _ 1 c.self.inside.first.items c.args.head.now.member c.args.head.now.code _ c.self.invariant.first whole.0 whole.1)

pub invariant_of-self : goal.invariant_of-self
invariant_of-self c =
    let at : IsWhole (seen c.self.inside) c.args.head.now c.args.body.now = rw (← c.self.view_is) at (c.answers.ensures.whole c.if-answers.true) in
    let whole = first-whole (seen c.self.inside) c.args.head.now c.args.body.now c.in-None.is at in
    let size : length c.keep_first.new.seats ≡ length c.self.inside.first.items = omega arith in
    let full : c.self.inside.first.len ≡ length c.self.inside.first.items = omega arith in
    let back = written_back c.keep_first.new.seats c.self.inside.first.items c.self.inside.first.len size full in
    let seats = rw c.deref_mut.ensures.value at c.keep_first.ensures.seats in
    record {
      height = c.self.invariant.height;
      leaf = c.self.invariant.leaf;
      ascending = c.self.invariant.ascending;
      first = rw back (kept-seats _ _ 1 c.self.inside.first.items c.keep_first.new.seats c.args.head.now.member c.args.head.now.code c.args.body.now _ c.self.invariant.first whole.0 whole.1 seats);
      second = c.self.invariant.second;
      waiting = c.self.invariant.waiting;
      c = c.self.invariant.c;
    }

pub keep_first-requires-in-Some-clause-room : goal.keep_first-requires-in-Some-clause-room
keep_first-requires-in-Some-clause-room c =
    let at : IsWhole (seen c.self.inside) c.args.head.now c.args.body.now = rw (← c.self.view_is) at (c.answers.ensures.whole c.if-answers.true) in
    let whole = second-whole (seen c.self.inside) c.args.head.now c.args.body.now c.in-Some.field-0 c.in-Some.is at in
    rw c.deref_mut-in-Some.ensures.value (room-enough _ _ 2 c.self.inside.second.items c.args.head.now.member c.args.head.now.code _ c.self.invariant.second whole.0 whole.1)

pub invariant_of-self-in-Some : goal.invariant_of-self-in-Some
invariant_of-self-in-Some c =
    let at : IsWhole (seen c.self.inside) c.args.head.now c.args.body.now = rw (← c.self.view_is) at (c.answers.ensures.whole c.if-answers.true) in
    let whole = second-whole (seen c.self.inside) c.args.head.now c.args.body.now c.in-Some.field-0 c.in-Some.is at in
    let size : length c.keep_first-in-Some.new.seats ≡ length c.self.inside.second.items = omega arith in
    let full : c.self.inside.second.len ≡ length c.self.inside.second.items = omega arith in
    let back = written_back c.keep_first-in-Some.new.seats c.self.inside.second.items c.self.inside.second.len size full in
    let seats = rw c.deref_mut-in-Some.ensures.value at c.keep_first-in-Some.ensures.seats in
    record {
      height = c.self.invariant.height;
      leaf = c.self.invariant.leaf;
      ascending = c.self.invariant.ascending;
      first = c.self.invariant.first;
      second = rw back (kept-seats _ _ 2 c.self.inside.second.items c.keep_first-in-Some.new.seats c.args.head.now.member c.args.head.now.code c.args.body.now _ c.self.invariant.second whole.0 whole.1 seats);
      waiting = λ none. (let some = c.in-Some.is in absurd (cc));
      c = c.self.invariant.c;
    }

pub returns-in-None-clause-state : goal.returns-in-None-clause-state
returns-in-None-clause-state c =
    let mine = ap (λ (x : State). answers x c.args.head.now c.args.body.now) c.self.view_is ∙ (sym c.answers.ensures.answers ∙ c.if-answers.true) in
    let size : length c.keep_first.new.seats ≡ length c.self.inside.first.items = omega arith in
    let full : c.self.inside.first.len ≡ length c.self.inside.first.items = omega arith in
    let back = written_back c.keep_first.new.seats c.self.inside.first.items c.self.inside.first.len size full in
    let seats = rw c.deref_mut.ensures.value at c.keep_first.ensures.seats in
    let s = seen c.self.inside in
    ap (λ (l : List Seat). record s { first = l }) back ∙ (taken-first s c.args.head.now c.args.body.now c.keep_first.new.seats c.in-None.is mine seats
    ∙ ap (λ (x : State). with_delivery x c.args.head.now c.args.body.now) c.self.view_is)

pub returns-in-Some-clause-state : goal.returns-in-Some-clause-state
returns-in-Some-clause-state c =
    let mine = ap (λ (x : State). answers x c.args.head.now c.args.body.now) c.self.view_is ∙ (sym c.answers.ensures.answers ∙ c.if-answers.true) in
    let size : length c.keep_first-in-Some.new.seats ≡ length c.self.inside.second.items = omega arith in
    let full : c.self.inside.second.len ≡ length c.self.inside.second.items = omega arith in
    let back = written_back c.keep_first-in-Some.new.seats c.self.inside.second.items c.self.inside.second.len size full in
    let seats = rw c.deref_mut-in-Some.ensures.value at c.keep_first-in-Some.ensures.seats in
    let s = seen c.self.inside in
    ap (λ (l : List Seat). record s { second = l }) back ∙ (taken-second s c.args.head.now c.args.body.now c.keep_first-in-Some.new.seats c.in-Some.field-0 c.in-Some.is mine seats
    ∙ ap (λ (x : State). with_delivery x c.args.head.now c.args.body.now) c.self.view_is)
