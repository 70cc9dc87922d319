-- A session that keeps a refusal of round one does not keep masks alone.
use Rattle.std.proofs.Common.{◌≡◌, ◌<◌, ℕ, ◌==◌, ◌&&◌, nat_le, Bool, true, false, List, IfOk, IsTrue, Some, None, Result, Ok, Err, length, get_or, set, get_or-set_same, length-set, refl, sym, ap, subst, ◌∙◌, arith, if◌then◌else◌}
use Rattle.std.proofs.lemmas.Bool.Decides.{nat_tests}
use Rattle.aggregator_session.specs.Hearing.{Asked, awaited, granted, is_answer, is_kept, is_masks, kept_in, unwritten}
use Rattle.aggregator_session.specs.Runs.{Calls, dialled, nowhere, undialled}
use Rattle.aggregator_session.specs.declared.desk.Address.{Address}
use Rattle.aggregator_session.specs.declared.fault.SignFault.{SignFault}
use Rattle.lms_bytes.specs.declared.ask.ReplyHead.{ReplyHead}
use Rattle.round_frames.specs.Replies.{Reply}
use Rattle.session_core.specs.Replies.{answers, is_whole, names_ask, step_of, with_delivery}
use Rattle.session_core.specs.Seats.{Seat, empty_seat, filled_seat, has_seat, is_filled, place_of, seat_of, with_reply}
use Rattle.session_core.specs.State.{State, seats_of, with_seats}
use Rattle.session_core.specs.Verdicts.{AreMasks}
use Rattle.session_core.specs.declared.step.Step.TheVariants.{NotMine, Repeat, Kept}
use Rattle.stream_io.specs.Net.{PortState}
use Rattle.stream_io.specs.Talk.{Talk}

if-true : (a b : Bool) → (if a then b else false) ≡ true → b ≡ true
if-true true b is = is
if-true false b is = absurd (cc)

both-true : (a b : Bool) → (a && b) ≡ true → (a ≡ true) × (b ≡ true)
both-true true b is = (refl, is)
both-true false b is = absurd (cc)

step-kept : (a f : Bool) → is_kept (if a then (if f then Repeat else Kept) else NotMine) ≡ true → (a ≡ true) × (f ≡ false)
step-kept true true is = absurd (cc)
step-kept true false is = (refl, refl)
step-kept false f is = absurd (cc)

kept-first : (s : State) (head : ReplyHead) (body : List ℕ) → s.c ≡ None → answers s head body ≡ true → is_filled (seat_of (seats_of s) head.member) ≡ false
    → (with_delivery s head body).first ≡ with_reply s.first head.member head.code body
kept-first s head body none a f =
    let w = with_seats s (with_reply (seats_of s) head.member head.code body) in
    let last : w.first ≡ with_reply s.first head.member head.code body = rw none refl in
    ap (λ (b : Bool). (if b then (if is_filled (seat_of (seats_of s) head.member) then s else w) else s).first) a
    ∙ ap (λ (b : Bool). (if b then s else w).first) f ∙ last

seated : (s : State) (head : ReplyHead) (body : List ℕ) → s.c ≡ None → answers s head body ≡ true → place_of s.first head.member < length s.first
seated s head body none a =
    let whole = both-true (names_ask s head) (is_whole s head body) a in
    let there : has_seat (seats_of s) head.member ≡ true = (both-true (has_seat (seats_of s) head.member) _ (both-true (has_seat (seats_of s) head.member && nat_le head.code 12) _ whole.1).0).0 in
    let here : has_seat s.first head.member ≡ true = rw none at there in
    grind (arith, nat_tests)

not-masks : (seats : List Seat) (t code : ℕ) (body : List ℕ) → place_of seats t < length seats → (code == 0) ≡ false → AreMasks (with_reply seats t code body) → ⊥
not-masks seats t code body inside refused all =
    let p = place_of seats t in
    let v = filled_seat (seat_of seats t) code body in
    let within : p < length (set seats p v) = (let l = length-set seats p v in omega arith) in
    let here = all p (empty_seat 0 0) within in
    let same : get_or (set seats p v) p (empty_seat 0 0) ≡ v = get_or-set_same seats p v (empty_seat 0 0) inside in
    let zero : Some code ≡ Some 0 = sym (ap (λ (x : Seat). x.code) same) ∙ here in
    let is : code ≡ 0 = cc in
    absurd (grind (arith, nat_tests))

refused-not : (s : State) (member : ℕ) (reply : Reply) → s.c ≡ None → IsTrue (is_answer s member reply) → is_masks reply ≡ false → AreMasks (kept_in s (Ok reply)).first → ⊥
refused-not s member reply none is refused all =
    let head = reply.0 in
    let kept = if-true (head.member == member) (is_kept (step_of s head reply.1)) is in
    let parts = step-kept (answers s head reply.1) (is_filled (seat_of (seats_of s) head.member)) kept in
    not-masks s.first head.member head.code reply.1 (seated s head reply.1 none parts.0) refused
    (subst AreMasks (kept-first s head reply.1 none parts.0 parts.1) all)

abbrev Taken : State → ℕ → Result Reply SignFault → Type 0
Taken s member answer = IfOk answer (λ (reply : Reply). IsTrue (is_answer s member reply))

taken-of : (s : State) (member : ℕ) (frame : List ℕ) (old new : Talk) (answer : Result Reply SignFault) (reply : Reply) → answer ≡ Ok reply → Asked s member frame old new answer → IsTrue (is_answer s member reply)
taken-of s member frame old new answer reply is (unwritten only wrote rose) = absurd (cc)
taken-of s member frame old new answer reply is (awaited mid a only quiet wrote h) = subst (λ (x : Result Reply SignFault). Taken s member x) is h.taken

called-taken : (addresses : List Address) (ask : List ℕ) (s : State) (member : ℕ) (port after : PortState) (talks : List Talk) (answer : Result Reply SignFault) (reply : Reply) → answer ≡ Ok reply
    → Calls addresses ask s member port after talks answer → IsTrue (is_answer s member reply)
called-taken addresses ask s member port after talks answer reply is (nowhere none) = absurd (cc)
called-taken addresses ask s member port after talks answer reply is (undialled place a found onward rose same nobody) = absurd (cc)
called-taken addresses ask s member port after talks answer reply is (dialled place start talk steady a x found onward quiet dials asked) = taken-of s member ask start talk x reply is asked

-- if a member that was called refused
pub called-refused : (addresses : List Address) (ask : List ℕ) (s last : State) (member : ℕ) (port after : PortState) (talks : List Talk) (answer : Result Reply SignFault) (result : Result Bool SignFault)
    → s.c ≡ None → Calls addresses ask s member port after talks answer → last ≡ kept_in s answer → result ≡ granted answer → result ≡ Ok false → AreMasks last.first → ⊥
called-refused addresses ask s last member port after talks (Err fault) result none calls state told is all = absurd (cc)
called-refused addresses ask s last member port after talks (Ok reply) result none calls state told is all =
    let refused : is_masks reply ≡ false = cc in
    refused-not s member reply none (called-taken addresses ask s member port after talks (Ok reply) reply refl calls) refused (subst (λ (x : State). AreMasks x.first) state all)
