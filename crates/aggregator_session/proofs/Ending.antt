-- What a session may end with.
use Rattle.std.proofs.Common.{◌≡◌, ◌⊎◌, inl, inr, ℕ, suc, ◌==◌, ◌&&◌, Bool, true, false, List, [], ◌∷◌, map, IsTrue, IfOk, IfErr, IfSome, Option, Some, None, Result, Ok, Err, slice_index_or, slice_set, refl, sym, ap, subst, ◌∙◌, arith, if◌then◌else◌}
use Rattle.std.proofs.lemmas.Bool.Decides.{nat_tests}
use Rattle.aggregator_session.specs.Desks.{DeskState}
use Rattle.aggregator_session.specs.Faults.{sign_fault}
use Rattle.aggregator_session.specs.Hearing.{Asked, IsLoss, awaited, is_answer, is_kept, kept_in, unwritten}
use Rattle.aggregator_session.specs.Runs.{Calls, CellsRead, First, HasRun, Opens, SameSession, Second, SecondFrames, SignRun, Stops, dialled, first_all, first_answered, first_frame, first_lost, first_refused, judged_in_one, judged_in_two, lost_in_one, lost_in_two, no_memory, nowhere, second_all, second_answered, second_frames, second_lost, second_refused, second_unread, signed, undialled}
use Rattle.aggregator_session.specs.declared.desk.Address.{Address}
use Rattle.aggregator_session.specs.declared.fault.SignFault.{SignFault}
use Rattle.aggregator_session.specs.declared.fault.SignFault.TheVariants as fault
use Rattle.coalition_map.specs.Coalitions.{PlanNumbers, leaf_members}
use Rattle.aggregator_session.specs.Signing.{IsEnd, IsJudged}
use Rattle.lms_bytes.specs.Bytes.{bytes_at}
use Rattle.lms_bytes.specs.declared.message.MessageId.{MessageId}
use Rattle.lms_bytes.specs.declared.public_key.PublicKey.{PublicKey}
use Rattle.round_frames.specs.Replies.{Reply}
use Rattle.session_core.specs.Judging.{first_fault, kept_message, opened_fault, refusal_fault, round_fault, seat_fault, spent_fault}
use Rattle.session_core.specs.Replies.{answers, same_message, step_of, with_delivery}
use Rattle.session_core.specs.Seats.{Seat, empty_seat, filled_seat, is_filled, place_of, seat_of, with_reply}
use Rattle.session_core.specs.State.{State, body_room, seats_of, started, with_seats}
use Rattle.session_core.specs.Verdicts.{FinishFails, digest_of, joined_bytes}
use Rattle.session_core.specs.declared.faults.KeptValue.TheVariants.{Message, Digest}
use Rattle.session_core.specs.declared.faults.SessionFault.{SessionFault}
use Rattle.session_core.specs.declared.faults.SessionFault.TheVariants.{MemberRefused, Missing, NoMemory, Reference, SpentLeaf, WrongCheck, WrongRoot}
use Rattle.session_core.specs.declared.step.Step.TheVariants.{NotMine, Repeat, Kept}
use Rattle.std.specs.Str.{bytes_eq}
use Rattle.stream_io.specs.Net.{PortState}
use Rattle.stream_io.specs.Talk.{Talk}

-- seats that begin with masks, up to a place from which this is so
abbrev Begins : (List Seat → Type 0) → List Seat → Type 0
Begins P [] = Unit {0}
Begins P (seat ∷ seats) = P (seat ∷ seats) ⊎ ((seat.code ≡ Some 0) × Begins P seats)

-- these members' seats
abbrev AreOf : List ℕ → List Seat → Type 0
AreOf members seats = map (λ (seat : Seat). seat.member) seats ≡ members

-- a refusal comes first
abbrev Refuses : List Seat → Type 0
Refuses [] = ⊥
Refuses (seat ∷ seats) = (code : ℕ) × (seat.code ≡ Some code) × ((code == 0) ≡ false)

begins-of : (members : List ℕ) (seats : List Seat) → AreOf members seats → Begins (AreOf members) seats
begins-of members [] are = tt
begins-of members (seat ∷ seats) are = inl are

none-waits : (seats : List Seat) → Begins (AreOf []) seats → Begins Refuses seats
none-waits [] p = tt
none-waits (seat ∷ seats) (inl are) = absurd (cc)
none-waits (seat ∷ seats) (inr p) = inr (p.0, none-waits seats p.1)

-- the reply of a member goes into its first seat

reply-here : (seat : Seat) (seats : List Seat) (m code : ℕ) (body : List ℕ) → (seat.member == m) ≡ true → with_reply (seat ∷ seats) m code body ≡ filled_seat seat code body ∷ seats
unfolding place_of
reply-here seat seats m code body is = ap (λ (b : Bool). slice_set (seat ∷ seats) (if b then 0 else suc (place_of seats m)) (filled_seat (slice_index_or (seat ∷ seats) (if b then 0 else suc (place_of seats m)) (empty_seat 0 0)) code body)) is

reply-there : (seat : Seat) (seats : List Seat) (m code : ℕ) (body : List ℕ) → (seat.member == m) ≡ false → with_reply (seat ∷ seats) m code body ≡ seat ∷ with_reply seats m code body
unfolding place_of
reply-there seat seats m code body is = ap (λ (b : Bool). slice_set (seat ∷ seats) (if b then 0 else suc (place_of seats m)) (filled_seat (slice_index_or (seat ∷ seats) (if b then 0 else suc (place_of seats m)) (empty_seat 0 0)) code body)) is

seat-here : (seat : Seat) (seats : List Seat) (m : ℕ) → (seat.member == m) ≡ true → seat_of (seat ∷ seats) m ≡ seat
unfolding place_of
seat-here seat seats m is = ap (λ (b : Bool). slice_index_or (seat ∷ seats) (if b then 0 else suc (place_of seats m)) (empty_seat 0 0)) is

seat-there : (seat : Seat) (seats : List Seat) (m : ℕ) → (seat.member == m) ≡ false → seat_of (seat ∷ seats) m ≡ seat_of seats m
unfolding place_of
seat-there seat seats m is = ap (λ (b : Bool). slice_index_or (seat ∷ seats) (if b then 0 else suc (place_of seats m)) (empty_seat 0 0)) is

reply-none : (m code : ℕ) (body : List ℕ) → with_reply [] m code body ≡ []
unfolding place_of
reply-none m code body = refl

-- what holds once a member of which nothing was kept has replied
abbrev Step : (List Seat → Type 0) → (List Seat → Type 0) → ℕ → ℕ → List ℕ → Type 0
Step P Q m code body = (seat : Seat) (seats : List Seat) → P (seat ∷ seats) → (seat.member ≡ m) × Begins Q (filled_seat seat code body ∷ seats)

is-true : (a b : ℕ) → a ≡ b → (a == b) ≡ true
is-true a b is = grind (arith, nat_tests)

filled-not : (seat : Seat) → seat.code ≡ Some 0 → is_filled seat ≡ false → ⊥
filled-not seat masks is = let b : is_filled seat ≡ true = rw masks refl in absurd (cc)

replied-by : (P Q : List Seat → Type 0) (m code : ℕ) (body : List ℕ) (b : Bool) (seat : Seat) (seats : List Seat) → (seat.member == m) ≡ b → is_filled (seat_of (seat ∷ seats) m) ≡ false
    → seat.code ≡ Some 0 → (is_filled (seat_of seats m) ≡ false → Begins Q (with_reply seats m code body)) → Begins Q (with_reply (seat ∷ seats) m code body)
replied-by P Q m code body true seat seats is free masks rest = absurd (filled-not seat masks (ap is_filled (sym (seat-here seat seats m is)) ∙ free))
replied-by P Q m code body false seat seats is free masks rest =
    subst (Begins Q) (sym (reply-there seat seats m code body is)) (inr (masks, rest (ap is_filled (sym (seat-there seat seats m is)) ∙ free)))

replied : (P Q : List Seat → Type 0) (m code : ℕ) (body : List ℕ) → Step P Q m code body → (seats : List Seat) → is_filled (seat_of seats m) ≡ false → Begins P seats → Begins Q (with_reply seats m code body)
replied P Q m code body step [] free p = subst (Begins Q) (sym (reply-none m code body)) tt
replied P Q m code body step (seat ∷ seats) free (inl p) =
    let next = step seat seats p in
    subst (Begins Q) (sym (reply-here seat seats m code body (is-true seat.member m next.0))) next.1
replied P Q m code body step (seat ∷ seats) free (inr p) =
    replied-by P Q m code body (seat.member == m) seat seats refl free p.0 (λ open_seat. replied P Q m code body step seats open_seat p.1)

-- masks, and a refusal
masks-step : (m code : ℕ) (members body : List ℕ) → (code == 0) ≡ true → Step (AreOf (m ∷ members)) (AreOf members) m code body
masks-step m code members body is seat seats are =
    let zero : code ≡ 0 = grind (arith, nat_tests) in
    let first : seat.member ≡ m = cc in
    let rest : AreOf members seats = cc in
    (first, inr (ap (λ (k : ℕ). Some k) zero, begins-of members seats rest))

refusal-step : (m code : ℕ) (members body : List ℕ) → (code == 0) ≡ false → Step (AreOf (m ∷ members)) Refuses m code body
refusal-step m code members body is seat seats are =
    let first : seat.member ≡ m = cc in
    (first, inl (code, refl, is))

-- what a reply that answers makes of a session

if-true : (a b : Bool) → (if a then b else false) ≡ true → (a ≡ true) × (b ≡ true)
if-true true b is = (refl, is)
if-true false b is = absurd (cc)

step-kept : (a f : Bool) → is_kept (if a then (if f then Repeat else Kept) else NotMine) ≡ true → (a ≡ true) × (f ≡ false)
step-kept true true is = absurd (cc)
step-kept true false is = (refl, refl)
step-kept false f is = absurd (cc)

-- the session once it kept this reply of this member, of which nothing was kept
abbrev Keeps : State → ℕ → Reply → Type 0
Keeps s member reply = (is_filled (seat_of (seats_of s) member) ≡ false) × (kept_in s (Ok reply) ≡ with_seats s (with_reply (seats_of s) member reply.0.code reply.1))

keeps : (s : State) (member : ℕ) (reply : Reply) → IsTrue (is_answer s member reply) → Keeps s member reply
keeps s member reply is =
    let head = reply.0 in
    let body = reply.1 in
    let both = if-true (head.member == member) (is_kept (step_of s head body)) is in
    let of : head.member ≡ member = (let b = both.0 in grind (arith, nat_tests)) in
    let parts = step-kept (answers s head body) (is_filled (seat_of (seats_of s) head.member)) both.1 in
    let w = with_seats s (with_reply (seats_of s) head.member head.code body) in
    let kept : with_delivery s head body ≡ w =
    ap (λ (b : Bool). if b then (if is_filled (seat_of (seats_of s) head.member) then s else w) else s) parts.0
    ∙ ap (λ (b : Bool). if b then s else w) parts.1 in
    (ap (λ (m : ℕ). is_filled (seat_of (seats_of s) m)) (sym of) ∙ parts.1, kept ∙ ap (λ (m : ℕ). with_seats s (with_reply (seats_of s) m head.code body)) of)

-- in round one, and in round two

keeps-first : (s : State) (member : ℕ) (reply : Reply) → s.c ≡ None → IsTrue (is_answer s member reply)
    → (is_filled (seat_of s.first member) ≡ false) × (kept_in s (Ok reply) ≡ record s { first = with_reply s.first member reply.0.code reply.1 })
keeps-first s member reply none is =
    let k = keeps s member reply is in
    let seats : seats_of s ≡ s.first = rw none refl in
    let w = with_reply s.first member reply.0.code reply.1 in
    let now : with_seats s w ≡ record s { first = w } = rw none refl in
    (ap (λ (x : List Seat). is_filled (seat_of x member)) (sym seats) ∙ k.0, k.1 ∙ (ap (λ (x : List Seat). with_seats s (with_reply x member reply.0.code reply.1)) seats ∙ now))

keeps-second : (s : State) (c : List ℕ) (member : ℕ) (reply : Reply) → s.c ≡ Some c → IsTrue (is_answer s member reply)
    → (is_filled (seat_of s.second member) ≡ false) × (kept_in s (Ok reply) ≡ record s { second = with_reply s.second member reply.0.code reply.1 })
keeps-second s c member reply some is =
    let k = keeps s member reply is in
    let seats : seats_of s ≡ s.second = rw some refl in
    let w = with_reply s.second member reply.0.code reply.1 in
    let now : with_seats s w ≡ record s { second = w } = rw some refl in
    (ap (λ (x : List Seat). is_filled (seat_of x member)) (sym seats) ∙ k.0, k.1 ∙ (ap (λ (x : List Seat). with_seats s (with_reply x member reply.0.code reply.1)) seats ∙ now))

-- what comes of a member that is asked: a reply that answers, or a loss

abbrev Comes : ℕ → State → ℕ → Result Reply SignFault → Type 0
Comes leaf s member (Ok reply) = IsTrue (is_answer s member reply)
Comes leaf s member (Err fault) = IsEnd leaf fault

loss-end : (leaf : ℕ) (s : State) (member : ℕ) (f : SignFault) → IsLoss s member f → IsEnd leaf f
loss-end leaf s member (fault.TooLong got) lost = absurd lost
loss-end leaf s member fault.Worn lost = absurd lost
loss-end leaf s member (fault.Table f) lost = absurd lost
loss-end leaf s member (fault.Lost who round why) lost = tt
loss-end leaf s member (fault.Stray who round) lost = tt
loss-end leaf s member (fault.Session f) lost = absurd lost
loss-end leaf s member fault.NoMemory lost = absurd lost

heard-comes : (leaf : ℕ) (s : State) (member : ℕ) (answer : Result Reply SignFault) → IfOk answer (λ reply. IsTrue (is_answer s member reply)) → IfErr answer (IsLoss s member) → Comes leaf s member answer
heard-comes leaf s member (Ok reply) taken lost = taken
heard-comes leaf s member (Err f) taken lost = loss-end leaf s member f lost

asked-comes : (leaf : ℕ) (s : State) (member : ℕ) (frame : List ℕ) (old new : Talk) (answer : Result Reply SignFault) → Asked s member frame old new answer → Comes leaf s member answer
asked-comes leaf s member frame old new answer (unwritten only wrote rose) = tt
asked-comes leaf s member frame old new answer (awaited mid a only quiet wrote h) = heard-comes leaf s member a h.taken h.lost

calls-comes : (leaf : ℕ) (addresses : List Address) (ask : List ℕ) (s : State) (member : ℕ) (port after : PortState) (talks : List Talk) (answer : Result Reply SignFault) → Calls addresses ask s member port after talks answer
    → Comes leaf s member answer
calls-comes leaf addresses ask s member port after talks answer (nowhere none) = tt
calls-comes leaf addresses ask s member port after talks answer (undialled place a found onward rose same nobody) = tt
calls-comes leaf addresses ask s member port after talks answer (dialled place start talk steady a x found onward quiet dials asks) = asked-comes leaf s member ask start talk x asks

-- round one: how it ends, and what is kept of it if nobody is lost

pub first-end : (leaf : ℕ) (addresses : List Address) (ask : List ℕ) (port : PortState) (s : State) (members : List ℕ) (talks : List Talk) (last : State) (end : Result (Unit {0}) SignFault)
    → First addresses ask port s members talks last end → IfErr end (IsEnd leaf)
first-end leaf addresses ask port s members talks last end (first_all p x) = tt
first-end leaf addresses ask port s members talks last end (first_lost p after x member rest t f calls) = calls-comes leaf addresses ask x member p after t (Err f) calls
first-end leaf addresses ask port s members talks last end (first_refused p after x member rest t reply calls refused) = tt
first-end leaf addresses ask port s members talks last end (first_answered p after x y member rest t later reply e calls granted next) = first-end leaf addresses ask after (kept_in x (Ok reply)) rest later y e next

pub record HeardFirst (s last : State) : Type 0 where
  pub seats : Begins Refuses last.first
  pub c : last.c ≡ None
  pub second : last.second ≡ s.second

first-on : (s t last : State) (end : Result (Unit {0}) SignFault) → t.second ≡ s.second → IfOk end (λ _. HeardFirst t last) → IfOk end (λ _. HeardFirst s last)
first-on s t last (Ok done) is h = record { seats = h.seats; c = h.c; second = h.second ∙ is }
first-on s t last (Err f) is h = tt

pub first-heard : (addresses : List Address) (ask : List ℕ) (port : PortState) (s : State) (members : List ℕ) (talks : List Talk) (last : State) (end : Result (Unit {0}) SignFault)
    → First addresses ask port s members talks last end → s.c ≡ None → Begins (AreOf members) s.first → IfOk end (λ _. HeardFirst s last)
first-heard addresses ask port s members talks last end (first_all p x) none begins = record { seats = none-waits x.first begins; c = none; second = refl }
first-heard addresses ask port s members talks last end (first_lost p after x member rest t f calls) none begins = tt
first-heard addresses ask port s members talks last end (first_refused p after x member rest t reply calls refused) none begins =
    let k = keeps-first x member reply none (calls-comes 0 addresses ask x member p after t (Ok reply) calls) in
    record {
      seats = subst (λ (y : State). Begins Refuses y.first) (sym k.1)
          (replied (AreOf (member ∷ rest)) Refuses member reply.0.code reply.1 (refusal-step member reply.0.code rest reply.1 refused) x.first k.0 begins);
      c = ap (λ (y : State). y.c) k.1 ∙ none;
      second = ap (λ (y : State). y.second) k.1;
    }
first-heard addresses ask port s members talks last end (first_answered p after x y member rest t later reply e calls granted next) none begins =
    let k = keeps-first x member reply none (calls-comes 0 addresses ask x member p after t (Ok reply) calls) in
    first-on x (kept_in x (Ok reply)) y e (ap (λ (z : State). z.second) k.1) (first-heard addresses ask after (kept_in x (Ok reply)) rest later y e next (ap (λ (z : State). z.c) k.1 ∙ none)
    (subst (λ (z : State). Begins (AreOf rest) z.first) (sym k.1)
    (replied (AreOf (member ∷ rest)) (AreOf rest) member reply.0.code reply.1 (masks-step member reply.0.code rest reply.1 granted) x.first k.0 begins)))

-- round two

pub second-end : (leaf : ℕ) (frames : SecondFrames) (s : State) (members : List ℕ) (olds news : List Talk) (last : State) (end : Result (Unit {0}) SignFault)
    → Second frames s members olds news last end → IfErr end (IsEnd leaf)
second-end leaf frames s members olds news last end (second_all x) = tt
second-end leaf frames s members olds news last end (second_unread x member rest o) = tt
second-end leaf frames s members olds news last end (second_lost x member rest ask old new o f framed asks) = asked-comes leaf x member ask old new (Err f) asks
second-end leaf frames s members olds news last end (second_refused x member rest ask old new o reply framed asks refused) = tt
second-end leaf frames s members olds news last end (second_answered x y member rest ask old new o n reply e framed asks granted next) =
    second-end leaf frames (kept_in x (Ok reply)) rest o n y e next

pub record HeardSecond (c : List ℕ) (last : State) : Type 0 where
  pub seats : Begins Refuses last.second
  pub c_is : last.c ≡ Some c

pub second-heard : (c : List ℕ) (frames : SecondFrames) (s : State) (members : List ℕ) (olds news : List Talk) (last : State) (end : Result (Unit {0}) SignFault)
    → Second frames s members olds news last end → s.c ≡ Some c → Begins (AreOf members) s.second → IfOk end (λ _. HeardSecond c last)
second-heard c frames s members olds news last end (second_all x) some begins = record { seats = none-waits x.second begins; c_is = some }
second-heard c frames s members olds news last end (second_unread x member rest o) some begins = tt
second-heard c frames s members olds news last end (second_lost x member rest ask old new o f framed asks) some begins = tt
second-heard c frames s members olds news last end (second_refused x member rest ask old new o reply framed asks refused) some begins =
    let k = keeps-second x c member reply some (asked-comes 0 x member ask old new (Ok reply) asks) in
    record {
      seats = subst (λ (y : State). Begins Refuses y.second) (sym k.1)
          (replied (AreOf (member ∷ rest)) Refuses member reply.0.code reply.1 (refusal-step member reply.0.code rest reply.1 refused) x.second k.0 begins);
      c_is = ap (λ (y : State). y.c) k.1 ∙ some;
    }
second-heard c frames s members olds news last end (second_answered x y member rest ask old new o n reply e framed asks granted next) some begins =
    let k = keeps-second x c member reply some (asked-comes 0 x member ask old new (Ok reply) asks) in
    second-heard c frames (kept_in x (Ok reply)) rest o n y e next (ap (λ (z : State). z.c) k.1 ∙ some)
    (subst (λ (z : State). Begins (AreOf rest) z.second) (sym k.1)
    (replied (AreOf (member ∷ rest)) (AreOf rest) member reply.0.code reply.1 (masks-step member reply.0.code rest reply.1 granted) x.second k.0 begins))

-- what is wrong with a round in which all were heard, or one refused

if-judged : (leaf : ℕ) (b : Bool) (x y : SessionFault) → IsJudged leaf x → IsJudged leaf y → IsJudged leaf (if b then x else y)
if-judged leaf true x y p q = p
if-judged leaf false x y p q = q

elim-judged : (leaf : ℕ) (c : Option (List ℕ)) (x : SessionFault) (f : List ℕ → SessionFault) → IsJudged leaf x → ((v : List ℕ) → IsJudged leaf (f v)) → IsJudged leaf (elim c [ None ↦ x | Some v ↦ f v ])
elim-judged leaf None x f p q = p
elim-judged leaf (Some v) x f p q = q v

refusal-judged : (s : State) (digest : List ℕ) (member code : ℕ) (body : List ℕ) → IsJudged s.leaf (refusal_fault s digest member code body)
refusal-judged s digest member code body =
    let n = s.key.params.n in
    let leaf = s.leaf in
    if-judged leaf (code == 9) (spent_fault s member body) _ (if-judged leaf (same_message (kept_message body) s.message) (MemberRefused member 9) (SpentLeaf s.leaf member (Message (kept_message body))) tt refl)
    (elim-judged leaf s.c (MemberRefused member code) (λ (c : List ℕ). if code == 5 then WrongCheck s.leaf member else if code == 10 then opened_fault s c digest member body else MemberRefused member code) tt
    (λ c. if-judged leaf (code == 5) (WrongCheck s.leaf member) _ refl (if-judged leaf (code == 10) (opened_fault s c digest member body) (MemberRefused member code)
    (if-judged leaf (bytes_eq (bytes_at body 0 n) c && bytes_eq (bytes_at body n n) digest) (MemberRefused member 10) (SpentLeaf s.leaf member (Digest (bytes_at body 0 n) (bytes_at body n n))) tt refl) tt)))

masks-fault : (s : State) (digest : List ℕ) (seat : Seat) → seat.code ≡ Some 0 → seat_fault s digest seat ≡ None
masks-fault s digest seat is = rw is refl

refused-fault : (s : State) (digest : List ℕ) (seat : Seat) (code : ℕ) → seat.code ≡ Some code → (code == 0) ≡ false → seat_fault s digest seat ≡ Some (refusal_fault s digest seat.member code seat.body)
refused-fault s digest seat code is refused = rw (is, refused) refl

first-none : (rest : List (Option SessionFault)) → first_fault (None ∷ rest) ≡ first_fault rest
unfolding first_fault
first-none rest = refl

first-some : (f : SessionFault) (rest : List (Option SessionFault)) → first_fault (Some f ∷ rest) ≡ Some f
unfolding first_fault
first-some f rest = refl

first-nil : first_fault [] ≡ None
unfolding first_fault
first-nil = refl

abbrev some_fault : SessionFault → Option SessionFault
some_fault f = Some f

judged : (s : State) (digest : List ℕ) (seats : List Seat) → Begins Refuses seats → IfSome (first_fault (map (seat_fault s digest) seats)) (IsJudged s.leaf)
judged s digest [] begins = subst (λ (o : Option SessionFault). IfSome o (IsJudged s.leaf)) (sym first-nil) tt
judged s digest (seat ∷ seats) (inl refuses) =
    let f = refusal_fault s digest seat.member refuses.0 seat.body in
    let rest = map (seat_fault s digest) seats in
    let is : first_fault (seat_fault s digest seat ∷ rest) ≡ some_fault f = ap (λ (o : Option SessionFault). first_fault (o ∷ rest)) (refused-fault s digest seat refuses.0 refuses.1 refuses.2) ∙ first-some f rest in
    subst (λ (o : Option SessionFault). IfSome o (IsJudged s.leaf)) (sym is) (refusal-judged s digest seat.member refuses.0 seat.body)
judged s digest (seat ∷ seats) (inr masks) =
    let rest = map (seat_fault s digest) seats in
    let is : first_fault (seat_fault s digest seat ∷ rest) ≡ first_fault rest = ap (λ (o : Option SessionFault). first_fault (o ∷ rest)) (masks-fault s digest seat masks.0) ∙ first-none rest in
    subst (λ (o : Option SessionFault). IfSome o (IsJudged s.leaf)) (sym is) (judged s digest seats masks.1)

round-judged : (s : State) (digest : List ℕ) (f : SessionFault) → Begins Refuses (seats_of s) → round_fault s digest ≡ Some f → IsJudged s.leaf f
round-judged s digest f begins is =
    let found : IfSome (some_fault f) (IsJudged s.leaf) = subst (λ (o : Option SessionFault). IfSome o (IsJudged s.leaf)) is (judged s digest (seats_of s) begins) in
    found

-- a session's fault as one of the call

sign-end : (leaf : ℕ) (f : SessionFault) → IsJudged leaf f → IsEnd leaf (sign_fault f)
sign-end leaf (Missing member round) p = absurd p
sign-end leaf (SpentLeaf spent member kept) p = p
sign-end leaf (WrongCheck wrong member) p = p
sign-end leaf (WrongRoot wrong got want) p = p
sign-end leaf (MemberRefused member code) p = tt
sign-end leaf Reference p = tt
sign-end leaf NoMemory p = absurd p

abbrev Ends : ℕ → SessionFault → Type 0
Ends leaf f = IsEnd leaf (sign_fault f)

stops-end : (reads : CellsRead) (s : State) (f : SessionFault) → Begins Refuses (seats_of s) → Stops reads s f → Ends s.leaf f
stops-end reads s f begins stops = elim stops [
  | inl some ↦ sign-end s.leaf f (round-judged s [] f begins some)
  | inr unread ↦ subst (Ends s.leaf) (sym unread.reference) tt
]

fails-end : (s : State) (message : List ℕ) (told : Bool) (bytes : List ℕ) (before now : ℕ) (f : SessionFault) → Begins Refuses (seats_of s) → FinishFails s message told bytes before now f → Ends s.leaf f
fails-end s message told bytes before now f begins fails = elim fails [
  | inl none ↦ subst (Ends s.leaf) (sym none) tt
  | inr (inl some) ↦ sign-end s.leaf f (round-judged s (digest_of s message) f begins some)
  | inr (inr (inl unread)) ↦ subst (Ends s.leaf) (sym unread.reference) tt
  | inr (inr (inr astray)) ↦ subst (Ends s.leaf) (sym astray.fault_is) refl
]

-- a session in which nothing is kept
pub record IsFresh (s : State) : Type 0 where
  pub c : s.c ≡ None
  pub first : AreOf (leaf_members s.plan s.leaf) s.first
  pub second : AreOf (leaf_members s.plan s.leaf) s.second

opened : (addresses : List Address) (reads : CellsRead) (port : PortState) (s turned : State) (talks : List Talk) → IsFresh s → Opens addresses reads port s turned talks
    → (c : List ℕ) × (turned.c ≡ Some c) × Begins (AreOf (leaf_members s.plan s.leaf)) turned.second
opened addresses reads port s turned talks fresh o =
    let members = leaf_members s.plan s.leaf in
    let h = first-heard addresses (first_frame s) port s members talks o.kept (Ok tt) o.first fresh.c (begins-of members s.first fresh.first) in
    let second : turned.second ≡ s.second = ap (λ (x : State). x.second) o.turns.same ∙ h.second in
    (o.turns.c, ap (λ (x : State). x.c) o.turns.same, subst (Begins (AreOf members)) (sym second) (begins-of members s.second fresh.second))

first-seats : (s : State) → s.c ≡ None → Begins Refuses s.first → Begins Refuses (seats_of s)
first-seats s none begins = let seats : seats_of s ≡ s.first = rw none refl in subst (Begins Refuses) (sym seats) begins

second-seats : (s : State) (c : List ℕ) → s.c ≡ Some c → Begins Refuses s.second → Begins Refuses (seats_of s)
second-seats s c some begins = let seats : seats_of s ≡ s.second = rw some refl in subst (Begins Refuses) (sym seats) begins

run-end : (desk : DeskState) (reads : CellsRead) (message : List ℕ) (port : PortState) (s : State) (talks : List Talk) (last : State) (result : Result (List ℕ) SignFault) → IsFresh s
    → SignRun desk reads message port s talks last result → SameSession s last → IfErr result (IsEnd s.leaf)
run-end desk reads message port s talks last result fresh no_memory same = tt
run-end desk reads message port s talks last result fresh (lost_in_one t kept f run) same = first-end s.leaf desk.addresses (first_frame s) port s (leaf_members s.plan s.leaf) t kept (Err f) run
run-end desk reads message port s talks last result fresh (judged_in_one t kept f run stops) same =
    let members = leaf_members s.plan s.leaf in
    let h = first-heard desk.addresses (first_frame s) port s members t kept (Ok tt) run fresh.c (begins-of members s.first fresh.first) in
    subst (λ (q : ℕ). Ends q f) same.leaf (stops-end reads kept f (first-seats kept h.c h.seats) stops)
run-end desk reads message port s talks last result fresh (lost_in_two mids t turned kept f opens run) same =
    second-end s.leaf (second_frames reads turned message) turned (leaf_members s.plan s.leaf) mids t kept (Err f) run
run-end desk reads message port s talks last result fresh (judged_in_two mids t turned kept f opens run fails) same =
    let o = opened desk.addresses reads port s turned mids fresh opens in
    let h = second-heard o.0 (second_frames reads turned message) turned (leaf_members s.plan s.leaf) mids t kept (Ok tt) run o.1 o.2 in
    subst (λ (q : ℕ). Ends q f) same.leaf (fails-end kept message reads.told (joined_bytes kept reads.leaves desk.tree message) reads.before reads.now f (second-seats kept o.0 h.c_is h.seats) fails)
run-end desk reads message port s talks last result fresh (signed mids t turned kept bytes opens run signs) same = tt

numbers : (room : ℕ) (members : List ℕ) → AreOf members (map (empty_seat room) members)
numbers room [] = refl
numbers room (m ∷ members) = ap (λ (ms : List ℕ). m ∷ ms) (numbers room members)

-- how a session that begins with nothing kept ends
pub started-end : (key : PublicKey) (plan : PlanNumbers) (leaf : ℕ) (id : MessageId) (desk : DeskState) (reads : CellsRead) (message : List ℕ) (before now : PortState) (last : State)
    (result : Result (List ℕ) SignFault) → HasRun desk reads message before now (started key plan leaf id) last result → IfErr result (IsEnd leaf)
started-end key plan leaf id desk reads message before now last result run =
    let s = started key plan leaf id in
    run-end desk reads message before s run.talks last result
    (record { c = refl; first = numbers (body_room key.params 1) (leaf_members plan leaf); second = numbers (body_room key.params 2) (leaf_members plan leaf) }) run.run run.same
