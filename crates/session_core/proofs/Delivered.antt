-- What a list of deliveries does to the state.
use Rattle.std.proofs.Common.{◌≡◌, ℕ, suc, ◌+◌, Bool, true, false, List, [], ◌∷◌, Option, None, Some, length, map, refl, sym, ◌∙◌, ap, if◌then◌else◌}
use Rattle.std.proofs.lemmas.List.Elements.{All-head, All-tail}
use Rattle.coalition_map.specs.Members.{IsAscendingIn}
use Rattle.lms_bytes.specs.declared.ask.ReplyHead.{ReplyHead}
use Rattle.session_core.specs.Deliveries.{Delivery, answered_seat, answered_seats, delivered, first_reply}
use Rattle.session_core.specs.Replies.{answers, with_delivery}
use Rattle.session_core.specs.Seats.{Seat, has_seat, is_filled, place_of, seat_of, with_reply}
use Rattle.session_core.specs.State.{AreEmpty, IsSession, SameAsk, State, seats_of, with_seats}
use Rattle.session_core.proofs.Delivering.{after, after-each, after-empty, after-none, after-step, kept-first-map, kept_first, step-first, step-members, step-not, step_if}

abbrev pub numbers : List Seat → List ℕ
numbers seats = map (λ (seat : Seat). seat.member) seats

-- the place of a member depends on the members alone
place-cons : (x y : Seat) (xs ys : List Seat) (t : ℕ) → x.member ≡ y.member → place_of xs t ≡ place_of ys t → place_of (x ∷ xs) t ≡ place_of (y ∷ ys) t
unfolding place_of
place-cons x y xs ys t same rest = rw (same, rest) refl

place-same : (xs ys : List Seat) (t : ℕ) → numbers xs ≡ numbers ys → place_of xs t ≡ place_of ys t
place-same [] [] t same = refl
place-same [] (y ∷ ys) t same = absurd (cc)
place-same (x ∷ xs) [] t same = absurd (cc)
place-same (x ∷ xs) (y ∷ ys) t same =
    let head : x.member ≡ y.member = cc in
    let tail : numbers xs ≡ numbers ys = cc in
    place-cons x y xs ys t head (place-same xs ys t tail)

length-numbers : (xs : List Seat) → length (numbers xs) ≡ length xs
length-numbers [] = refl
length-numbers (x ∷ xs) = ap suc (length-numbers xs)

has-same : (xs ys : List Seat) (t : ℕ) → numbers xs ≡ numbers ys → has_seat xs t ≡ has_seat ys t
has-same xs ys t same =
    let size : length xs ≡ length ys = sym (length-numbers xs) ∙ (ap length same ∙ length-numbers ys) in
    rw (place-same xs ys t same, size) refl

-- the seats of the present round are replaced
seats-with : (s : State) (o : Option (List ℕ)) → s.c ≡ o → (seats : List Seat) → seats_of (with_seats s seats) ≡ seats
seats-with s None is seats = rw is refl
seats-with s (Some c) is seats = rw is refl

same-ask : (s : State) (o : Option (List ℕ)) → s.c ≡ o → (seats : List Seat) → SameAsk s (with_seats s seats)
same-ask s None is seats = rw is (record { key = refl; plan = refl; leaf = refl; message = refl; c = refl })
same-ask s (Some c) is seats = rw is (record { key = refl; plan = refl; leaf = refl; message = refl; c = refl })

-- whether a reply answers depends on the ask and on the members alone
answers-same : (s new : State) (head : ReplyHead) (body : List ℕ) → SameAsk s new → numbers (seats_of new) ≡ numbers (seats_of s)
    → answers new head body ≡ answers s head body
answers-same s new head body a members =
    let has = has-same (seats_of new) (seats_of s) head.member members in
    rw (has, a.key, a.leaf, a.message, a.c) refl

-- one delivery
ask-taken : (s : State) (head : ReplyHead) (body : List ℕ) (t f : Bool) → answers s head body ≡ t → is_filled (seat_of (seats_of s) head.member) ≡ f
    → SameAsk s (with_delivery s head body)
ask-taken s head body false f is filled = rw is (record { key = refl; plan = refl; leaf = refl; message = refl; c = refl })
ask-taken s head body true true is filled = rw (is, filled) (record { key = refl; plan = refl; leaf = refl; message = refl; c = refl })
ask-taken s head body true false is filled = rw (is, filled) (same-ask s s.c refl (with_reply (seats_of s) head.member head.code body))

seats-kept : (s : State) (head : ReplyHead) (body : List ℕ) (f : Bool) → is_filled (seat_of (seats_of s) head.member) ≡ f
    → seats_of (if f then s else with_seats s (with_reply (seats_of s) head.member head.code body)) ≡ kept_first (seats_of s) head.member head.code body
seats-kept s head body true filled = rw filled refl
seats-kept s head body false filled = rw filled (seats-with s s.c refl (with_reply (seats_of s) head.member head.code body))

map-not : (d : Delivery) (seats : List Seat) → map (step_if false d) seats ≡ seats
map-not d [] = refl
map-not d (seat ∷ seats) = rw (step-not d seat, map-not d seats) refl

map-first : (d : Delivery) (seats : List Seat) (a e : ℕ) → IsAscendingIn a e (numbers seats)
    → kept_first seats d.head.member d.head.code d.body ≡ map (step_if true d) seats
map-first d seats a e ascending = kept-first-map seats a e d.head.member d.head.code d.body ascending ∙ step-first d seats

seats-taken : (s : State) (d : Delivery) (a e : ℕ) (t : Bool) → IsAscendingIn a e (numbers (seats_of s)) → answers s d.head d.body ≡ t
    → seats_of (with_delivery s d.head d.body) ≡ map (step_if t d) (seats_of s)
seats-taken s d a e false ascending is = rw is (sym (map-not d (seats_of s)))
seats-taken s d a e true ascending is =
    rw is (seats-kept s d.head d.body (is_filled (seat_of (seats_of s) d.head.member)) refl ∙ map-first d (seats_of s) a e ascending)

delivered-nil : (s : State) → delivered s [] ≡ s
unfolding delivered
delivered-nil s = refl

delivered-cons : (s : State) (d : Delivery) (ds : List Delivery) → delivered s (d ∷ ds) ≡ delivered (with_delivery s d.head d.body) ds
unfolding delivered
delivered-cons s d ds = refl

-- the deliveries leave the ask as it was
pub delivered-ask : (s : State) (ds : List Delivery) → SameAsk s (delivered s ds)
delivered-ask s [] = rw (delivered-nil s) (record { key = refl; plan = refl; leaf = refl; message = refl; c = refl })
delivered-ask s (d ∷ ds) =
    let first = ask-taken s d.head d.body (answers s d.head d.body) (is_filled (seat_of (seats_of s) d.head.member)) refl refl in
    let rest = delivered-ask (with_delivery s d.head d.body) ds in
    rw (delivered-cons s d ds) (record {
      key = rest.key ∙ first.key;
      plan = rest.plan ∙ first.plan;
      leaf = rest.leaf ∙ first.leaf;
      message = rest.message ∙ first.message;
      c = rest.c ∙ first.c;
    })

delivered-after : (s : State) (ds : List Delivery) (a e : ℕ) → IsAscendingIn a e (numbers (seats_of s))
    → seats_of (delivered s ds) ≡ map (after (λ d. answers s d.head d.body) ds) (seats_of s)
delivered-after s [] a e ascending = rw (delivered-nil s) (sym (after-none (λ d. answers s d.head d.body) (seats_of s)))
delivered-after s (d ∷ ds) a e ascending =
    let new = with_delivery s d.head d.body in
    let answering : Delivery → Bool = λ d. answers s d.head d.body in
    let one = seats-taken s d a e (answers s d.head d.body) ascending refl in
    let members : numbers (seats_of new) ≡ numbers (seats_of s) = ap numbers one ∙ step-members (answers s d.head d.body) d (seats_of s) in
    let ask = ask-taken s d.head d.body (answers s d.head d.body) (is_filled (seat_of (seats_of s) d.head.member)) refl refl in
    let same : (d : Delivery) → answers new d.head d.body ≡ answers s d.head d.body = λ d. answers-same s new d.head d.body ask members in
    let rest = delivered-after new ds a e (rw members ascending) in
    rw (delivered-cons s d ds)
    (rest ∙ (after-each (λ d. answers new d.head d.body) answering ds (seats_of new) same ∙ (ap (map (after answering ds)) one ∙ after-step answering d ds (seats_of s))))

after-seats : (s : State) (ds : List Delivery) (seats : List Seat) → AreEmpty seats
    → map (after (λ d. answers s d.head d.body) ds) seats ≡ map (λ (seat : Seat). answered_seat seat (first_reply s seat.member ds)) seats
after-seats s ds [] empty = refl
after-seats s ds (seat ∷ seats) empty =
    let head : seat.code ≡ None = All-head (λ (seat : Seat). seat.code ≡ None) seat seats empty in
    rw (after-empty s ds seat head, after-seats s ds seats (All-tail (λ (seat : Seat). seat.code ≡ None) seat seats empty)) refl

numbers-of : (s : State) (o : Option (List ℕ)) → s.c ≡ o → IsSession s → IsAscendingIn 1 (s.plan.n + 1) (numbers (seats_of s))
numbers-of s None is session = rw (is, session.first.theirs) session.ascending
numbers-of s (Some c) is session = rw (is, session.second.theirs) session.ascending

-- each member's seat keeps its first reply
pub delivered-seats : (s : State) (ds : List Delivery) → IsSession s → AreEmpty (seats_of s) → seats_of (delivered s ds) ≡ answered_seats s ds
delivered-seats s ds session empty =
    delivered-after s ds 1 (s.plan.n + 1) (numbers-of s s.c refl session) ∙ after-seats s ds (seats_of s) empty
