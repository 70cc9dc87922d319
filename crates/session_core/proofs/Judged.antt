-- Rounds with and without a fault.
use Rattle.std.proofs.Common.{◌≡◌, ℕ, ◌+◌, ◌<◌, ◌≤◌, ◌==◌, Bool, true, false, List, [], ◌∷◌, All, Option, None, Some, IsSome, length, map, drop, get_or, refl, sym, ◌∙◌, ap, arith, if◌then◌else◌}
use Rattle.std.proofs.lemmas.Bool.Decides.{nat_tests}
use Rattle.std.proofs.lemmas.List.{drop_more, drop_all}
use Rattle.std.proofs.lemmas.List.Elements.{All-nil, All-cons}
use Rattle.lms_bytes.specs.declared.params.Params.{Params}
use Rattle.session_core.specs.Judging.{first_fault, refusal_fault, round_fault, seat_fault}
use Rattle.session_core.specs.Seats.{Seat}
use Rattle.session_core.specs.State.{IsSeat, State, masks_length, round_of, seats_of}
use Rattle.session_core.specs.Verdicts.{AreMasks, HaveLength}
use Rattle.session_core.proofs.Taking.{first-round, second-round}
use Rattle.session_core.specs.declared.faults.SessionFault.{SessionFault}
use Rattle.session_core.specs.declared.faults.SessionFault.TheVariants.{Missing}

first-none : (rest : List (Option SessionFault)) (o : Option SessionFault) → o ≡ None → first_fault (o ∷ rest) ≡ first_fault rest
unfolding first_fault
first-none rest o e = rw e refl

first-some : (rest : List (Option SessionFault)) (o : Option SessionFault) (fault : SessionFault) → o ≡ Some fault → first_fault (o ∷ rest) ≡ Some fault
unfolding first_fault
first-some rest o fault e = rw e refl

first-nil : first_fault [] ≡ None
unfolding first_fault
first-nil = refl

pub fault-later : (f : Seat → Option SessionFault) (seats : List Seat) (i : ℕ) (d : Seat) → i < length seats → f (get_or seats i d) ≡ None
    → first_fault (map f (drop i seats)) ≡ first_fault (map f (drop (i + 1) seats))
fault-later f seats i d inside none = rw (drop_more seats i d inside) (first-none (map f (drop (i + 1) seats)) (f (get_or seats i d)) none)

pub fault-here : (f : Seat → Option SessionFault) (seats : List Seat) (i : ℕ) (d : Seat) (fault : SessionFault) → i < length seats → f (get_or seats i d) ≡ Some fault
    → first_fault (map f (drop i seats)) ≡ Some fault
fault-here f seats i d fault inside some = rw (drop_more seats i d inside) (first-some (map f (drop (i + 1) seats)) (f (get_or seats i d)) fault some)

pub fault-end : (f : Seat → Option SessionFault) (seats : List Seat) (i : ℕ) → length seats ≤ i → first_fault (map f (drop i seats)) ≡ None
fault-end f seats i all = rw (drop_all i seats all) first-nil

pub first-cons : (rest : List (Option SessionFault)) (o : Option SessionFault) → first_fault (o ∷ rest) ≡ None → (o ≡ None) × (first_fault rest ≡ None)
unfolding first_fault
first-cons rest None e = (refl, e)
first-cons rest (Some fault) e = absurd (cc)

zero-code : (code : ℕ) (fault : SessionFault) (test : Bool) → code == 0 ≡ test → (if test then None else Some fault) ≡ None → code ≡ 0
zero-code code fault true is e = grind (arith, nat_tests)
zero-code code fault false is e = absurd (cc)

masks-code : (s : State) (digest : List ℕ) (seat : Seat) (o : Option ℕ) → seat.code ≡ o → seat_fault s digest seat ≡ None → o ≡ Some 0
masks-code s digest seat None is e =
    let missing : seat_fault s digest seat ≡ Some (Missing seat.member (round_of s)) = rw is refl in
    absurd (cc)
masks-code s digest seat (Some code) is e =
    let fault = refusal_fault s digest seat.member code seat.body in
    let here : seat_fault s digest seat ≡ (if code == 0 then None else Some fault) = rw is refl in
    ap Some (zero-code code fault (code == 0) refl (sym here ∙ e))

-- if there is no fault, all replies are masks
pub faultless-masks : (s : State) (digest : List ℕ) (seats : List Seat) → first_fault (map (seat_fault s digest) seats) ≡ None → AreMasks seats
faultless-masks s digest [] e = All-nil (λ (seat : Seat). seat.code ≡ Some 0)
faultless-masks s digest (seat ∷ seats) e =
    let both = first-cons (map (seat_fault s digest) seats) (seat_fault s digest seat) e in
    All-cons (λ (seat : Seat). seat.code ≡ Some 0) seat seats (masks-code s digest seat seat.code refl both.0) (faultless-masks s digest seats both.1)

masks-size : (params : Params) (round : ℕ) (seat : Seat) → IsSeat params round seat → seat.code ≡ Some 0 → length seat.body ≡ masks_length params round
masks-size params round seat is code = rw code at is.body

pub masks-length : (params : Params) (round : ℕ) (seats : List Seat) → All (IsSeat params round) seats → AreMasks seats → HaveLength (masks_length params round) seats
masks-length params round seats each masks = λ k d inside. masks-size params round (get_or seats k d) (each k d inside) (masks k d inside)

refusal-same : (s : State) (a b : List ℕ) (member code : ℕ) (body : List ℕ) → s.c ≡ None → refusal_fault s a member code body ≡ refusal_fault s b member code body
refusal-same s a b member code body none = rw none refl

seat-same : (s : State) (a b : List ℕ) (seat : Seat) (o : Option ℕ) → seat.code ≡ o → s.c ≡ None → seat_fault s a seat ≡ seat_fault s b seat
seat-same s a b seat None is none = rw is refl
seat-same s a b seat (Some code) is none =
    rw is (ap (λ (fault : SessionFault). if code == 0 then None else Some fault) (refusal-same s a b seat.member code seat.body none))

faults-same : (s : State) (a b : List ℕ) (seats : List Seat) → s.c ≡ None → map (seat_fault s a) seats ≡ map (seat_fault s b) seats
faults-same s a b [] none = refl
faults-same s a b (seat ∷ seats) none =
    rw (seat-same s a b seat seat.code refl none, faults-same s a b seats none) refl

-- in round one no digest is read
pub round-one-fault : (s : State) (a b : List ℕ) → s.c ≡ None → round_fault s a ≡ round_fault s b
round-one-fault s a b none = ap first_fault (faults-same s a b (seats_of s) none)

pub faultless-first : (s : State) (digest : List ℕ) → s.c ≡ None → round_fault s digest ≡ None → AreMasks s.first
faultless-first s digest none e = rw (first-round s none) at (faultless-masks s digest (seats_of s) e)

pub faultless-second : (s : State) (digest c : List ℕ) → s.c ≡ Some c → round_fault s digest ≡ None → AreMasks s.second
faultless-second s digest c some e = rw (second-round s c some) at (faultless-masks s digest (seats_of s) e)

faultless-case : (s : State) (digest : List ℕ) (o : Option (List ℕ)) → s.c ≡ o → IsSome o → round_fault s digest ≡ None → AreMasks s.second
faultless-case s digest None is some e = absurd (cc)
faultless-case s digest (Some c) is some e = faultless-second s digest c is e

pub faultless-later : (s : State) (digest : List ℕ) → IsSome s.c → round_fault s digest ≡ None → AreMasks s.second
faultless-later s digest some e = faultless-case s digest s.c refl some e
