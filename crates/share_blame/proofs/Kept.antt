-- The masks that a session keeps are of members, and have the length of their round.
use Rattle.std.proofs.Common.{All, Contains, ◌≡◌, ◌==◌, ℕ, zero, suc, ◌*◌, false, List, [], ◌∷◌, Option, None, Some, inl, inr, arith, length, map, refl, if◌then◌else◌}
use Rattle.std.proofs.lemmas.Bool.{cases_eq}
use Rattle.std.proofs.lemmas.Bool.Decides.{nat_tests}
use Rattle.std.proofs.lemmas.List.Elements.{All-head, All-tail}
use Rattle.coalition_map.specs.Coalitions.{leaf_members}
use Rattle.coalition_map.proofs.MemberLaws.{Contains-first, Contains-later}
use Rattle.lms_bytes.specs.declared.params.Params.{Params}
use Rattle.session_core.specs.Asks.{kept_masks, masks_at}
use Rattle.session_core.specs.Seats.{Seat, seat_of}
use Rattle.session_core.specs.State.{IsSeat, IsSession, State, masks_length}
use Rattle.session_core.proofs.Places.{place-here, place-later}

-- the masks of a reply of this code and body
abbrev masks_of : Option ℕ → List ℕ → Option (List ℕ)
masks_of code body = elim code [
  | None ↦ None
  | Some number ↦ if number == 0 then Some body else None
]

kept-code : (code : Option ℕ) (body masks : List ℕ) → masks_of code body ≡ Some masks → (code ≡ Some 0) × (body ≡ masks)
kept-code None body masks e = absurd (cc)
kept-code (Some zero) body masks e = (refl, cc)
kept-code (Some (suc k)) body masks e =
    let test : suc k == 0 ≡ false = grind (arith, nat_tests) in
    let none = rw test at e in
    absurd (cc)

-- masks that a seat keeps are its body under code 0
pub keeps : (seat : Seat) (masks : List ℕ) → masks_at seat ≡ Some masks → (seat.code ≡ Some 0) × (seat.body ≡ masks)
keeps seat masks e = kept-code seat.code seat.body masks e

-- the seat of a member is the first with its number
pub seat-here : (seat : Seat) (seats : List Seat) (t : ℕ) → seat.member ≡ t → seat_of (seat ∷ seats) t ≡ seat
seat-here seat seats t same = rw (place-here seat seats t same) refl

pub seat-later : (seat : Seat) (seats : List Seat) (t : ℕ) → (seat.member ≡ t → ⊥) → seat_of (seat ∷ seats) t ≡ seat_of seats t
seat-later seat seats t other = rw (place-later seat seats t other) refl

-- what is kept among seats
pub record KeptAmong (params : Params) (round : ℕ) (seats : List Seat) (t : ℕ) (masks : List ℕ) : Type 0 where
  pub member : Contains (map (λ (seat : Seat). seat.member) seats) t
  pub size : length masks ≡ masks_length params round

kept-size : (params : Params) (round : ℕ) (seat : Seat) (masks : List ℕ) → IsSeat params round seat → masks_at seat ≡ Some masks
    → length masks ≡ masks_length params round
kept-size params round seat masks is e =
    let kept = keeps seat masks e in
    let size = rw kept.0 at is.body in
    rw kept.1 at size

pub kept-among : (params : Params) (round : ℕ) (seats : List Seat) (t : ℕ) (masks : List ℕ) → All (IsSeat params round) seats
    → masks_at (seat_of seats t) ≡ Some masks → KeptAmong params round seats t masks
kept-among params round [] t masks all e = absurd (cc)
kept-among params round (seat ∷ seats) t masks all e =
    elim (cases_eq seat.member t) [
      | inl same ↦
          let mine : masks_at seat ≡ Some masks = rw (seat-here seat seats t same) at e in
          record {
            member = rw (← same) (Contains-first seat.member (map (λ (seat : Seat). seat.member) seats));
            size = kept-size params round seat masks (All-head (IsSeat params round) seat seats all) mine;
          }
      | inr other ↦
          let rest = kept-among params round seats t masks (All-tail (IsSeat params round) seat seats all) (rw (seat-later seat seats t other) at e) in
          record {
            member = Contains-later seat.member (map (λ (seat : Seat). seat.member) seats) t rest.member;
            size = rest.size;
          }
    ]

-- what is kept for trustee t in round one, and in round two
pub record IsKept (s : State) (t : ℕ) (masks : List ℕ) (size : ℕ) : Type 0 where
  pub member : Contains (leaf_members s.plan s.leaf) t
  pub size_is : length masks ≡ size

pub kept-first : (s : State) (t : ℕ) (masks : List ℕ) → IsSession s → kept_masks s 1 t ≡ Some masks → IsKept s t masks s.key.params.n
kept-first s t masks session e =
    let kept = kept-among s.key.params 1 s.first t masks session.first.each e in
    record { member = rw (← session.first.theirs) kept.member; size_is = kept.size }

pub kept-second : (s : State) (t : ℕ) (masks : List ℕ) → IsSession s → kept_masks s 2 t ≡ Some masks
    → IsKept s t masks (s.key.params.n * s.key.params.p)
kept-second s t masks session e =
    let kept = kept-among s.key.params 2 s.second t masks session.second.each e in
    record { member = rw (← session.second.theirs) kept.member; size_is = kept.size }
