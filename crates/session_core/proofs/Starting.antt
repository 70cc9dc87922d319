-- Seats in which nothing is kept.
use Rattle.std.proofs.Common.{◌≡◌, ℕ, ◌≤◌, List, [], ◌∷◌, All, None, map, refl, ap}
use Rattle.std.proofs.lemmas.List.Elements.{All-map}
use Rattle.lms_bytes.specs.declared.params.Params.{Params}
use Rattle.session_core.specs.Seats.{Seat, empty_seat}
use Rattle.session_core.specs.State.{AreEmpty, IsSeat, body_room}

pub members-empty : (room : ℕ) (ms : List ℕ) → map (λ (seat : Seat). seat.member) (map (empty_seat room) ms) ≡ ms
members-empty room [] = refl
members-empty room (m ∷ ms) = ap (λ (l : List ℕ). m ∷ l) (members-empty room ms)

pub each-empty : (params : Params) (round room : ℕ) (ms : List ℕ) → body_room params round ≤ room → All (IsSeat params round) (map (empty_seat room) ms)
each-empty params round room ms large = All-map (IsSeat params round) (empty_seat room) ms (λ k d h. record { room = large; body = tt })

pub nothing-kept : (room : ℕ) (ms : List ℕ) → AreEmpty (map (empty_seat room) ms)
nothing-kept room ms = All-map (λ (seat : Seat). seat.code ≡ None) (empty_seat room) ms (λ k d h. refl)
