-- A seat that takes a reply.
use Rattle.std.proofs.Common.{◌≡◌, ℕ, List, ◌++◌, Some, length, take, drop, refl, append-nil, arith}
use Rattle.std.proofs.lemmas.List.{take_all, drop_all}
use Rattle.session_core.specs.Seats.{Seat, filled_seat}
use Rattle.session_core.specs.SeatInside.{seen}
use Rattle.session_core.specs.declared.seat.Seat.TheInside.{Inside}

pub kept : (inside : Inside) (seat : Seat) (code : ℕ) (body new : List ℕ) → seen inside ≡ seat → take (length body) new ≡ body
    → length new ≡ length inside.buffer.items
    → record { member = inside.member; room = length new; code = Some code; body = take (length body) new } ≡ filled_seat seat code body
kept inside seat code body new is taken size = rw (← is, size, taken) refl

-- all items of a buffer, written back
pub written_back : {A : Type 0} (new old : List A) (len : ℕ) → length new ≡ length old → len ≡ length old → take len (new ++ drop (length new) old) ≡ new
written_back new old len size full =
    rw (drop_all (length new) old (omega arith), append-nil new) (take_all len new (omega arith))
