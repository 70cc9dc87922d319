-- How a seat is kept: its reply is at the front of a buffer.
use Rattle.std.specs.Prelude.{◌≤◌, length, take}
use Rattle.session_core.specs.Seats.{Seat}
use Rattle.session_core.specs.declared.seat.Seat.TheInside.{Inside}

-- the seat that contracts see
abbrev pub seen : Inside → Seat
seen s = record { member = s.member; room = length s.buffer.items; code = s.code; body = take s.length s.buffer.items }

-- the reply lies in the buffer
abbrev pub fits : Inside → Type 0
fits s = s.length ≤ length s.buffer.items
