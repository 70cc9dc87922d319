use Rattle.std.proofs.Common.{◌≡◌, map}
use Rattle.coalition_map.specs.Members.{below}
use Rattle.session_core.specs.Seats.{empty_seat}
use Rattle.session_core.proofs.seat.empty_seats.Given as goal

abbrev pub invariant-trustees : goal.invariant-trustees
invariant-trustees l = l.seats.items ≡ map (empty_seat l.room) (below l.t l.members)
