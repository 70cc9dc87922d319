use Rattle.std.proofs.Common.{◌≡◌, drop, map}
use Rattle.session_core.specs.Judging.{first_fault, seat_fault}
use Rattle.session_core.proofs.session.Session.fault_among.Given as goal

-- the seats before this one have no fault
abbrev pub invariant-seats : goal.invariant-seats
invariant-seats l = first_fault (map (seat_fault l.self l.digest) (drop l.i l.seats)) ≡ first_fault (map (seat_fault l.self l.digest) l.seats)
