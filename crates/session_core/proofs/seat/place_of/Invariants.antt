use Rattle.session_core.proofs.Places.{IsSearching}
use Rattle.session_core.proofs.seat.place_of.Given as goal

abbrev pub invariant-seats : goal.invariant-seats
invariant-seats l = IsSearching l.seats l.t l.i
