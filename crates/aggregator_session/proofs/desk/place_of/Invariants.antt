use Rattle.aggregator_session.proofs.Addressing.{IsSearching}
use Rattle.aggregator_session.proofs.desk.place_of.Given as goal

abbrev pub invariant-addresses : goal.invariant-addresses
invariant-addresses l = IsSearching l.addresses l.member l.i
