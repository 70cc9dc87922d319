use Rattle.std.proofs.Common.{◌≡◌, length}
use Rattle.drill.specs.Seats.{AreWaiting}
use Rattle.drill.proofs.start.waiting.Given as goal

-- `i` sessions wait
abbrev pub invariant-sessions : goal.invariant-sessions
invariant-sessions l = record {
  count : length l.seats.items ≡ l.i;
  waiting : AreWaiting l.seats.items;
}
