use Rattle.std.proofs.Common.{◌≡◌, drop, length}
use Rattle.reference_value.specs.Dealing.{masked}
use Rattle.session_core.specs.Verdicts.{bodies_of}
use Rattle.session_core.proofs.joining.add_bodies.Given as goal

-- the bodies of the seats before this one are added
abbrev pub invariant-seats : goal.invariant-seats
invariant-seats l = record {
  sum : masked l.out (bodies_of (drop l.i l.seats)) ≡ masked l.fn.out (bodies_of l.seats);
  size : length l.out ≡ length l.fn.out;
}
