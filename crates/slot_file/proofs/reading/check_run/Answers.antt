use Rattle.std.proofs.Common.{refl}
use Rattle.slot_file.proofs.reading.check_run.Goals as goal

pub returns-in-Damaged-clause-refused : goal.returns-in-Damaged-clause-refused
returns-in-Damaged-clause-refused c = record {
  place = c.loop-place.place;
  within = c.loop-place-test.true;
  slot_is = refl;
  here = c.in-Damaged.is;
  before = c.loop-place.invariant;
}
