use Rattle.std.proofs.Common.{◌≡◌, ◌+◌, ◌*◌, ℕ}
use Rattle.drill.specs.Courses.{AreFinished, IsWell}
use Rattle.drill.specs.Keys.{DealtTo}
use Rattle.drill.specs.Drills.{Seats}
use Rattle.drill.specs.Tallies.{IsWithin}
use Rattle.drill.proofs.run.finish_all.Given as goal

-- the sessions before this one have ended
abbrev pub invariant-sessions : goal.invariant-sessions
invariant-sessions l = record {
  seated : Seats l.desk l.sessions l.drill;
  well : (own : DealtTo l.desk) (extra : ℕ) → IsWell l.desk own.dealing extra l.fn.drill l.fn.tally → AreFinished l.desk own.dealing extra l.i l.drill l.tally;
  within : IsWithin (200000 + 5 * l.i) l.tally;
  cuts : l.tally.cuts ≡ l.fn.tally.cuts;
  restarts : l.tally.restarts ≡ l.fn.tally.restarts;
}
