use Rattle.std.proofs.Common.{◌≡◌, ◌+◌, ℕ, length}
use Rattle.drill.specs.Courses.{IsWell}
use Rattle.drill.specs.Keys.{DealtTo}
use Rattle.drill.proofs.Finishing.{AtStep}
use Rattle.drill.specs.Drills.{Seats}
use Rattle.drill.specs.Tallies.{IsWithin}
use Rattle.drill.proofs.run.finish_session.Given as goal

-- `taken` steps were taken
abbrev pub invariant-steps : goal.invariant-steps
invariant-steps l = record {
  seated : Seats l.desk (length l.fn.drill.seats.items) l.drill;
  steps : (own : DealtTo l.desk) (extra : ℕ) → IsWell l.desk own.dealing extra l.fn.drill l.fn.tally → AtStep l.desk own.dealing extra l.i l.fn.drill l.drill l.tally l.taken;
  within : IsWithin (l.fn.tally.asks + l.taken) l.tally;
  cuts : l.tally.cuts ≡ l.fn.tally.cuts;
  restarts : l.tally.restarts ≡ l.fn.tally.restarts;
}
