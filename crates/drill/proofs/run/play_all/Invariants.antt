use Rattle.std.proofs.Common.{◌≡◌, ◌≤◌, ◌+◌, ◌*◌, ℕ}
use Rattle.drill.specs.Courses.{HasPlayed, IsGood}
use Rattle.drill.specs.Drills.{Seats}
use Rattle.drill.specs.Keys.{DealtTo}
use Rattle.drill.specs.Seats.{AreWaiting}
use Rattle.drill.specs.Tallies.{HasCounted, IsWithin}
use Rattle.drill_schedule.specs.Draws.{state_at}
use Rattle.drill.proofs.run.play_all.Given as goal

-- `done` events were played and counted
abbrev pub invariant-events : goal.invariant-events
invariant-events l = record {
  seated : Seats l.desk l.sessions l.drill;
  within : IsWithin (2 * l.done) l.tally;
  well : (own : DealtTo l.desk) (number : ℕ) → l.fn.generator.state ≡ state_at number 176 → IsGood l.desk own.dealing l.fn.drill → AreWaiting l.fn.drill.seats.items → HasPlayed l.desk own.dealing number l.sessions l.done l.drill l.tally;
  few : l.tally.restarts ≤ l.done;
  state : (number : ℕ) → l.fn.generator.state ≡ state_at number 176 → l.generator.state ≡ state_at number (176 + 3 * l.done);
  counted : (number : ℕ) → l.fn.generator.state ≡ state_at number 176 → HasCounted number l.done l.tally;
}
