use Rattle.std.proofs.Common.{◌+◌, ◌<◌, ◌≤◌, ◌≡◌, ℕ, All, get_or}
use Rattle.drill.specs.Counts.{signs, sum_below}
use Rattle.drill.specs.Courses.{HasEnded, HasSigned}
use Rattle.drill.specs.declared.seat.Seat.{Seat as Place}
use Rattle.drill.specs.declared.seat.Seat.TheVariants.{Refused}
use Rattle.drill.proofs.run.count_ends.Given as goal

abbrev pub invariant-seats : goal.invariant-seats
invariant-seats l = record {
  within : l.signed + l.refused ≤ l.i;
  signed_so : l.signed ≡ sum_below (λ k. signs (get_or l.fn.seats k Refused)) l.i;
  all : All HasEnded l.fn.seats → l.signed + l.refused ≡ l.i;
  none : All (λ (seat : Place). HasSigned seat → ⊥) l.fn.seats → l.signed ≡ 0;
  some : (k : ℕ) (none : Place) → k < l.i → HasSigned (get_or l.fn.seats k none) → 0 < l.signed;
}
