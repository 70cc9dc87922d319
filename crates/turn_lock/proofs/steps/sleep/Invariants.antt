use Rattle.std.proofs.Common.{◌≡◌}
use Rattle.turn_lock.proofs.steps.sleep.Given as goal

abbrev pub invariant-sleeps : goal.invariant-sleeps
invariant-sleeps g l = record { same_table : l.seat.table_id ≡ l.initial.seat.table_id; same_seat : l.seat.me ≡ l.initial.seat.me }
