use Rattle.std.proofs.Common.{◌≡◌}
use Rattle.turn_lock.proofs.steps.watch.Given as goal

abbrev pub invariant-looks : goal.invariant-looks
invariant-looks g l = record { same_table : l.seat.table_id ≡ l.initial.seat.table_id; same_seat : l.seat.me ≡ l.initial.seat.me }
