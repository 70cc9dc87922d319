use Rattle.std.proofs.Common.{rules, refl}
use Rattle.turn_lock.proofs.Moves.{slot_out}
use Rattle.turn_lock.proofs.steps.wait.Goals as goal

pub exchange-taken-requires : goal.exchange-taken-requires
exchange-taken-requires g c = let s = c.await_turn.ensures.finds.0 refl in (search rules, slot_out _ s.0 (search rules))
