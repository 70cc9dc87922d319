use Rattle.std.proofs.Common.{◌+◌, ◌%◌, ◌^◌, rules}
use mathlib.Core.Option.{none}
use Rattle.atomic_table.specs.Table.{step}
use Rattle.turn_lock.proofs.Moves.{calls}
use Rattle.turn_lock.proofs.steps.call.Goals as goal

pub fetch_add-parked-requires : goal.fetch_add-parked-requires
fetch_add-parked-requires g c =
    (search rules, search rules, calls _ _ _ _ _ _ _ (c.args.ticket % 63) (λ n. (n + 1) % 2 ^ 64) _ (step c.args.words.now.table_id.slots c.parking_of-parking.result 1 0 none) (search rules))
