use Rattle.std.proofs.Common.{◌+◌, ◌%◌, ◌^◌, ◌-◌, rules}
use mathlib.Core.Option.{none}
use Rattle.atomic_table.specs.Table.{step}
use Rattle.turn_lock.proofs.Moves.{calls}
use Rattle.turn_lock.proofs.steps.sleep.Goals as goal

pub fetch_add-parked-requires : goal.fetch_add-parked-requires
fetch_add-parked-requires g c =
    (search rules, search rules, calls _ _ _ _ _ _ _ (c.args.ticket % 63) (λ n. (n + 4294967296) % 2 ^ 64) _ (step c.args.words.now.table_id.slots c.parking_of-parking.result 4294967296 0 none) (search rules))

pub fetch_sub-requires : goal.fetch_sub-requires
fetch_sub-requires g c =
    (search rules, search rules, calls _ _ _ _ _ _ _ (c.args.ticket % 63) (λ n. (n + (2 ^ 64 - 4294967296)) % 2 ^ 64) _ (step c.args.words.now.table_id.slots c.parking_of-parking.result 4294967296 0 none) (search rules))
