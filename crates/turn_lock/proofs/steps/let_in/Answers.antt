use Rattle.std.proofs.Common.{◌+◌, ◌%◌, ◌^◌, rules}
use mathlib.Core.Option.{none}
use Rattle.atomic_table.specs.Table.{step}
use Rattle.turn_lock.proofs.Moves.{calls}
use Rattle.turn_lock.proofs.steps.let_in.Goals as goal

pub fetch_add-requires : goal.fetch_add-requires
fetch_add-requires g c =
    (search rules, search rules, calls _ _ _ _ _ _ _ 63 (λ n. (n + 1) % 2 ^ 64) _ (step c.args.words.now.table_id.slots 65 1 0 none) (search rules))
