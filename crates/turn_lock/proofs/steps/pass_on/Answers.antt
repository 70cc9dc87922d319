use Rattle.std.proofs.Common.{rules}
use mathlib.Core.Option.{none}
use Rattle.atomic_table.specs.Table.{step}
use Rattle.turn_lock.proofs.Moves.{passes_on}
use Rattle.turn_lock.proofs.steps.pass_on.Goals as goal

pub fetch_add-served-requires : goal.fetch_add-served-requires
fetch_add-served-requires g c = (search rules, search rules, passes_on _ _ _ _ _ _ c.requires.holds.0.0 _ (step c.args.words.now.table_id.slots 1 1 0 none) c.args.value (search rules) (search rules) (search rules) (search rules) (search rules) (search rules))
