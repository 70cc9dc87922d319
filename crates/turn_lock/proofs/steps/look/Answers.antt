use Rattle.std.proofs.Common.{rules}
use mathlib.Core.Option.{none}
use Rattle.atomic_table.specs.Table.{step}
use Rattle.turn_lock.proofs.Moves.{looks}
use Rattle.turn_lock.proofs.steps.look.Goals as goal

pub load-requires : goal.load-requires
load-requires g c = (search rules, search rules, looks _ _ _ _ _ _ c.args.ticket _ (step c.args.words.now.table_id.slots 1 0 0 none) (search rules))
