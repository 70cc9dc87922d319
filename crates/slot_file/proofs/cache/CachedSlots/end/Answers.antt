use Rattle.slot_file.proofs.Held.{holds}
use Rattle.slot_file.proofs.cache.CachedSlots.end.Goals as goal

pub returns-clause-holds : goal.returns-clause-holds
returns-clause-holds g c = holds c.args.self
