use Rattle.disk_trait.proofs.Filled.{allowed}
use Rattle.disk_trait.proofs.mem_disk.MemDisk.crash.Goals as goal

pub returns-in-Ok-clause-allowed : goal.returns-in-Ok-clause-allowed
returns-in-Ok-clause-allowed c = rw (← c.self.view_is) (allowed c.self.inside c.self.invariant c.args.pick)

pub returns-in-Err-clause-allowed : goal.returns-in-Err-clause-allowed
returns-in-Err-clause-allowed c = rw (← c.self.view_is) (allowed c.self.inside c.self.invariant c.args.pick)
