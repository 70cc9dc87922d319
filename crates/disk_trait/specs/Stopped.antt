-- A disk that stops after a number of calls.
use Rattle.std.specs.Prelude.{◌≡◌, ◌≤◌, ◌-◌, ℕ, Result, Err}
use Rattle.disk_trait.specs.Disks.{SameKind}
use Rattle.disk_trait.specs.Faults.{HasCause}
use Rattle.disk_trait.specs.declared.disk.DiskFault.{DiskFault}
use Rattle.disk_trait.specs.declared.disk.Pages as pages
use Rattle.disk_trait.specs.declared.faults.Faults as faults
use Rattle.disk_trait.specs.declared.stopped.Stopped.{Stopped}

module _ {D : Type 0} {p : pages.Ghosts D} {f : faults.Ghosts D} where
  -- the disk under it
  abbrev pub disk_of : Stopped D p f → D
  disk_of stopped = stopped.disk

  -- how many calls of that disk it still makes
  abbrev pub calls_left : Stopped D p f → ℕ
  calls_left stopped = stopped.left

  -- A call: one less is left. If there was one, the answer is that of a call of the disk; if there was none, the call
  -- fails, and the disk is as it was.
  pub record Goes {T : Type 0} (old new : Stopped D p f) (result : Result T DiskFault) : Type 0 where
    pub calls : calls_left new ≡ calls_left old - 1
    pub made : 1 ≤ calls_left old → HasCause (f.count (disk_of old)) (f.count (disk_of new)) result
    pub stopped : calls_left old ≡ 0 → (disk_of new ≡ disk_of old) × (result ≡ Err (record {}))
    pub began : new.began ≡ old.began
    pub kind : SameKind p.told p.honest f.steady p.room (disk_of old) (disk_of new)
