-- What calls leave of a disk and of its count of faults.
use Rattle.std.specs.Prelude.{◌≡◌, ◌≤◌}
use Rattle.disk_trait.specs.declared.disk.Pages as pages
use Rattle.disk_trait.specs.declared.faults.Faults as faults

-- no call changes what a disk is, and none lowers its count of faults
pub record SameDisk {D : Type 0} (p : pages.Ghosts D) (f : faults.Ghosts D) (old new : D) : Type 0 where
  pub told : p.told new ≡ p.told old
  pub honest : p.honest new ≡ p.honest old
  pub steady : f.steady new ≡ f.steady old
  pub room : p.room new ≡ p.room old
  pub count : f.count old ≤ f.count new
