-- What calls that write nothing leave of a disk.
use Rattle.std.specs.Prelude.{◌≡◌, List, ℕ, IsTrue}
use Rattle.disk_trait.specs.SameDisk.{SameDisk}
use Rattle.disk_trait.specs.declared.disk.Pages as pages
use Rattle.disk_trait.specs.declared.faults.Faults as faults

-- a call that writes nothing: a read gives what it gave, and a crash leaves nothing that it did not leave before
pub record Unwritten {D : Type 0} (p : pages.Ghosts D) (f : faults.Ghosts D) (old new : D) : Type 0 where
  pub same : IsTrue (p.told old) → p.reads new ≡ p.reads old
  pub images : IsTrue (p.honest old) → (image : List ℕ) → p.may_leave new image → p.may_leave old image
  pub stays : SameDisk p f old new
