-- Calls of a disk, one after the other.
use Rattle.std.proofs.Common.{◌≤◌, refl, ◌∙◌, arith}
use Rattle.disk_trait.specs.Disks.{SameKind}
use Rattle.disk_trait.specs.SameDisk.{SameDisk}
use Rattle.disk_trait.specs.declared.disk.Pages as pages
use Rattle.disk_trait.specs.declared.faults.Faults as faults

module _ {D : Type 0} (p : pages.Ghosts D) (f : faults.Ghosts D) where
  pub same-none : (disk : D) → SameDisk p f disk disk
  same-none disk = record { told = refl; honest = refl; steady = refl; room = refl; count = omega arith }

  pub same-then : (old mid new : D) → SameDisk p f old mid → SameDisk p f mid new → SameDisk p f old new
  same-then old mid new first then = record {
    told = then.told ∙ first.told;
    honest = then.honest ∙ first.honest;
    steady = then.steady ∙ first.steady;
    room = then.room ∙ first.room;
    count = omega (arith, first.count, then.count);
  }

  pub same-kind : (old new : D) → SameKind p.told p.honest f.steady p.room old new → f.count old ≤ f.count new → SameDisk p f old new
  same-kind old new kind later = record { told = kind.told; honest = kind.honest; steady = kind.steady; room = kind.room; count = later }
