-- What opening a file of slots gives.
use Rattle.std.specs.Prelude.{◌≡◌, ℕ, None, IsTrue}
use Rattle.disk_trait.specs.declared.disk.Pages as pages
use Rattle.disk_trait.specs.declared.faults.Faults as faults
use Rattle.slot_file.specs.Disks.{Unwritten}
use Rattle.slot_file.specs.Layout.{load_fault}
use Rattle.slot_file.specs.Slots.{count_of, disk_of, doubt_of, faults_of, header_of}
use Rattle.slot_file.specs.declared.header.Header.{Header}
use Rattle.slot_file.specs.declared.slots.Doubt.TheVariants.{Nowhere}
use Rattle.slot_file.specs.declared.slots.Slots.{Slots}

-- the file of a disk with this header and `count` slots, with no slot in doubt
pub record IsOpened {D : Type 0} (p : pages.Ghosts D) (f : faults.Ghosts D) (header : Header) (count : ℕ) (disk : D)
    (slots : Slots D p f) : Type 0 where
  pub opens : IsTrue (p.told disk) → load_fault header count (p.reads disk) ≡ None
  pub named : header_of slots ≡ header
  pub size : count_of slots ≡ count
  pub doubt : doubt_of slots ≡ Nowhere
  pub unwritten : Unwritten p f disk (disk_of slots)
  pub faults : faults_of slots ≡ f.count disk
