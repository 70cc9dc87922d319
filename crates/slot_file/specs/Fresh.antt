-- A file of slots that is being made.
use Rattle.std.specs.Prelude.{◌≡◌, ◌⊎◌, ◌<◌, ◌↔◌, ◌^◌, ℕ, List, length, None, IsTrue}
use Rattle.disk_trait.specs.Gate as gate
use Rattle.disk_trait.specs.declared.disk.Pages as pages
use Rattle.slot_file.specs.declared.header.Header.{Header}
use Rattle.slot_file.specs.declared.slot.Slot.TheVariants.{Free}
use Rattle.slot_file.specs.Layout.{blank_file, load_fault, slot_at}

-- a file that does not open: too short for a header of 128 bytes, or its gate is not 0xA7
abbrev pub IsUnready : List ℕ → Type 0
IsUnready = gate.IsUnready 0xA7 128

module _ {D : Type 0} (p : pages.Ghosts D) where
  -- neither a read nor a crash shows a file that opens
  abbrev pub AreUnready : D → D → Type 0
  AreUnready = gate.AreUnready p 0xA7 128

  -- A crash leaves what doesn't open, or a whole file. A read shows an open gate only if all else is stable.
  abbrev pub NeverHalf : (List ℕ → Type 0) → D → D → Type 0
  NeverHalf = gate.NeverHalf p 0xA7 128

  -- a disk that holds bytes is refused with their number, or its length is not told, and it stays as it is
  pub record RefusesFull {R : Type 0} (not_empty : ℕ → R) (device : R) (old new : D) (answer : R) : Type 0 where
    pub refused : IsTrue (p.told old) → (held : ℕ) → answer ≡ not_empty held
        → (held ≡ length (p.reads old)) × (0 < held)
    pub full : IsTrue (p.told old) → 0 < length (p.reads old)
        → (answer ≡ device) ⊎ (answer ≡ not_empty (length (p.reads old)))
    pub unchanged : IsTrue (p.told old) → 0 < length (p.reads old) → p.reads new ≡ p.reads old
    pub images : IsTrue (p.told old) → IsTrue (p.honest old) → 0 < length (p.reads old)
        → (image : List ℕ) → p.may_leave new image ↔ p.may_leave old image

-- the fields of a header have their sizes
pub record HasFields (header : Header) : Type 0 where
  pub lms : header.lms < 2 ^ 32
  pub ots : header.ots < 2 ^ 32
  pub id : length header.id ≡ 16

-- the file opens, and all its slots are free
pub record IsBlank (header : Header) (count : ℕ) (file : List ℕ) : Type 0 where
  pub opens : load_fault header count file ≡ None
  pub free : (slot : ℕ) → slot < count → slot_at header.version slot file ≡ Free

-- the file of this header and that many free slots
abbrev pub IsNew : Header → ℕ → List ℕ → Type 0
IsNew header count file = (file ≡ blank_file header count) × IsBlank header count file
