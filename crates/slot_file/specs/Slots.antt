-- The parts of an open file of slots, and what its calls leave.
use Rattle.std.specs.Prelude.{◌≡◌, ◌↔◌, ℕ, List, IsTrue, OnOk, Result, if◌then◌else◌, is_ok}
use Rattle.disk_trait.specs.Images.{Follows, Only}
use Rattle.disk_trait.specs.declared.disk.Pages as pages
use Rattle.disk_trait.specs.declared.faults.Faults as faults
use Rattle.slot_file.specs.declared.header.Header.{Header}
use Rattle.slot_file.specs.declared.slot.Slot.{Slot}
use Rattle.slot_file.specs.declared.slots.Doubt.{Doubt}
use Rattle.slot_file.specs.declared.slots.Doubt.TheVariants.{Nowhere, Refused}
use Rattle.slot_file.specs.declared.slots.Slots.{Slots}
use Rattle.disk_trait.specs.SameDisk.{SameDisk}
use Rattle.slot_file.specs.Files.{IsPut}
use Rattle.slot_file.specs.Gated.{Gated, gated}
use Rattle.slot_file.specs.Layout.{slot_at}

module _ {D : Type 0} {p : pages.Ghosts D} {f : faults.Ghosts D} where
  abbrev pub disk_of : Slots D p f → D
  disk_of slots = slots.disk

  abbrev pub header_of : Slots D p f → Header
  header_of slots = slots.header

  abbrev pub count_of : Slots D p f → ℕ
  count_of slots = slots.count

  abbrev pub doubt_of : Slots D p f → Doubt
  doubt_of slots = slots.doubt

  abbrev pub faults_of : Slots D p f → ℕ
  faults_of slots = f.count slots.disk

  abbrev pub IsTold : Slots D p f → Type 0
  IsTold slots = IsTrue (p.told slots.disk)

  abbrev pub IsHonest : Slots D p f → Type 0
  IsHonest slots = IsTrue (p.honest slots.disk)

  abbrev pub IsSteady : Slots D p f → Type 0
  IsSteady slots = IsTrue (f.steady slots.disk)

  -- what a read gives, and what a crash may leave
  abbrev pub file_of : Slots D p f → List ℕ
  file_of slots = p.reads slots.disk

  abbrev pub MayLeave : Slots D p f → List ℕ → Type 0
  MayLeave slots image = p.may_leave slots.disk image

  -- a crash leaves what a read gives
  abbrev pub IsStable : Slots D p f → Type 0
  IsStable slots = IsTold slots → IsHonest slots → Only (file_of slots) (MayLeave slots)

  -- a slot as a read gives it
  abbrev pub slot_now : Slots D p f → ℕ → Slot
  slot_now slots slot = slot_at slots.header.version slot (p.reads slots.disk)

  -- what no call changes
  pub record Stays (old new : Slots D p f) : Type 0 where
    pub header : new.header ≡ old.header
    pub count : new.count ≡ old.count
    pub disk : SameDisk p f old.disk new.disk

  -- a file that was only looked at
  pub record OnlyLooked (old new : Slots D p f) : Type 0 where
    pub same : IsTold old → file_of new ≡ file_of old
    pub images : IsHonest old → (image : List ℕ) → MayLeave new image ↔ MayLeave old image
    pub doubt : doubt_of old ≡ Nowhere → doubt_of new ≡ Nowhere
    pub stays : Stays old new

  -- A slot was put. What a read gives, and each image that a crash may leave, is as before or has the whole slot. After
  -- a call that was done both have it; after a refusal the slot is in doubt.
  pub record HasPut {R E : Type 0} (slot : ℕ) (value : Slot) (old new : Slots D p f) (result : Result R E)
      : Type 0 where
    pub put : IsTold old → OnOk result (slot_now new slot ≡ value)
    pub file : IsTold old → IsPut (header_of old).version slot value (file_of old) (file_of new)
    pub images : IsTold old → IsHonest old
        → Follows (IsPut (header_of old).version slot value) (MayLeave old) (MayLeave new)
    pub stable : OnOk result (IsStable new)
    pub doubt : doubt_of new ≡ (if is_ok result then doubt_of old else Refused slot)

  -- internal: A body was written, and then the gate of one byte before it, each made stable.
  pub record HasGated {R E : Type 0} (at : ℕ) (body : List ℕ) (gate_at gate : ℕ) (old new : Slots D p f)
      (result : Result R E) : Type 0 where
    pub bytes : IsTold old → OnOk result (file_of new ≡ gated at body gate_at gate (file_of old))
    pub file : IsTold old → Gated at body gate_at (file_of old) (file_of new)
    pub images : IsTold old → IsHonest old → Follows (Gated at body gate_at) (MayLeave old) (MayLeave new)
    pub stable : OnOk result (IsStable new)
