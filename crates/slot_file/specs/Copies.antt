-- A file that is made from the slots of another.
use Rattle.std.specs.Prelude.{◌≡◌, ◌<◌, ℕ, zero, suc, ◌+◌, Bool, true, false, not, List, [], ◌∷◌, ◌++◌, replicate}
use Rattle.std.specs.Prelude.{count_by, None}
use Rattle.disk_trait.specs.Images.{written}
use Rattle.slot_file.specs.declared.header.Header.{Header}
use Rattle.slot_file.specs.declared.slot.Slot.{Slot}
use Rattle.slot_file.specs.declared.slot.Slot.TheVariants.{Free, Half, Full, Damaged}
use Rattle.slot_file.specs.Files.{without_moment}
use Rattle.slot_file.specs.Layout.{load_fault, slot_at}

abbrev pub is_free : Slot → Bool
is_free Free = true
is_free (Half a) = false
is_free (Full a b moment) = false
is_free (Damaged a b) = false

abbrev pub is_damaged : Slot → Bool
is_damaged Free = false
is_damaged (Half a) = false
is_damaged (Full a b moment) = false
is_damaged (Damaged a b) = true

-- the first slots of a file
abbrev pub slots_in : ℕ → ℕ → List ℕ → List Slot
slots_in version zero file = []
slots_in version (suc count) file = slots_in version count file ++ slot_at version count file ∷ []

-- how many of them are not free
abbrev pub taken_count : List Slot → ℕ
taken_count slots = count_by (λ slot. not (is_free slot)) slots

-- the first damaged slot of a file
pub record IsFirstDamaged (version count : ℕ) (file : List ℕ) (slot a b : ℕ) : Type 0 where
  pub within : slot < count
  pub here : slot_at version slot file ≡ Damaged a b
  pub before : (earlier : ℕ) → earlier < slot → is_damaged (slot_at version earlier file) ≡ false

-- the file opens, and each slot is that of the other file with moment 0
pub record IsCopy (header : Header) (count version : ℕ) (from file : List ℕ) : Type 0 where
  pub opens : load_fault header count file ≡ None
  pub slots : (slot : ℕ) → slot < count → slot_at header.version slot file ≡ without_moment (slot_at version slot from)

-- an open gate at a place, and its body four bytes on
abbrev pub with_part : ℕ → ℕ → List ℕ → List ℕ → List ℕ
with_part at gate body bytes = written (written bytes at (gate ∷ [])) (at + 4) body

-- a slot's 160 bytes, with moment 0
unfoldable pub slot_block : Slot → List ℕ
slot_block Free = replicate 160 0
slot_block (Half a) = with_part 0 0xB1 a (replicate 160 0)
slot_block (Full a b moment) = with_part 40 0xC2 b (with_part 0 0xB1 a (replicate 160 0))
slot_block (Damaged a b) = replicate 160 0
