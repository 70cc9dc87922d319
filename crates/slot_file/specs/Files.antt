-- Files with a header and slots, and what a put does to one.
use Rattle.std.specs.Prelude.{◌≡◌, ◌≢◌, ◌⊎◌, ℕ, List, length, slice_index, None}
use Rattle.slot_file.specs.declared.header.Header.{Header}
use Rattle.slot_file.specs.declared.slot.Slot.{Slot}
use Rattle.slot_file.specs.declared.slot.Slot.TheVariants.{Damaged, Free, Half, Full}
use Rattle.slot_file.specs.Layout.{header_in, file_size, slot_at, load_fault}

-- the file opens: it has this header, its gate is open, and it has `count` slots
pub record IsFile (header : Header) (count : ℕ) (file : List ℕ) : Type 0 where
  pub opens : load_fault header count file ≡ None
  pub size : length file ≡ file_size header.version count
  pub gate : slice_index file 0 ≡ 0xA7
  pub names : header_in file ≡ header

-- A put on a slot: the file opens as before, every other slot is as before, and this one is as before or what was put.
pub record IsPut (version slot : ℕ) (after : Slot) (old new : List ℕ) : Type 0 where
  pub opens : (header : Header) (count : ℕ) → load_fault header count new ≡ load_fault header count old
  pub others : (other : ℕ) → other ≢ slot → slot_at version other new ≡ slot_at version other old
  pub this : (slot_at version slot new ≡ slot_at version slot old) ⊎ (slot_at version slot new ≡ after)

abbrev pub IsHalf : Slot → Type 0
IsHalf (Half a) = Unit {0}
IsHalf _ = ⊥

-- a half slot with a second body
abbrev pub with_b : Slot → List ℕ → ℕ → Slot
with_b (Half a) b moment = Full a b moment
with_b slot b moment = slot

-- a slot with no moment
abbrev pub without_moment : Slot → Slot
without_moment (Full a b moment) = Full a b 0
without_moment slot = slot

-- the bytes of a slot's two gates: a closed one counts as 0, except in a damaged slot
abbrev pub gates_of : Slot → ℕ × ℕ
gates_of Free = (0, 0)
gates_of (Half a) = (0xB1, 0)
gates_of (Full a b moment) = (0xB1, 0xC2)
gates_of (Damaged a b) = (a, b)
