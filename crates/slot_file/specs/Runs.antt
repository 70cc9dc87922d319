-- Slots that stand one after another.
use Rattle.std.specs.Prelude.{◌≡◌, ◌<◌, ◌+◌, ◌*◌, ℕ, List, length, slice_index_or}
use Rattle.slot_file.specs.Layout.{IsShown, part, slot_at, slot_of, slot_size}
use Rattle.slot_file.specs.declared.slot.Slot.{Slot}
use Rattle.slot_file.specs.declared.slot.Slot.TheVariants.{Free}

-- these slots are those of a file from this one on
abbrev pub IsRun : ℕ → ℕ → List ℕ → List Slot → Type 0
IsRun version first file slots =
    (k : ℕ) → k < length slots → slice_index_or slots k Free ≡ slot_at version (first + k) file

-- some bytes show each of the slots
abbrev pub AreShown : ℕ → List Slot → Type 0
AreShown version slots = (k : ℕ) → k < length slots → IsShown version (slice_index_or slots k Free)

-- internal: the bytes of these slots are this block
abbrev pub IsInBlock : ℕ → List ℕ → List Slot → Type 0
IsInBlock version block slots =
    (k : ℕ) → k < length slots
    → slice_index_or slots k Free ≡ slot_of version (part (slot_size version * k) (slot_size version) block)
