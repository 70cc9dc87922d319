-- The layout of a slot file: a header block of 128 bytes, and slots of equal length after it. A number has its highest
-- byte first. A gate is open at one value alone, and closed at every other.
use Rattle.std.specs.Prelude.{◌≡◌, ◌==◌, ◌&&◌, ℕ, ◌+◌, ◌*◌, Bool, not, List, ◌∷◌, ◌++◌, length, take, drop, replicate}
use Rattle.std.specs.Prelude.{slice_index, Option, None, Some, if◌then◌else◌, nat_lt, is_some}
use Rattle.std.specs.Cmp.Lexicographic.{pointwise}
use Rattle.byteorder.specs.Endian.{big_number, big_bytes}
use Rattle.slot_file.specs.declared.header.Header.{Header}
use Rattle.slot_file.specs.declared.header.LoadFault.{LoadFault}
use Rattle.slot_file.specs.declared.header.LoadFault.TheVariants.{Length, NotReady, Version, Foreign}
use Rattle.slot_file.specs.declared.slot.Slot.{Slot}
use Rattle.slot_file.specs.declared.slot.Slot.TheVariants.{Free, Half, Full, Damaged}

-- n bytes from a place on
abbrev pub part : ℕ → ℕ → List ℕ → List ℕ
part at n bytes = take n (drop at bytes)

-- Slots have 160 bytes exactly if the header's version is 2, and 128 bytes otherwise.
abbrev pub slot_size : ℕ → ℕ
slot_size version = if version == 2 then 160 else 128

-- the place of a slot
abbrev pub slot_start : ℕ → ℕ → ℕ
slot_start version slot = 128 + slot_size version * slot

-- the length of a file of that many slots
abbrev pub file_size : ℕ → ℕ → ℕ
file_size version count = 128 + slot_size version * count

-- Header block: the gate at 0, open at 0xA7; the version at 4; the number at 5; the LMS code at 8; the LM-OTS code at
-- 12; the key's identifier at 16. All else is zeros.
unfoldable pub header_in : List ℕ → Header
header_in file = record {
  version = slice_index file 4;
  number = slice_index file 5;
  lms = big_number 4 (part 8 4 file);
  ots = big_number 4 (part 12 4 file);
  id = part 16 16 file;
}

unfoldable pub header_block : ℕ → Header → List ℕ
header_block gate header =
    gate ∷ 0 ∷ 0 ∷ 0 ∷ header.version ∷ header.number ∷ 0 ∷ 0 ∷ big_bytes 4 header.lms ++ big_bytes 4 header.ots
    ++ header.id ++ replicate 96 0

unfoldable pub same_header : Header → Header → Bool
same_header a b =
    (a.version == b.version)
    && ((a.number == b.number) && ((a.lms == b.lms) && ((a.ots == b.ots) && pointwise ◌==◌ a.id b.id)))

-- The first test of a header that fails: a closed gate, another version, another header.
unfoldable pub header_fault : Header → List ℕ → Option LoadFault
header_fault header file =
    if not (slice_index file 0 == 0xA7) then Some (NotReady (slice_index file 0))
    else (if not (slice_index file 4 == header.version) then Some (Version (slice_index file 4))
    else (if not (same_header (header_in file) header) then Some (Foreign (header_in file)) else None))

-- The first test that fails when a file is opened: too few bytes for a header, the tests of the header, another length.
unfoldable pub load_fault : Header → ℕ → List ℕ → Option LoadFault
load_fault header count file =
    let other_length = Some (Length (length file) (file_size header.version count)) in
    if nat_lt (length file) 128 then other_length
    else (if is_some (header_fault header file) then header_fault header file
    else (if not (length file == file_size header.version count) then other_length else None))

-- Slot: gate A at 0, open at 0xB1; body A, of 36 bytes, at 4; gate B at 40, open at 0xC2; body B, of 64 bytes, at 44;
-- in slots of 160 bytes the moment at 108, in 8 bytes. All else is zeros.
unfoldable pub moment_bytes : ℕ → List ℕ
moment_bytes moment = big_bytes 8 moment

unfoldable pub moment_of : ℕ → List ℕ → ℕ
moment_of version bytes = if version == 2 then big_number 8 (part 108 8 bytes) else 0

unfoldable pub slot_of : ℕ → List ℕ → Slot
slot_of version bytes =
    let a = slice_index bytes 0 in
    let b = slice_index bytes 40 in
    if a == 0xB1 then
    (if b == 0xC2 then Full (part 4 36 bytes) (part 44 64 bytes) (moment_of version bytes) else Half (part 4 36 bytes))
    else (if b == 0xC2 then Damaged a b else Free)

-- some bytes show this slot
abbrev pub IsShown : ℕ → Slot → Type 0
IsShown version slot = (bytes : List ℕ) × (slot ≡ slot_of version bytes)

-- a slot of a file
abbrev pub slot_at : ℕ → ℕ → List ℕ → Slot
slot_at version slot file = slot_of version (part (slot_start version slot) (slot_size version) file)

-- the file of a header and free slots
abbrev pub blank_file : Header → ℕ → List ℕ
blank_file header count = header_block 0xA7 header ++ replicate (slot_size header.version * count) 0
