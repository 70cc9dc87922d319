-- What the slots of a leaf table's file mean.
use Rattle.std.specs.Prelude.{◌≡◌, ◌<◌, ℕ, Bool, true, false, List, [], ◌∷◌, ◌++◌, replicate}
use Rattle.lms_bytes.specs.MessageId.{message_id_of}
use Rattle.leaf_table.specs.Entries.{LeafUse, IsFree, IsLeased, IsBurnt, IsTorn, map_of}
use Rattle.leaf_table.specs.declared.lease.Lease.{Lease}
use Rattle.leaf_table.specs.declared.lease.Lease.TheVariants.{Leased, Burnt}
use Rattle.slot_file.specs.Layout.{slot_at}
use Rattle.slot_file.specs.declared.slot.Slot.{Slot}
use Rattle.slot_file.specs.declared.slot.Slot.TheVariants.{Free, Half, Full, Damaged}

-- this project's profile: body A of a slot is the message id
abbrev pub use_of_slot : Slot → LeafUse
use_of_slot Free = IsFree
use_of_slot (Half a) = IsLeased a
use_of_slot (Full a b moment) = IsBurnt
use_of_slot (Damaged a b) = IsTorn

-- this project's profile: body B is the message id, the member that reported the leaf spent, and 27 zeros
abbrev pub report_body : List ℕ → ℕ → List ℕ
report_body message by = message ++ by ∷ replicate 27 0

-- the entry that made a slot what it is
abbrev pub lease_of_slot : ℕ → Slot → Lease
lease_of_slot leaf (Half a) = Leased leaf (message_id_of a)
lease_of_slot leaf slot = Burnt leaf

-- the entries that a slot has: its lease, and then its burning
abbrev pub entries_of_slot : ℕ → Slot → List Lease
entries_of_slot leaf Free = []
entries_of_slot leaf (Half a) = Leased leaf (message_id_of a) ∷ []
entries_of_slot leaf (Full a b moment) = Leased leaf (message_id_of a) ∷ Burnt leaf ∷ []
entries_of_slot leaf (Damaged a b) = []

-- a slot may become another by one entry
abbrev pub may_become : Slot → Slot → Bool
may_become Free (Half a) = true
may_become (Half a) (Full b c moment) = true
may_become _ _ = false

-- the file, of version 1, has just these entries, for `count` leaves
abbrev pub HasEntries : ℕ → List ℕ → List Lease → Type 0
HasEntries count file entries = (leaf : ℕ) → leaf < count → use_of_slot (slot_at 1 leaf file) ≡ map_of entries leaf
