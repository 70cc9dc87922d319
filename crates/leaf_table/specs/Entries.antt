-- The entries of a leaf table, and what they make of each leaf.
use Rattle.std.specs.Prelude.{◌≡◌, ℕ, Bool, true, false, List, fold}
use Rattle.lms_bytes.specs.MessageId.{message_id_bytes}
use Rattle.leaf_table.specs.declared.lease.Lease.{Lease}
use Rattle.leaf_table.specs.declared.lease.Lease.TheVariants.{Leased, Burnt}
use Rattle.slot_file.specs.Logs.{IsLegal, with_entry}

-- A leaf is free, leased for a message by its id of 36 bytes, or burnt. A slot whose gate B is open and gate A is not
-- is torn.
pub data LeafUse : Type 0 where
  IsFree : LeafUse
  IsLeased : (message : List ℕ) → LeafUse
  IsBurnt : LeafUse
  IsTorn : LeafUse

-- the leaf of an entry
abbrev pub leaf_of : Lease → ℕ
leaf_of (Leased leaf message) = leaf
leaf_of (Burnt leaf) = leaf

-- its leaf after it
abbrev pub use_after : Lease → LeafUse
use_after (Leased leaf message) = IsLeased (message_id_bytes message)
use_after (Burnt leaf) = IsBurnt

-- all leaves once these entries were made, in this order
unfoldable pub map_of : List Lease → ℕ → LeafUse
map_of entries = fold (with_entry leaf_of use_after) (λ leaf. IsFree) entries

-- an entry may be made of a leaf: a free one is leased, and a leased one is burnt
abbrev pub may_follow : Lease → LeafUse → Bool
may_follow (Leased leaf message) IsFree = true
may_follow (Leased leaf message) (IsLeased kept) = false
may_follow (Leased leaf message) IsBurnt = false
may_follow (Leased leaf message) IsTorn = false
may_follow (Burnt leaf) IsFree = false
may_follow (Burnt leaf) (IsLeased kept) = true
may_follow (Burnt leaf) IsBurnt = false
may_follow (Burnt leaf) IsTorn = false

-- an entry may follow these
abbrev pub Follows : List Lease → Lease → Type 0
Follows entries entry = may_follow entry (map_of entries (leaf_of entry)) ≡ true

-- One leaf, one message: each entry is a lease of a leaf that was never leased before, or the first burning of a leaf
-- that was leased before.
abbrev pub OneLease : List Lease → Type 0
OneLease entries = IsLegal Follows entries
