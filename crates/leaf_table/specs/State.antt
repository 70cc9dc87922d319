-- What a leaf table stands for.
use Rattle.std.specs.Prelude.{◌≡◌, ◌⊎◌, ◌<◌, ℕ, true, List, [], ◌∷◌, ◌++◌, length, slice_set, Option, None, Some}
use Rattle.leaf_table.specs.Entries.{OneLease, map_of, use_after}
use Rattle.leaf_table.specs.Slots.{HasEntries, lease_of_slot, may_become, use_of_slot}
use Rattle.leaf_table.specs.declared.lease.Lease.{Lease}
use Rattle.slot_file.specs.State.{CacheState, slot_in}
use Rattle.slot_file.specs.declared.doubted.Doubted.{Doubted}
use Rattle.slot_file.specs.declared.slot.Slot.{Slot}

-- the entries, the slots that have them, and a put in doubt, which was made or was not
pub record TableState : Type 0 where
  pub entries : List Lease
  pub slots : List Slot
  pub doubt : Option Doubted

-- the entries and the slots that have them
abbrev pub state_with : CacheState → List Lease → TableState
state_with cache entries = record { entries = entries; slots = cache.slots; doubt = cache.doubt }

-- the entry in doubt
abbrev pub lease_of : Doubted → Lease
lease_of doubted = lease_of_slot doubted.slot doubted.after

-- one more entry, made by a slot
abbrev pub with_lease : TableState → Lease → ℕ → Slot → TableState
with_lease state lease leaf slot = record {
  entries = state.entries ++ lease ∷ [];
  slots = slice_set state.slots leaf slot;
  doubt = None;
}

-- the same, with no doubt
abbrev pub without_doubt : TableState → TableState
without_doubt state = record { entries = state.entries; slots = state.slots; doubt = None }

-- the same, with a put of a slot in doubt
abbrev pub with_doubt : TableState → ℕ → Slot → TableState
with_doubt state leaf slot = record {
  entries = state.entries;
  slots = state.slots;
  doubt = Some (record { slot = leaf; after = slot });
}

-- the put in doubt was made or was not: this is the table then
abbrev pub SettlesTo : TableState → TableState → Type 0
SettlesTo state settled =
    (settled ≡ without_doubt state)
    ⊎ ((doubted : Doubted) × (state.doubt ≡ Some doubted)
    × (settled ≡ with_lease state (lease_of doubted) doubted.slot doubted.after))

-- the file stands for the table: with the entry in doubt, or without
abbrev pub StandsFor : List ℕ → TableState → Type 0
StandsFor file state =
    HasEntries (length state.slots) file state.entries
    ⊎ ((doubted : Doubted) × (state.doubt ≡ Some doubted)
    × HasEntries (length state.slots) file (state.entries ++ lease_of doubted ∷ []))

-- Each slot has what the entries make of its leaf, each entry may follow those before it, and so may the one in doubt.
pub record IsSound (state : TableState) : Type 0 where
  pub slots : (leaf : ℕ) → leaf < length state.slots
      → use_of_slot (slot_in state.slots leaf) ≡ map_of state.entries leaf
  pub legal : OneLease state.entries
  pub within : (doubted : Doubted) → state.doubt ≡ Some doubted → doubted.slot < length state.slots
  pub next : (doubted : Doubted) → state.doubt ≡ Some doubted
      → may_become (slot_in state.slots doubted.slot) doubted.after ≡ true
  pub makes : (doubted : Doubted) → state.doubt ≡ Some doubted
      → use_after (lease_of doubted) ≡ use_of_slot doubted.after
