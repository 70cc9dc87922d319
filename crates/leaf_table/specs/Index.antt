-- The index of a table, which holds nothing that the slots do not say. Only contracts inside the crate speak of it.
use Rattle.std.specs.Prelude.{◌≡◌, ◌≢◌, ◌≤◌, ◌<◌, ◌%◌, ℕ, List, length, slice_index_or, slice_set, None, Some, Option}
use Rattle.std.specs.Prelude.{Contains}
use Rattle.coalition_map.specs.Coalitions.{IsLeafAfter, PlanNumbers, count_of}
use Rattle.leaf_table.specs.Entries.{IsFree, LeafUse}
use Rattle.leaf_table.specs.Leasing.{HasNone, IsLeast}
use Rattle.leaf_table.specs.Slots.{use_of_slot}
use Rattle.leaf_table.specs.declared.index.LeaseIndex.{LeaseIndex}
use Rattle.slot_file.specs.State.{slot_in}
use Rattle.slot_file.specs.Copies.{taken_count}
use Rattle.slot_file.specs.declared.slot.Slot.{Slot}
use Rattle.slot_file.specs.declared.slot.Slot.TheVariants.{Free, Half}
use Rattle.std.specs.Option.{MatchOption}

-- a lease as it is listed: its coalition and the bytes of its message's id, and its leaf
abbrev pub Listed : Type 0
Listed = (ℕ × List ℕ) × ℕ

-- the lease is in the slot of its leaf
pub record IsListed (plan : PlanNumbers) (slots : List Slot) (lease : Listed) : Type 0 where
  pub within : lease.1 < length slots
  pub own : lease.1 % count_of plan ≡ lease.0.0
  pub half : slot_in slots lease.1 ≡ Half lease.0.1

-- the lease is not absent
abbrev pub IsThere : List Listed → Listed → Type 0
IsThere leases lease = ¬ (¬ (Contains leases lease))

-- just the leases that are not burnt are listed
pub record Lists (plan : PlanNumbers) (slots : List Slot) (leases : List Listed) : Type 0 where
  pub listed : (lease : Listed) → Contains leases lease → IsListed plan slots lease
  pub complete : (leaf : ℕ) (id : List ℕ) → leaf < length slots → slot_in slots leaf ≡ Half id
      → IsThere leases ((leaf % count_of plan, id), leaf)
  pub few : length leases ≤ taken_count slots

-- the least leaf of coalition c whose slot has this use, or none if there is none
abbrev pub IsFound : PlanNumbers → List Slot → ℕ → LeafUse → Option ℕ → Type 0
IsFound plan slots c wanted found =
    MatchOption found (HasNone plan c (λ leaf. use_of_slot (slot_in slots leaf)) wanted)
    (IsLeast plan c (λ leaf. use_of_slot (slot_in slots leaf)) wanted)

-- by number, the least free leaf of each of the first coalitions, or none if there is none
pub record AreFree (plan : PlanNumbers) (slots : List Slot) (count : ℕ) (free : List (Option ℕ)) : Type 0 where
  pub least : (c leaf : ℕ) → c < count → slice_index_or free c None ≡ Some leaf
      → IsFound plan slots c IsFree (Some leaf)
  pub none : (c : ℕ) → c < count → slice_index_or free c None ≡ None → IsFound plan slots c IsFree None

-- no leaf of coalition c up to this one is free
abbrev pub IsPassed : PlanNumbers → List Slot → ℕ → ℕ → Type 0
IsPassed plan slots c last = (leaf : ℕ) → IsLeafAfter plan c None leaf → leaf ≤ last → slot_in slots leaf ≢ Free

-- the index says what the slots say, with room for a lease of each leaf
pub record IsIndex (plan : PlanNumbers) (slots : List Slot) (index : LeaseIndex) : Type 0 where
  pub leases : Lists plan slots index.leases.items
  pub room : length slots ≤ index.leases.room
  pub count : length index.free.items ≡ count_of plan
  pub free : AreFree plan slots (count_of plan) index.free.items

-- since the index was one of the slots, that of one leaf has gone from one to another
pub record WasIndex (plan : PlanNumbers) (index : LeaseIndex) (leaf : ℕ) (before after : Slot) (slots : List Slot)
    : Type 0 where
  pub earlier : List Slot
  pub within : leaf < length earlier
  pub was : slot_in earlier leaf ≡ before
  pub is : slots ≡ slice_set earlier leaf after
  pub indexed : IsIndex plan earlier index
