-- What putting the slot of one more entry leaves of a table.
use Rattle.std.proofs.Common.{◌≡◌, ◌<◌, ◌+◌, ◌^◌, ℕ, List, [], ◌∷◌, ◌++◌, Some, length, set, true, refl, sym, ◌∙◌, ap, subst, arith, length-append}
use Rattle.coalition_map.specs.Coalitions.{PlanNumbers}
use Rattle.disk_trait.specs.declared.disk.Pages as pages
use Rattle.disk_trait.specs.declared.faults.Faults as faults
use Rattle.leaf_table.specs.Entries.{IsFree, IsLeased, leaf_of, map_of, use_after}
use Rattle.leaf_table.specs.Leasing.{WasLeasedFor}
use Rattle.leaf_table.specs.Slots.{lease_of_slot, may_become, use_of_slot}
use Rattle.leaf_table.specs.State.{IsSound, SettlesTo, state_with, with_doubt, with_lease}
use Rattle.leaf_table.specs.Table.{plan_of, state_of}
use Rattle.leaf_table.specs.declared.lease.Lease.{Lease}
use Rattle.leaf_table.specs.declared.table.Table.{Table}
use Rattle.leaf_table.proofs.Events.{was-leased}
use Rattle.leaf_table.proofs.Found.{free-use, leased-use}
use Rattle.leaf_table.proofs.Sound.{room-put, sound-doubt, sound-made}
use Rattle.slot_file.specs.Cache.{state_of as cache_state}
use Rattle.slot_file.specs.Logs.{room_in}
use Rattle.slot_file.specs.State.{CacheState, settled_with, slot_in}
use Rattle.slot_file.specs.declared.doubted.Doubted.{Doubted}
use Rattle.slot_file.specs.declared.slot.Slot.{Slot}
use Rattle.slot_file.specs.declared.slot.Slot.TheVariants.{Free, Full, Half}

module _ {D : Type 0} {p : pages.Ghosts D} {f : faults.Ghosts D} (table : Table D p f) where
  abbrev slots : List Slot
  slots = (cache_state table.slots).slots

  abbrev items : List Lease
  items = table.entries.items

  -- the slots and the entries after a put, which are sound and take no more room
  pub record StillSound (new : CacheState) (entries : List Lease) : Type 0 where
    pub sound : IsSound (state_with new entries)
    pub room : length entries + room_in new.slots ≡ length items + room_in slots

  -- the slot of a leaf, and what one more entry may make of it
  pub record MayPut (leaf : ℕ) (before slot : Slot) : Type 0 where
    pub within : leaf < length slots
    pub was : slot_in slots leaf ≡ before
    pub may : may_become before slot ≡ true

  pub may-lease : (leaf : ℕ) (message : List ℕ) → leaf < 2 ^ (plan_of table).h → map_of items leaf ≡ IsFree → MayPut leaf Free (Half message)
  may-lease leaf message below free =
      let within : leaf < length slots = omega (arith, below, table.count) in
      record { within = within; was = free-use (slot_in slots leaf) (table.sound.slots leaf within ∙ free); may = refl }

  pub may-burn : (leaf : ℕ) (message body : List ℕ) → leaf < 2 ^ (plan_of table).h → map_of items leaf ≡ IsLeased message
      → MayPut leaf (Half message) (Full message body 0)
  may-burn leaf message body below leased =
      let within : leaf < length slots = omega (arith, below, table.count) in
      record { within = within; was = leased-use (slot_in slots leaf) message (table.sound.slots leaf within ∙ leased); may = refl }

  pub may-settle : (doubted : Doubted) → (cache_state table.slots).doubt ≡ Some doubted → MayPut doubted.slot (slot_in slots doubted.slot) doubted.after
  may-settle doubted is = record { within = table.sound.within doubted is; was = refl; may = table.sound.next doubted is }

  module _ (leaf : ℕ) (before slot : Slot) (put : MayPut leaf before slot) where
    becomes : may_become (slot_in slots leaf) slot ≡ true
    becomes = ap (λ (s : Slot). may_become s slot) put.was ∙ put.may

    pub room-taken : room_in (set slots leaf slot) + 1 ≡ room_in slots
    room-taken = room-put slots leaf slot put.within becomes

    pub put-made : (lease : Lease) (new : CacheState) (entries : List Lease) → leaf_of lease ≡ leaf → use_after lease ≡ use_of_slot slot
        → new ≡ settled_with (set slots leaf slot) → entries ≡ items ++ lease ∷ [] → StillSound new entries
    put-made lease new entries is_leaf makes is listed =
        let state = state_with (cache_state table.slots) items in
        let same : state_with new entries ≡ with_lease state lease leaf slot = λ i. state_with (is i) (listed i) in
        record {
          sound = subst IsSound (sym same) (sound-made state lease leaf slot put.within table.sound becomes is_leaf makes);
          room = omega (arith, ap length listed, length-append items (lease ∷ []), room-taken, ap (λ (s : CacheState). room_in s.slots) is);
        }

    pub put-doubted : (new : CacheState) → use_after (lease_of_slot leaf slot) ≡ use_of_slot slot
        → new ≡ record { slots = slots; doubt = Some (record { slot = leaf; after = slot }) } → StillSound new items
    put-doubted new makes is =
        let state = state_with (cache_state table.slots) items in
        let same : state_with new items ≡ with_doubt state leaf slot = λ i. state_with (is i) items in
        record {
          sound = subst IsSound (sym same) (sound-doubt state leaf slot put.within table.sound becomes makes);
          room = ap (λ (s : CacheState). length items + room_in s.slots) is;
        }

  -- a leaf that was leased for a message, once the doubt is settled
  pub record WasLeased (leaf : ℕ) (message : List ℕ) : Type 0 where
    pub within : leaf < length slots
    pub was : WasLeasedFor message (map_of items leaf)

pub settled-leased : {D : Type 0} {p : pages.Ghosts D} {f : faults.Ghosts D} (old mid : Table D p f) (leaf : ℕ) (message : List ℕ) → plan_of mid ≡ plan_of old
    → leaf < 2 ^ (plan_of old).h → SettlesTo (state_of old) (state_of mid) → WasLeasedFor message (map_of (state_of old).entries leaf) → WasLeased mid leaf message
settled-leased old mid leaf message plan below settles leased = record {
  within = omega (arith, below, mid.count, ap (λ (n : PlanNumbers). 2 ^ n.h) plan);
  was = was-leased (state_of old) (state_of mid) leaf message old.sound (omega (arith, below, old.count)) settles leased;
}
