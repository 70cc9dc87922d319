-- What making an entry leaves of a journal.
use Rattle.std.proofs.Common.{◌≡◌, ◌<◌, ◌+◌, ℕ, List, [], ◌∷◌, ◌++◌, Option, None, length, set, sym, ap, subst, arith, length-append}
use Rattle.disk_trait.specs.declared.disk.Pages as pages
use Rattle.disk_trait.specs.declared.faults.Faults as faults
use Rattle.opening_journal.specs.Entries.{Follows, leaf_of, state_after, state_of_slot}
use Rattle.opening_journal.specs.EntrySlots.{slot_with}
use Rattle.opening_journal.specs.Inside.{IsHeld}
use Rattle.opening_journal.specs.declared.entry.Entry.{Entry}
use Rattle.opening_journal.specs.declared.journal.Journal.{Journal}
use Rattle.opening_journal.proofs.Holding.{held-made, room-made}
use Rattle.slot_file.specs.Cache.{state_of as cache_state}
use Rattle.slot_file.specs.Logs.{room_in}
use Rattle.slot_file.specs.State.{CacheState, settled_with}
use Rattle.slot_file.specs.declared.slot.Slot.{Slot}

module _ {D : Type 0} {p : pages.Ghosts D} {f : faults.Ghosts D} (journal : Journal D p f) where
  abbrev slots : List Slot
  slots = (cache_state journal.slots).slots

  abbrev items : List Entry
  items = journal.entries.items

  abbrev n : ℕ
  n = journal.params.n

  -- the slots and the entries after one is made, which take no more room
  pub record StillHeld (new : CacheState) (entries : List Entry) (doubt : Option Entry) : Type 0 where
    pub held : IsHeld n new entries doubt
    pub room : length entries + room_in new.slots ≡ length items + room_in slots

  module _ (entry : Entry) (within : leaf_of entry < length slots) (follows : Follows items entry) where
    pub room-taken : room_in (set slots (leaf_of entry) (slot_with entry)) + 1 ≡ room_in slots
    room-taken = room-made n slots items entry within journal.held.slots follows

    pub put-made : (new : CacheState) (entries : List Entry) (doubt : Option Entry) → state_of_slot n (slot_with entry) ≡ state_after entry
        → new ≡ settled_with (set slots (leaf_of entry) (slot_with entry)) → entries ≡ items ++ entry ∷ [] → doubt ≡ None → StillHeld new entries doubt
    put-made new entries doubt after is listed none =
        let held = held-made n slots items entry within journal.held.slots follows after new doubt journal.held.legal is none in
        record {
          held = subst (λ (l : List Entry). IsHeld n new l doubt) (sym listed) held;
          room = omega (arith, ap length listed, length-append items (entry ∷ []), room-taken, ap (λ (s : CacheState). room_in s.slots) is);
        }
