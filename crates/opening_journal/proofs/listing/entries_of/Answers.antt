use Rattle.std.proofs.Common.{◌≡◌, ◌<◌, ◌≤◌, ◌+◌, ◌*◌, ℕ, List, length, vec_capacity, refl, ap, ◌∙◌, subst, arith}
use Rattle.std.proofs.Math.Seq.{take-length}
use Rattle.opening_journal.specs.Entries.{Follows, IsFree, IsLegalList, map_of, state_of_slot}
use Rattle.opening_journal.specs.Loading.{entries_of_slot}
use Rattle.opening_journal.proofs.Maps.{map_of-none}
use Rattle.slot_file.proofs.Logs.{HasFirst, first-more, first-none, legal-none}
use Rattle.opening_journal.specs.declared.entry.Entry.{Entry}
use Rattle.slot_file.specs.Cache.{state_of}
use Rattle.slot_file.specs.Copies.{is_damaged}
use Rattle.slot_file.specs.Logs.{room_in, room_of}
use Rattle.slot_file.specs.declared.slot.Slot.{Slot}
use Rattle.slot_file.specs.declared.slot.Slot.TheVariants.{Free, Half, Full, Damaged}
use Rattle.opening_journal.proofs.listing.entries_of.Goals as goal

slot-room : (n leaf : ℕ) (slot : Slot) → length (entries_of_slot n leaf slot) + room_of slot ≡ 2
slot-room n leaf Free = refl
slot-room n leaf (Half a) = refl
slot-room n leaf (Full a b moment) = refl
slot-room n leaf (Damaged a b) = refl

-- the entries of the slots so far, and of all slots
module _ {leaf count : ℕ} (slots : List Slot) (is : count ≡ length slots) where
  here : leaf < count → leaf < length slots
  here below = subst (λ (k : ℕ). leaf < k) is below

  module _ (n : ℕ) (entries : List Entry) (capacity : ℕ) (fits : 2 * length slots ≤ capacity)
      (first : HasFirst (entries_of_slot n) map_of (state_of_slot n) IsFree IsLegalList slots leaf entries) where
    two-more : leaf < count → length entries + 2 ≤ capacity
    two-more below = let rooms = first.room in omega (arith, rooms, here below, fits)

    still-free : map_of entries leaf ≡ IsFree
    still-free = first.untouched leaf (omega arith)

    module _ (past : count ≤ leaf) (most : leaf ≤ count) where
      all-first : HasFirst (entries_of_slot n) map_of (state_of_slot n) IsFree IsLegalList slots (length slots) entries
      all-first =
          let ended : leaf ≡ length slots = omega (arith, past, most, is) in
          subst (λ (k : ℕ). HasFirst (entries_of_slot n) map_of (state_of_slot n) IsFree IsLegalList slots k entries)
          ended first

      all-room : length entries + room_in slots ≤ capacity
      all-room = omega (arith, all-first.room, ap room_in (take-length slots), fits)

pub loop-leaf-init : goal.loop-leaf-init
loop-leaf-init g c = record {
  first = first-none (entries_of_slot c.args.n) map_of (state_of_slot c.args.n) IsFree IsLegalList (state_of c.args.slots.now).slots _ c.in_ok-entries.ensures.items
      map_of-none (legal-none Follows);
  capacity = omega (arith, c.in_ok-entries.ensures.capacity, c.count-count.ensures);
}

pub loop-leaf-preserved : goal.loop-leaf-preserved
loop-leaf-preserved g c =
    let n = c.args.n in
    let slots = (state_of c.args.slots.now).slots in
    let leaf = c.loop-leaf.leaf in
    let call = c.add_slot.ensures in
    let below : leaf < length slots = omega (arith, c.loop-leaf-test.true, c.count-count.ensures) in
    record {
      first = first-more (entries_of_slot n) map_of (state_of_slot n) IsFree IsLegalList slots leaf c.loop-leaf.entries.items _ _ below c.loop-leaf.invariant.first
          c.slot.ensures call.items (slot-room n leaf _) call.shown call.others call.legal;
      capacity = omega (arith, c.loop-leaf.invariant.capacity, call.room);
    }

pub slot-requires : goal.slot-requires
slot-requires g c = here (state_of c.args.slots.now).slots c.count-count.ensures c.loop-leaf-test.true

pub add_slot-requires-clause-room : goal.add_slot-requires-clause-room
add_slot-requires-clause-room g c =
    two-more (state_of c.args.slots.now).slots c.count-count.ensures c.args.n c.loop-leaf.entries.items
    (vec_capacity c.loop-leaf.entries) c.loop-leaf.invariant.capacity c.loop-leaf.invariant.first
    c.loop-leaf-test.true

pub add_slot-requires-clause-whole : goal.add_slot-requires-clause-whole
add_slot-requires-clause-whole g c =
    ap is_damaged c.slot.ensures ∙ c.requires.whole c.loop-leaf.leaf
    (here (state_of c.args.slots.now).slots c.count-count.ensures c.loop-leaf-test.true)

pub add_slot-requires-clause-free : goal.add_slot-requires-clause-free
add_slot-requires-clause-free g c =
    still-free (state_of c.args.slots.now).slots c.count-count.ensures c.args.n c.loop-leaf.entries.items
    (vec_capacity c.loop-leaf.entries) c.loop-leaf.invariant.capacity c.loop-leaf.invariant.first

pub add_slot-requires-clause-legal : goal.add_slot-requires-clause-legal
add_slot-requires-clause-legal g c = c.loop-leaf.invariant.first.is_legal

pub returns-clause-items : goal.returns-clause-items
returns-clause-items g c =
    (all-first (state_of c.args.slots.now).slots c.count-count.ensures c.args.n c.loop-leaf.entries.items
    (vec_capacity c.loop-leaf.entries) c.loop-leaf.invariant.capacity c.loop-leaf.invariant.first
    c.loop-leaf-test.false c.loop-leaf.auto.leaf-end).items

pub returns-clause-have : goal.returns-clause-have
returns-clause-have g c =
    (all-first (state_of c.args.slots.now).slots c.count-count.ensures c.args.n c.loop-leaf.entries.items
    (vec_capacity c.loop-leaf.entries) c.loop-leaf.invariant.capacity c.loop-leaf.invariant.first
    c.loop-leaf-test.false c.loop-leaf.auto.leaf-end).have

pub returns-clause-legal : goal.returns-clause-legal
returns-clause-legal g c =
    c.loop-leaf.invariant.first.is_legal

pub returns-clause-room : goal.returns-clause-room
returns-clause-room g c =
    all-room (state_of c.args.slots.now).slots c.count-count.ensures c.args.n c.loop-leaf.entries.items
    (vec_capacity c.loop-leaf.entries) c.loop-leaf.invariant.capacity c.loop-leaf.invariant.first
    c.loop-leaf-test.false c.loop-leaf.auto.leaf-end
