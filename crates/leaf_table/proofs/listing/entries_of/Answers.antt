use Rattle.std.proofs.Common.{◌≡◌, ◌<◌, ◌+◌, ◌∙◌, ℕ, ap, length, refl, sum_by, arith}
use Rattle.std.proofs.lemmas.List.{take_all}
use Rattle.leaf_table.specs.Entries.{Follows, IsFree, OneLease, map_of}
use Rattle.leaf_table.specs.Slots.{entries_of_slot, use_of_slot}
use Rattle.leaf_table.proofs.Maps.{map_of-none}
use Rattle.slot_file.proofs.Logs.{first-more, first-none, legal-none}
use Rattle.leaf_table.specs.Loading.{entries_of}
use Rattle.slot_file.specs.Cache.{count_of, state_of}
use Rattle.slot_file.specs.Copies.{is_damaged}
use Rattle.slot_file.specs.State.{slot_in}
use Rattle.slot_file.specs.Logs.{room_of}
use Rattle.slot_file.specs.declared.slot.Slot.{Slot}
use Rattle.slot_file.specs.declared.slot.Slot.TheVariants.{Free, Half, Full, Damaged}
use Rattle.leaf_table.proofs.listing.entries_of.Goals as goal

slot-room : (leaf : ℕ) (slot : Slot) → length (entries_of_slot leaf slot) + room_of slot ≡ 2
slot-room leaf Free = refl
slot-room leaf (Half a) = refl
slot-room leaf (Full a b moment) = refl
slot-room leaf (Damaged a b) = refl

pub leaves-init : goal.leaves-init
leaves-init g c = record {
  first = first-none entries_of_slot map_of use_of_slot IsFree OneLease (state_of c.args.slots.now).slots _ c.in_ok-entries.ensures.items map_of-none (legal-none Follows);
  capacity = omega (arith, c.in_ok-entries.ensures.capacity, c.count-count.ensures);
}

pub leaves-preserved : goal.leaves-preserved
leaves-preserved g c =
    let slots = (state_of c.args.slots.now).slots in
    let leaf = c.leaves.leaf in
    let call = c.add_slot.ensures in
    let below : leaf < length slots = omega (arith, c.leaves-test.true, c.count-count.ensures) in
    record {
      first = first-more entries_of_slot map_of use_of_slot IsFree OneLease slots leaf c.leaves.entries.items _ _ below c.leaves.invariant.first c.slot.ensures
          call.items (slot-room leaf _) call.shown call.others call.legal;
      capacity = omega (arith, c.leaves.invariant.capacity, call.room);
    }

pub add_slot-requires-clause-room : goal.add_slot-requires-clause-room
add_slot-requires-clause-room g c =
    let below : c.leaves.leaf < count_of c.args.slots.now = omega (arith, c.leaves-test.true, c.count-count.ensures) in
    omega (arith, c.leaves.invariant.first.room, c.leaves.invariant.capacity, below)

pub add_slot-requires-clause-whole : goal.add_slot-requires-clause-whole
add_slot-requires-clause-whole g c = ap is_damaged c.slot.ensures ∙ c.requires c.leaves.leaf (omega (arith, c.leaves-test.true, c.count-count.ensures))

pub add_slot-requires-clause-free : goal.add_slot-requires-clause-free
add_slot-requires-clause-free g c = c.leaves.invariant.first.untouched c.leaves.leaf (omega arith)

pub add_slot-requires-clause-legal : goal.add_slot-requires-clause-legal
add_slot-requires-clause-legal g c = c.leaves.invariant.first.is_legal

pub returns-clause-items : goal.returns-clause-items
returns-clause-items g c =
    let end : c.leaves.leaf ≡ count_of c.args.slots.now = omega (arith, c.leaves-test.false, c.leaves.auto.leaf-end, c.count-count.ensures) in
    c.leaves.invariant.first.items ∙ ap (λ n. entries_of n (slot_in (state_of c.args.slots.now).slots)) end

pub returns-clause-have : goal.returns-clause-have
returns-clause-have g c leaf below = c.leaves.invariant.first.have leaf (omega (arith, c.leaves-test.false, c.count-count.ensures, below))

pub returns-clause-legal : goal.returns-clause-legal
returns-clause-legal g c = c.leaves.invariant.first.is_legal

pub returns-clause-room : goal.returns-clause-room
returns-clause-room g c =
    let slots = (state_of c.args.slots.now).slots in
    let end : c.leaves.leaf ≡ length slots = omega (arith, c.leaves-test.false, c.leaves.auto.leaf-end, c.count-count.ensures) in
    let sums = ap (sum_by room_of) (take_all c.leaves.leaf slots (omega (arith, end))) in
    omega (arith, c.leaves.invariant.first.room, c.leaves.invariant.capacity, sums, end)
