use Rattle.std.proofs.Common.{◌≡◌, ◌∷◌, ◌++◌, [], Option, Some, Ok, inr, refl, sym, ◌∙◌, ap, subst, arith, length, rules, vec_len}
use Rattle.leaf_table.specs.Slots.{may_become}
use Rattle.slot_file.specs.declared.slot.Slot.{Slot}
use Rattle.leaf_table.specs.State.{lease_of, state_with}
use Rattle.leaf_table.proofs.Settling.{enters_failed, enters_settled, settle_failed}
use Rattle.leaf_table.specs.declared.lease.Lease.{Lease}
use Rattle.leaf_table.proofs.Putting.{may-settle, put-made, room-taken}
use Rattle.leaf_table.proofs.Sound.{leaf_of-lease}
use Rattle.slot_file.specs.Cache.{header_of, state_of}
use Rattle.slot_file.specs.Calls.{Settles}
use Rattle.slot_file.specs.State.{CacheState, settled_with, with_made}
use Rattle.slot_file.specs.declared.doubted.Doubted.{Doubted}
use Rattle.slot_file.specs.declared.faults.Settled.{Settled}
use Rattle.leaf_table.proofs.table.Table.settle_entry.Goals as goal

only-some : {A : Type 0} {x y : A} → ◌≡◌ {A = Option A} (Some x) (Some y) → x ≡ y
only-some e = cc

pub push_reserved-requires : goal.push_reserved-requires
push_reserved-requires g c =
    let self = c.args.self.now in
    let d = c.args.doubted.now in
    let size : vec_len self.entries ≡ length self.entries.items = search rules in
    omega (arith, self.room, size, room-taken self d.slot _ d.after (may-settle self d c.requires))

pub invariant_of-self : goal.invariant_of-self
invariant_of-self g c =
    let self = c.args.self.now in
    let cache = state_of self.slots in
    let items = self.entries.items in
    let new = state_of c.settle.new.self in
    let call = c.settle.ensures in
    let d = c.args.doubted.now in
    let is : cache.doubt ≡ Some d = c.requires in
    let version = (header_of self.slots).version in
    let event = subst (λ (s : Settled). Settles version cache (Ok s) new) c.in-Ok-Made.field-0-is c.in-Ok-Made.ensures.event in
    let same : event.0 ≡ d = only-some (sym event.1 ∙ is) in
    let made : new ≡ settled_with (with_made cache.slots d) = event.2 ∙ ap (λ (x : Doubted). settled_with (with_made cache.slots x)) same in
    let listed = c.push_reserved.ensures.items ∙ ap (λ (l : Lease). items ++ l ∷ []) c.lease_of_slot.ensures in
    let still = put-made self d.slot _ d.after (may-settle self d is) (lease_of d) new c.push_reserved.new.self.items (leaf_of-lease d.slot d.after) (self.sound.makes d is) made listed in
    record {
      version = ap (λ h. h.version) call.stays.header ∙ self.version;
      count = call.stays.count ∙ self.count;
      sound = still.sound;
      room = omega (arith, self.room, c.push_reserved.ensures.capacity, still.room);
      indexed = c.enter.ensures;
    }

pub slot-requires : goal.slot-requires
slot-requires g c =
    let self = c.args.self.now in
    let d = c.args.doubted.now in
    let is : (state_of self.slots).doubt ≡ Some d = c.requires in
    self.sound.within d is

pub enter-requires-clause-count : goal.enter-requires-clause-count
enter-requires-clause-count g c = c.settle.ensures.stays.count ∙ c.args.self.now.count

pub enter-requires-clause-index : goal.enter-requires-clause-index
enter-requires-clause-index g c =
    let self = c.args.self.now in
    let cache = state_of self.slots in
    let new = state_of c.settle.new.self in
    let d = c.args.doubted.now in
    let is : cache.doubt ≡ Some d = c.requires in
    let version = (header_of self.slots).version in
    let event = subst (λ (s : Settled). Settles version cache (Ok s) new) c.in-Ok-Made.field-0-is c.in-Ok-Made.ensures.event in
    let same : event.0 ≡ d = only-some (sym event.1 ∙ is) in
    record {
      earlier = cache.slots;
      within = self.sound.within d is;
      was = sym c.slot.ensures;
      is = ap (λ (s : CacheState). s.slots) event.2 ∙ ap (λ (x : Doubted). with_made cache.slots x) same;
      indexed = self.indexed;
    }

pub enter-requires-clause-next : goal.enter-requires-clause-next
enter-requires-clause-next g c =
    let self = c.args.self.now in
    let d = c.args.doubted.now in
    let is : (state_of self.slots).doubt ≡ Some d = c.requires in
    ap (λ (s : Slot). may_become s d.after) c.slot.ensures ∙ self.sound.next d is

pub returns-in-Ok-Made-clause-event : goal.returns-in-Ok-Made-clause-event
returns-in-Ok-Made-clause-event g c =
    let self = c.args.self.now in
    let cache = state_of self.slots in
    let items = self.entries.items in
    let new = state_of c.settle.new.self in
    let d = c.args.doubted.now in
    let is : cache.doubt ≡ Some d = c.requires in
    let version = (header_of self.slots).version in
    let event = subst (λ (s : Settled). Settles version cache (Ok s) new) c.in-Ok-Made.field-0-is c.in-Ok-Made.ensures.event in
    let same : event.0 ≡ d = only-some (sym event.1 ∙ is) in
    let made : new ≡ settled_with (with_made cache.slots d) = event.2 ∙ ap (λ (x : Doubted). settled_with (with_made cache.slots x)) same in
    let listed = c.push_reserved.ensures.items ∙ ap (λ (l : Lease). items ++ l ∷ []) c.lease_of_slot.ensures in
    (ap (λ (s : CacheState). s.doubt) made, inr (d, is, λ i. state_with (made i) (listed i)))

pub returns-in-Ok-Made-clause-enters : goal.returns-in-Ok-Made-clause-enters
returns-in-Ok-Made-clause-enters g c =
    let stays = c.settle.ensures.stays in
    enters_settled _ _ (record { plan = refl; header = stays.header; disk = stays.disk }) _ c.in-Ok-Made.ensures.cause

pub returns-in-Err-clause-event : goal.returns-in-Err-clause-event
returns-in-Err-clause-event g c =
    let self = c.args.self.now in
    settle_failed (header_of self.slots).version self.version (state_of self.slots) (state_of c.settle.new.self) self.entries.items c.in-Err.fault c.of_settling.result c.of_settling.ensures
    c.in-Err.ensures.event

pub returns-in-Err-clause-enters : goal.returns-in-Err-clause-enters
returns-in-Err-clause-enters g c =
    let stays = c.settle.ensures.stays in
    let failed = c.in-Err.ensures in
    enters_failed _ _ (record { plan = refl; header = stays.header; disk = stays.disk }) c.in-Err.fault c.of_settling.result c.of_settling.ensures failed.told failed.succeeds failed.cause

pub returns-in-Ok-NotMade-clause-enters : goal.returns-in-Ok-NotMade-clause-enters
returns-in-Ok-NotMade-clause-enters g c =
    let stays = c.settle.ensures.stays in
    enters_settled _ _ (record { plan = refl; header = stays.header; disk = stays.disk }) _ c.in-Ok-NotMade.ensures.cause
