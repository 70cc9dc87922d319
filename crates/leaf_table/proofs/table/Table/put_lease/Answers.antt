use Rattle.std.proofs.Common.{◌≡◌, ◌∷◌, [], ℕ, List, None, Some, length, refl, sym, ◌∙◌, ap, subst, arith, rules, length-append, vec_len}
use Rattle.std.specs.Prelude.{slice_set}
use Rattle.lms_bytes.specs.MessageId.{message_id_bytes}
use Rattle.leaf_table.specs.Entries.{IsLeased, map_of}
use Rattle.leaf_table.specs.declared.lease.Lease.{Lease}
use Rattle.leaf_table.specs.declared.lease.Lease.TheVariants.{Leased}
use Rattle.leaf_table.proofs.BodyBytes.{back}
use Rattle.leaf_table.specs.Index.{IsIndex}
use Rattle.leaf_table.proofs.Maps.{map_of-same}
use Rattle.leaf_table.proofs.Putting.{may-lease, put-doubted, put-made, room-taken}
use Rattle.slot_file.specs.Cache.{state_of}
use Rattle.slot_file.specs.State.{CacheState}
use Rattle.slot_file.specs.declared.slot.Slot.TheVariants.{Free, Half}
use Rattle.leaf_table.proofs.table.Table.put_lease.Goals as goal

pub put_a-requires-clause-free : goal.put_a-requires-clause-free
put_a-requires-clause-free g c = (may-lease c.args.self.now c.args.leaf [] c.requires.within c.requires.free).was

pub push_reserved-requires : goal.push_reserved-requires
push_reserved-requires g c =
    let self = c.args.self.now in
    let may = may-lease self c.args.leaf [] c.requires.within c.requires.free in
    let size : vec_len self.entries ≡ length self.entries.items = search rules in
    omega (arith, self.room, size, room-taken self c.args.leaf Free (Half []) may)

pub list-requires-clause-count : goal.list-requires-clause-count
list-requires-clause-count g c = c.put_a.ensures.stays.count ∙ c.args.self.now.count

pub list-requires-clause-index : goal.list-requires-clause-index
list-requires-clause-index g c =
    let self = c.args.self.now in
    let may = may-lease self c.args.leaf [] c.requires.within c.requires.free in
    record {
      earlier = (state_of self.slots).slots;
      within = may.within;
      was = may.was;
      is = ap (λ (s : CacheState). s.slots) c.in-Ok.ensures.event;
      indexed = self.indexed;
    }

pub invariant_of-self : goal.invariant_of-self
invariant_of-self g c =
    let self = c.args.self.now in
    let leaf = c.args.leaf in
    let id = message_id_bytes c.args.message.now in
    let may = may-lease self leaf id c.requires.within c.requires.free in
    let event = c.in-Ok.ensures.event ∙ ap (λ (b : List ℕ). record { slots = slice_set (state_of self.slots).slots leaf (Half b); doubt = None }) c.to_bytes-id.ensures in
    let still = put-made self leaf Free (Half id) may (Leased leaf c.args.message.now) (state_of c.put_a.new.self) c.push_reserved.new.self.items refl refl event c.push_reserved.ensures.items in
    record {
      version = ap (λ h. h.version) c.put_a.ensures.stays.header ∙ self.version;
      count = c.put_a.ensures.stays.count ∙ self.count;
      sound = still.sound;
      room = omega (arith, self.room, c.push_reserved.ensures.capacity, still.room);
      indexed = c.list.ensures;
    }

pub invariant_of-self-in-Err : goal.invariant_of-self-in-Err
invariant_of-self-in-Err g c =
    let self = c.args.self.now in
    let leaf = c.args.leaf in
    let message = c.args.message.now in
    let id = message_id_bytes message in
    let may = may-lease self leaf id c.requires.within c.requires.free in
    let size : length message.hash ≡ 32 = search rules in
    let event = c.in-Err.ensures.event ∙ ap (λ (b : List ℕ). record { slots = (state_of self.slots).slots; doubt = Some (record { slot = leaf; after = Half b }) }) c.to_bytes-id.ensures in
    let still = put-doubted self leaf Free (Half id) may (state_of c.put_a.new.self) (ap IsLeased (back message.length message.hash size)) event in
    record {
      version = ap (λ h. h.version) c.put_a.ensures.stays.header ∙ self.version;
      count = c.put_a.ensures.stays.count ∙ self.count;
      sound = still.sound;
      room = omega (arith, self.room, still.room);
      indexed = subst (λ (s : CacheState). IsIndex self.plan s.slots self.index) (sym c.in-Err.ensures.event) self.indexed;
    }

pub returns-in-Ok-clause-new : goal.returns-in-Ok-clause-new
returns-in-Ok-clause-new g c = λ same.
    let items = c.args.self.now.entries.items in
    omega (arith, ap length (sym c.push_reserved.ensures.items ∙ same), length-append items (Leased c.args.leaf c.args.message.now ∷ []))

pub returns-in-Ok-clause-leased : goal.returns-in-Ok-clause-leased
returns-in-Ok-clause-leased g c =
    let items = c.args.self.now.entries.items in
    let lease = Leased c.args.leaf c.args.message.now in
    ap (λ (l : List Lease). map_of l c.args.leaf) c.push_reserved.ensures.items ∙ map_of-same items lease c.args.leaf refl
