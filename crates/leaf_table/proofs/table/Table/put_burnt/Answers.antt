use Rattle.std.proofs.Common.{◌≡◌, ◌∷◌, [], None, Some, length, refl, sym, ◌∙◌, ap, subst, arith, length-append, rules, vec_len}
use Rattle.std.specs.Prelude.{slice_set}
use Rattle.lms_bytes.specs.MessageId.{message_id_bytes}
use Rattle.leaf_table.specs.Slots.{report_body}
use Rattle.leaf_table.specs.declared.lease.Lease.TheVariants.{Burnt}
use Rattle.leaf_table.specs.Index.{IsIndex}
use Rattle.leaf_table.proofs.Putting.{may-burn, put-doubted, put-made, room-taken}
use Rattle.slot_file.specs.Cache.{state_of}
use Rattle.slot_file.specs.State.{CacheState, slot_in}
use Rattle.slot_file.specs.Files.{with_b}
use Rattle.slot_file.specs.declared.slot.Slot.{Slot}
use Rattle.slot_file.specs.declared.slot.Slot.TheVariants.{Full, Half}
use Rattle.leaf_table.proofs.table.Table.put_burnt.Goals as goal

pub push_reserved-requires : goal.push_reserved-requires
push_reserved-requires g c =
    let self = c.args.self.now in
    let id = message_id_bytes c.args.message.now in
    let may = may-burn self c.args.leaf id [] c.requires.within c.requires.leased in
    let size : vec_len self.entries ≡ length self.entries.items = search rules in
    omega (arith, self.room, size, room-taken self c.args.leaf (Half id) (Full id [] 0) may)

pub invariant_of-self : goal.invariant_of-self
invariant_of-self g c =
    let self = c.args.self.now in
    let leaf = c.args.leaf in
    let slots = (state_of self.slots).slots in
    let new = state_of c.put_b.new.self in
    let id = message_id_bytes c.args.message.now in
    let body = report_body id c.args.by in
    let slot = Full id body 0 in
    let may = may-burn self leaf id body c.requires.within c.requires.leased in
    let written : with_b (slot_in slots leaf) c.report_bytes.result 0 ≡ slot = λ i. with_b (may.was i) (c.report_bytes.ensures i) 0 in
    let event = c.in-Ok.ensures.event ∙ ap (λ (s : Slot). record { slots = slice_set slots leaf s; doubt = None }) written in
    let still = put-made self leaf (Half id) slot may (Burnt leaf) new c.push_reserved.new.self.items refl refl event c.push_reserved.ensures.items in
    record {
      version = ap (λ h. h.version) c.put_b.ensures.stays.header ∙ self.version;
      count = c.put_b.ensures.stays.count ∙ self.count;
      sound = still.sound;
      room = omega (arith, self.room, c.push_reserved.ensures.capacity, still.room);
      indexed = c.unlist.ensures id body 0 new.slots
          (record {
            earlier = slots;
            within = may.within;
            was = may.was ∙ ap Half (sym c.to_bytes.ensures);
            is = ap (λ (s : CacheState). s.slots) event;
            indexed = self.indexed;
          });
    }

pub invariant_of-self-in-Err : goal.invariant_of-self-in-Err
invariant_of-self-in-Err g c =
    let self = c.args.self.now in
    let leaf = c.args.leaf in
    let slots = (state_of self.slots).slots in
    let id = message_id_bytes c.args.message.now in
    let slot = Full id (report_body id c.args.by) 0 in
    let may = may-burn self leaf id (report_body id c.args.by) c.requires.within c.requires.leased in
    let written : with_b (slot_in slots leaf) c.report_bytes.result 0 ≡ slot = λ i. with_b (may.was i) (c.report_bytes.ensures i) 0 in
    let event = c.in-Err.ensures.event ∙ ap (λ (s : Slot). record { slots = slots; doubt = Some (record { slot = leaf; after = s }) }) written in
    let still = put-doubted self leaf (Half id) slot may (state_of c.put_b.new.self) refl event in
    record {
      version = ap (λ h. h.version) c.put_b.ensures.stays.header ∙ self.version;
      count = c.put_b.ensures.stays.count ∙ self.count;
      sound = still.sound;
      room = omega (arith, self.room, still.room);
      indexed = subst (λ (s : CacheState). IsIndex self.plan s.slots self.index) (sym event) self.indexed;
    }

pub returns-in-Ok-clause-new : goal.returns-in-Ok-clause-new
returns-in-Ok-clause-new g c = λ same.
    let items = c.args.self.now.entries.items in
    omega (arith, ap length (sym c.push_reserved.ensures.items ∙ same), length-append items (Burnt c.args.leaf ∷ []))
