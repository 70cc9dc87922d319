use Rattle.std.proofs.Common.{◌≡◌, ◌<◌, Some, length, ◌∙◌, ap, arith, rules, vec_len}
use Rattle.opening_journal.specs.Entries.{leaf_of}
use Rattle.slot_file.specs.Cache.{state_of}
use Rattle.slot_file.specs.Logs.{room_in}
use Rattle.slot_file.specs.State.{CacheState}
use Rattle.opening_journal.proofs.Holding.{held-doubt, most, put_of, slot-after}
use Rattle.opening_journal.proofs.Putting.{put-made, room-taken}
use Rattle.opening_journal.proofs.journal.Journal.put.Goals as goal

pub push_reserved-requires : goal.push_reserved-requires
push_reserved-requires g c =
    let self = c.args.self.now in
    let entry = c.args.entry.now in
    let within : leaf_of entry < length (state_of self.slots).slots = omega (arith, c.requires.within, self.count) in
    let size : vec_len self.entries ≡ length self.entries.items = search rules in
    omega (arith, self.room, size, room-taken self entry within c.requires.adds)

pub invariant_of-self : goal.invariant_of-self
invariant_of-self g c =
    let self = c.args.self.now in
    let entry = c.args.entry.now in
    let call = c.put_entry.ensures in
    let within : leaf_of entry < length (state_of self.slots).slots = omega (arith, c.requires.within, self.count) in
    let after = slot-after self.params.n entry (most self.params.n self.params.hash_length) c.requires.sizes in
    let still = put-made self entry within c.requires.adds (state_of c.put_entry.new.slots) c.push_reserved.new.self.items self.doubt after c.in-Ok.ensures.event c.push_reserved.ensures.items
    c.requires.settled in
    record {
      version = ap (λ h. h.version) call.stays.header ∙ self.version;
      codes = (ap (λ h. h.lms) call.stays.header ∙ self.codes.0, ap (λ h. h.ots) call.stays.header ∙ self.codes.1);
      count = call.stays.count ∙ self.count;
      held = still.held;
      room = omega (arith, self.room, c.push_reserved.ensures.capacity, still.room);
    }

pub invariant_of-self-in-Err : goal.invariant_of-self-in-Err
invariant_of-self-in-Err g c =
    let self = c.args.self.now in
    let entry = c.args.entry.now in
    let n = self.params.n in
    let items = self.entries.items in
    let cache = state_of self.slots in
    let new = state_of c.put_entry.new.slots in
    let call = c.put_entry.ensures in
    let within : leaf_of entry < length cache.slots = omega (arith, c.requires.within, self.count) in
    let after = slot-after n entry (most n self.params.hash_length) c.requires.sizes in
    let event : new ≡ record { slots = cache.slots; doubt = Some (put_of entry) } = c.in-Err.ensures.event in
    record {
      version = ap (λ h. h.version) call.stays.header ∙ self.version;
      codes = (ap (λ h. h.lms) call.stays.header ∙ self.codes.0, ap (λ h. h.ots) call.stays.header ∙ self.codes.1);
      count = call.stays.count ∙ self.count;
      held = held-doubt n cache.slots items entry within self.held.slots c.requires.adds after new self.held.legal event;
      room = omega (arith, self.room, ap (λ (s : CacheState). room_in s.slots) event);
    }
