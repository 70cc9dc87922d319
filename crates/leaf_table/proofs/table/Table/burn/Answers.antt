use Rattle.std.proofs.Common.{◌<◌, ◌^◌, ◌∙◌, ap, subst, sym}
use Rattle.lms_bytes.specs.MessageId.{message_id_bytes}
use Rattle.leaf_table.specs.Entries.{map_of}
use Rattle.leaf_table.specs.Leasing as leasing
use Rattle.leaf_table.specs.Table.{state_of}
use Rattle.leaf_table.specs.Slots.{report_body}
use Rattle.leaf_table.specs.declared.lease.Lease.TheVariants.{Burnt}
use Rattle.slot_file.specs.declared.slot.Slot.TheVariants.{Full}
use Rattle.leaf_table.proofs.Entering.{enters-after, enters-err, put-none}
use Rattle.leaf_table.proofs.Events.{burns-made, burns-unsettled}
use Rattle.leaf_table.proofs.Found.{burnt-of, half-of}
use Rattle.leaf_table.proofs.Putting.{settled-leased}
use Rattle.slot_file.specs.Cache.{state_of as cache_state}
use Rattle.slot_file.specs.State.{slot_in}
use Rattle.leaf_table.proofs.table.Table.burn.Goals as goal

pub returns-in-Err-clause-event : goal.returns-in-Err-clause-event
returns-in-Err-clause-event g c = burns-unsettled _ _ c.args.leaf c.args.by (message_id_bytes c.args.message.now) c.in-Err.fault c.in-Err.ensures.event

pub put_burnt-requires-clause-leased : goal.put_burnt-requires-clause-leased
put_burnt-requires-clause-leased g c =
    let old = c.args.self.now in
    let mid = c.settle.new.self in
    let id = message_id_bytes c.args.message.now in
    let leaf = c.args.leaf in
    let there = settled-leased old mid leaf id c.settle.ensures.enters.stays.plan c.requires.within c.in_default.ensures.event.1 c.requires.leased in
    half-of (slot_in (cache_state mid.slots).slots leaf) c.in-Half.field-0 id (map_of mid.entries.items leaf) (sym c.slot.ensures ∙ c.in-Half.is) (mid.sound.slots leaf there.within) there.was

pub returns-clause-event : goal.returns-clause-event
returns-clause-event g c =
    let old = c.args.self.now in
    let mid = c.settle.new.self in
    let id = message_id_bytes c.args.message.now in
    let leaf = c.args.leaf in
    let there = settled-leased old mid leaf id c.settle.ensures.enters.stays.plan c.requires.within c.in_default.ensures.event.1 c.requires.leased in
    let leased = half-of (slot_in (cache_state mid.slots).slots leaf) c.in-Half.field-0 id (map_of mid.entries.items leaf) (sym c.slot.ensures ∙ c.in-Half.is) (mid.sound.slots leaf there.within) there.was in
    burns-made (state_of old) (state_of mid) (state_of c.put_burnt.new.self) c.args.leaf c.args.by id c.put_burnt.result c.in_default.ensures.event.1
    leased c.put_burnt.ensures.event

pub returns-in_default-slot : goal.returns-in_default-slot
returns-in_default-slot g c =
    let old = c.args.self.now in
    let mid = c.settle.new.self in
    let id = message_id_bytes c.args.message.now in
    let leaf = c.args.leaf in
    let there = settled-leased old mid leaf id c.settle.ensures.enters.stays.plan c.requires.within c.in_default.ensures.event.1 c.requires.leased in
    let burnt = burnt-of (slot_in (cache_state mid.slots).slots leaf) id (map_of mid.entries.items leaf) (λ a half. c.in_default-slot.not-Half a (c.slot.ensures ∙ half)) (mid.sound.slots leaf there.within) there.was in
    record {
      event = leasing.kept (state_of mid) c.in_default.ensures.event.1 burnt;
      idle = λ none same differs. c.in_default.ensures.idle none;
      enters = c.in_default.ensures.enters;
    }

pub returns-in-Err-clause-idle : goal.returns-in-Err-clause-idle
returns-in-Err-clause-idle g c = λ none same fine. c.settle.ensures.idle none

pub returns-in-Err-clause-enters : goal.returns-in-Err-clause-enters
returns-in-Err-clause-enters g c = enters-err _ _ c.in-Err.fault c.in-Err.ensures.enters

pub put_burnt-requires-clause-settled : goal.put_burnt-requires-clause-settled
put_burnt-requires-clause-settled g c = c.in_default.ensures.event.0

pub put_burnt-requires-clause-within : goal.put_burnt-requires-clause-within
put_burnt-requires-clause-within g c = subst (λ plan. c.args.leaf < 2 ^ plan.h) (sym c.settle.ensures.enters.stays.plan) c.requires.within

pub returns-clause-idle : goal.returns-clause-idle
returns-clause-idle g c = λ none same fine.
    let mid = c.settle.new.self in
    let id = message_id_bytes c.args.message.now in
    put-none (state_of mid) (state_of c.put_burnt.new.self) (Burnt c.args.leaf) c.args.leaf (Full id (report_body id c.args.by) 0) c.put_burnt.result
    c.put_burnt.ensures.event c.put_burnt.ensures.new (same ∙ sym (ap (λ table. (state_of table).entries) (c.settle.ensures.idle none))) fine

pub returns-clause-enters : goal.returns-clause-enters
returns-clause-enters g c = enters-after _ c.settle.new.self _ _ c.put_burnt.result c.in_default.ensures.enters c.put_burnt.ensures.enters
