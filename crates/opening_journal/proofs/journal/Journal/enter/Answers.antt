use Rattle.std.proofs.Common.{Err, Ok, subst}
use Rattle.opening_journal.proofs.Answered.{asks-old, asks-put, asks-refused, asks-unsettled}
use Rattle.opening_journal.proofs.Entering.{adds-new, enters-answered, enters-put, enters-unsettled, fault-sound, fault-whole}
use Rattle.opening_journal.proofs.Entering.{leaf-counted, leaf-is, leaf-whole, leaf-within, old-sound, old-whole, put-ends}
use Rattle.opening_journal.proofs.Entering.{sized-entry}
use Rattle.opening_journal.specs.Answers.{AnswersAs}
use Rattle.opening_journal.specs.Entries.{LeafState, state_of_slot}
use Rattle.opening_journal.specs.Journal.{state_of}
use Rattle.opening_journal.specs.declared.faults.Entered.{Entered}
use Rattle.opening_journal.specs.declared.faults.Entered.TheVariants.{New, Old}
use Rattle.opening_journal.proofs.journal.Journal.enter.Goals as goal

pub slot-requires : goal.slot-requires
slot-requires g c = rw c.leaf_of.ensures (leaf-counted c.settle.ensures.stays _ c.requires.within)

pub answer-requires-clause-whole : goal.answer-requires-clause-whole
answer-requires-clause-whole g c =
    leaf-whole c.settle.ensures.stays _ c.requires.within c.slot.result.now (rw c.leaf_of.ensures at c.slot.ensures)

pub returns-in-Err-clause-event : goal.returns-in-Err-clause-event
returns-in-Err-clause-event g c = asks-unsettled _ _ c.args.entry.now c.in-Err.fault c.in-Err.ensures.event

pub put-requires-clause-settled : goal.put-requires-clause-settled
put-requires-clause-settled g c = c.in_default.ensures.event.0

pub put-requires-clause-within : goal.put-requires-clause-within
put-requires-clause-within g c = leaf-within c.settle.ensures.stays _ c.requires.within

pub put-requires-clause-adds : goal.put-requires-clause-adds
put-requires-clause-adds g c =
    let entry = c.args.entry.now in
    let is = leaf-is c.settle.ensures.stays _ c.requires.within c.slot.result.now (rw c.leaf_of.ensures at c.slot.ensures) in
    let state = state_of_slot c.settle.new.self.params.n c.slot.result.now in
    let new = subst (λ (e : Entered). AnswersAs entry state (Ok e)) c.in-Ok-New.field-0-is c.in-Ok-New.ensures in
    adds-new entry _ (subst (λ (s : LeafState). AnswersAs entry s (Ok New)) is new)

pub put-requires-clause-sizes : goal.put-requires-clause-sizes
put-requires-clause-sizes g c = sized-entry c.settle.ensures.stays c.args.entry.now c.requires.sizes

pub returns-in-Ok-New-clause-event : goal.returns-in-Ok-New-clause-event
returns-in-Ok-New-clause-event g c =
    let entry = c.args.entry.now in
    let is = leaf-is c.settle.ensures.stays _ c.requires.within c.slot.result.now (rw c.leaf_of.ensures at c.slot.ensures) in
    let state = state_of_slot c.settle.new.self.params.n c.slot.result.now in
    let new = subst (λ (e : Entered). AnswersAs entry state (Ok e)) c.in-Ok-New.field-0-is c.in-Ok-New.ensures in
    asks-put (state_of c.args.self.now) (state_of c.settle.new.self) entry (state_of c.put.new.self) c.put.result
    c.in_default.ensures.event (subst (λ (s : LeafState). AnswersAs entry s (Ok New)) is new) c.put.ensures.event

pub returns-in-Ok-Old-clause-event : goal.returns-in-Ok-Old-clause-event
returns-in-Ok-Old-clause-event g c =
    let entry = c.args.entry.now in
    let is = leaf-is c.settle.ensures.stays _ c.requires.within c.slot.result.now (rw c.leaf_of.ensures at c.slot.ensures) in
    let state = state_of_slot c.settle.new.self.params.n c.slot.result.now in
    let old = subst (λ (e : Entered). AnswersAs entry state (Ok e)) c.in-Ok-Old.field-0-is c.in-Ok-Old.ensures in
    asks-old (state_of c.args.self.now) (state_of c.settle.new.self) entry c.in_default.ensures.event
    (subst (λ (s : LeafState). AnswersAs entry s (Ok Old)) is old)

pub returns-in-Err-answer-clause-event : goal.returns-in-Err-answer-clause-event
returns-in-Err-answer-clause-event g c =
    let entry = c.args.entry.now in
    let is = leaf-is c.settle.ensures.stays _ c.requires.within c.slot.result.now (rw c.leaf_of.ensures at c.slot.ensures) in
    let fault = c.in-Err-answer.fault in
    asks-refused (state_of c.args.self.now) (state_of c.settle.new.self) entry fault c.in_default.ensures.event
    (subst (λ (s : LeafState). AnswersAs entry s (Err fault)) is c.in-Err-answer.ensures)

pub returns-in-Err-clause-idle : goal.returns-in-Err-clause-idle
returns-in-Err-clause-idle g c = λ none new device. c.settle.ensures.idle none

pub returns-in-Ok-Old-clause-idle : goal.returns-in-Ok-Old-clause-idle
returns-in-Ok-Old-clause-idle g c = λ none new device. c.settle.ensures.idle none

pub returns-in-Err-answer-clause-idle : goal.returns-in-Err-answer-clause-idle
returns-in-Err-answer-clause-idle g c = λ none new device. c.settle.ensures.idle none

pub returns-in-Ok-New-clause-idle : goal.returns-in-Ok-New-clause-idle
returns-in-Ok-New-clause-idle g c = λ none new device.
    absurd (put-ends _ _ c.put.result _ c.put.ensures.event new device)

pub returns-in-Err-clause-enters : goal.returns-in-Err-clause-enters
returns-in-Err-clause-enters g c =
    let call = c.settle.ensures in
    enters-unsettled call.stays call.told call.succeeds call.cause c.in-Err.fault c.in-Err.is

pub returns-in-Ok-Old-clause-enters : goal.returns-in-Ok-Old-clause-enters
returns-in-Ok-Old-clause-enters g c =
    let call = c.settle.ensures in
    enters-answered call.stays call.told call.succeeds call.cause c.in_default.is (Ok Old) old-whole old-sound

pub returns-in-Err-answer-clause-enters : goal.returns-in-Err-answer-clause-enters
returns-in-Err-answer-clause-enters g c =
    let call = c.settle.ensures in
    let fault = c.in-Err-answer.fault in
    let answers = c.in-Err-answer.ensures in
    let state = state_of_slot c.settle.new.self.params.n c.slot.result.now in
    enters-answered call.stays call.told call.succeeds call.cause c.in_default.is (Err fault)
    (fault-whole c.args.entry.now state fault answers) (fault-sound c.args.entry.now state fault answers)

pub returns-in-Ok-New-clause-enters : goal.returns-in-Ok-New-clause-enters
returns-in-Ok-New-clause-enters g c =
    let call = c.settle.ensures in
    let made = c.put.ensures in
    enters-put call.stays call.told call.succeeds call.cause c.in_default.is _ made.event made.succeeds made.cause
    made.stays
