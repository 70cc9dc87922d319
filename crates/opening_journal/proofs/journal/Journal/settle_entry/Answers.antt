use Rattle.std.proofs.Common.{◌≡◌, None, Result, Ok, Err, inl, inr, refl, sym, ◌∙◌, ap, subst, arith, length, rules}
use Rattle.std.proofs.Common.{vec_len}
use Rattle.slot_file.specs.Cache.{header_of, state_of}
use Rattle.slot_file.specs.State.{settled_with, with_made}
use Rattle.slot_file.specs.Calls.{Settles as SlotsSettle}
use Rattle.slot_file.specs.declared.doubted.Doubted.{Doubted}
use Rattle.slot_file.specs.declared.faults.Settled.{Settled}
use Rattle.slot_file.specs.declared.faults.SettleFault.{SettleFault}
use Rattle.slot_file.proofs.Held.{holds}
use Rattle.opening_journal.specs.Answers.{Settles}
use Rattle.opening_journal.specs.Journal.{state_of as journal_state}
use Rattle.opening_journal.specs.declared.faults.JournalFault.{JournalFault}
use Rattle.opening_journal.specs.declared.faults.JournalFault.TheVariants.{Device, Damaged}
use Rattle.opening_journal.proofs.Entering.{ok-never}
use Rattle.opening_journal.proofs.Settling.{damaged-of, device-of, rises-fault, rises-settled, settles-fault}
use Rattle.opening_journal.proofs.Holding.{put-is, put_of}
use Rattle.opening_journal.proofs.Putting.{put-made, room-taken}
use Rattle.opening_journal.proofs.journal.Journal.settle_entry.Goals as goal

pub push_reserved-requires : goal.push_reserved-requires
push_reserved-requires g c =
    let self = c.args.self.now in
    let entry = c.args.entry.now in
    let within = (holds self.slots).within (put_of entry) (self.held.some entry c.requires) in
    let size : vec_len self.entries ≡ length self.entries.items = search rules in
    omega (arith, self.room, size, room-taken self entry within (self.held.adds entry c.requires))

pub invariant_of-self : goal.invariant_of-self
invariant_of-self g c =
    let self = c.args.self.now in
    let entry = c.args.entry.now in
    let cache = state_of self.slots in
    let new = state_of c.settle.new.self in
    let call = c.settle.ensures in
    let within = (holds self.slots).within (put_of entry) (self.held.some entry c.requires) in
    let version = (header_of self.slots).version in
    let event = subst (λ (s : Settled). SlotsSettle version cache (Ok s) new) c.in-Ok-Made.field-0-is
    c.in-Ok-Made.ensures.event in
    let same = put-is self.params.n cache self.entries.items self.doubt entry event.0 self.held c.requires event.1 in
    let is : new ≡ settled_with (with_made cache.slots (put_of entry)) = event.2 ∙ ap (λ (d : Doubted). settled_with (with_made cache.slots d)) same in
    let still = put-made self entry within (self.held.adds entry c.requires) new c.push_reserved.new.self.items None (self.held.after entry c.requires) is c.push_reserved.ensures.items refl in
    record {
      version = ap (λ h. h.version) call.stays.header ∙ self.version;
      codes = (ap (λ h. h.lms) call.stays.header ∙ self.codes.0, ap (λ h. h.ots) call.stays.header ∙ self.codes.1);
      count = call.stays.count ∙ self.count;
      held = still.held;
      room = omega (arith, self.room, c.push_reserved.ensures.capacity, still.room);
    }

pub returns-in-Ok-Made : goal.returns-in-Ok-Made
returns-in-Ok-Made g c =
    let call = c.settle.ensures in
    record {
      event = (refl, inr (c.args.entry.now, c.requires, c.push_reserved.ensures.items));
      told = λ tells leaf a b is. ok-never tt (Damaged leaf a b) is;
      succeeds = λ steady tells is. ok-never tt Device is;
      cause = rises-settled tt c.in-Ok-Made.is call.cause;
      stays = record { params = refl; header = call.stays.header; disk = call.stays.disk };
    }

pub returns-in-Ok-NotMade : goal.returns-in-Ok-NotMade
returns-in-Ok-NotMade g c =
    let call = c.settle.ensures in
    record {
      event = (refl, inl refl);
      told = λ tells leaf a b is. ok-never tt (Damaged leaf a b) is;
      succeeds = λ steady tells is. ok-never tt Device is;
      cause = rises-settled tt c.in-Ok-NotMade.is call.cause;
      stays = record { params = refl; header = call.stays.header; disk = call.stays.disk };
    }

pub returns-in-Err : goal.returns-in-Err
returns-in-Err g c =
    let call = c.settle.ensures in
    let self = c.args.self.now in
    let fault = c.in-Err.fault in
    let why = c.journal_fault.result in
    let why_is = c.journal_fault.ensures in
    let event = subst (λ (r : Result Settled SettleFault). SlotsSettle (header_of self.slots).version
    (state_of self.slots) r (state_of c.settle.new.self)) c.in-Err.is call.event in
    record {
      event = subst (λ (y : JournalFault). Settles (journal_state self) (Err y) (journal_state self)) (sym why_is)
          (settles-fault self c.args.entry.now c.requires fault (state_of c.settle.new.self) event);
      told = λ tells leaf a b is. call.told tells leaf a b (damaged-of fault why c.in-Err.is why_is is);
      succeeds = λ steady tells is. call.succeeds steady tells (device-of fault why c.in-Err.is why_is is);
      cause = rises-fault fault why c.in-Err.is why_is call.cause;
      stays = record { params = refl; header = call.stays.header; disk = call.stays.disk };
    }
