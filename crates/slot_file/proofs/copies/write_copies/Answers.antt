use Rattle.std.proofs.Common.{◌≡◌, ◌+◌, ◌++◌, ℕ, Bool, not, List, if◌then◌else◌, sym, ◌∙◌, ap, arith, below_more, Result, Ok, Err, ◌≢◌}
use Rattle.std.specs.List.{flat_map}
use Rattle.slot_file.specs.declared.header.Header.{Header}
use Rattle.slot_file.specs.declared.slot.Slot.{Slot}
use Rattle.slot_file.specs.Copies.{is_free, is_damaged, slot_block, taken_count, slots_in}
use Rattle.slot_file.specs.Layout.{slot_at}
use Rattle.slot_file.specs.Slots.{slot_now, file_of, header_of, IsTold}
use Rattle.slot_file.proofs.Copied.{blocks-more, taken-more}
use Rattle.slot_file.specs.declared.copies.CopyFault.{CopyFault}
use Rattle.slot_file.specs.declared.copies.CopyFault.TheVariants.{Device}
use Rattle.slot_file.proofs.CopyLaws.{calls-as, calls-fine, calls-then, looked-then}
use Rattle.disk_trait.proofs.SameDisk.{same-then}
use Rattle.slot_file.proofs.CopyLaws.{value-not}
use Rattle.std.proofs.Common.{refl}
use Rattle.std.proofs.lemmas.List.{append-nil}
use Rattle.slot_file.specs.declared.copies.CopyFault.TheVariants.{NotEmpty}
use Rattle.slot_file.proofs.CopyLaws.{looked-none}
use Rattle.disk_trait.proofs.SameDisk.{same-none}
use Rattle.slot_file.proofs.copies.write_copies.Goals as goal

same-as : {T U : Type 0} (fault other : CopyFault) → ◌≡◌ {A = Result T CopyFault} (Err fault) (Err other) → ◌≡◌ {A = Result U CopyFault} (Err fault) (Err other)
same-as fault other is = (let same : fault ≡ other = cc in ap Err same)

taken-not : {T : Type 0} (taken : T) → ◌≢◌ {A = Result T CopyFault} (Ok taken) (Err Device)
taken-not taken is = cc

same-fault : {T U : Type 0} (fault : CopyFault) → ◌≡◌ {A = Result T CopyFault} (Err fault) (Err Device) → ◌≡◌ {A = Result U CopyFault} (Err fault) (Err Device)
same-fault fault is = (let same : fault ≡ Device = cc in ap Err same)

pub returns-in-Err-clause-calls : goal.returns-in-Err-clause-calls
returns-in-Err-clause-calls g c =
    let so_far = c.loop-slot.invariant in
    calls-then g.D.Pages g.D.Faults c.args.disk.now c.loop-slot.disk c.copy_slot.new.disk c.args.from.now c.loop-slot.from c.copy_slot.new.from _ _ so_far.stays so_far.from so_far.count so_far.count_from
    (calls-as g.D.Pages g.D.Faults c.loop-slot.disk c.copy_slot.new.disk c.loop-slot.from c.copy_slot.new.from (Err c.in-Err.fault) (Err Device) _ _ (same-fault c.in-Err.fault) (same-fault c.in-Err.fault) c.in-Err.ensures.calls)

pub returns-clause-calls : goal.returns-clause-calls
returns-clause-calls g c =
    let so_far = c.loop-slot.invariant in
    calls-fine g.D.Pages g.D.Faults c.args.disk.now c.loop-slot.disk c.args.from.now c.loop-slot.from _ _ so_far.stays so_far.from (taken-not _) so_far.count so_far.count_from

pub loop-slot-preserved : goal.loop-slot-preserved
loop-slot-preserved g c =
    let so_far = c.loop-slot.invariant in
    let call = c.in-Ok.ensures.calls in
    let were = call.others (taken-not c.in-Ok.is_taken) in
    let version = (header_of c.args.from.now).version in
    let file = file_of c.args.from.now in
    let slot = c.loop-slot.slot in
    let same : IsTold c.args.from.now → slot_now c.loop-slot.from slot ≡ slot_at version slot file = λ told_from.
    ap (λ (h : Header). slot_at h.version slot (file_of c.loop-slot.from)) so_far.from.stays.header ∙ ap (slot_at version slot) (so_far.from.same told_from) in
    record {
      bytes = λ told told_from.
          c.in-Ok.ensures.copied.bytes (so_far.stays.told ∙ told) (so_far.from.stays.disk.told ∙ told_from)
          ∙ ap (λ (l : List ℕ). l ++ slot_block (slot_now c.loop-slot.from slot)) (so_far.bytes told told_from)
          ∙ ap (λ (s : Slot). (g.D.Pages.reads c.args.disk.now ++ flat_map slot_block (slots_in version slot file)) ++ slot_block s) (same told_from)
          ∙ blocks-more version slot file (g.D.Pages.reads c.args.disk.now);
      end = λ told. c.in-Ok.ensures.copied.end (so_far.stays.told ∙ told);
      taken = λ told_from.
          let is_taken = c.in-Ok.ensures.copied.taken_is (so_far.from.stays.disk.told ∙ told_from) ∙ ap (λ (s : Slot). not (is_free s)) (same told_from) in
          let one = c.one_if-taken.ensures.value ∙ ap (λ (b : Bool). if b then 1 else 0) is_taken in
          ap (λ (n : ℕ). n + c.one_if-taken.result) (so_far.taken told_from)
          ∙ ap (λ (n : ℕ). taken_count (slots_in version slot file) + n) one
          ∙ sym (taken-more version slot file);
      small = omega (arith, so_far.small, c.one_if-taken.ensures.small);
      sound = λ told_from. below_more _ _ (so_far.sound told_from) (ap is_damaged (sym (same told_from)) ∙ c.in-Ok.ensures.copied.sound (so_far.from.stays.disk.told ∙ told_from));
      shut = record {
        reads = λ told shut. c.copy_slot.ensures.shut.reads (so_far.stays.told ∙ told) (so_far.shut.reads told shut);
        images = λ honest all. c.copy_slot.ensures.shut.images (so_far.stays.honest ∙ honest) (so_far.shut.images honest all);
      };
      stays = same-then g.D.Pages g.D.Faults c.args.disk.now c.loop-slot.disk c.copy_slot.new.disk so_far.stays call.disk;
      from = looked-then c.args.from.now c.loop-slot.from c.copy_slot.new.from so_far.from call.looked;
      count = were.0 ∙ so_far.count;
      count_from = were.1 ∙ so_far.count_from;
    }

pub returns-in-Err-clause-copied : goal.returns-in-Err-clause-copied
returns-in-Err-clause-copied g c = tt

pub returns-clause-damaged : goal.returns-clause-damaged
returns-clause-damaged g c = tt

pub returns-clause-shut : goal.returns-clause-shut
returns-clause-shut g c = c.loop-slot.invariant.shut

pub returns-in-Err-clause-shut : goal.returns-in-Err-clause-shut
returns-in-Err-clause-shut g c =
    let so_far = c.loop-slot.invariant in
    record {
      reads = λ told shut. c.copy_slot.ensures.shut.reads (so_far.stays.told ∙ told) (so_far.shut.reads told shut);
      images = λ honest all. c.copy_slot.ensures.shut.images (so_far.stays.honest ∙ honest) (so_far.shut.images honest all);
    }

pub returns-clause-not_empty : goal.returns-clause-not_empty
returns-clause-not_empty g c = λ held. value-not _ _

pub returns-clause-succeeds : goal.returns-clause-succeeds
returns-clause-succeeds g c = λ steady told steady_from told_from room. taken-not _

pub loop-slot-init : goal.loop-slot-init
loop-slot-init g c = record {
  bytes = λ told told_from. sym (append-nil (g.D.Pages.reads c.args.disk.now));
  end = c.requires.end;
  taken = λ told_from. refl;
  small = omega arith;
  sound = λ told_from slot below. absurd (omega (arith, below));
  shut = record { reads = λ told shut. shut; images = λ honest all. all };
  stays = same-none g.D.Pages g.D.Faults c.args.disk.now;
  from = looked-none c.args.from.now;
  count = refl;
  count_from = refl;
}

pub copy_slot-requires-clause-end : goal.copy_slot-requires-clause-end
copy_slot-requires-clause-end g c = λ told. c.loop-slot.invariant.end (sym c.loop-slot.invariant.stays.told ∙ told)

pub returns-in-Err-clause-not_empty : goal.returns-in-Err-clause-not_empty
returns-in-Err-clause-not_empty g c = λ held is. c.in-Err.ensures.not_empty held (same-as c.in-Err.fault (NotEmpty held) is)

pub returns-in-Err-clause-succeeds : goal.returns-in-Err-clause-succeeds
returns-in-Err-clause-succeeds g c = λ steady told steady_from told_from room is.
    let so_far = c.loop-slot.invariant in
    let kept = so_far.from.stays.disk in
    c.in-Err.ensures.succeeds (so_far.stays.steady ∙ steady) (so_far.stays.told ∙ told) (kept.steady ∙ steady_from) (kept.told ∙ told_from) (omega (arith, room, so_far.stays.room, c.loop-slot-test.true)) (same-as c.in-Err.fault Device is)

pub copy_slot-requires-clause-within : goal.copy_slot-requires-clause-within
copy_slot-requires-clause-within g c = omega (arith, c.loop-slot-test.true, c.requires.count, c.loop-slot.invariant.from.stays.count)
