use Rattle.std.proofs.Common.{◌≡◌, ◌≢◌, ◌++◌, ℕ, List, false, not, length, refl, sym, ◌∙◌, ap, arith, rules, length-append}
use Rattle.slot_file.specs.Copies.{is_damaged, is_free, slot_block}
use Rattle.slot_file.specs.declared.slot.Slot.{Slot}
use Rattle.slot_file.specs.declared.slot.Slot.TheVariants.{Damaged, Free, Full, Half}
use Rattle.std.proofs.Common.{inl, inr, Bool, Result, Ok, Err}
use Rattle.slot_file.proofs.CopyLaws.{calls-failed, calls-fine, device-answer, looked-once}
use Rattle.disk_trait.proofs.SameDisk.{same-none}
use Rattle.slot_file.specs.declared.copies.CopyFault.{CopyFault}
use Rattle.slot_file.specs.declared.copies.CopyFault.TheVariants as fault
use Rattle.std.proofs.lemmas.Bool.{false≢true}
use Rattle.slot_file.proofs.CopyLaws.{device-not-held, device-says, value-not}
use Rattle.slot_file.proofs.SlotsLooks.{no-value}
use Rattle.slot_file.specs.Copying.{FindsSlot}
use Rattle.slot_file.specs.Slots.{IsTold, slot_now}
use Rattle.slot_file.proofs.copies.copy_slot.Goals as goal

damaged-held : (slot a b held : ℕ) → ◌≢◌ {A = Result Bool CopyFault} (Err (fault.Damaged slot a b)) (Err (fault.NotEmpty held))
damaged-held slot a b held is = cc

undamaged : (slot : Slot) → ((a b : ℕ) → slot ≢ Damaged a b) → is_damaged slot ≡ false
undamaged Free sound = refl
undamaged (Half a) sound = refl
undamaged (Full a b moment) sound = refl
undamaged (Damaged a b) sound = absurd (sound a b refl)

pub returns-clause-copied : goal.returns-clause-copied
returns-clause-copied g c =
    let old = g.D.Pages.reads c.args.disk.now in
    let size : length c.block.result ≡ 160 = search rules in
    record {
      bytes = λ told told_from.
          let slot = c.in_ok-found.ensures.slot told_from in
          c.in_ok-append.ensures.bytes told ∙ ap (λ (l : List ℕ). old ++ l) (c.block.ensures ∙ ap slot_block slot);
      end = λ told. omega (arith, ap length (c.in_ok-append.ensures.bytes told), length-append old c.block.result, c.requires.end told, size);
      taken_is = λ told_from. ap not (c.is_free.ensures ∙ ap is_free (c.in_ok-found.ensures.slot told_from));
      sound = λ told_from. ap is_damaged (sym (c.in_ok-found.ensures.slot told_from)) ∙ undamaged c.in_ok-found.found c.in_default.not-Damaged;
    }

taken-not : (taken : Bool) → ◌≢◌ {A = Result Bool CopyFault} (Ok taken) (Err fault.Device)
taken-not taken is = cc

damaged-not : (slot a b : ℕ) → ◌≢◌ {A = Result Bool CopyFault} (Err (fault.Damaged slot a b)) (Err fault.Device)
damaged-not slot a b is = cc

pub returns-clause-calls : goal.returns-clause-calls
returns-clause-calls g c =
    let l = c.look.ensures in
    calls-fine g.D.Pages g.D.Faults c.args.disk.now c.append.new.disk c.args.from.now c.look.new.self _ _ c.append.ensures.stays
    (looked-once c.args.from.now c.look.new.self c.args.slot _ l.same l.images l.doubt l.stays)
    (taken-not _) c.in_ok-append.ensures.cause.succeeded c.in_ok-found.ensures.cause.succeeded

pub returns-in_err-append-clause-calls : goal.returns-in_err-append-clause-calls
returns-in_err-append-clause-calls g c =
    let l = c.look.ensures in
    calls-failed g.D.Pages g.D.Faults c.args.disk.now c.append.new.disk c.args.from.now c.look.new.self _ _ c.append.ensures.stays
    (looked-once c.args.from.now c.look.new.self c.args.slot _ l.same l.images l.doubt l.stays)
    (device-answer _ c.from_residual-in_err-append.ensures.1) (inl c.in_err-append.ensures.cause.failed)

pub returns-in_err-found-clause-calls : goal.returns-in_err-found-clause-calls
returns-in_err-found-clause-calls g c =
    let l = c.look.ensures in
    calls-failed g.D.Pages g.D.Faults c.args.disk.now c.args.disk.now c.args.from.now c.look.new.self _ _ (same-none g.D.Pages g.D.Faults c.args.disk.now)
    (looked-once c.args.from.now c.look.new.self c.args.slot _ l.same l.images l.doubt l.stays)
    (device-answer _ c.from_residual.ensures.1) (inr c.in_err-found.ensures.cause.failed)

pub returns-in-Damaged-clause-calls : goal.returns-in-Damaged-clause-calls
returns-in-Damaged-clause-calls g c =
    let l = c.look.ensures in
    calls-fine g.D.Pages g.D.Faults c.args.disk.now c.args.disk.now c.args.from.now c.look.new.self _ _ (same-none g.D.Pages g.D.Faults c.args.disk.now)
    (looked-once c.args.from.now c.look.new.self c.args.slot _ l.same l.images l.doubt l.stays)
    (damaged-not _ _ _) refl c.in_ok-found.ensures.cause.succeeded

pub returns-in_err-found-clause-copied : goal.returns-in_err-found-clause-copied
returns-in_err-found-clause-copied g c = no-value _ _ c.from_residual.ensures.0

pub returns-in_err-found-clause-damaged : goal.returns-in_err-found-clause-damaged
returns-in_err-found-clause-damaged g c = device-says (FindsSlot (IsTold c.args.from.now) c.args.slot (slot_now c.args.from.now c.args.slot)) _ c.from_residual.ensures.1 tt

pub returns-in_err-found-clause-not_empty : goal.returns-in_err-found-clause-not_empty
returns-in_err-found-clause-not_empty g c = device-not-held _ c.from_residual.ensures.1

pub returns-in_err-append-clause-copied : goal.returns-in_err-append-clause-copied
returns-in_err-append-clause-copied g c = no-value _ _ c.from_residual-in_err-append.ensures.0

pub returns-in_err-append-clause-damaged : goal.returns-in_err-append-clause-damaged
returns-in_err-append-clause-damaged g c = device-says (FindsSlot (IsTold c.args.from.now) c.args.slot (slot_now c.args.from.now c.args.slot)) _ c.from_residual-in_err-append.ensures.1 tt

pub returns-in_err-append-clause-not_empty : goal.returns-in_err-append-clause-not_empty
returns-in_err-append-clause-not_empty g c = device-not-held _ c.from_residual-in_err-append.ensures.1

pub returns-in-Damaged-clause-copied : goal.returns-in-Damaged-clause-copied
returns-in-Damaged-clause-copied g c = tt

pub returns-in-Damaged-clause-damaged : goal.returns-in-Damaged-clause-damaged
returns-in-Damaged-clause-damaged g c = λ told. (refl, sym (c.in_ok-found.ensures.slot told) ∙ c.in-Damaged.is)

pub returns-in-Damaged-clause-not_empty : goal.returns-in-Damaged-clause-not_empty
returns-in-Damaged-clause-not_empty g c = λ held. damaged-held _ _ _ held

pub returns-clause-damaged : goal.returns-clause-damaged
returns-clause-damaged g c = tt

pub returns-clause-not_empty : goal.returns-clause-not_empty
returns-clause-not_empty g c = λ held. value-not _ _

pub returns-in_err-found-clause-shut : goal.returns-in_err-found-clause-shut
returns-in_err-found-clause-shut g c = record { reads = λ told shut. shut; images = λ honest all. all }

pub returns-in-Damaged-clause-shut : goal.returns-in-Damaged-clause-shut
returns-in-Damaged-clause-shut g c = record { reads = λ told shut. shut; images = λ honest all. all }

pub returns-in_err-append-clause-shut : goal.returns-in_err-append-clause-shut
returns-in_err-append-clause-shut g c = c.append.ensures.shut

pub returns-clause-shut : goal.returns-clause-shut
returns-clause-shut g c = c.append.ensures.shut

pub returns-in_err-found-clause-succeeds : goal.returns-in_err-found-clause-succeeds
returns-in_err-found-clause-succeeds g c = λ steady told steady_from told_from room. absurd (false≢true (c.in_err-found.ensures.succeeds steady_from told_from))

pub returns-in-Damaged-clause-succeeds : goal.returns-in-Damaged-clause-succeeds
returns-in-Damaged-clause-succeeds g c = λ steady told steady_from told_from room. damaged-not _ _ _

pub returns-clause-succeeds : goal.returns-clause-succeeds
returns-clause-succeeds g c = λ steady told steady_from told_from room. taken-not _

pub returns-in_err-append-clause-succeeds : goal.returns-in_err-append-clause-succeeds
returns-in_err-append-clause-succeeds g c = λ steady told steady_from told_from room.
    let size : length c.block.result ≡ 160 = search rules in
    absurd (false≢true (c.in_err-append.ensures.succeeds steady told (omega (arith, room, size, c.slot_start.ensures.value))))

pub append-requires-clause-end : goal.append-requires-clause-end
append-requires-clause-end g c = λ told. c.requires.end told ∙ sym c.slot_start.ensures.value

pub look-requires : goal.look-requires
look-requires g c = c.requires.within
