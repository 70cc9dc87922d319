use Rattle.std.proofs.Common.{◌∙◌, refl}
use Rattle.std.proofs.lemmas.Bool.{false≢true}
use Rattle.disk_trait.proofs.FaultLaws.{cause-failed, cause-then, on-err}
use Rattle.disk_trait.proofs.SameDisk.{same-then}
use Rattle.slot_file.proofs.Unwritten.{unwritten-then}
use Rattle.slot_file.proofs.SlotsLooks.{no-value}
use Rattle.slot_file.specs.Slots.{faults_of}
use Rattle.std.proofs.Common.{◌≡◌, IfOk, ap, arith, subst}
use Rattle.slot_file.specs.Doubts.{looked, settled}
use Rattle.slot_file.specs.Layout.{IsShown, slot_at}
use Rattle.slot_file.specs.Slots.{file_of, slot_now}
use Rattle.slot_file.specs.declared.header.Header.{Header}
use Rattle.slot_file.specs.declared.slot.Slot.{Slot}
use Rattle.slot_file.specs.declared.slots.Doubt.{Doubt}
use Rattle.slot_file.proofs.reading.look_settled.Goals as goal

pub returns-clause-unwritten : goal.returns-clause-unwritten
returns-clause-unwritten g c =
    let first = c.settle.ensures in
    let call = c.look.ensures in
    unwritten-then g.D.Pages g.D.Faults c.args.slots.now.disk c.settle.new.self.disk c.look.new.self.disk first.unwritten
    (record { same = call.same; images = λ honest image. (call.images honest image).0; stays = call.stays.disk })

pub returns-clause-stays : goal.returns-clause-stays
returns-clause-stays g c =
    let first = c.settle.ensures in
    let call = c.look.ensures in
    record {
      header = call.stays.header ∙ first.stays.header;
      count = call.stays.count ∙ first.stays.count;
      disk = same-then g.D.Pages g.D.Faults c.args.slots.now.disk c.settle.new.self.disk c.look.new.self.disk first.stays.disk call.stays.disk;
    }

pub returns-clause-cause : goal.returns-clause-cause
returns-clause-cause g c = cause-then _ (faults_of c.settle.new.self) _ _ c.in_ok-settle.ensures.cause.succeeded c.look.ensures.cause

pub returns-clause-succeeds : goal.returns-clause-succeeds
returns-clause-succeeds g c = λ steady told. c.look.ensures.succeeds (c.settle.ensures.stays.disk.steady ∙ steady) (c.settle.ensures.stays.disk.told ∙ told)

pub returns-in_err-settle-clause-unwritten : goal.returns-in_err-settle-clause-unwritten
returns-in_err-settle-clause-unwritten g c = c.settle.ensures.unwritten

pub returns-in_err-settle-clause-stays : goal.returns-in_err-settle-clause-stays
returns-in_err-settle-clause-stays g c = c.settle.ensures.stays

pub returns-in_err-settle-clause-cause : goal.returns-in_err-settle-clause-cause
returns-in_err-settle-clause-cause g c = cause-failed _ _ _ _ c.from_residual.ensures.0 refl c.settle.ensures.cause.later c.in_err-settle.ensures.cause.failed

pub returns-in_err-settle-clause-succeeds : goal.returns-in_err-settle-clause-succeeds
returns-in_err-settle-clause-succeeds g c = λ steady told. absurd (false≢true (c.in_err-settle.ensures.succeeds steady))

pub returns-in_err-settle-clause-slot : goal.returns-in_err-settle-clause-slot
returns-in_err-settle-clause-slot g c = λ told. no-value _ _ c.from_residual.ensures.0

pub returns-in_err-settle-clause-shown : goal.returns-in_err-settle-clause-shown
returns-in_err-settle-clause-shown g c = no-value _ _ c.from_residual.ensures.0

pub returns-in_err-settle-clause-doubt : goal.returns-in_err-settle-clause-doubt
returns-in_err-settle-clause-doubt g c = on-err _ _ c.from_residual.ensures.0

pub returns-in_err-settle-clause-doubt_refused : goal.returns-in_err-settle-clause-doubt_refused
returns-in_err-settle-clause-doubt_refused g c = λ nowhere. ap (λ (d : Doubt). looked c.args.slot (settled d)) c.in_err-settle.ensures.doubt ∙ nowhere

pub look-requires : goal.look-requires
look-requires g c = omega (arith, c.requires, c.settle.ensures.stays.count)

pub returns-clause-slot : goal.returns-clause-slot
returns-clause-slot g c = λ told.
    let old = c.args.slots.now in
    let new = c.settle.new.self in
    let first = c.settle.ensures in
    let same : slot_now new c.args.slot ≡ slot_now old c.args.slot =
    ap (λ (h : Header). slot_at h.version c.args.slot (file_of new)) first.stays.header ∙ ap (slot_at old.header.version c.args.slot) (first.unwritten.same told) in
    subst (λ (s : Slot). IfOk c.look.result (λ (found : Slot). found ≡ s)) same (c.look.ensures.slot (first.stays.disk.told ∙ told))

pub returns-clause-shown : goal.returns-clause-shown
returns-clause-shown g c = subst (λ (h : Header). IfOk c.look.result (IsShown h.version)) c.settle.ensures.stays.header c.look.ensures.shown
