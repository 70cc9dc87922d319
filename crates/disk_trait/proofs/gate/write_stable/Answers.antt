use Rattle.std.proofs.Common.{length, refl, sym, ◌∙◌, subst}
use Rattle.std.proofs.lemmas.Bool.{false≢true}
use Rattle.std.proofs.lemmas.Result.{on_ok_weaker}
use Rattle.disk_trait.specs.Images.{Only, Torn}
use Rattle.disk_trait.proofs.SameDisk.{same-kind}
use Rattle.disk_trait.proofs.FaultLaws.{cause-failed, cause-then, on-any, on-err}
use Rattle.disk_trait.proofs.Gates.{torn-written}
use Rattle.disk_trait.proofs.SameDisk.{same-then}
use Rattle.disk_trait.proofs.gate.write_stable.Goals as goal

pub returns-in_err-write_at-clause-bytes : goal.returns-in_err-write_at-clause-bytes
returns-in_err-write_at-clause-bytes g c = λ told. on-err _ _ c.from_residual.ensures.0

pub returns-in_err-write_at-clause-torn : goal.returns-in_err-write_at-clause-torn
returns-in_err-write_at-clause-torn g c = c.in_err-write_at.ensures.torn

pub returns-in_err-write_at-clause-images : goal.returns-in_err-write_at-clause-images
returns-in_err-write_at-clause-images g c = c.write_at.ensures.images

pub returns-in_err-write_at-clause-stable : goal.returns-in_err-write_at-clause-stable
returns-in_err-write_at-clause-stable g c = λ told honest. on-err _ _ c.from_residual.ensures.0

pub returns-in_err-write_at-clause-succeeds : goal.returns-in_err-write_at-clause-succeeds
returns-in_err-write_at-clause-succeeds g c = λ steady told inside fits. absurd (false≢true (c.in_err-write_at.ensures.succeeds steady told inside fits))

pub returns-in_err-write_at-clause-cause : goal.returns-in_err-write_at-clause-cause
returns-in_err-write_at-clause-cause g c = cause-failed _ (g.D.Faults.count c.args.disk.now) _ _ c.from_residual.ensures.0 refl c.write_at.ensures.cause.later c.in_err-write_at.ensures.cause.failed

pub returns-in_err-write_at-clause-stays : goal.returns-in_err-write_at-clause-stays
returns-in_err-write_at-clause-stays g c = same-kind g.D.Pages g.D.Faults c.args.disk.now c.write_at.new.self c.write_at.ensures.stays c.write_at.ensures.cause.later

pub returns-clause-bytes : goal.returns-clause-bytes
returns-clause-bytes g c = λ told. on-any _ c.sync.result (c.sync.ensures.same (c.write_at.ensures.stays.told ∙ told) ∙ c.in_ok-write_at.ensures.bytes told)

pub returns-clause-torn : goal.returns-clause-torn
returns-clause-torn g c = λ told.
    let old = g.D.Pages.reads c.args.disk.now in
    let bytes = c.args.bytes.now in
    let is = c.sync.ensures.same (c.write_at.ensures.stays.told ∙ told) ∙ c.in_ok-write_at.ensures.bytes told in
    subst (Torn c.args.at (length bytes) old) (sym is) (torn-written c.args.at (length bytes) bytes old refl (c.in_ok-write_at.ensures.within told))

pub returns-clause-images : goal.returns-clause-images
returns-clause-images g c = λ honest image leaves. c.write_at.ensures.images honest image (c.sync.ensures.images (c.write_at.ensures.stays.honest ∙ honest) image leaves)

pub returns-clause-stable : goal.returns-clause-stable
returns-clause-stable g c = λ told honest.
    let p = g.D.Pages in
    let told_1 = c.write_at.ensures.stays.told ∙ told in
    on_ok_weaker c.sync.result (λ (only : Only (p.reads c.write_at.new.self) (p.may_leave c.sync.new.self)) image leaves. only image leaves ∙ sym (c.sync.ensures.same told_1))
    (c.sync.ensures.stable (c.write_at.ensures.stays.honest ∙ honest) told_1)

pub returns-clause-succeeds : goal.returns-clause-succeeds
returns-clause-succeeds g c = λ steady told inside fits. c.sync.ensures.succeeds (c.write_at.ensures.stays.steady ∙ steady)

pub returns-clause-cause : goal.returns-clause-cause
returns-clause-cause g c = cause-then _ (g.D.Faults.count c.write_at.new.self) _ _ c.in_ok-write_at.ensures.cause.succeeded c.sync.ensures.cause

pub returns-clause-stays : goal.returns-clause-stays
returns-clause-stays g c =
    let p = g.D.Pages in
    let f = g.D.Faults in
    let k1 = same-kind p f c.args.disk.now c.write_at.new.self c.write_at.ensures.stays c.write_at.ensures.cause.later in
    let k2 = same-kind p f c.write_at.new.self c.sync.new.self c.sync.ensures.stays c.sync.ensures.cause.later in
    same-then p f c.args.disk.now c.write_at.new.self c.sync.new.self k1 k2
