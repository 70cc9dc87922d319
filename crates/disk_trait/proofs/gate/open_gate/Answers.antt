use Rattle.std.proofs.Common.{ℕ, List, IsTrue, ◌∷◌, [], ◌∙◌, ap, refl, subst, inl, inr, arith}
use Rattle.std.proofs.lemmas.Bool.{false≢true}
use Rattle.std.proofs.lemmas.Result.{on_ok_weaker}
use Rattle.disk_trait.proofs.FaultLaws.{cause-failed, cause-then, on-err}
use Rattle.disk_trait.proofs.SameDisk.{same-kind}
use Rattle.disk_trait.proofs.SameDisk.{same-then}
use Rattle.disk_trait.specs.Images.{Follows, Only, Torn, written}
use Rattle.disk_trait.specs.Gate.{AllBut}
use Rattle.disk_trait.proofs.gate.open_gate.Goals as goal

gate-torn : (mid new : List ℕ → Type 0) (file : List ℕ) → Only file mid → Follows (Torn 0 1) mid new → AllBut file new
gate-torn mid new file only torn image leaves = (let from = torn image leaves in subst (λ (l : List ℕ). Torn 0 1 l image) (only from.0 from.1) from.2)

pub returns-in_err-sync-clause-bytes : goal.returns-in_err-sync-clause-bytes
returns-in_err-sync-clause-bytes g c = λ told. on-err _ _ c.from_residual.ensures.0

pub returns-in_err-sync-clause-stable : goal.returns-in_err-sync-clause-stable
returns-in_err-sync-clause-stable g c = λ told honest. on-err _ _ c.from_residual.ensures.0

pub returns-in_err-sync-clause-last : goal.returns-in_err-sync-clause-last
returns-in_err-sync-clause-last g c = record { images = λ told honest image leaves. inl (c.sync.ensures.images honest image leaves); shows = λ told honest. inl (c.sync.ensures.same told) }

pub returns-in_err-sync-clause-succeeds : goal.returns-in_err-sync-clause-succeeds
returns-in_err-sync-clause-succeeds g c = λ steady told room. absurd (false≢true (c.in_err-sync.ensures.succeeds steady))

pub returns-in_err-sync-clause-cause : goal.returns-in_err-sync-clause-cause
returns-in_err-sync-clause-cause g c = cause-failed _ _ _ _ c.from_residual.ensures.0 refl c.sync.ensures.cause.later c.in_err-sync.ensures.cause.failed

pub returns-in_err-sync-clause-stays : goal.returns-in_err-sync-clause-stays
returns-in_err-sync-clause-stays g c = same-kind g.D.Pages g.D.Faults c.args.disk.now c.sync.new.self c.sync.ensures.stays c.sync.ensures.cause.later

pub returns-clause-bytes : goal.returns-clause-bytes
returns-clause-bytes g c = λ told.
    on_ok_weaker c.write_stable.result (λ is. is ∙ ap (λ (l : List ℕ). written l 0 (c.args.gate ∷ [])) (c.sync.ensures.same told))
    (c.write_stable.ensures.bytes (c.sync.ensures.stays.told ∙ told))

pub returns-clause-stable : goal.returns-clause-stable
returns-clause-stable g c = λ told honest. c.write_stable.ensures.stable (c.sync.ensures.stays.told ∙ told) (c.sync.ensures.stays.honest ∙ honest)

pub returns-clause-last : goal.returns-clause-last
returns-clause-last g c =
    let p = g.D.Pages in
    let kind = c.sync.ensures.stays in
    let torn : IsTrue (p.told c.args.disk.now) → IsTrue (p.honest c.args.disk.now) → AllBut (p.reads c.args.disk.now) (p.may_leave c.write_stable.new.disk) = λ told honest.
    gate-torn (p.may_leave c.sync.new.self) (p.may_leave c.write_stable.new.disk) (p.reads c.args.disk.now) (c.in_ok-sync.ensures.stable honest told) (c.write_stable.ensures.images (kind.honest ∙ honest)) in
    record { images = λ told honest image leaves. inr (torn told honest image leaves); shows = λ told honest. inr (torn told honest) }

pub returns-clause-succeeds : goal.returns-clause-succeeds
returns-clause-succeeds g c = λ steady told room.
    let kind = c.sync.ensures.stays in
    c.write_stable.ensures.succeeds (kind.steady ∙ steady) (kind.told ∙ told) (omega arith) (omega (arith, room, kind.room))

pub returns-clause-cause : goal.returns-clause-cause
returns-clause-cause g c = cause-then _ (g.D.Faults.count c.sync.new.self) _ _ c.in_ok-sync.ensures.cause.succeeded c.write_stable.ensures.cause

pub returns-clause-stays : goal.returns-clause-stays
returns-clause-stays g c =
    let p = g.D.Pages in
    let f = g.D.Faults in
    let k1 = same-kind p f c.args.disk.now c.sync.new.self c.sync.ensures.stays c.sync.ensures.cause.later in
    same-then p f c.args.disk.now c.sync.new.self c.write_stable.new.disk k1 c.write_stable.ensures.stays
