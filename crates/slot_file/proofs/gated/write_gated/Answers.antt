use Rattle.std.proofs.Common.{◌≡◌, ◌∷◌, [], ℕ, List, length, refl, ◌∙◌, ap, subst, inl, inr, arith}
use Rattle.std.proofs.lemmas.Bool.{false≢true}
use Rattle.std.proofs.lemmas.Result.{on_ok_weaker}
use Rattle.disk_trait.specs.Images.{written, Follows, Only, Torn}
use Rattle.slot_file.specs.Gated.{Gated}
use Rattle.disk_trait.proofs.FaultLaws.{cause-failed, cause-then, on-err}
use Rattle.disk_trait.proofs.SameDisk.{same-then}
use Rattle.slot_file.proofs.gated.write_gated.Goals as goal

-- a body that may be torn, and a gate after it
body-torn : (old new : List ℕ → Type 0) (at : ℕ) (body : List ℕ) (gate_at : ℕ) → Follows (Torn at (length body)) old new → Follows (Gated at body gate_at) old new
body-torn old new at body gate_at torn = λ image leaves. (let was = torn image leaves in (was.0, was.1, inl was.2))

gate-torn : (old mid new : List ℕ → Type 0) (at : ℕ) (body : List ℕ) (gate_at : ℕ) (file whole : List ℕ) → old file → whole ≡ written file at body → Only whole mid
    → Follows (Torn gate_at 1) mid new → Follows (Gated at body gate_at) old new
gate-torn old mid new at body gate_at file whole was is only torn = λ image leaves.
    let from = torn image leaves in
    (file, was, inr (subst (λ l. Torn gate_at 1 l image) (only from.0 from.1 ∙ is) from.2))

pub returns-in_err-write_stable-clause-bytes : goal.returns-in_err-write_stable-clause-bytes
returns-in_err-write_stable-clause-bytes g c = λ told. on-err _ _ c.from_residual.ensures.0

pub returns-in_err-write_stable-clause-file : goal.returns-in_err-write_stable-clause-file
returns-in_err-write_stable-clause-file g c = λ told. inl (c.write_stable.ensures.torn told)

pub returns-in_err-write_stable-clause-images : goal.returns-in_err-write_stable-clause-images
returns-in_err-write_stable-clause-images g c = λ told honest.
    let p = g.D.Pages in
    body-torn (p.may_leave c.args.disk.now) (p.may_leave c.write_stable.new.disk) c.args.at c.args.body.now c.args.gate_at (c.write_stable.ensures.images honest)

pub returns-in_err-write_stable-clause-stable : goal.returns-in_err-write_stable-clause-stable
returns-in_err-write_stable-clause-stable g c = λ told honest. on-err _ _ c.from_residual.ensures.0

pub returns-in_err-write_stable-clause-succeeds : goal.returns-in_err-write_stable-clause-succeeds
returns-in_err-write_stable-clause-succeeds g c = λ steady told fits gate room.
    absurd (false≢true (c.in_err-write_stable.ensures.succeeds steady told (omega (arith, fits)) (omega (arith, fits, room))))

pub returns-in_err-write_stable-clause-cause : goal.returns-in_err-write_stable-clause-cause
returns-in_err-write_stable-clause-cause g c =
    cause-failed _ (g.D.Faults.count c.args.disk.now) _ _ c.from_residual.ensures.0 refl c.write_stable.ensures.cause.later c.in_err-write_stable.ensures.cause.failed

pub returns-in_err-write_stable-clause-stays : goal.returns-in_err-write_stable-clause-stays
returns-in_err-write_stable-clause-stays g c = c.write_stable.ensures.stays

pub returns-clause-bytes : goal.returns-clause-bytes
returns-clause-bytes g c = λ told.
    on_ok_weaker c.write_stable-2.result (λ is. is ∙ ap (λ (l : List ℕ). written l c.args.gate_at (c.args.gate ∷ [])) (c.in_ok-write_stable.ensures.bytes told))
    (c.write_stable-2.ensures.bytes (c.write_stable.ensures.stays.told ∙ told))

pub returns-clause-file : goal.returns-clause-file
returns-clause-file g c = λ told.
    inr (subst (λ l. Torn c.args.gate_at 1 l (g.D.Pages.reads c.write_stable-2.new.disk)) (c.in_ok-write_stable.ensures.bytes told)
    (c.write_stable-2.ensures.torn (c.write_stable.ensures.stays.told ∙ told)))

pub returns-clause-images : goal.returns-clause-images
returns-clause-images g c = λ told honest.
    let p = g.D.Pages in
    let disk = c.args.disk.now in
    let mid = c.write_stable.new.disk in
    gate-torn (p.may_leave disk) (p.may_leave mid) (p.may_leave c.write_stable-2.new.disk) c.args.at c.args.body.now c.args.gate_at (p.reads disk) (p.reads mid)
    (g.met.D.Disk.leaves_reads disk honest told) (c.in_ok-write_stable.ensures.bytes told) (c.in_ok-write_stable.ensures.stable told honest)
    (c.write_stable-2.ensures.images (c.write_stable.ensures.stays.honest ∙ honest))

pub returns-clause-stable : goal.returns-clause-stable
returns-clause-stable g c = λ told honest. c.write_stable-2.ensures.stable (c.write_stable.ensures.stays.told ∙ told) (c.write_stable.ensures.stays.honest ∙ honest)

pub returns-clause-succeeds : goal.returns-clause-succeeds
returns-clause-succeeds g c = λ steady told fits gate room.
    let first = c.write_stable.ensures.stays in
    let longer = (c.write_stable.ensures.torn told).no_shorter in
    c.write_stable-2.ensures.succeeds (first.steady ∙ steady) (first.told ∙ told) (omega (arith, longer, gate)) (omega (arith, gate, room, first.room))

pub returns-clause-cause : goal.returns-clause-cause
returns-clause-cause g c = cause-then _ (g.D.Faults.count c.write_stable.new.disk) _ _ c.in_ok-write_stable.ensures.cause.succeeded c.write_stable-2.ensures.cause

pub returns-clause-stays : goal.returns-clause-stays
returns-clause-stays g c =
    same-then g.D.Pages g.D.Faults c.args.disk.now c.write_stable.new.disk c.write_stable-2.new.disk c.write_stable.ensures.stays c.write_stable-2.ensures.stays
