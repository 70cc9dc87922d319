use Rattle.std.proofs.Common.{◌≡◌, ◌≢◌, ℕ, length, Result, Err, inl, refl, sym, ◌∙◌, ap, arith}
use Rattle.slot_file.specs.declared.copies.CopyFault.{CopyFault}
use Rattle.slot_file.specs.declared.copies.CopyFault.TheVariants.{Device, NotEmpty}
use Rattle.slot_file.proofs.CopyLaws.{calls-failed, calls-fine, calls-then, device-answer, full-told, full-untold, half-after, half-empty, looked-none, none-held, not-full, stable-after, unready-after}
use Rattle.disk_trait.proofs.SameDisk.{same-kind}
use Rattle.std.proofs.lemmas.Bool.{false≢true}
use Rattle.slot_file.specs.Copying.{FindsDamaged, IsDamaged}
use Rattle.slot_file.specs.Fresh.{AreUnready}
use Rattle.slot_file.proofs.CopyLaws.{device-says}
use Rattle.slot_file.proofs.SlotsLooks.{no-value}
use Rattle.slot_file.proofs.copies.copy_slots.Goals as goal

abbrev held-back : ℕ → Result ℕ CopyFault
held-back held = Err (NotEmpty held)

untold : (held : ℕ) → ◌≢◌ {A = Result ℕ CopyFault} (Err Device) (Err (NotEmpty held))
untold held is = cc

told-apart : (one other : ℕ) → held-back one ≡ held-back other → one ≡ other
told-apart one other is = cc

done : (taken : ℕ) → ◌≢◌ {A = Result ℕ CopyFault} (Err (NotEmpty taken)) (Err Device)
done held is = cc

pub make_copy-requires-clause-empty : goal.make_copy-requires-clause-empty
make_copy-requires-clause-empty g c = λ told.
    let told_old = sym c.len.ensures.stays.told ∙ told in
    let size = c.in_ok-length.ensures.length told_old ∙ ap length (sym (c.len.ensures.same told_old)) in
    none-held _ (omega (arith, size, c.if-length-gt0.false))

pub returns-clause-calls : goal.returns-clause-calls
returns-clause-calls g c =
    let p = g.D.Pages in
    let f = g.D.Faults in
    let from = c.args.from.now in
    let disk = same-kind p f c.args.disk.now c.len.new.self c.len.ensures.stays c.len.ensures.cause.later in
    calls-then p f c.args.disk.now c.len.new.self c.make_copy.new.disk from from c.make_copy.new.from _ _ disk (looked-none from) c.in_ok-length.ensures.cause.succeeded refl c.make_copy.ensures.calls

pub returns-in_err-length-clause-calls : goal.returns-in_err-length-clause-calls
returns-in_err-length-clause-calls g c =
    let p = g.D.Pages in
    let f = g.D.Faults in
    let from = c.args.from.now in
    let disk = same-kind p f c.args.disk.now c.len.new.self c.len.ensures.stays c.len.ensures.cause.later in
    calls-failed p f c.args.disk.now c.len.new.self from from _ _ disk (looked-none from) (device-answer _ c.from_residual.ensures.1) (inl c.in_err-length.ensures.cause.failed)

pub returns-then-length-gt0-clause-calls : goal.returns-then-length-gt0-clause-calls
returns-then-length-gt0-clause-calls g c =
    let p = g.D.Pages in
    let f = g.D.Faults in
    let from = c.args.from.now in
    let disk = same-kind p f c.args.disk.now c.len.new.self c.len.ensures.stays c.len.ensures.cause.later in
    calls-fine p f c.args.disk.now c.len.new.self from from _ _ disk (looked-none from) (done c.in_ok-length.length) c.in_ok-length.ensures.cause.succeeded refl

pub returns-clause-half : goal.returns-clause-half
returns-clause-half g c = λ empty told_from. half-after g.D.Pages g.D.Faults c.args.disk.now c.len.new.self c.len.ensures.stays _ c.make_copy.new.disk (c.make_copy.ensures.half told_from)

pub returns-in_err-length-clause-half : goal.returns-in_err-length-clause-half
returns-in_err-length-clause-half g c = λ empty told_from.
    half-empty g.D.Pages g.D.Faults _ c.args.disk.now c.len.new.self empty c.len.ensures.same (λ honest image. (c.len.ensures.images honest image).0)
    (λ image honest told leaves. g.met.D.Disk.leaves_no_longer c.args.disk.now image honest told leaves)

pub returns-then-length-gt0-clause-half : goal.returns-then-length-gt0-clause-half
returns-then-length-gt0-clause-half g c = λ empty told_from.
    half-empty g.D.Pages g.D.Faults _ c.args.disk.now c.len.new.self empty c.len.ensures.same (λ honest image. (c.len.ensures.images honest image).0)
    (λ image honest told leaves. g.met.D.Disk.leaves_no_longer c.args.disk.now image honest told leaves)

pub returns-clause-full : goal.returns-clause-full
returns-clause-full g c =
    not-full g.D.Pages g.D.Faults _ _ c.args.disk.now c.make_copy.new.disk _ (λ told. omega (arith, c.in_ok-length.ensures.length told, c.if-length-gt0.false)) c.make_copy.ensures.not_empty

pub returns-in_err-length-clause-full : goal.returns-in_err-length-clause-full
returns-in_err-length-clause-full g c = full-untold g.D.Pages g.D.Faults _ _ c.args.disk.now c.len.new.self _ (device-answer _ c.from_residual.ensures.1) untold c.len.ensures.same c.len.ensures.images

pub returns-then-length-gt0-clause-full : goal.returns-then-length-gt0-clause-full
returns-then-length-gt0-clause-full g c = full-told g.D.Pages g.D.Faults held-back (Err Device) c.args.disk.now c.len.new.self c.in_ok-length.length told-apart c.if-length-gt0.true c.in_ok-length.ensures.length c.len.ensures.same c.len.ensures.images

pub returns-clause-copied : goal.returns-clause-copied
returns-clause-copied g c = stable-after g.D.Pages g.D.Faults c.args.disk.now c.len.new.self c.len.ensures.stays c.args.from.now c.args.header.now c.args.count c.make_copy.new.disk c.make_copy.result c.make_copy.ensures.copied

pub returns-clause-shut : goal.returns-clause-shut
returns-clause-shut g c = unready-after g.D.Pages g.D.Faults c.args.disk.now c.len.new.self c.len.ensures.stays c.make_copy.new.disk c.make_copy.result c.make_copy.ensures.shut

pub returns-clause-succeeds : goal.returns-clause-succeeds
returns-clause-succeeds g c = λ steady told steady_from told_from room.
    let kind = c.len.ensures.stays in
    c.make_copy.ensures.succeeds (kind.steady ∙ steady) (kind.told ∙ told) steady_from told_from (omega (arith, room, kind.room))

pub returns-clause-damaged : goal.returns-clause-damaged
returns-clause-damaged g c = c.make_copy.ensures.damaged

pub returns-in_err-length-clause-copied : goal.returns-in_err-length-clause-copied
returns-in_err-length-clause-copied g c = no-value _ _ c.from_residual.ensures.0

pub returns-in_err-length-clause-damaged : goal.returns-in_err-length-clause-damaged
returns-in_err-length-clause-damaged g c = device-says (FindsDamaged c.args.from.now c.args.count) _ c.from_residual.ensures.1 tt

pub returns-in_err-length-clause-shut : goal.returns-in_err-length-clause-shut
returns-in_err-length-clause-shut g c = device-says (λ fault. IsDamaged fault → AreUnready g.D.Pages c.args.disk.now c.len.new.self) _ c.from_residual.ensures.1 (λ no. absurd no)

pub returns-in_err-length-clause-succeeds : goal.returns-in_err-length-clause-succeeds
returns-in_err-length-clause-succeeds g c = λ steady told steady_from told_from room. absurd (false≢true (c.in_err-length.ensures.succeeds steady))

pub returns-then-length-gt0-clause-shut : goal.returns-then-length-gt0-clause-shut
returns-then-length-gt0-clause-shut g c = λ no. absurd no

pub returns-then-length-gt0-clause-succeeds : goal.returns-then-length-gt0-clause-succeeds
returns-then-length-gt0-clause-succeeds g c = λ steady told steady_from told_from room. done _

pub make_copy-requires-clause-version : goal.make_copy-requires-clause-version
make_copy-requires-clause-version g c = c.requires.version

pub make_copy-requires-clause-count : goal.make_copy-requires-clause-count
make_copy-requires-clause-count g c = c.requires.count
