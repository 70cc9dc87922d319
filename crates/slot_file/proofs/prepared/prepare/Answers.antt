use Rattle.std.proofs.Common.{◌≡◌, ◌≢◌, ◌∙◌, ℕ, length, Result, Ok, Err, refl, sym, ap, arith}
use Rattle.std.proofs.lemmas.Bool.{false≢true}
use Rattle.slot_file.specs.declared.prepared.PrepareFault.{PrepareFault}
use Rattle.slot_file.specs.declared.prepared.PrepareFault.TheVariants.{Device, NotEmpty}
use Rattle.slot_file.proofs.CopyLaws.{device-answer, full-told, full-untold, half-after, half-empty, none-held, not-full}
use Rattle.disk_trait.proofs.SameDisk.{same-kind}
use Rattle.disk_trait.proofs.FaultLaws.{on-err, rises-failed, rises-fine}
use Rattle.disk_trait.proofs.SameDisk.{same-then}
use Rattle.slot_file.proofs.prepared.prepare.Goals as goal

abbrev held-back : {T : Type 0} → ℕ → Result T PrepareFault
held-back held = Err (NotEmpty held)

untold : {T : Type 0} (held : ℕ) → ◌≢◌ {A = Result T PrepareFault} (Err Device) (Err (NotEmpty held))
untold held is = cc

refused-held : {T : Type 0} (held : ℕ) → ◌≢◌ {A = Result T PrepareFault} (Err (NotEmpty held)) (Err Device)
refused-held held is = cc

ready : {T : Type 0} {done : T} (held : ℕ) → ◌≢◌ {A = Result T PrepareFault} (Ok done) (Err (NotEmpty held))
ready held is = cc

ready-not : {T : Type 0} {done : T} → ◌≢◌ {A = Result T PrepareFault} (Ok done) (Err Device)
ready-not {T} {done} is = cc

told-apart : {T : Type 0} (one other : ℕ) → ◌≡◌ {A = Result T PrepareFault} (held-back one) (held-back other) → one ≡ other
told-apart one other is = cc

pub returns-in_err-length-clause-half : goal.returns-in_err-length-clause-half
returns-in_err-length-clause-half g c = λ empty.
    let p = g.D.Pages in
    let f = g.D.Faults in
    let old = c.args.disk.now in
    let mid = c.len.new.self in
    let l = c.len.ensures in
    half-empty p f _ old mid empty l.same (λ honest image. (l.images honest image).0) (λ image honest told leaves. g.met.D.Disk.leaves_no_longer old image honest told leaves)

pub returns-then-length-gt0-clause-half : goal.returns-then-length-gt0-clause-half
returns-then-length-gt0-clause-half g c = λ empty.
    let p = g.D.Pages in
    let f = g.D.Faults in
    let old = c.args.disk.now in
    let mid = c.len.new.self in
    let l = c.len.ensures in
    half-empty p f _ old mid empty l.same (λ honest image. (l.images honest image).0) (λ image honest told leaves. g.met.D.Disk.leaves_no_longer old image honest told leaves)

pub returns-in_err-make_blank-clause-half : goal.returns-in_err-make_blank-clause-half
returns-in_err-make_blank-clause-half g c = λ empty. half-after g.D.Pages g.D.Faults c.args.disk.now c.len.new.self c.len.ensures.stays _ c.make_blank.new.disk c.make_blank.ensures.half

pub returns-clause-half : goal.returns-clause-half
returns-clause-half g c = λ empty. half-after g.D.Pages g.D.Faults c.args.disk.now c.len.new.self c.len.ensures.stays _ c.make_blank.new.disk c.make_blank.ensures.half

pub returns-in_err-length-clause-full : goal.returns-in_err-length-clause-full
returns-in_err-length-clause-full g c = full-untold g.D.Pages g.D.Faults _ _ c.args.disk.now c.len.new.self _ (device-answer _ c.from_residual.ensures.1) untold c.len.ensures.same c.len.ensures.images

pub returns-then-length-gt0-clause-full : goal.returns-then-length-gt0-clause-full
returns-then-length-gt0-clause-full g c = full-told g.D.Pages g.D.Faults held-back (Err Device) c.args.disk.now c.len.new.self c.in_ok-length.length told-apart c.if-length-gt0.true c.in_ok-length.ensures.length c.len.ensures.same c.len.ensures.images

pub returns-clause-full : goal.returns-clause-full
returns-clause-full g c = not-full g.D.Pages g.D.Faults _ _ c.args.disk.now c.make_blank.new.disk _ (λ told. omega (arith, c.in_ok-length.ensures.length told, c.if-length-gt0.false)) ready

pub returns-in_err-make_blank-clause-full : goal.returns-in_err-make_blank-clause-full
returns-in_err-make_blank-clause-full g c = not-full g.D.Pages g.D.Faults _ _ c.args.disk.now c.make_blank.new.disk _ (λ told. omega (arith, c.in_ok-length.ensures.length told, c.if-length-gt0.false)) (λ held is. untold held (sym (device-answer _ c.from_residual-in_err-make_blank.ensures.1) ∙ is))

pub returns-in_err-length-clause-stays : goal.returns-in_err-length-clause-stays
returns-in_err-length-clause-stays g c =
    let p = g.D.Pages in
    let f = g.D.Faults in
    let k1 = same-kind p f c.args.disk.now c.len.new.self c.len.ensures.stays c.len.ensures.cause.later in
    k1

pub returns-then-length-gt0-clause-stays : goal.returns-then-length-gt0-clause-stays
returns-then-length-gt0-clause-stays g c =
    let p = g.D.Pages in
    let f = g.D.Faults in
    let k1 = same-kind p f c.args.disk.now c.len.new.self c.len.ensures.stays c.len.ensures.cause.later in
    k1

pub returns-in_err-make_blank-clause-stays : goal.returns-in_err-make_blank-clause-stays
returns-in_err-make_blank-clause-stays g c =
    let p = g.D.Pages in
    let f = g.D.Faults in
    let k1 = same-kind p f c.args.disk.now c.len.new.self c.len.ensures.stays c.len.ensures.cause.later in
    let k2 = c.make_blank.ensures.stays in
    same-then p f c.args.disk.now c.len.new.self c.make_blank.new.disk k1 k2

pub returns-clause-stays : goal.returns-clause-stays
returns-clause-stays g c =
    let p = g.D.Pages in
    let f = g.D.Faults in
    let k1 = same-kind p f c.args.disk.now c.len.new.self c.len.ensures.stays c.len.ensures.cause.later in
    let k2 = c.make_blank.ensures.stays in
    same-then p f c.args.disk.now c.len.new.self c.make_blank.new.disk k1 k2

pub returns-in_err-length-clause-cause : goal.returns-in_err-length-clause-cause
returns-in_err-length-clause-cause g c = rises-failed _ _ _ _ _ (device-answer _ c.from_residual.ensures.1) refl c.len.ensures.cause.later c.in_err-length.ensures.cause.failed

pub returns-then-length-gt0-clause-cause : goal.returns-then-length-gt0-clause-cause
returns-then-length-gt0-clause-cause g c = rises-fine _ _ _ _ (refused-held _) c.in_ok-length.ensures.cause.succeeded

pub returns-in_err-make_blank-clause-cause : goal.returns-in_err-make_blank-clause-cause
returns-in_err-make_blank-clause-cause g c = rises-failed _ (g.D.Faults.count c.len.new.self) _ _ _ (device-answer _ c.from_residual-in_err-make_blank.ensures.1) c.in_ok-length.ensures.cause.succeeded c.make_blank.ensures.cause.later c.in_err-make_blank.ensures.cause.failed

pub returns-clause-cause : goal.returns-clause-cause
returns-clause-cause g c = rises-fine _ _ _ _ ready-not (c.in_ok-make_blank.ensures.cause.succeeded ∙ c.in_ok-length.ensures.cause.succeeded)

pub returns-in_err-length-clause-new : goal.returns-in_err-length-clause-new
returns-in_err-length-clause-new g c = λ told. on-err _ _ c.from_residual.ensures.0

pub returns-in_err-length-clause-stable : goal.returns-in_err-length-clause-stable
returns-in_err-length-clause-stable g c = λ told honest. on-err _ _ c.from_residual.ensures.0

pub returns-in_err-make_blank-clause-new : goal.returns-in_err-make_blank-clause-new
returns-in_err-make_blank-clause-new g c = λ told. on-err _ _ c.from_residual-in_err-make_blank.ensures.0

pub returns-in_err-make_blank-clause-stable : goal.returns-in_err-make_blank-clause-stable
returns-in_err-make_blank-clause-stable g c = λ told honest. on-err _ _ c.from_residual-in_err-make_blank.ensures.0

pub returns-then-length-gt0-clause-succeeds : goal.returns-then-length-gt0-clause-succeeds
returns-then-length-gt0-clause-succeeds g c = λ steady told room. refused-held _

pub returns-in_err-length-clause-succeeds : goal.returns-in_err-length-clause-succeeds
returns-in_err-length-clause-succeeds g c = λ steady told room. absurd (false≢true (c.in_err-length.ensures.succeeds steady))

pub returns-clause-succeeds : goal.returns-clause-succeeds
returns-clause-succeeds g c = λ steady told room. ready-not

pub returns-in_err-make_blank-clause-succeeds : goal.returns-in_err-make_blank-clause-succeeds
returns-in_err-make_blank-clause-succeeds g c = λ steady told room.
    let kind = c.len.ensures.stays in
    absurd (false≢true (c.in_err-make_blank.ensures.succeeds (kind.steady ∙ steady) (kind.told ∙ told) (omega (arith, room, kind.room))))

pub returns-clause-new : goal.returns-clause-new
returns-clause-new g c = λ told. c.in_ok-make_blank.ensures.new (c.len.ensures.stays.told ∙ told)

pub returns-clause-stable : goal.returns-clause-stable
returns-clause-stable g c = λ told honest. c.in_ok-make_blank.ensures.stable (c.len.ensures.stays.told ∙ told) (c.len.ensures.stays.honest ∙ honest)

pub make_blank-requires : goal.make_blank-requires
make_blank-requires g c = λ told.
    let told_old = sym c.len.ensures.stays.told ∙ told in
    let size = c.in_ok-length.ensures.length told_old ∙ ap length (sym (c.len.ensures.same told_old)) in
    none-held _ (omega (arith, size, c.if-length-gt0.false))
