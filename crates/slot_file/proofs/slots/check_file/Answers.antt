use Rattle.std.proofs.Common.{◌≡◌, ◌≢◌, ◌<◌, ◌≤◌, Some, None, length, take, sym, ◌∙◌, ap, inr, arith}
use Rattle.slot_file.specs.declared.header.LoadFault.TheVariants.{Length}
use Rattle.slot_file.specs.Layout.{file_size, header_fault}
use Rattle.slot_file.proofs.Loads.{load-short, load-header, load-other, load-none}
use Rattle.std.proofs.Common.{◌⊎◌, inl, refl, Result, Ok, Err, IfErr, IsErrAnd, ℕ}
use Rattle.std.proofs.lemmas.Bool.{false≢true}
use Rattle.slot_file.specs.declared.header.LoadFault.{LoadFault}
use Rattle.slot_file.specs.declared.header.LoadFault.TheVariants.{Device}
use Rattle.slot_file.proofs.CopyLaws.{device-answer}
use Rattle.disk_trait.proofs.FaultLaws.{on-err, rises-failed, rises-fine}
use Rattle.slot_file.proofs.Unwritten.{unwritten-call, unwritten-next}
use Rattle.slot_file.proofs.slots.check_file.Goals as goal

device-refused : {T : Type 0} (X : LoadFault → Type 0) (answer : Result T LoadFault) → IsErrAnd answer (λ fault. fault ≡ Device) → IfErr answer (λ fault. (fault ≡ Device) ⊎ X fault)
device-refused X (Ok value) is = tt
device-refused X (Err fault) is = inl is

length-not : (got want : ℕ) → Length got want ≢ Device
length-not got want is = cc

other-fault : {T : Type 0} (fault : LoadFault) → fault ≢ Device → ◌≢◌ {A = Result T LoadFault} (Err fault) (Err Device)
other-fault fault differs is = (let same : fault ≡ Device = cc in differs same)

length-fault : {T : Type 0} (got want : ℕ) → ◌≢◌ {A = Result T LoadFault} (Err (Length got want)) (Err Device)
length-fault got want = other-fault (Length got want) (length-not got want)

fine : {T : Type 0} {value : T} → ◌≢◌ {A = Result T LoadFault} (Ok value) (Err Device)
fine {T} {value} is = cc

pub returns-then-got-clause-refuses : goal.returns-then-got-clause-refuses
returns-then-got-clause-refuses g c = λ told.
    let file = g.D.Pages.reads c.args.disk.now in
    let got : c.in_ok-got.got ≡ length file = c.in_ok-got.ensures.length (c.sync.ensures.stays.told ∙ told) ∙ ap length (c.sync.ensures.same told) in
    let short : length file < 128 = omega (arith, c.if-got.true) in
    inr (load-short c.args.header.now c.args.count file short ∙ (λ i. Some (Length (sym got i) (sym c.file_len-want.ensures.value i))))

pub returns-in-Err-clause-refuses : goal.returns-in-Err-clause-refuses
returns-in-Err-clause-refuses g c = λ told.
    let file = g.D.Pages.reads c.args.disk.now in
    let told_1 = c.sync.ensures.stays.told ∙ told in
    let same = c.sync.ensures.same told in
    let got : c.in_ok-got.got ≡ length file = c.in_ok-got.ensures.length told_1 ∙ ap length same in
    let block : c.read_at.new.out ≡ take 32 file = c.in_ok-read_at.ensures.bytes (c.len.ensures.stays.told ∙ told_1) ∙ ap (take 32) (c.len.ensures.same told_1 ∙ same) in
    let fault : header_fault c.args.header.now (take 32 file) ≡ Some c.in-Err.fault = ap (header_fault c.args.header.now) (sym block) ∙ c.in-Err.ensures.fault in
    let long : 128 ≤ length file = omega (arith, c.if-got.false) in
    inr (load-header c.args.header.now c.args.count file c.in-Err.fault long fault)

pub returns-then-got-want-clause-refuses : goal.returns-then-got-want-clause-refuses
returns-then-got-want-clause-refuses g c = λ told.
    let file = g.D.Pages.reads c.args.disk.now in
    let told_1 = c.sync.ensures.stays.told ∙ told in
    let same = c.sync.ensures.same told in
    let got : c.in_ok-got.got ≡ length file = c.in_ok-got.ensures.length told_1 ∙ ap length same in
    let block : c.read_at.new.out ≡ take 32 file = c.in_ok-read_at.ensures.bytes (c.len.ensures.stays.told ∙ told_1) ∙ ap (take 32) (c.len.ensures.same told_1 ∙ same) in
    let fault : header_fault c.args.header.now (take 32 file) ≡ None = ap (header_fault c.args.header.now) (sym block) ∙ c.in_default.ensures.fault in
    let long : 128 ≤ length file = omega (arith, c.if-got.false) in
    let differs : length file ≢ file_size c.args.header.now.version c.args.count = λ e. c.if-got-want.true (got ∙ e ∙ sym c.file_len-want.ensures.value) in
    inr (load-other c.args.header.now c.args.count file long fault differs ∙ (λ i. Some (Length (sym got i) (sym c.file_len-want.ensures.value i))))

pub returns-clause-opens : goal.returns-clause-opens
returns-clause-opens g c = λ told.
    let file = g.D.Pages.reads c.args.disk.now in
    let told_1 = c.sync.ensures.stays.told ∙ told in
    let same = c.sync.ensures.same told in
    let got : c.in_ok-got.got ≡ length file = c.in_ok-got.ensures.length told_1 ∙ ap length same in
    let block : c.read_at.new.out ≡ take 32 file = c.in_ok-read_at.ensures.bytes (c.len.ensures.stays.told ∙ told_1) ∙ ap (take 32) (c.len.ensures.same told_1 ∙ same) in
    let fault : header_fault c.args.header.now (take 32 file) ≡ None = ap (header_fault c.args.header.now) (sym block) ∙ c.in_default.ensures.fault in
    let long : 128 ≤ length file = omega (arith, c.if-got.false) in
    load-none c.args.header.now c.args.count file long fault (sym got ∙ c.if-got-want.false ∙ c.file_len-want.ensures.value)

pub returns-in_err-sync-clause-unwritten : goal.returns-in_err-sync-clause-unwritten
returns-in_err-sync-clause-unwritten g c =
    let s = c.sync.ensures in
    let u1 = unwritten-call g.D.Pages g.D.Faults _ _ s.stays s.cause.later s.same s.images in
    u1

pub returns-in_err-sync-clause-has_room : goal.returns-in_err-sync-clause-has_room
returns-in_err-sync-clause-has_room g c = c.sync.ensures.has_room

pub returns-in_err-sync-clause-opens : goal.returns-in_err-sync-clause-opens
returns-in_err-sync-clause-opens g c = λ told. on-err _ _ c.from_residual.ensures.0

pub returns-in_err-sync-clause-stable : goal.returns-in_err-sync-clause-stable
returns-in_err-sync-clause-stable g c = λ honest told. on-err _ _ c.from_residual.ensures.0

pub returns-in_err-sync-clause-refuses : goal.returns-in_err-sync-clause-refuses
returns-in_err-sync-clause-refuses g c = λ told. device-refused _ _ c.from_residual.ensures.1

pub returns-in_err-sync-clause-cause : goal.returns-in_err-sync-clause-cause
returns-in_err-sync-clause-cause g c = rises-failed _ (g.D.Faults.count c.args.disk.now) _ _ _ (device-answer _ c.from_residual.ensures.1) (refl) c.sync.ensures.cause.later c.in_err-sync.ensures.cause.failed

pub returns-in_err-got-clause-unwritten : goal.returns-in_err-got-clause-unwritten
returns-in_err-got-clause-unwritten g c =
    let s = c.sync.ensures in
    let u1 = unwritten-call g.D.Pages g.D.Faults _ _ s.stays s.cause.later s.same s.images in
    let l = c.len.ensures in
    let u2 = unwritten-next g.D.Pages g.D.Faults u1 l.stays l.cause.later l.same (λ honest image. (l.images honest image).0) in
    u2

pub returns-in_err-got-clause-has_room : goal.returns-in_err-got-clause-has_room
returns-in_err-got-clause-has_room g c = c.sync.ensures.has_room

pub returns-in_err-got-clause-opens : goal.returns-in_err-got-clause-opens
returns-in_err-got-clause-opens g c = λ told. on-err _ _ c.from_residual-in_err-got.ensures.0

pub returns-in_err-got-clause-stable : goal.returns-in_err-got-clause-stable
returns-in_err-got-clause-stable g c = λ honest told. on-err _ _ c.from_residual-in_err-got.ensures.0

pub returns-in_err-got-clause-refuses : goal.returns-in_err-got-clause-refuses
returns-in_err-got-clause-refuses g c = λ told. device-refused _ _ c.from_residual-in_err-got.ensures.1

pub returns-in_err-got-clause-cause : goal.returns-in_err-got-clause-cause
returns-in_err-got-clause-cause g c = rises-failed _ (g.D.Faults.count c.sync.new.self) _ _ _ (device-answer _ c.from_residual-in_err-got.ensures.1) (c.in_ok-sync.ensures.cause.succeeded) c.len.ensures.cause.later c.in_err-got.ensures.cause.failed

pub returns-then-got-clause-unwritten : goal.returns-then-got-clause-unwritten
returns-then-got-clause-unwritten g c =
    let s = c.sync.ensures in
    let u1 = unwritten-call g.D.Pages g.D.Faults _ _ s.stays s.cause.later s.same s.images in
    let l = c.len.ensures in
    let u2 = unwritten-next g.D.Pages g.D.Faults u1 l.stays l.cause.later l.same (λ honest image. (l.images honest image).0) in
    u2

pub returns-then-got-clause-has_room : goal.returns-then-got-clause-has_room
returns-then-got-clause-has_room g c = c.sync.ensures.has_room

pub returns-then-got-clause-opens : goal.returns-then-got-clause-opens
returns-then-got-clause-opens g c = λ told. tt

pub returns-then-got-clause-stable : goal.returns-then-got-clause-stable
returns-then-got-clause-stable g c = λ honest told. tt

pub returns-then-got-clause-cause : goal.returns-then-got-clause-cause
returns-then-got-clause-cause g c = rises-fine _ _ _ _ (length-fault _ _) (c.in_ok-got.ensures.cause.succeeded ∙ c.in_ok-sync.ensures.cause.succeeded)

pub returns-in_err-read_at-clause-unwritten : goal.returns-in_err-read_at-clause-unwritten
returns-in_err-read_at-clause-unwritten g c =
    let s = c.sync.ensures in
    let u1 = unwritten-call g.D.Pages g.D.Faults _ _ s.stays s.cause.later s.same s.images in
    let l = c.len.ensures in
    let u2 = unwritten-next g.D.Pages g.D.Faults u1 l.stays l.cause.later l.same (λ honest image. (l.images honest image).0) in
    let r = c.read_at.ensures in
    let u3 = unwritten-next g.D.Pages g.D.Faults u2 r.stays r.cause.later r.same (λ honest image. (r.images honest image).0) in
    u3

pub returns-in_err-read_at-clause-has_room : goal.returns-in_err-read_at-clause-has_room
returns-in_err-read_at-clause-has_room g c = c.sync.ensures.has_room

pub returns-in_err-read_at-clause-opens : goal.returns-in_err-read_at-clause-opens
returns-in_err-read_at-clause-opens g c = λ told. on-err _ _ c.from_residual-in_err-read_at.ensures.0

pub returns-in_err-read_at-clause-stable : goal.returns-in_err-read_at-clause-stable
returns-in_err-read_at-clause-stable g c = λ honest told. on-err _ _ c.from_residual-in_err-read_at.ensures.0

pub returns-in_err-read_at-clause-refuses : goal.returns-in_err-read_at-clause-refuses
returns-in_err-read_at-clause-refuses g c = λ told. device-refused _ _ c.from_residual-in_err-read_at.ensures.1

pub returns-in_err-read_at-clause-cause : goal.returns-in_err-read_at-clause-cause
returns-in_err-read_at-clause-cause g c = rises-failed _ (g.D.Faults.count c.len.new.self) _ _ _ (device-answer _ c.from_residual-in_err-read_at.ensures.1) (c.in_ok-got.ensures.cause.succeeded ∙ c.in_ok-sync.ensures.cause.succeeded) c.read_at.ensures.cause.later c.in_err-read_at.ensures.cause.failed

pub returns-in-Err-clause-unwritten : goal.returns-in-Err-clause-unwritten
returns-in-Err-clause-unwritten g c =
    let s = c.sync.ensures in
    let u1 = unwritten-call g.D.Pages g.D.Faults _ _ s.stays s.cause.later s.same s.images in
    let l = c.len.ensures in
    let u2 = unwritten-next g.D.Pages g.D.Faults u1 l.stays l.cause.later l.same (λ honest image. (l.images honest image).0) in
    let r = c.read_at.ensures in
    let u3 = unwritten-next g.D.Pages g.D.Faults u2 r.stays r.cause.later r.same (λ honest image. (r.images honest image).0) in
    u3

pub returns-in-Err-clause-has_room : goal.returns-in-Err-clause-has_room
returns-in-Err-clause-has_room g c = c.sync.ensures.has_room

pub returns-in-Err-clause-opens : goal.returns-in-Err-clause-opens
returns-in-Err-clause-opens g c = λ told. tt

pub returns-in-Err-clause-stable : goal.returns-in-Err-clause-stable
returns-in-Err-clause-stable g c = λ honest told. tt

pub returns-in-Err-clause-cause : goal.returns-in-Err-clause-cause
returns-in-Err-clause-cause g c = rises-fine _ _ _ _ (other-fault _ c.in-Err.ensures.other) (c.in_ok-read_at.ensures.cause.succeeded ∙ c.in_ok-got.ensures.cause.succeeded ∙ c.in_ok-sync.ensures.cause.succeeded)

pub returns-then-got-want-clause-unwritten : goal.returns-then-got-want-clause-unwritten
returns-then-got-want-clause-unwritten g c =
    let s = c.sync.ensures in
    let u1 = unwritten-call g.D.Pages g.D.Faults _ _ s.stays s.cause.later s.same s.images in
    let l = c.len.ensures in
    let u2 = unwritten-next g.D.Pages g.D.Faults u1 l.stays l.cause.later l.same (λ honest image. (l.images honest image).0) in
    let r = c.read_at.ensures in
    let u3 = unwritten-next g.D.Pages g.D.Faults u2 r.stays r.cause.later r.same (λ honest image. (r.images honest image).0) in
    u3

pub returns-then-got-want-clause-has_room : goal.returns-then-got-want-clause-has_room
returns-then-got-want-clause-has_room g c = c.sync.ensures.has_room

pub returns-then-got-want-clause-opens : goal.returns-then-got-want-clause-opens
returns-then-got-want-clause-opens g c = λ told. tt

pub returns-then-got-want-clause-stable : goal.returns-then-got-want-clause-stable
returns-then-got-want-clause-stable g c = λ honest told. tt

pub returns-then-got-want-clause-cause : goal.returns-then-got-want-clause-cause
returns-then-got-want-clause-cause g c = rises-fine _ _ _ _ (length-fault _ _) (c.in_ok-read_at.ensures.cause.succeeded ∙ c.in_ok-got.ensures.cause.succeeded ∙ c.in_ok-sync.ensures.cause.succeeded)

pub returns-clause-unwritten : goal.returns-clause-unwritten
returns-clause-unwritten g c =
    let s = c.sync.ensures in
    let u1 = unwritten-call g.D.Pages g.D.Faults _ _ s.stays s.cause.later s.same s.images in
    let l = c.len.ensures in
    let u2 = unwritten-next g.D.Pages g.D.Faults u1 l.stays l.cause.later l.same (λ honest image. (l.images honest image).0) in
    let r = c.read_at.ensures in
    let u3 = unwritten-next g.D.Pages g.D.Faults u2 r.stays r.cause.later r.same (λ honest image. (r.images honest image).0) in
    u3

pub returns-clause-has_room : goal.returns-clause-has_room
returns-clause-has_room g c = c.sync.ensures.has_room

pub returns-clause-cause : goal.returns-clause-cause
returns-clause-cause g c = rises-fine _ _ _ _ fine (c.in_ok-read_at.ensures.cause.succeeded ∙ c.in_ok-got.ensures.cause.succeeded ∙ c.in_ok-sync.ensures.cause.succeeded)

pub returns-in_err-sync-clause-succeeds : goal.returns-in_err-sync-clause-succeeds
returns-in_err-sync-clause-succeeds g c = λ steady told. absurd (false≢true (c.in_err-sync.ensures.succeeds steady))

pub returns-in_err-got-clause-succeeds : goal.returns-in_err-got-clause-succeeds
returns-in_err-got-clause-succeeds g c = λ steady told. absurd (false≢true (c.in_err-got.ensures.succeeds (c.sync.ensures.stays.steady ∙ steady)))

pub returns-in_err-read_at-clause-succeeds : goal.returns-in_err-read_at-clause-succeeds
returns-in_err-read_at-clause-succeeds g c = λ steady told.
    let told_1 = c.sync.ensures.stays.told ∙ told in
    let long = c.if-got.false in
    let got = c.in_ok-got.ensures.length told_1 in
    let same = ap length (c.len.ensures.same told_1) in
    absurd (false≢true (c.in_err-read_at.ensures.succeeds (c.len.ensures.stays.steady ∙ c.sync.ensures.stays.steady ∙ steady) (c.len.ensures.stays.told ∙ told_1)
    (omega (arith, long, got, same))))

pub returns-then-got-clause-succeeds : goal.returns-then-got-clause-succeeds
returns-then-got-clause-succeeds g c = λ steady told. length-not _ _

pub returns-then-got-want-clause-succeeds : goal.returns-then-got-want-clause-succeeds
returns-then-got-want-clause-succeeds g c = λ steady told. length-not _ _

pub returns-in-Err-clause-succeeds : goal.returns-in-Err-clause-succeeds
returns-in-Err-clause-succeeds g c = λ steady told. c.in-Err.ensures.other

pub returns-clause-succeeds : goal.returns-clause-succeeds
returns-clause-succeeds g c = λ steady told. tt

pub returns-clause-refuses : goal.returns-clause-refuses
returns-clause-refuses g c = λ told. tt

pub returns-clause-stable : goal.returns-clause-stable
returns-clause-stable g c = λ honest told image leaves.
    let h1 = c.sync.ensures.stays.honest ∙ honest in
    c.in_ok-sync.ensures.stable honest told image ((c.len.ensures.images h1 image).0 ((c.read_at.ensures.images (c.len.ensures.stays.honest ∙ h1) image).0 leaves))
