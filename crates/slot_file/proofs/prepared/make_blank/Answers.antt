use Rattle.std.proofs.Common.{◌≡◌, ◌*◌, [], ◌∷◌, ◌++◌, ℕ, List, replicate, get_or, ◌∙◌, IsTrue, refl, ap}
use Rattle.std.proofs.lemmas.Result.{on_ok_weaker}
use Rattle.disk_trait.specs.Images.{written}
use Rattle.slot_file.specs.Fresh.{IsNew}
use Rattle.slot_file.specs.Layout.{blank_file, header_block, slot_size}
use Rattle.slot_file.proofs.Blank.{is_new, length-header_block, never-half, opened}
use Rattle.slot_file.proofs.Shut.{header_block-shut, shut_unready, unready-header}
use Rattle.disk_trait.proofs.FaultLaws.{cause-failed, cause-then, on-err}
use Rattle.disk_trait.proofs.SameDisk.{same-then}
use Rattle.std.proofs.Common.{inl, arith, length}
use Rattle.std.proofs.lemmas.Bool.{false≢true}
use Rattle.slot_file.proofs.prepared.make_blank.Goals as goal

pub write_shut-requires-clause-shut : goal.write_shut-requires-clause-shut
write_shut-requires-clause-shut g c = ap (λ (l : List ℕ). get_or l 0 0) c.block-block.ensures.bytes ∙ header_block-shut c.args.header.now

pub returns-clause-new : goal.returns-clause-new
returns-clause-new g c = λ told.
    let header = c.args.header.now in
    let count = c.args.count in
    let zeros = replicate (slot_size header.version * count) 0 in
    let told_1 = c.write_shut.ensures.stays.told ∙ told in
    let told_2 = c.write_free.ensures.stays.told ∙ told_1 in
    let closed : g.D.Pages.reads c.write_free.new.disk ≡ header_block 0 header ++ zeros =
    c.in_ok-write_free.ensures.bytes told_1 ∙ ap (λ (l : List ℕ). l ++ zeros) (c.in_ok-write_shut.ensures.bytes told ∙ c.block-block.ensures.bytes) in
    on_ok_weaker c.open_gate.result
    (λ is. is_new header c.block-block.ensures.names count _ (is ∙ ap (λ (l : List ℕ). written l 0 (0xA7 ∷ [])) closed ∙ opened header zeros))
    (c.open_gate.ensures.bytes told_2)

pub returns-clause-half : goal.returns-clause-half
returns-clause-half g c =
    let header = c.args.header.now in
    let count = c.args.count in
    let zeros = replicate (slot_size header.version * count) 0 in
    let first = c.write_shut.ensures.stays in
    let second = c.write_free.ensures.stays in
    let closed : IsTrue (g.D.Pages.told c.args.disk.now) → g.D.Pages.reads c.write_free.new.disk ≡ header_block 0 header ++ zeros = λ told.
    c.in_ok-write_free.ensures.bytes (first.told ∙ told) ∙ ap (λ (l : List ℕ). l ++ zeros) (c.in_ok-write_shut.ensures.bytes told ∙ c.block-block.ensures.bytes) in
    never-half g.D.Pages header zeros (IsNew header count) _ _ _ (second.told ∙ first.told) (second.honest ∙ first.honest) closed
    (is_new header c.block-block.ensures.names count (blank_file header count) refl)
    (λ told honest image before. shut_unready image (c.write_free.ensures.shut.images (first.honest ∙ honest) (c.in_ok-write_shut.ensures.shut told honest) image before))
    c.open_gate.ensures.last

pub returns-clause-stays : goal.returns-clause-stays
returns-clause-stays g c =
    let p = g.D.Pages in
    let f = g.D.Faults in
    let k1 = c.write_shut.ensures.stays in
    let k2 = c.write_free.ensures.stays in
    let k3 = c.open_gate.ensures.stays in
    same-then p f c.args.disk.now c.write_free.new.disk c.open_gate.new.disk (same-then p f c.args.disk.now c.write_shut.new.disk c.write_free.new.disk k1 k2) k3

pub returns-in_err-write_shut-clause-stays : goal.returns-in_err-write_shut-clause-stays
returns-in_err-write_shut-clause-stays g c = c.write_shut.ensures.stays

pub returns-in_err-write_free-clause-stays : goal.returns-in_err-write_free-clause-stays
returns-in_err-write_free-clause-stays g c =
    let p = g.D.Pages in
    let f = g.D.Faults in
    let k1 = c.write_shut.ensures.stays in
    let k2 = c.write_free.ensures.stays in
    same-then p f c.args.disk.now c.write_shut.new.disk c.write_free.new.disk k1 k2

pub returns-clause-cause : goal.returns-clause-cause
returns-clause-cause g c = cause-then _ (g.D.Faults.count c.write_free.new.disk) _ _ (c.in_ok-write_free.ensures.cause.succeeded ∙ c.in_ok-write_shut.ensures.cause.succeeded) c.open_gate.ensures.cause

pub returns-in_err-write_shut-clause-cause : goal.returns-in_err-write_shut-clause-cause
returns-in_err-write_shut-clause-cause g c = cause-failed _ _ _ _ c.from_residual.ensures.0 refl c.write_shut.ensures.cause.later c.in_err-write_shut.ensures.cause.failed

pub returns-in_err-write_free-clause-cause : goal.returns-in_err-write_free-clause-cause
returns-in_err-write_free-clause-cause g c = cause-failed _ (g.D.Faults.count c.write_shut.new.disk) _ _ c.from_residual-in_err-write_free.ensures.0 c.in_ok-write_shut.ensures.cause.succeeded c.write_free.ensures.cause.later c.in_err-write_free.ensures.cause.failed

pub returns-in_err-write_shut-clause-new : goal.returns-in_err-write_shut-clause-new
returns-in_err-write_shut-clause-new g c = λ told. on-err _ _ c.from_residual.ensures.0

pub returns-in_err-write_shut-clause-stable : goal.returns-in_err-write_shut-clause-stable
returns-in_err-write_shut-clause-stable g c = λ told honest. on-err _ _ c.from_residual.ensures.0

pub returns-in_err-write_free-clause-new : goal.returns-in_err-write_free-clause-new
returns-in_err-write_free-clause-new g c = λ told. on-err _ _ c.from_residual-in_err-write_free.ensures.0

pub returns-in_err-write_free-clause-stable : goal.returns-in_err-write_free-clause-stable
returns-in_err-write_free-clause-stable g c = λ told honest. on-err _ _ c.from_residual-in_err-write_free.ensures.0

pub returns-in_err-write_shut-clause-half : goal.returns-in_err-write_shut-clause-half
returns-in_err-write_shut-clause-half g c = (let unready = unready-header g.D.Pages _ _ _ (ap length c.block-block.ensures.bytes ∙ length-header_block c.args.header.now c.block-block.ensures.names 0) c.write_shut.ensures.unready in record { images = λ told honest image leaves. inl (unready.images told honest image leaves); shows = λ told honest. inl (unready.reads told) })

pub returns-in_err-write_free-clause-half : goal.returns-in_err-write_free-clause-half
returns-in_err-write_free-clause-half g c =
    let first = c.write_shut.ensures.stays in
    let shut = c.write_free.ensures.shut in
    record {
      images = λ told honest image leaves. inl (shut_unready image (shut.images (first.honest ∙ honest) (c.in_ok-write_shut.ensures.shut told honest) image leaves));
      shows = λ told honest. inl (shut_unready _ (shut.reads (first.told ∙ told) (ap (λ (l : List ℕ). get_or l 0 0) (c.in_ok-write_shut.ensures.bytes told ∙ c.block-block.ensures.bytes) ∙ header_block-shut c.args.header.now)));
    }

pub returns-clause-stable : goal.returns-clause-stable
returns-clause-stable g c = λ told honest.
    let first = c.write_shut.ensures.stays in
    let second = c.write_free.ensures.stays in
    c.open_gate.ensures.stable (second.told ∙ first.told ∙ told) (second.honest ∙ first.honest ∙ honest)

pub returns-in_err-write_shut-clause-succeeds : goal.returns-in_err-write_shut-clause-succeeds
returns-in_err-write_shut-clause-succeeds g c = λ steady told room. absurd (false≢true (c.in_err-write_shut.ensures.succeeds steady told (omega (arith, room))))

pub returns-in_err-write_free-clause-succeeds : goal.returns-in_err-write_free-clause-succeeds
returns-in_err-write_free-clause-succeeds g c = λ steady told room.
    let first = c.write_shut.ensures.stays in
    absurd (false≢true (c.in_err-write_free.ensures.succeeds (first.steady ∙ steady) (first.told ∙ told) (omega (arith, room, first.room))))

pub returns-clause-succeeds : goal.returns-clause-succeeds
returns-clause-succeeds g c = λ steady told room.
    let first = c.write_shut.ensures.stays in
    let second = c.write_free.ensures.stays in
    c.open_gate.ensures.succeeds (second.steady ∙ first.steady ∙ steady) (second.told ∙ first.told ∙ told) (omega (arith, room, first.room, second.room))

pub write_shut-requires-clause-empty : goal.write_shut-requires-clause-empty
write_shut-requires-clause-empty g c = c.requires
