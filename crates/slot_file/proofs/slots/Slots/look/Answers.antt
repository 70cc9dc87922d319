use Rattle.std.proofs.Common.{◌≡◌, take, drop, refl, ap, ◌∙◌, rules}
use Rattle.slot_file.specs.Layout.{slot_of, slot_size, slot_start}
use Rattle.slot_file.specs.Slots.{file_of, header_of}
use Rattle.disk_trait.proofs.FaultLaws.{cause-failed}
use Rattle.slot_file.proofs.SlotsLooks.{if-err, looked-once, no-value}
use Rattle.std.proofs.Common.{arith}
use Rattle.std.proofs.lemmas.Bool.{false≢true}
use Rattle.slot_file.proofs.slots.Slots.look.Goals as goal

pub returns-clause-slot : goal.returns-clause-slot
returns-clause-slot g c = λ told.
    let version = (header_of c.args.self.now).version in
    let read = c.in_ok-read.ensures.bytes told in
    let block : c.read.new.out ≡ take (slot_size version) (drop (slot_start version c.args.slot) (file_of c.args.self.now)) = search (rules, read) in
    c.of_bytes.ensures ∙ ap (slot_of version) block

pub returns-clause-shown : goal.returns-clause-shown
returns-clause-shown g c = (_, c.of_bytes.ensures)

pub returns-clause-same : goal.returns-clause-same
returns-clause-same g c = c.read.ensures.looked.same

pub returns-clause-images : goal.returns-clause-images
returns-clause-images g c = c.read.ensures.looked.images

pub returns-clause-doubt : goal.returns-clause-doubt
returns-clause-doubt g c = c.in_ok-read.ensures.doubt ∙ looked-once c.args.slot c.args.self.now.doubt

pub returns-clause-succeeds : goal.returns-clause-succeeds
returns-clause-succeeds g c = λ steady told. refl

pub returns-clause-cause : goal.returns-clause-cause
returns-clause-cause g c = record { later = c.read.ensures.cause.later; succeeded = c.in_ok-read.ensures.cause.succeeded; failed = tt }

pub returns-clause-stays : goal.returns-clause-stays
returns-clause-stays g c = c.read.ensures.looked.stays

pub returns-in_err-read-clause-slot : goal.returns-in_err-read-clause-slot
returns-in_err-read-clause-slot g c = λ told. no-value _ _ c.from_residual.ensures.0

pub returns-in_err-read-clause-shown : goal.returns-in_err-read-clause-shown
returns-in_err-read-clause-shown g c = no-value _ _ c.from_residual.ensures.0

pub returns-in_err-read-clause-same : goal.returns-in_err-read-clause-same
returns-in_err-read-clause-same g c = c.read.ensures.looked.same

pub returns-in_err-read-clause-images : goal.returns-in_err-read-clause-images
returns-in_err-read-clause-images g c = c.read.ensures.looked.images

pub returns-in_err-read-clause-doubt : goal.returns-in_err-read-clause-doubt
returns-in_err-read-clause-doubt g c = c.in_err-read.ensures.doubt ∙ if-err _ _ _ c.from_residual.ensures.0

pub returns-in_err-read-clause-cause : goal.returns-in_err-read-clause-cause
returns-in_err-read-clause-cause g c = cause-failed _ _ _ _ c.from_residual.ensures.0 refl c.read.ensures.cause.later c.in_err-read.ensures.cause.failed

pub returns-in_err-read-clause-stays : goal.returns-in_err-read-clause-stays
returns-in_err-read-clause-stays g c = c.read.ensures.looked.stays

pub returns-in_err-read-clause-succeeds : goal.returns-in_err-read-clause-succeeds
returns-in_err-read-clause-succeeds g c = λ steady told. absurd (false≢true (c.in_err-read.ensures.succeeds steady told))

pub read-requires-clause-within : goal.read-requires-clause-within
read-requires-clause-within g c = omega (arith, c.requires)
