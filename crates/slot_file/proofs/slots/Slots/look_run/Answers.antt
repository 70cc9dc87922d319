use Rattle.std.proofs.Common.{arith, rules, ◌≡◌, Result, Ok, Err, OnErr, ◌*◌, length, take, drop, refl, ◌∙◌}
use Rattle.slot_file.specs.Layout.{slot_size, slot_start}
use Rattle.slot_file.specs.Slots.{file_of, header_of}
use Rattle.disk_trait.proofs.FaultLaws.{cause-failed, on-err}
use Rattle.slot_file.proofs.Runs.{run-read, run-size}
use Rattle.slot_file.proofs.SlotsLooks.{if-err}
use Rattle.std.proofs.lemmas.Bool.{false≢true}
use Rattle.slot_file.proofs.slots.Slots.look_run.Goals as goal

unread : {A T E : Type 0} (answer : Result T E) (out : A) → OnErr answer (out ≡ out)
unread (Ok value) out = tt
unread (Err fault) out = refl

pub returns-in_err-read-clause-slots : goal.returns-in_err-read-clause-slots
returns-in_err-read-clause-slots g c = λ told. on-err _ _ c.from_residual.ensures.0

pub returns-in_err-read-clause-shown : goal.returns-in_err-read-clause-shown
returns-in_err-read-clause-shown g c = on-err _ _ c.from_residual.ensures.0

pub returns-in_err-read-clause-looked : goal.returns-in_err-read-clause-looked
returns-in_err-read-clause-looked g c = c.read.ensures.looked

pub returns-in_err-read-clause-doubt : goal.returns-in_err-read-clause-doubt
returns-in_err-read-clause-doubt g c = c.in_err-read.ensures.doubt ∙ if-err _ _ _ c.from_residual.ensures.0

pub returns-in_err-read-clause-cause : goal.returns-in_err-read-clause-cause
returns-in_err-read-clause-cause g c = cause-failed _ _ _ _ c.from_residual.ensures.0 refl c.read.ensures.cause.later c.in_err-read.ensures.cause.failed

pub returns-clause-slots : goal.returns-clause-slots
returns-clause-slots g c = λ told.
    let version = (header_of c.args.self.now).version in
    let n = length c.args.out.now in
    let read = c.in_ok-read.ensures.bytes told in
    let block : c.read.new.out ≡ take (slot_size version * n) (drop (slot_start version c.args.first) (file_of c.args.self.now)) = search (rules, read) in
    run-read version c.args.first n (file_of c.args.self.now) c.read.new.out c.read_block.new.out block c.read_block.ensures.count c.read_block.ensures.slots

pub returns-clause-shown : goal.returns-clause-shown
returns-clause-shown g c = λ k below. (_, c.read_block.ensures.slots k below)

pub returns-clause-unread : goal.returns-clause-unread
returns-clause-unread g c = tt

pub returns-clause-looked : goal.returns-clause-looked
returns-clause-looked g c = c.read.ensures.looked

pub returns-clause-doubt : goal.returns-clause-doubt
returns-clause-doubt g c = c.in_ok-read.ensures.doubt

pub returns-clause-succeeds : goal.returns-clause-succeeds
returns-clause-succeeds g c = λ steady told. refl

pub returns-clause-cause : goal.returns-clause-cause
returns-clause-cause g c = record { later = c.read.ensures.cause.later; succeeded = c.in_ok-read.ensures.cause.succeeded; failed = tt }

pub returns-in_err-read-clause-succeeds : goal.returns-in_err-read-clause-succeeds
returns-in_err-read-clause-succeeds g c = λ steady told. absurd (false≢true (c.in_err-read.ensures.succeeds steady told))

pub read-requires-clause-within : goal.read-requires-clause-within
read-requires-clause-within g c = c.requires.within

pub overflow_mul-block : goal.overflow_mul-block
overflow_mul-block g c = omega (arith, run-size _ _ _ c.slot_len.ensures c.requires.few)

pub slice_bounds-block-end : goal.slice_bounds-block-end
slice_bounds-block-end g c = run-size _ _ _ c.slot_len.ensures c.requires.few

pub returns-in_err-read-clause-unread : goal.returns-in_err-read-clause-unread
returns-in_err-read-clause-unread g c = unread _ _
