use Rattle.std.proofs.Common.{◌++◌, ℕ, List, Result, Ok, Err, IfOk, get_or, ◌∙◌, ap}
use Rattle.std.specs.List.{flat_map}
use Rattle.slot_file.specs.Copies.{slot_block}
use Rattle.slot_file.specs.Copying.{slots_of}
use Rattle.slot_file.specs.Layout.{file_size}
use Rattle.slot_file.specs.Slots.{header_of, file_of}
use Rattle.slot_file.proofs.Blank.{length-header_block}
use Rattle.slot_file.proofs.Copied.{is_copy}
use Rattle.slot_file.proofs.Shut.{header_block-shut, shut_unready, unready-header}
use Rattle.std.proofs.Common.{length, refl, inl}
use Rattle.slot_file.proofs.CopyLaws.{calls-failed, calls-then, device-answer, looked-none}
use Rattle.std.proofs.Common.{arith}
use Rattle.std.proofs.lemmas.Bool.{false≢true}
use Rattle.slot_file.proofs.CopyLaws.{device-not-held, device-says}
use Rattle.slot_file.proofs.SlotsLooks.{no-value}
use Rattle.slot_file.specs.Copying.{FindsDamaged}
use Rattle.slot_file.proofs.copies.write_closed.Goals as goal

pub write_shut-requires-clause-shut : goal.write_shut-requires-clause-shut
write_shut-requires-clause-shut g c = ap (λ (l : List ℕ). get_or l 0 0) c.block-block.ensures.bytes ∙ header_block-shut c.args.header.now

-- what holds of a value holds of a weaker fact
weaker : {T E : Type 0} {P Q : T → Type 0} (r : Result T E) → ((x : T) → P x → Q x) → IfOk r P → IfOk r Q
weaker (Ok x) f p = f x p
weaker (Err e) f p = p

pub returns-clause-copied : goal.returns-clause-copied
returns-clause-copied g c =
    let from = c.args.from.now in
    let slots = slots_of from c.args.count in
    weaker c.write_copies.result (λ taken made. record {
      closed = λ told told_from.
          let block = c.in_ok-write_shut.ensures.bytes told ∙ c.block-block.ensures.bytes in
          made.bytes (c.write_shut.ensures.stays.told ∙ told) told_from ∙ ap (λ (l : List ℕ). l ++ flat_map slot_block slots) block;
      copy = λ told_from.
          let size = (from.whole told_from).size ∙ ap (file_size (header_of from).version) c.requires.count in
          is_copy (header_of from).version c.args.count (file_of from) size c.args.header.now c.block-block.ensures.names c.requires.version (made.are.sound told_from);
      are = made.are;
    }) c.write_copies.ensures.copied

pub returns-clause-unready : goal.returns-clause-unready
returns-clause-unready g c =
    let first = c.write_shut.ensures.stays in
    record {
      reads = λ told.
          let block = c.in_ok-write_shut.ensures.bytes told ∙ c.block-block.ensures.bytes in
          shut_unready _ (c.write_copies.ensures.shut.reads (first.told ∙ told) (ap (λ (l : List ℕ). get_or l 0 0) block ∙ header_block-shut c.args.header.now));
      images = λ told honest image leaves.
          shut_unready image (c.write_copies.ensures.shut.images (first.honest ∙ honest) (c.in_ok-write_shut.ensures.shut told honest) image leaves);
    }

pub returns-clause-calls : goal.returns-clause-calls
returns-clause-calls g c =
    let from = c.args.from.now in
    calls-then g.D.Pages g.D.Faults c.args.disk.now c.write_shut.new.disk c.write_copies.new.disk from from c.write_copies.new.from _ _ c.write_shut.ensures.stays (looked-none from)
    c.in_ok-write_shut.ensures.cause.succeeded refl c.write_copies.ensures.calls

pub returns-in_err-write_shut-clause-calls : goal.returns-in_err-write_shut-clause-calls
returns-in_err-write_shut-clause-calls g c =
    let from = c.args.from.now in
    calls-failed g.D.Pages g.D.Faults c.args.disk.now c.write_shut.new.disk from from _ _ c.write_shut.ensures.stays (looked-none from) (device-answer _ c.from_residual.ensures.1)
    (inl c.in_err-write_shut.ensures.cause.failed)

pub returns-in_err-write_shut-clause-copied : goal.returns-in_err-write_shut-clause-copied
returns-in_err-write_shut-clause-copied g c = no-value _ _ c.from_residual.ensures.0

pub returns-in_err-write_shut-clause-damaged : goal.returns-in_err-write_shut-clause-damaged
returns-in_err-write_shut-clause-damaged g c = device-says (FindsDamaged c.args.from.now c.args.count) _ c.from_residual.ensures.1 tt

pub returns-in_err-write_shut-clause-not_empty : goal.returns-in_err-write_shut-clause-not_empty
returns-in_err-write_shut-clause-not_empty g c = device-not-held _ c.from_residual.ensures.1

pub returns-in_err-write_shut-clause-unready : goal.returns-in_err-write_shut-clause-unready
returns-in_err-write_shut-clause-unready g c = unready-header g.D.Pages _ _ _ (ap length c.block-block.ensures.bytes ∙ length-header_block c.args.header.now c.block-block.ensures.names 0) c.write_shut.ensures.unready

pub returns-in_err-write_shut-clause-succeeds : goal.returns-in_err-write_shut-clause-succeeds
returns-in_err-write_shut-clause-succeeds g c = λ steady told steady_from told_from room. absurd (false≢true (c.in_err-write_shut.ensures.succeeds steady told (omega (arith, room))))

pub returns-clause-damaged : goal.returns-clause-damaged
returns-clause-damaged g c = c.write_copies.ensures.damaged

pub returns-clause-not_empty : goal.returns-clause-not_empty
returns-clause-not_empty g c = c.write_copies.ensures.not_empty

pub returns-clause-succeeds : goal.returns-clause-succeeds
returns-clause-succeeds g c = λ steady told steady_from told_from room.
    let stays = c.write_shut.ensures.stays in
    c.write_copies.ensures.succeeds (stays.steady ∙ steady) (stays.told ∙ told) steady_from told_from (omega (arith, room, stays.room))

pub write_shut-requires-clause-empty : goal.write_shut-requires-clause-empty
write_shut-requires-clause-empty g c = c.requires.empty

pub write_copies-requires-clause-count : goal.write_copies-requires-clause-count
write_copies-requires-clause-count g c = c.requires.count
