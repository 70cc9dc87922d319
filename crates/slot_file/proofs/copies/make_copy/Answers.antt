use Rattle.std.proofs.Common.{ℕ, List, [], ◌∷◌, sym, ◌∙◌, ap, subst}
use Rattle.std.specs.List.{flat_map}
use Rattle.disk_trait.specs.Images.{written}
use Rattle.slot_file.specs.Copies.{IsCopy, slot_block}
use Rattle.slot_file.specs.Copying.{slots_of}
use Rattle.slot_file.specs.Slots.{header_of, file_of}
use Rattle.slot_file.proofs.Blank.{never-half, opened}
use Rattle.std.proofs.Common.{inl, Result, Ok, Err, ◌≢◌}
use Rattle.disk_trait.proofs.FaultLaws.{rose-since}
use Rattle.slot_file.proofs.CopyLaws.{calls-failed, calls-fine, device-answer}
use Rattle.disk_trait.proofs.SameDisk.{same-then}
use Rattle.slot_file.specs.declared.copies.CopyFault.{CopyFault}
use Rattle.slot_file.specs.declared.copies.CopyFault.TheVariants.{Device}
use Rattle.std.proofs.Common.{arith}
use Rattle.std.proofs.lemmas.Bool.{false≢true}
use Rattle.slot_file.proofs.CopyLaws.{device-not-held, device-says, value-not}
use Rattle.slot_file.proofs.SlotsLooks.{no-value}
use Rattle.slot_file.specs.Copying.{FindsDamaged, IsDamaged}
use Rattle.slot_file.specs.Fresh.{AreUnready}
use Rattle.slot_file.proofs.copies.make_copy.Goals as goal

pub returns-in_err-open_gate-clause-half : goal.returns-in_err-open_gate-clause-half
returns-in_err-open_gate-clause-half g c = λ told_from.
    let made = c.in-Ok.ensures.copied in
    let disk = c.write_closed.ensures.calls.disk in
    never-half g.D.Pages c.args.header.now _ _ _ _ _ disk.told disk.honest (λ told. made.closed told told_from) (made.copy told_from)
    c.write_closed.ensures.unready.images c.open_gate.ensures.last

pub returns-clause-half : goal.returns-clause-half
returns-clause-half g c = λ told_from.
    let made = c.in-Ok.ensures.copied in
    let disk = c.write_closed.ensures.calls.disk in
    never-half g.D.Pages c.args.header.now _ _ _ _ _ disk.told disk.honest (λ told. made.closed told told_from) (made.copy told_from)
    c.write_closed.ensures.unready.images c.open_gate.ensures.last

pub returns-clause-copied : goal.returns-clause-copied
returns-clause-copied g c =
    let from = c.args.from.now in
    let header = c.args.header.now in
    let made = c.in-Ok.ensures.copied in
    let disk = c.write_closed.ensures.calls.disk in
    let gate = c.in_ok-open_gate.ensures in
    record {
      copied = λ told told_from.
          let is = gate.bytes (disk.told ∙ told) ∙ ap (λ (l : List ℕ). written l 0 (0xA7 ∷ [])) (made.closed told told_from) ∙ opened header (flat_map slot_block (slots_of from c.args.count)) in
          subst (IsCopy header c.args.count (header_of from).version (file_of from)) (sym is) (made.copy told_from);
      are = made.are;
      stable = λ told honest. gate.stable (disk.told ∙ told) (disk.honest ∙ honest);
    }

done : (taken : ℕ) → ◌≢◌ {A = Result ℕ CopyFault} (Ok taken) (Err Device)
done taken is = cc

pub returns-clause-calls : goal.returns-clause-calls
returns-clause-calls g c =
    let first = c.write_closed.ensures.calls in
    let gate = c.open_gate.ensures in
    let were = c.in-Ok.ensures.calls.others (done _) in
    calls-fine g.D.Pages g.D.Faults c.args.disk.now c.open_gate.new.disk c.args.from.now c.write_closed.new.from _ _
    (same-then g.D.Pages g.D.Faults c.args.disk.now c.write_closed.new.disk c.open_gate.new.disk first.disk gate.stays) first.looked (done _) (c.in_ok-open_gate.ensures.cause.succeeded ∙ were.0) were.1

pub returns-in_err-open_gate-clause-calls : goal.returns-in_err-open_gate-clause-calls
returns-in_err-open_gate-clause-calls g c =
    let first = c.write_closed.ensures.calls in
    let were = c.in-Ok.ensures.calls.others (done _) in
    calls-failed g.D.Pages g.D.Faults c.args.disk.now c.open_gate.new.disk c.args.from.now c.write_closed.new.from _ _
    (same-then g.D.Pages g.D.Faults c.args.disk.now c.write_closed.new.disk c.open_gate.new.disk first.disk c.open_gate.ensures.stays) first.looked (device-answer _ c.from_residual.ensures.1)
    (inl (rose-since were.0 c.in_err-open_gate.ensures.cause.failed))

pub returns-in-Err-clause-calls : goal.returns-in-Err-clause-calls
returns-in-Err-clause-calls g c = c.in-Err.ensures.calls

pub returns-in-Err-clause-copied : goal.returns-in-Err-clause-copied
returns-in-Err-clause-copied g c = tt

pub returns-in-Err-clause-half : goal.returns-in-Err-clause-half
returns-in-Err-clause-half g c = λ told_from.
    let unready = c.write_closed.ensures.unready in
    record { images = λ told honest image leaves. inl (unready.images told honest image leaves); shows = λ told honest. inl (unready.reads told) }

pub returns-in-Err-clause-damaged : goal.returns-in-Err-clause-damaged
returns-in-Err-clause-damaged g c = c.in-Err.ensures.damaged

pub returns-in-Err-clause-not_empty : goal.returns-in-Err-clause-not_empty
returns-in-Err-clause-not_empty g c = c.in-Err.ensures.not_empty

pub returns-in-Err-clause-shut : goal.returns-in-Err-clause-shut
returns-in-Err-clause-shut g c = λ damaged. c.write_closed.ensures.unready

pub returns-in-Err-clause-succeeds : goal.returns-in-Err-clause-succeeds
returns-in-Err-clause-succeeds g c = c.in-Err.ensures.succeeds

pub returns-in_err-open_gate-clause-copied : goal.returns-in_err-open_gate-clause-copied
returns-in_err-open_gate-clause-copied g c = no-value _ _ c.from_residual.ensures.0

pub returns-in_err-open_gate-clause-damaged : goal.returns-in_err-open_gate-clause-damaged
returns-in_err-open_gate-clause-damaged g c = device-says (FindsDamaged c.args.from.now c.args.count) _ c.from_residual.ensures.1 tt

pub returns-in_err-open_gate-clause-not_empty : goal.returns-in_err-open_gate-clause-not_empty
returns-in_err-open_gate-clause-not_empty g c = device-not-held _ c.from_residual.ensures.1

pub returns-in_err-open_gate-clause-shut : goal.returns-in_err-open_gate-clause-shut
returns-in_err-open_gate-clause-shut g c = device-says (λ fault. IsDamaged fault → AreUnready g.D.Pages c.args.disk.now c.open_gate.new.disk) _ c.from_residual.ensures.1 (λ no. absurd no)

pub returns-in_err-open_gate-clause-succeeds : goal.returns-in_err-open_gate-clause-succeeds
returns-in_err-open_gate-clause-succeeds g c = λ steady told steady_from told_from room.
    let disk = c.write_closed.ensures.calls.disk in
    absurd (false≢true (c.in_err-open_gate.ensures.succeeds (disk.steady ∙ steady) (disk.told ∙ told) (omega (arith, room, disk.room))))

pub returns-clause-damaged : goal.returns-clause-damaged
returns-clause-damaged g c = tt

pub returns-clause-not_empty : goal.returns-clause-not_empty
returns-clause-not_empty g c = λ held. value-not _ _

pub returns-clause-shut : goal.returns-clause-shut
returns-clause-shut g c = tt

pub returns-clause-succeeds : goal.returns-clause-succeeds
returns-clause-succeeds g c = λ steady told steady_from told_from room. done _

pub write_closed-requires-clause-version : goal.write_closed-requires-clause-version
write_closed-requires-clause-version g c = c.requires.version

pub write_closed-requires-clause-count : goal.write_closed-requires-clause-count
write_closed-requires-clause-count g c = c.requires.count

pub write_closed-requires-clause-empty : goal.write_closed-requires-clause-empty
write_closed-requires-clause-empty g c = c.requires.empty
