use Rattle.std.proofs.Common.{length, arith}
use Rattle.std.proofs.lemmas.Result.{IfErr-weaker}
use Rattle.slot_file.specs.Slots.{file_of, header_of}
use Rattle.slot_file.proofs.Read.{refused-run}
use Rattle.std.proofs.Common.{◌≢◌, ℕ, List, Result, Ok, Err, IfErr, refl}
use Rattle.std.proofs.lemmas.Bool.{false≢true}
use Rattle.slot_file.specs.Reading.{IsRunRefused}
use Rattle.slot_file.specs.declared.faults.CacheLoad.{CacheLoad}
use Rattle.slot_file.specs.declared.faults.CacheLoad.TheVariants as load
use Rattle.slot_file.specs.declared.slot.Slot.{Slot}
use Rattle.disk_trait.proofs.FaultLaws.{on-any, rises-failed, rises-fine}
use Rattle.slot_file.proofs.SlotsLooks.{looks-only}
use Rattle.slot_file.proofs.reading.read_run.Goals as goal

run-not : {T : Type 0} (first : ℕ) (run : List Slot) (answer : Result T CacheLoad) → IfErr answer (IsRunRefused first run) → answer ≢ Err load.Device
run-not first run (Ok value) refused is = cc
run-not first run (Err load.Device) refused is = absurd refused
run-not first run (Err (load.Damaged slot a b)) refused is = cc
run-not first run (Err (load.Slots fault)) refused is = absurd refused
run-not first run (Err load.NoMemory) refused is = absurd refused

pub returns-in-Ok-clause-refused : goal.returns-in-Ok-clause-refused
returns-in-Ok-clause-refused g c = λ told.
    let slots = c.args.slots.now in
    let call = c.look_run.ensures in
    IfErr-weaker c.check_run.result _ _
    (λ fault found. refused-run (header_of slots).version c.args.first (file_of slots) c.look_run.new.out (length c.args.out.now) fault (omega arith) (c.in-Ok.ensures.slots told) found)
    c.check_run.ensures.refused

pub returns-in-Ok-clause-shows : goal.returns-in-Ok-clause-shows
returns-in-Ok-clause-shows g c = λ told. on-any _ c.check_run.result (c.in-Ok.ensures.slots told)

pub returns-in-Ok-clause-whole : goal.returns-in-Ok-clause-whole
returns-in-Ok-clause-whole g c = c.check_run.ensures.whole

pub returns-in-Ok-clause-looks : goal.returns-in-Ok-clause-looks
returns-in-Ok-clause-looks g c = looks-only c.args.slots.now c.look_run.new.self c.look_run.ensures.looked

pub returns-in-Err-clause-looks : goal.returns-in-Err-clause-looks
returns-in-Err-clause-looks g c = looks-only c.args.slots.now c.look_run.new.self c.look_run.ensures.looked

pub returns-in-Ok-clause-succeeds : goal.returns-in-Ok-clause-succeeds
returns-in-Ok-clause-succeeds g c = λ steady told. run-not _ _ c.check_run.result c.check_run.ensures.refused

pub returns-in-Ok-clause-cause : goal.returns-in-Ok-clause-cause
returns-in-Ok-clause-cause g c = rises-fine _ _ _ _ (run-not _ _ c.check_run.result c.check_run.ensures.refused) c.in-Ok.ensures.cause.succeeded

pub returns-in-Err-clause-shows : goal.returns-in-Err-clause-shows
returns-in-Err-clause-shows g c = λ told. tt

pub returns-in-Err-clause-whole : goal.returns-in-Err-clause-whole
returns-in-Err-clause-whole g c = tt

pub returns-in-Err-clause-refused : goal.returns-in-Err-clause-refused
returns-in-Err-clause-refused g c = λ told. tt

pub returns-in-Err-clause-succeeds : goal.returns-in-Err-clause-succeeds
returns-in-Err-clause-succeeds g c = λ steady told. absurd (false≢true (c.in-Err.ensures.succeeds steady told))

pub returns-in-Err-clause-cause : goal.returns-in-Err-clause-cause
returns-in-Err-clause-cause g c = rises-failed _ _ _ _ _ refl refl c.look_run.ensures.cause.later c.in-Err.ensures.cause.failed
