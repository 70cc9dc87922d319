use Rattle.std.proofs.Common.{◌≡◌, ◌<◌, ◌+◌, ◌-◌, ℕ, length, false, sym, ◌∙◌, ap, arith, length-take}
use Rattle.slot_file.specs.State.{slot_in}
use Rattle.slot_file.specs.Copies.{is_damaged}
use Rattle.slot_file.specs.Layout.{slot_at}
use Rattle.slot_file.specs.Slots.{IsTold, file_of, slot_now}
use Rattle.slot_file.specs.declared.header.Header.{Header}
use Rattle.slot_file.proofs.CachedRuns.{each-slot}
use Rattle.std.proofs.Common.{◌≢◌, Result, Ok, Err}
use Rattle.slot_file.specs.declared.faults.CacheLoad.{CacheLoad}
use Rattle.slot_file.specs.declared.faults.CacheLoad.TheVariants.{Device}
use Rattle.disk_trait.proofs.FaultLaws.{rises-fine}
use Rattle.disk_trait.proofs.FaultLaws.{on-err}
use Rattle.slot_file.proofs.SlotsLooks.{looks-none, looks-then}
use Rattle.std.proofs.Common.{refl}
use Rattle.disk_trait.specs.declared.disk.Pages as pages
use Rattle.disk_trait.specs.declared.faults.Faults as faults
use Rattle.slot_file.specs.Reading.{LooksOnly}
use Rattle.slot_file.specs.declared.slot.Slot.{Slot}
use Rattle.slot_file.specs.declared.slots.Slots.{Slots}
use Rattle.slot_file.proofs.reading.read_slots.Goals as goal

read-not : {T : Type 0} (value : T) → ◌≢◌ {A = Result T CacheLoad} (Ok value) (Err Device)
read-not value is = cc

-- a slot that was read is as it was before the looks
as-it-was : {D : Type 0} {p : pages.Ghosts D} {f : faults.Ghosts D} (old new : Slots D p f) → LooksOnly old new → IsTold old → (slot : ℕ) (found : Slot)
    → found ≡ slot_now new slot → slot_now old slot ≡ found
as-it-was old new looks told slot found is =
    sym (is ∙ ap (λ (h : Header). slot_at h.version slot (file_of new)) looks.stays.header ∙ ap (slot_at old.header.version slot) (looks.unwritten.same told))

pub runs-preserved : goal.runs-preserved
runs-preserved g c =
    let loop = c.runs in
    let so_far = loop.invariant in
    let start = c.args.slots.now in
    let run = c.read_run.new.out in
    let end = c.min-end.result in
    let put = c.set_run.ensures in
    let size : loop.first + length run ≡ end = omega (arith, c.read_run.auto.out, c.min-end.ensures, c.min-end.array_long, length-take (end - loop.first) loop.run) in
    let each = each-slot loop.first end loop.out c.set_run.new.self run size put.before put.run in
    let read : IsTold start → (k : ℕ) → k < length run → slot_now start (loop.first + k) ≡ slot_in run k = λ told k below.
    as-it-was start loop.slots so_far.looks told (loop.first + k) _ (c.in_ok-read_run.ensures.shows (so_far.looks.stays.disk.told ∙ told) k below) in
    record {
      within = omega (arith, c.min-end.ensures, c.requires.count, c.count-count.ensures);
      shows = λ told. each (λ k slot. slot_now start k ≡ slot) (so_far.shows told) (read told);
      whole = each (λ k slot. is_damaged slot ≡ false) so_far.whole c.in_ok-read_run.ensures.whole;
      size = put.count ∙ so_far.size;
      looks = looks-then start loop.slots c.read_run.new.slots so_far.looks c.read_run.ensures.looks;
      count = c.in_ok-read_run.ensures.cause.others (read-not _) ∙ so_far.count;
    }

pub returns-in_err-read_run-clause-looks : goal.returns-in_err-read_run-clause-looks
returns-in_err-read_run-clause-looks g c = looks-then c.args.slots.now c.runs.slots c.read_run.new.slots c.runs.invariant.looks c.read_run.ensures.looks

pub returns-clause-looks : goal.returns-clause-looks
returns-clause-looks g c = c.runs.invariant.looks

pub returns-clause-cause : goal.returns-clause-cause
returns-clause-cause g c = rises-fine _ _ _ _ (read-not _) c.runs.invariant.count

pub returns-clause-succeeds : goal.returns-clause-succeeds
returns-clause-succeeds g c = λ steady told. read-not _

pub runs-init : goal.runs-init
runs-init g c = record {
  within = omega arith;
  shows = λ told slot below. absurd (omega (arith, below));
  whole = λ slot below. absurd (omega (arith, below));
  size = refl;
  looks = looks-none c.args.slots.now;
  count = refl;
}

pub overflow_add-first : goal.overflow_add-first
overflow_add-first g c = omega (arith, c.runs-test.true)

pub overflow_cast-first : goal.overflow_cast-first
overflow_cast-first g c = omega (arith, c.runs-test.true)

pub read_run-requires-clause-within : goal.read_run-requires-clause-within
read_run-requires-clause-within g c =
    let loop = c.runs in
    omega (arith, length-take (c.min-end.result - loop.first) loop.run, c.min-end.ensures, c.count-count.ensures, loop.invariant.looks.stays.count)

pub read_run-requires-clause-few : goal.read_run-requires-clause-few
read_run-requires-clause-few g c = omega (arith, c.min-end.ensures, length-take (c.min-end.result - c.runs.first) c.runs.run)

pub read_run-requires-clause-small : goal.read_run-requires-clause-small
read_run-requires-clause-small g c =
    omega (arith, length-take (c.min-end.result - c.runs.first) c.runs.run, c.min-end.ensures, c.count-count.ensures, c.count-count.auto)

pub returns-in_err-read_run-clause-shows : goal.returns-in_err-read_run-clause-shows
returns-in_err-read_run-clause-shows g c = λ told. on-err _ _ c.from_residual.ensures.0

pub returns-in_err-read_run-clause-whole : goal.returns-in_err-read_run-clause-whole
returns-in_err-read_run-clause-whole g c = on-err _ _ c.from_residual.ensures.0

pub returns-clause-shows : goal.returns-clause-shows
returns-clause-shows g c = λ told slot below. c.runs.invariant.shows told slot (omega (arith, below, c.runs-test.false, c.runs.invariant.size))

pub returns-clause-whole : goal.returns-clause-whole
returns-clause-whole g c = λ slot below. c.runs.invariant.whole slot (omega (arith, below, c.runs-test.false, c.runs.invariant.size))

pub returns-clause-size : goal.returns-clause-size
returns-clause-size g c = c.runs.invariant.size

pub runs-smaller : goal.runs-smaller
runs-smaller g c = omega (arith, c.min-end.ensures, c.runs-test.true, c.runs.invariant.size)
