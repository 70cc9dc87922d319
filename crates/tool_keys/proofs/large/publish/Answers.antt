use Rattle.std.proofs.Common.{◌≡◌, ◌∙◌, IsTrue}
use Rattle.dealer.specs.Files.{reference_file}
use Rattle.dealer.specs.Onto.{HoldsShut}
use Rattle.tool_base.specs.World.{from_to}
use Rattle.tool_base.proofs.Runs.{unchanged_none}
use Rattle.tool_base.proofs.Writing.{ends_stopped}
use Rattle.tool_keys.specs.Large.{dealing_in, key_outputs, opens, stays_shut, stops}
use Rattle.tool_keys.proofs.OnDisk.{not_written-device}
use Rattle.tool_keys.proofs.large.publish.Goals as goal

pub returns-in-Err-clause-published : goal.returns-in-Err-clause-published
returns-in-Err-clause-published g c = λ first unchanged.
    let run = from_to (g.S.Store.state first) (g.S.Store.state c.write_all.new.store) in
    ends_stopped run (key_outputs c.args.prefix.now (dealing_in c.args.asked.now)) _ _ (rw c.requires.outputs at (c.in-Err.ensures.refused first unchanged))
    (λ written stop. stops _ written stop c.requires.shut)

pub returns-in-Err-clause-device : goal.returns-in-Err-clause-device
returns-in-Err-clause-device g c = λ is.
    let stop = c.in-Err.ensures.refused c.args.store.now (unchanged_none _) in
    absurd (not_written-device _ _ _ _ stop.cause.cause is)

pub returns-in-Err-clause-succeeds : goal.returns-in-Err-clause-succeeds
returns-in-Err-clause-succeeds g c = λ steady told room is.
    let stop = c.in-Err.ensures.refused c.args.store.now (unchanged_none _) in
    not_written-device _ _ _ _ stop.cause.cause is

pub returns-in-Ok-clause-published : goal.returns-in-Ok-clause-published
returns-in-Ok-clause-published g c = λ first unchanged.
    let holds : HoldsShut g.S.Disk.Pages (dealing_in c.args.asked.now) c.args.disk.now = record { reads = c.requires.shut.reads; images = c.requires.shut.images } in
    let step = c.in-Ok.ensures in
    let reads : IsTrue (g.S.Disk.Pages.told c.open_reference.new.disk) → g.S.Disk.Pages.reads c.open_reference.new.disk ≡ reference_file (dealing_in c.args.asked.now) =
    λ told. step.opened (dealing_in c.args.asked.now) holds (rw step.stays.told at told) in
    record {
      written = key_outputs c.args.prefix.now (dealing_in c.args.asked.now);
      cause = rw c.done.ensures (opens (record {
        reads = reads;
        images = λ told honest image leaves. step.stable (rw step.stays.told at told) (rw step.stays.honest at honest) image leaves ∙ reads told;
      }));
      left = rw c.requires.outputs at (c.in_default.ensures.written first unchanged);
    }

pub returns-in-Err-open_reference-clause-published : goal.returns-in-Err-open_reference-clause-published
returns-in-Err-open_reference-clause-published g c = λ first unchanged.
    let holds : HoldsShut g.S.Disk.Pages (dealing_in c.args.asked.now) c.args.disk.now = record { reads = c.requires.shut.reads; images = c.requires.shut.images } in
    let step = c.in-Err-open_reference.ensures in
    record {
      written = key_outputs c.args.prefix.now (dealing_in c.args.asked.now);
      cause = stays_shut (record {
        reads = λ told. tt;
        images = λ told honest. (step.half (dealing_in c.args.asked.now) holds).images (rw step.stays.told at told) (rw step.stays.honest at honest);
      });
      left = rw c.requires.outputs at (c.in_default.ensures.written first unchanged);
    }
