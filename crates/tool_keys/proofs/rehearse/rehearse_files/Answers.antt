use Rattle.std.proofs.Common.{[], ◌∷◌, map}
use Rattle.tool_base.specs.OutputOf.{output_of}
use Rattle.tool_base.specs.World.{from_to}
use Rattle.tool_base.proofs.Runs.{back_unchanged, unchanged_none, onward_none, part_of}
use Rattle.tool_base.proofs.Writing.{all_new_later, ends_stopped, ends_untouched, names_of}
use Rattle.tool_keys.specs.Rehearse.{RehearseEnds}
use Rattle.tool_keys.specs.Steps.{all_written, given, stopped}
use Rattle.tool_keys.proofs.Rehearsing.{begun_then, rehearsed_names, two_differ}
use Rattle.tool_keys.proofs.Running.{back_after}
use Rattle.tool_keys.proofs.rehearse.rehearse_files.Goals as goal

pub returns-in-Err-clause-ended : goal.returns-in-Err-clause-ended
returns-in-Err-clause-ended g c =
    let one = c.in-Err.ensures in
    ends_untouched _ _ one.unchanged (RehearseEnds _ c.args.entropy.now c.args.message.now c.args.key_out.now c.args.signature_out.now) _
    (one.refused c.args.store.now c.new_outputs.new.store (part_of _ _ _ _ (unchanged_none _) (onward_none _)))

pub returns-in-Err-clause-back : goal.returns-in-Err-clause-back
returns-in-Err-clause-back g c = back_unchanged _ _ c.in-Err.ensures.unchanged

pub write_all-requires-clause-differ : goal.write_all-requires-clause-differ
write_all-requires-clause-differ g c =
    let ready = c.in-Ok.ensures.ready c.args.store.now c.new_outputs.new.store (part_of _ _ _ _ (unchanged_none _) (onward_none _)) in
    let names = rehearsed_names _ _ _ _ _ ready.made in
    λ lives order. rw (← names_of output_of c.in-Ok.outputs, names) (two_differ _ _ c.requires)

pub write_all-requires-clause-new : goal.write_all-requires-clause-new
write_all-requires-clause-new g c =
    let state = g.S.Store.state in
    let last = c.new_outputs.new.store in
    let one = c.in-Ok.ensures in
    let ready = one.ready c.args.store.now last (part_of _ _ _ _ (unchanged_none _) (onward_none _)) in
    let names = rehearsed_names _ _ _ _ _ ready.made in
    λ lives order. rw (← names_of output_of c.in-Ok.outputs, names)
    (all_new_later (state c.args.store.now) (state last) (state last) (state last) one.unchanged (c.args.key_out.now ∷ c.args.signature_out.now ∷ []) ready.begun.new)

pub returns-in-Ok-write_all-clause-ended : goal.returns-in-Ok-write_all-clause-ended
returns-in-Ok-write_all-clause-ended g c =
    let first = c.args.store.now in
    let one = c.in-Ok.ensures in
    let two = c.in-Ok-write_all.ensures in
    let ready = one.ready first c.write_all.new.store (part_of _ _ _ _ (unchanged_none _) two.back.onward) in
    record {
      written = map output_of c.in-Ok.outputs;
      cause = begun_then _ _ _ _ _ _ _ _ _ ready.begun (given (map output_of c.in-Ok.outputs) _ _ ready.made all_written);
      left = two.written first one.unchanged;
    }

pub returns-in-Ok-write_all-clause-back : goal.returns-in-Ok-write_all-clause-back
returns-in-Ok-write_all-clause-back g c = back_after _ _ _ c.in-Ok.ensures.unchanged c.in-Ok-write_all.ensures.back

pub returns-clause-ended : goal.returns-clause-ended
returns-clause-ended g c =
    let first = c.args.store.now in
    let run = from_to (g.S.Store.state first) (g.S.Store.state c.write_all.new.store) in
    let one = c.in-Ok.ensures in
    let two = c.in-Err-write_all.ensures in
    let ready = one.ready first c.write_all.new.store (part_of _ _ _ _ (unchanged_none _) two.back.onward) in
    let outputs = map output_of c.in-Ok.outputs in
    ends_stopped run outputs (RehearseEnds run c.args.entropy.now c.args.message.now c.args.key_out.now c.args.signature_out.now) _ (two.refused first one.unchanged)
    (λ written stops. begun_then _ _ _ _ _ _ _ _ _ ready.begun (given outputs _ _ ready.made (stopped _ written stops)))

pub returns-clause-back : goal.returns-clause-back
returns-clause-back g c = back_after _ _ _ c.in-Ok.ensures.unchanged c.in-Err-write_all.ensures.back
