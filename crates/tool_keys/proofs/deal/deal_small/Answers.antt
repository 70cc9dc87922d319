use Rattle.std.proofs.Common.{map}
use Rattle.tool_base.specs.Endings.{ending}
use Rattle.tool_base.specs.OutputOf.{output_of}
use Rattle.tool_base.specs.World.{from_to}
use Rattle.tool_base.proofs.Runs.{back_unchanged, unchanged_none, onward_none, part_of}
use Rattle.tool_base.proofs.Writing.{all_new_later, ends_stopped, ends_untouched, names_of}
use Rattle.tool_words.specs.Rows.{deal_words}
use Rattle.tool_keys.specs.Deal.{DealEnds}
use Rattle.tool_keys.specs.Steps.{all_written, stopped}
use Rattle.tool_keys.specs.Told.{all_told}
use Rattle.tool_keys.proofs.Dealing.{dealt_differ, ready_then}
use Rattle.tool_keys.proofs.Running.{back_after}
use Rattle.tool_keys.proofs.Telling.{dealt-status, unwritten-status}
use Rattle.tool_keys.proofs.deal.deal_small.Goals as goal

pub returns-in-Err-clause-ended : goal.returns-in-Err-clause-ended
returns-in-Err-clause-ended g c =
    let one = c.in-Err.ensures in
    ends_untouched _ _ one.unchanged (DealEnds _ (deal_words c.args.words.now)) _
    (one.refused c.args.store.now c.new_outputs.new.store (part_of _ _ _ _ (unchanged_none _) (onward_none _)))

pub returns-in-Err-clause-back : goal.returns-in-Err-clause-back
returns-in-Err-clause-back g c = back_unchanged _ _ c.in-Err.ensures.unchanged

pub write_all-requires-clause-differ : goal.write_all-requires-clause-differ
write_all-requires-clause-differ g c =
    let outputs = c.in-Ok.ready.0.items in
    let ready = c.in-Ok.ensures.ready c.args.store.now c.new_outputs.new.store (part_of _ _ _ _ (unchanged_none _) (onward_none _)) in
    λ lives order. rw (c.deref.ensures.value, ← names_of output_of outputs) (dealt_differ (deal_words c.args.words.now) ready.entropy (map output_of outputs) (ending c.in-Ok.ready.1) ready.dealt)

pub write_all-requires-clause-new : goal.write_all-requires-clause-new
write_all-requires-clause-new g c =
    let state = g.S.Store.state in
    let last = c.new_outputs.new.store in
    let one = c.in-Ok.ensures in
    let outputs = c.in-Ok.ready.0.items in
    let ready = one.ready c.args.store.now last (part_of _ _ _ _ (unchanged_none _) (onward_none _)) in
    λ lives order. rw (c.deref.ensures.value, ← names_of output_of outputs)
    (all_new_later (state c.args.store.now) (state last) (state last) (state last) one.unchanged (map (λ output. output.name) (map output_of outputs)) ready.new)

pub returns-in-Ok-write_all-clause-ended : goal.returns-in-Ok-write_all-clause-ended
returns-in-Ok-write_all-clause-ended g c =
    let first = c.args.store.now in
    let one = c.in-Ok.ensures in
    let two = c.in-Ok-write_all.ensures in
    let ready = one.ready first c.write_all.new.store (part_of _ _ _ _ (unchanged_none _) two.back.onward) in
    record {
      written = map output_of c.in-Ok.ready.0.items;
      cause = ready_then _ _ _ (ending c.in-Ok.ready.1) _ _ ready all_written;
      left = rw c.deref.ensures.value at (two.written first one.unchanged);
    }

pub returns-in-Ok-write_all-clause-back : goal.returns-in-Ok-write_all-clause-back
returns-in-Ok-write_all-clause-back g c = back_after _ _ _ c.in-Ok.ensures.unchanged c.in-Ok-write_all.ensures.back

pub returns-clause-ended : goal.returns-clause-ended
returns-clause-ended g c =
    let first = c.args.store.now in
    let run = from_to (g.S.Store.state first) (g.S.Store.state c.write_all.new.store) in
    let one = c.in-Ok.ensures in
    let two = c.in-Err-write_all.ensures in
    let ready = one.ready first c.write_all.new.store (part_of _ _ _ _ (unchanged_none _) two.back.onward) in
    let stop = rw c.deref.ensures.value at (two.refused first one.unchanged) in
    ends_stopped run (map output_of c.in-Ok.ready.0.items) (DealEnds run (deal_words c.args.words.now)) _ stop
    (λ written stops. ready_then run _ _ (ending c.in-Ok.ready.1) _ written ready (stopped _ written stops))

pub returns-clause-back : goal.returns-clause-back
returns-clause-back g c = back_after _ _ _ c.in-Ok.ensures.unchanged c.in-Err-write_all.ensures.back

pub returns-in-Err-clause-told : goal.returns-in-Err-clause-told
returns-in-Err-clause-told g c = c.in-Err.ensures.told

pub returns-in-Ok-write_all-clause-told : goal.returns-in-Ok-write_all-clause-told
returns-in-Ok-write_all-clause-told g c =
    let one = c.in-Ok.ensures in
    let ready = one.ready c.args.store.now c.new_outputs.new.store (part_of _ _ _ _ (unchanged_none _) (onward_none _)) in
    all_told (dealt-status _ _ _ _ ready.dealt) one.told

pub returns-clause-told : goal.returns-clause-told
returns-clause-told g c =
    let stop = c.in-Err-write_all.ensures.refused c.args.store.now c.in-Ok.ensures.unchanged in
    all_told (unwritten-status _ _ _ _ stop.cause) c.in-Ok.ensures.told
