use Rattle.tool_base.proofs.Runs.{unchanged_none, onward_none, part_of}
use Rattle.tool_show.specs.Show.{not_read, shown}
use Rattle.tool_show.proofs.Ends.{head_ends, head_other, head_shown, ends_of_fault}
use Rattle.tool_show.proofs.show.show_file.Goals as goal

pub returns-in-Ok-clause-ended : goal.returns-in-Ok-clause-ended
returns-in-Ok-clause-ended g c =
    let found = c.in-Ok-Whole.ensures.found c.args.store.now c.find_content.new.store (part_of _ _ _ _ (unchanged_none _) (onward_none _)) in
    shown _ _ (rw c.in-Ok-Whole.field-0-is at found) c.in-Ok.ensures.shown

pub returns-in-Err-show_bytes-clause-ended : goal.returns-in-Err-show_bytes-clause-ended
returns-in-Err-show_bytes-clause-ended g c =
    let found = c.in-Ok-Whole.ensures.found c.args.store.now c.find_content.new.store (part_of _ _ _ _ (unchanged_none _) (onward_none _)) in
    ends_of_fault _ _ c.in-Ok-Whole.bytes.items c.args.leaves c.in-Err-show_bytes.fault _ (rw c.in-Ok-Whole.field-0-is at found) c.in-Err-show_bytes.ensures.refused c.end_of_fault.ensures

pub returns-in-Ok-Some-clause-ended : goal.returns-in-Ok-Some-clause-ended
returns-in-Ok-Some-clause-ended g c =
    let found = c.in-Ok-Long.ensures.found c.args.store.now c.find_content.new.store (part_of _ _ _ _ (unchanged_none _) (onward_none _)) in
    rw c.in-Ok-Some.text-is (head_shown _ _ c.in-Ok-Long.head c.in-Ok-Long.got c.args.leaves _ (rw c.in-Ok-Long.field-0-is at found) (λ file. (rw c.in-Ok-Some.field-0-is at c.in-Ok-Some.ensures.shown) file c.args.leaves))

pub returns-in-Ok-None-clause-ended : goal.returns-in-Ok-None-clause-ended
returns-in-Ok-None-clause-ended g c =
    let found = c.in-Ok-Long.ensures.found c.args.store.now c.find_content.new.store (part_of _ _ _ _ (unchanged_none _) (onward_none _)) in
    let is = c.in-Ok-None.field-0-is in
    head_other _ _ c.in-Ok-Long.head c.in-Ok-Long.got c.args.leaves (rw c.in-Ok-Long.field-0-is at found) (c.in-Ok-None.ensures.other (cc))

pub returns-in-Err-show_head-clause-ended : goal.returns-in-Err-show_head-clause-ended
returns-in-Err-show_head-clause-ended g c =
    let found = c.in-Ok-Long.ensures.found c.args.store.now c.find_content.new.store (part_of _ _ _ _ (unchanged_none _) (onward_none _)) in
    head_ends _ _ c.in-Ok-Long.head c.in-Ok-Long.got c.args.leaves c.in-Err-show_head.fault _ (rw c.in-Ok-Long.field-0-is at found) c.in-Err-show_head.ensures.refused c.end_of_fault-in-Err-show_head.ensures

pub returns-in-Err-clause-ended : goal.returns-in-Err-clause-ended
returns-in-Err-clause-ended g c =
    not_read _ (c.in-Err.ensures.refused c.args.store.now c.find_content.new.store (part_of _ _ _ _ (unchanged_none _) (onward_none _)))
