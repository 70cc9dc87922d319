use Rattle.std.proofs.Common.{◌≤◌, ◌-◌, take}
use Rattle.round_frames.specs.Sending.{sink_state}
use Rattle.trustee_core.specs.Grants.{ask_in, granted_by, mask_of}
use Rattle.trustee_node.proofs.Batches.{Batched}
use Rattle.trustee_node.proofs.reply.write_masks.Given as goal

-- the front and the masks before `next` were written, or none of it
abbrev pub invariant-batches : goal.invariant-batches
invariant-batches g l =
    let state = sink_state g.K.Stream.talk g.K.Faults.steady g.K.Sink.room in
    record {
      within : l.next ≤ l.count;
      small : l.unwritten ≤ 99;
      batched : Batched (mask_of (granted_by l.masks) (ask_in l.masks)) (take l.front l.fn.room) (state l.initial.link) (state l.link) l.unwritten l.room l.next;
    }

abbrev pub decreases-batches : goal.decreases-batches
decreases-batches g l = l.count - l.next
