use Rattle.std.proofs.Common.{◌≡◌, ◌-◌, take, ◌∙◌, arith}
use Rattle.round_frames.specs.Sending.{sink_state}
use Rattle.stream_io.proofs.Pieces.{part-front}
use Rattle.trustee_core.specs.Grants.{ask_in, granted_by, mask_of, masks_of}
use Rattle.trustee_node.proofs.Batches.{batched-none, batched-on, sends-all, sends-part}
use Rattle.trustee_node.proofs.Masks.{some-masks}
use Rattle.trustee_node.proofs.reply.write_masks.Goals as goal

pub batches-init : goal.batches-init
batches-init g c =
    let state = sink_state g.K.Stream.talk g.K.Faults.steady g.K.Sink.room in
    record {
      within = omega arith;
      small = c.requires.front;
      batched = batched-none (mask_of (granted_by c.args.masks.now) (ask_in c.args.masks.now)) (state c.args.link.now) c.args.front c.args.room.now;
    }

pub batches-preserved : goal.batches-preserved
batches-preserved g c =
    let state = sink_state g.K.Stream.talk g.K.Faults.steady g.K.Sink.room in
    let v = c.batches.invariant in
    let r = c.in_default.ensures in
    let b = c.put_masks-batch.ensures in
    let ask = ask_in c.args.masks.now in
    let room = c.batches.room in
    let front = c.batches.unwritten in
    let batch = c.put_masks-batch.result in
    let new = c.put_masks-batch.new.room in
    record {
      within = (let w = b.within in let e = c.count-count.ensures in omega (arith, w, e));
      small = omega arith;
      batched = batched-on (mask_of (granted_by c.args.masks.now) ask) (take c.args.front c.args.room.now) (state c.args.link.now) (state c.batches.link) front room c.batches.next v.batched
          (state c.write_whole.new.sink) (take batch.length new) _ batch.next b.bytes
          (part-front front (4096 - front) batch.length room new (omega arith) (omega arith) (omega arith)) r.only r.room r.steady _ r.wrote r.cause.succeeded;
    }

pub returns-in-Err : goal.returns-in-Err
returns-in-Err g c =
    let state = sink_state g.K.Stream.talk g.K.Faults.steady g.K.Sink.room in
    let v = c.batches.invariant in
    let e = c.in-Err.ensures in
    let b = c.put_masks-batch.ensures in
    let ask = ask_in c.args.masks.now in
    let room = c.batches.room in
    let front = c.batches.unwritten in
    let batch = c.put_masks-batch.result in
    let new = c.put_masks-batch.new.room in
    record {
      sends = sends-part (mask_of (granted_by c.args.masks.now) ask) (take c.args.front c.args.room.now) (state c.args.link.now) (state c.batches.link) front room c.batches.next v.batched
          (state c.write_whole.new.sink) (take batch.length new) _ batch.next b.bytes
          (part-front front (4096 - front) batch.length room new (omega arith) (omega arith) (omega arith)) e.only e.room e.steady
          (masks_of (granted_by c.args.masks.now).params ask) c.in-Err.failed b.within e.wrote e.cause.later e.cause.failed e.succeeds;
    }

pub returns : goal.returns
returns g c =
    let state = sink_state g.K.Stream.talk g.K.Faults.steady g.K.Sink.room in
    let v = c.batches.invariant in
    let share = granted_by c.args.masks.now in
    let ask = ask_in c.args.masks.now in
    let some = some-masks share.params ask in
    let whole : c.batches.next ≡ c.count-count.result = (let t = c.batches-test.false in let w = v.within in omega (arith, t, w)) in
    record {
      sends = sends-all (mask_of share ask) (take c.args.front c.args.room.now) (state c.args.link.now) (state c.batches.link) c.batches.unwritten c.batches.room c.batches.next v.batched
          _ (masks_of share.params ask) (whole ∙ c.count-count.ensures) some;
    }

pub batches-smaller : goal.batches-smaller
batches-smaller g c =
    let b = c.put_masks-batch.ensures in
    let l = b.later in
    let w = b.within in
    let e = c.count-count.ensures in
    omega (arith, l, w, e)

pub put_masks-batch-requires-clause-from : goal.put_masks-batch-requires-clause-from
put_masks-batch-requires-clause-from g c =
    let t = c.batches-test.true in
    let e = c.count-count.ensures in
    omega (arith, t, e)
