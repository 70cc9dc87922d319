use Rattle.std.proofs.Common.{Some, ap, ◌∙◌, refl}
use Rattle.aggregator_node.specs.Clients.{longest_reply}
use Rattle.reference_value.proofs.Staying.{stays-then}
use Rattle.aggregator_node.proofs.Answering.{same_cells}
use Rattle.aggregator_node.proofs.Replying.{frames-below, frames-full, frames-most, frames-one, full-read, full-written, room-left, room-more, room-start}
use Rattle.aggregator_node.proofs.Serving.{leads-end, leads-full, leads-more, leads-none}
use Rattle.node_workers.specs.declared.served.ServedEnd.{ServedEnd}
use Rattle.aggregator_node.proofs.client.answer_requests.Goals as goal

pub returns-in-Some-clause-serves : goal.returns-in-Some-clause-serves
returns-in-Some-clause-serves g c =
    let v = c.requests.invariant in
    let step = c.answer_next-step in
    leads-end c.requests.frames step.result.replies v.goes (same_cells g.R.Cells g.R.Faults c.args.cells.now c.requests.cells v.stays) step.ensures.answers c.in-Some.is

pub returns-clause-serves : goal.returns-clause-serves
returns-clause-serves g c = leads-full c.requests.frames c.requests.invariant.goes

pub requests-preserved : goal.requests-preserved
requests-preserved g c =
    let v = c.requests.invariant in
    let step = c.answer_next-step.ensures in
    let replies = c.answer_next-step.result.replies in
    record {
      goes = leads-more c.requests.frames replies v.goes (same_cells g.R.Cells g.R.Faults c.args.cells.now c.requests.cells v.stays) step.answers c.in_default.is;
      pass = step.pass;
      frames = frames-one v.frames replies (step.ends.one c.in_default.is);
      room = room-more (g.L.Sink.room c.args.link.now) (g.L.Sink.room c.requests.link) (g.L.Sink.room c.answer_next-step.new.link) c.requests.counter (longest_reply c.args.desk.now.key.now.params) v.room
          step.room;
      stays = stays-then v.stays step.cells;
      steady = step.steady ∙ v.steady;
    }

pub requests-init : goal.requests-init
requests-init g c = record {
  goes = leads-none;
  pass = c.requires.ready.idle;
  frames = refl;
  room = room-start (g.L.Sink.room c.args.link.now) (longest_reply c.args.desk.now.key.now.params);
  stays = record { set = refl; plan = refl; told = refl; steady = refl; leaves = λ told. refl };
  steady = refl;
}

pub returns-in-Some-clause-ends : goal.returns-in-Some-clause-ends
returns-in-Some-clause-ends g c =
    let v = c.requests.invariant in
    let step = c.answer_next-step.ensures.ends in
    let some_end = λ (end : ServedEnd). Some end in
    record {
      most = frames-below v.frames c.answer_next-step.result.replies step.most c.requests-test.true;
      full = λ is. absurd (step.not_full (c.in-Some.is ∙ ap some_end is));
      answers = λ steady is. step.reads (v.steady ∙ steady) (c.in-Some.is ∙ ap some_end is);
      writes = λ steady fits is.
          let left = room-left c.requests.counter (longest_reply c.args.desk.now.key.now.params) (g.L.Sink.room c.args.link.now) (g.L.Sink.room c.requests.link) c.requests-test.true fits v.room in
          step.writes (v.steady ∙ steady) left (c.in-Some.is ∙ ap some_end is);
    }

pub returns-clause-ends : goal.returns-clause-ends
returns-clause-ends g c =
    let so_far = c.requests.invariant.frames in
    let end = c.requests.auto.counter-end in
    record {
      most = frames-most so_far end;
      full = λ _. frames-full so_far c.requests-test.false end;
      answers = λ steady is. full-read is;
      writes = λ steady fits is. full-written is;
    }

pub returns-in-Some-clause-takes : goal.returns-in-Some-clause-takes
returns-in-Some-clause-takes g c = g.met.L.Sink.rooms c.args.link.now

pub returns-clause-takes : goal.returns-clause-takes
returns-clause-takes g c = g.met.L.Sink.rooms c.args.link.now

pub returns-in-Some-clause-steady : goal.returns-in-Some-clause-steady
returns-in-Some-clause-steady g c = c.answer_next-step.ensures.steady ∙ c.requests.invariant.steady

pub returns-clause-steady : goal.returns-clause-steady
returns-clause-steady g c = c.requests.invariant.steady

pub returns-in-Some-clause-cells : goal.returns-in-Some-clause-cells
returns-in-Some-clause-cells g c = stays-then c.requests.invariant.stays c.answer_next-step.ensures.cells

pub returns-clause-cells : goal.returns-clause-cells
returns-clause-cells g c = c.requests.invariant.stays

pub returns-in-Some-clause-pass : goal.returns-in-Some-clause-pass
returns-in-Some-clause-pass g c = c.answer_next-step.ensures.pass

pub returns-clause-pass : goal.returns-clause-pass
returns-clause-pass g c = c.requests.invariant.pass

pub answer_next-step-requires-clause-ready : goal.answer_next-step-requires-clause-ready
answer_next-step-requires-clause-ready g c κs within =
    let v = c.requests.invariant in
    let reads = c.requires.ready.reads in
    record { idle = v.pass; reads = (v.stays.set ∙ reads.0, v.stays.plan ∙ reads.1) }
