use Rattle.std.proofs.Common.{[], ◌∷◌, Err, inl, inr, refl, ap, ◌∙◌}
use Rattle.round_frames.specs.declared.fault.FrameFault.TheVariants.{NoMemory, ReadFault}
use Rattle.aggregator_node.specs.Clients.{Request, Stand, longest_reply}
use Rattle.aggregator_node.proofs.Answering.{accepted_as, err_is, exact_cells, exchange_answered, never_as, ok_never, port_as, reference_as, reference_of, signed_at, unread_answers}
use Rattle.aggregator_node.proofs.Replying.{failure-short, frame-length, room-fits, room-wrote, signature-fits, step-answered, unread-ends}
use Rattle.aggregator_session.specs.Desks.{desk_state}
use Rattle.aggregator_session.specs.Signing.{signature_in}
use Rattle.aggregator_session.specs.declared.fault.SignFault.TheVariants as sign
use Rattle.aggregator_node.proofs.client.answer_next.Goals as goal

pub returns-in-Err-clause-answers : goal.returns-in-Err-clause-answers
returns-in-Err-clause-answers g c =
    let read = c.in-Err.ensures in
    record {
      requests = [];
      answers = unread_answers (desk_state c.args.desk.now) (reference_of g.R.Cells g.R.Faults c.args.cells.now) (record {
        pass = c.args.pass.now;
        port = g.P.Port.state c.args.port.now;
        faults = g.R.Faults.count c.args.cells.now;
        talk = g.L.Stream.talk c.args.link.now;
      })
          (g.L.Stream.talk c.next_request.new.source) (g.L.Stream.talk c.unread.new.sink) c.in-Err.fault c.unread.result.replies c.unread.result.ended c.unread.ensures.step
          (λ told. elim (read.told told) [ inl none ↦ inl (err_is c.in-Err.fault NoMemory none) | inr reads ↦ inr reads ]) read.only
          (record { later = read.cause.later; rose = λ is. read.cause.rose (ap Err is); same = λ never. read.cause.same (λ is. never (err_is c.in-Err.fault ReadFault is)) });
    }

pub returns-in-Err-clause-room : goal.returns-in-Err-clause-room
returns-in-Err-clause-room g c =
    let params = c.args.desk.now.key.now.params in
    room-wrote (g.met.L.Sink.rooms c.args.link.now) (g.met.L.Sink.rooms c.next_request.new.source) c.in-Err.ensures.only.room (g.L.Sink.room c.unread.new.sink) _ (longest_reply params)
    c.unread.ensures.room (failure-short params sign.NoMemory)

-- a reply has the room that the link had before its request was read
pub returns-in-Err-clause-ends : goal.returns-in-Err-clause-ends
returns-in-Err-clause-ends g c =
    let read = c.in-Err.ensures in
    unread-ends c.in-Err.fault _ _ c.unread.result.replies c.unread.result.ended c.unread.ensures.step (λ steady is. read.answers steady (ap Err is))
    (λ steady fits. (
      read.steady ∙ steady,
      room-fits (g.met.L.Sink.rooms c.args.link.now) (g.met.L.Sink.rooms c.next_request.new.source) read.only.room (failure-short c.args.desk.now.key.now.params sign.NoMemory) fits,
    ))

pub returns-in-Err-clause-steady : goal.returns-in-Err-clause-steady
returns-in-Err-clause-steady g c = c.unread.ensures.steady ∙ c.in-Err.ensures.steady

pub returns-in-Err-clause-cells : goal.returns-in-Err-clause-cells
returns-in-Err-clause-cells g c = record { set = refl; plan = refl; told = refl; steady = refl; leaves = λ told. refl }

pub returns-in-Err-clause-pass : goal.returns-in-Err-clause-pass
returns-in-Err-clause-pass g c = c.requires.ready.idle

pub returns-clause-answers : goal.returns-clause-answers
returns-clause-answers g c =
    let read = c.in-Ok.ensures in
    let w = c.write_outcome.ensures in
    let s = c.sign_in_turns-outcome.ensures in
    let result = c.sign_in_turns-outcome.result in
    let given = c.deref.result.now in
    let desk = desk_state c.args.desk.now in
    let reference = reference_of g.R.Cells g.R.Faults c.args.cells.now in
    let before : Stand = record {
      pass = c.args.pass.now;
      port = g.P.Port.state c.args.port.now;
      faults = g.R.Faults.count c.args.cells.now;
      talk = g.L.Stream.talk c.args.link.now;
    } in
    let after : Stand = record {
      pass = c.sign_in_turns-outcome.new.pass;
      port = g.P.Port.state c.sign_in_turns-outcome.new.port;
      faults = g.R.Faults.count c.sign_in_turns-outcome.new.cells;
      talk = g.L.Stream.talk c.next_request.new.source;
    } in
    let request : Request = record { members = c.in-Ok.request.0; message = c.in-Ok.request.1.items; outcome = signature_in result; added = s.shows.added } in
    record {
      requests = request ∷ [];
      answers = exchange_answered desk reference before after (g.L.Stream.talk c.write_outcome.new.sink) request c.write_outcome.result c.answered.result.replies c.answered.result.ended
          (record {
            read = record {
              reads = λ told. elim (read.told told) [ inl none ↦ absurd (ok_never c.in-Ok.request NoMemory none) | inr reads ↦ reads ];
              only = read.only;
              count = read.cause.same (λ failed. ok_never c.in-Ok.request ReadFault failed);
            };
            signed = signed_at desk reference before after request given c.deref.ensures.value (record {
              read = g.R.Cells.leaves c.args.cells.now;
              read_is = λ told. refl;
              signs = s.signs;
              shows = s.shows.shows;
              own = s.shows.own;
              accepted = accepted_as c.args.desk.now.key.now given result s.accepted;
              port = port_as given before.port after.port result s.port;
              rises = reference_as before.faults after.faults result s.cells.rises;
              succeeds = λ is. never_as result (s.cells.succeeds (exact_cells g.R.Cells g.R.Faults desk c.args.cells.now c.requires.ready.reads.0 c.requires.ready.reads.1 is));
            });
          }) w.wrote w.only w.cause c.answered.ensures;
    }

pub returns-clause-room : goal.returns-clause-room
returns-clause-room g c =
    room-wrote (g.met.L.Sink.rooms c.args.link.now) (g.met.L.Sink.rooms c.next_request.new.source) c.in-Ok.ensures.only.room (g.L.Sink.room c.write_outcome.new.sink) _
    (longest_reply c.args.desk.now.key.now.params) c.write_outcome.ensures.room (frame-length _ _ c.sign_in_turns-outcome.result c.sign_in_turns-outcome.ensures.accepted)

pub returns-clause-ends : goal.returns-clause-ends
returns-clause-ends g c =
    let read = c.in-Ok.ensures in
    step-answered c.write_outcome.result (signature_in c.sign_in_turns-outcome.result) c.answered.result.replies c.answered.result.ended c.answered.ensures
    (λ steady fits. c.write_outcome.ensures.succeeds (read.steady ∙ steady)
    (room-fits (g.met.L.Sink.rooms c.args.link.now) (g.met.L.Sink.rooms c.next_request.new.source) read.only.room (frame-length _ _ c.sign_in_turns-outcome.result c.sign_in_turns-outcome.ensures.accepted) fits))

pub returns-clause-steady : goal.returns-clause-steady
returns-clause-steady g c = c.write_outcome.ensures.steady ∙ c.in-Ok.ensures.steady

pub returns-clause-cells : goal.returns-clause-cells
returns-clause-cells g c = c.sign_in_turns-outcome.ensures.cells.stays

pub returns-clause-pass : goal.returns-clause-pass
returns-clause-pass g c = c.sign_in_turns-outcome.ensures.pass

pub sign_in_turns-outcome-requires-clause-ready : goal.sign_in_turns-outcome-requires-clause-ready
sign_in_turns-outcome-requires-clause-ready g c κs within = c.requires.ready

pub write_outcome-requires : goal.write_outcome-requires
write_outcome-requires g c = signature-fits c.args.desk.now.key.now c.deref.result.now c.sign_in_turns-outcome.result c.sign_in_turns-outcome.ensures.accepted
