use Rattle.std.proofs.Common.{is_none}
use Rattle.stream_memory.specs.Ports.{kept_of, port_state}
use Rattle.stream_memory.proofs.Links.{dialled, first_true, passed-on, port_onward, same_links}
use Rattle.stream_memory.proofs.Outcomes.{if_refused, on_err, refusal}
use Rattle.stream_memory.proofs.waiting_port.WaitingPortPort.dial.Goals as goal

pub returns-clause-link : goal.returns-clause-link
returns-clause-link c =
    let old = port_state (kept_of c.args.self.now.port) in
    let new = port_state (kept_of c.dial.new.self) in
    dialled old new _ _ _ _ (is_none c.args.self.now.hold) _ _ c.new.ensures.talk c.new.ensures.steady c.new.ensures.room c.args.place.now c.in_ok-link.ensures.link

pub returns-clause-refused : goal.returns-clause-refused
returns-clause-refused c = tt

pub returns-clause-nobody : goal.returns-clause-nobody
returns-clause-nobody c = λ told steady. tt

pub returns-clause-cause : goal.returns-clause-cause
returns-clause-cause c =
    let it = c.in_ok-link.ensures.cause in
    record { later = it.later; succeeded = it.succeeded; failed = tt }

pub returns-clause-once : goal.returns-clause-once
returns-clause-once c = c.in_ok-link.ensures.once

pub returns-clause-accepting : goal.returns-clause-accepting
returns-clause-accepting c = c.in_ok-link.ensures.accepting

pub returns-clause-onward : goal.returns-clause-onward
returns-clause-onward c =
    let old = port_state (kept_of c.args.self.now.port) in
    let new = port_state (kept_of c.dial.new.self) in
    let nothing = is_none c.args.self.now.hold in
    port_onward old new nothing c.in_ok-link.ensures.onward

pub returns-in_err-link : goal.returns-in_err-link
returns-in_err-link c =
    let old = port_state (kept_of c.args.self.now.port) in
    let new = port_state (kept_of c.dial.new.self) in
    let nothing = is_none c.args.self.now.hold in
    let it = c.in_err-link.ensures in
    let is = refusal c.from_residual.result _ c.from_residual.ensures.1 in
    record {
      link = if_refused _ _ _ is;
      refused = on_err _ _ (same_links old new nothing it.refused);
      nobody = λ told steady. on_err _ _ (it.nobody told (first_true old.steady nothing steady));
      cause = passed-on _ _ _ _ c.from_residual.ensures.0 it.cause;
      once = it.once;
      accepting = it.accepting;
      onward = port_onward old new nothing it.onward;
    }
