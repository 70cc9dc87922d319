use Rattle.std.proofs.Common.{◌≡◌, ◌&&◌, is_none, refl, subst}
use Rattle.stream_memory.specs.Links.{conversation_of, is_steady_link, room_left, talk_of}
use Rattle.stream_memory.specs.Ports.{kept_of, port_state}
use Rattle.stream_memory.specs.declared.mem_link.MemLink.{MemLink}
use Rattle.stream_io.specs.Net.{Accepts}
use Rattle.stream_io.specs.declared.port.Accepted.{Accepted}
use Rattle.stream_memory.specs.Waiting.{with_vain, with_waits}
use Rattle.stream_memory.specs.declared.waiting_link.WaitingLink.{WaitingLink}
use Rattle.stream_memory.proofs.Links.{accepted, first_true, port_onward, same_links}
use Rattle.stream_memory.proofs.Outcomes.{end_failed, has_not, link_end, link_failed}
use Rattle.stream_memory.proofs.waiting_port.WaitingPortPort.accept.Goals as goal

pub returns-in-Link-clause-link : goal.returns-in-Link-clause-link
returns-in-Link-clause-link c = λ link is.
    let old = port_state (kept_of c.args.self.now.port) in
    let new = port_state (kept_of c.accept.new.self) in
    let nothing = is_none c.args.self.now.hold in
    let same : c.new.result ≡ link = (let e : Accepted.Link c.new.result ≡ Accepted.Link link = is in cc) in
    subst (λ (l : WaitingLink MemLink). Accepts (with_waits old nothing) (with_vain (talk_of (conversation_of l.link)) l.vain)
    (is_steady_link (conversation_of l.link) && is_none l.hold) (room_left (conversation_of l.link)) (with_waits new nothing)) same
    (accepted old new _ _ _ _ nothing _ _ c.new.ensures.talk c.new.ensures.steady c.new.ensures.room (c.in-Link.ensures.link c.in-Link.link refl))

pub returns-in-Link-clause-end : goal.returns-in-Link-clause-end
returns-in-Link-clause-end c = λ told.
    ((λ is. absurd (link_end _ _ refl is)), (λ none. absurd (link_end _ _ refl ((c.in-Link.ensures.end told).1 none))))

pub returns-in-Link-clause-deaf : goal.returns-in-Link-clause-deaf
returns-in-Link-clause-deaf c = λ deaf. absurd (link_end _ _ refl (c.in-Link.ensures.deaf deaf))

pub returns-in-Link-clause-refused : goal.returns-in-Link-clause-refused
returns-in-Link-clause-refused c = λ none. absurd (none c.new.result refl)

pub returns-in-Link-clause-cause : goal.returns-in-Link-clause-cause
returns-in-Link-clause-cause c = has_not _ _ _ (link_failed _ _ refl) (c.in-Link.ensures.cause.same (link_failed _ _ refl))

pub returns-in-Link-clause-accept_cause : goal.returns-in-Link-clause-accept_cause
returns-in-Link-clause-accept_cause c =
    has_not _ _ _ (link_failed _ _ refl) (c.in-Link.ensures.accept_cause.same (link_failed _ _ refl))

pub returns-in-Link-clause-succeeds : goal.returns-in-Link-clause-succeeds
returns-in-Link-clause-succeeds c = λ steady. link_failed _ _ refl

pub returns-in-Link-clause-onward : goal.returns-in-Link-clause-onward
returns-in-Link-clause-onward c =
    let old = port_state (kept_of c.args.self.now.port) in
    let new = port_state (kept_of c.accept.new.self) in
    let nothing = is_none c.args.self.now.hold in
    port_onward old new nothing c.in-Link.ensures.onward

pub returns-in-End : goal.returns-in-End
returns-in-End c =
    let old = port_state (kept_of c.args.self.now.port) in
    let new = port_state (kept_of c.accept.new.self) in
    let nothing = is_none c.args.self.now.hold in
    let it = c.in-End.ensures in
    record {
      link = λ link is. absurd (link_end _ _ is refl);
      end = λ told. ((λ _. (it.end told).0 refl), (λ _. refl));
      deaf = λ _. refl;
      refused = λ _. same_links old new nothing (it.refused (λ link is. link_end _ _ is refl));
      cause = has_not _ _ _ (end_failed _ refl) (it.cause.same (end_failed _ refl));
      accept_cause = has_not _ _ _ (end_failed _ refl) (it.accept_cause.same (end_failed _ refl));
      succeeds = λ steady. end_failed _ refl;
      onward = port_onward old new nothing it.onward;
    }

pub returns-in-Failed : goal.returns-in-Failed
returns-in-Failed c =
    let old = port_state (kept_of c.args.self.now.port) in
    let new = port_state (kept_of c.accept.new.self) in
    let nothing = is_none c.args.self.now.hold in
    let it = c.in-Failed.ensures in
    record {
      link = λ link is. absurd (link_failed _ _ is refl);
      end = λ told. ((λ is. absurd (end_failed _ is refl)), (λ none. absurd (end_failed _ ((it.end told).1 none) refl)));
      deaf = λ deaf. absurd (end_failed _ (it.deaf deaf) refl);
      refused = λ _. same_links old new nothing (it.refused (λ link is. link_failed _ _ is refl));
      cause = record { later = it.cause.later; rose = λ _. it.cause.rose refl; same = λ other. absurd (other refl) };
      accept_cause = record { later = it.accept_cause.later; rose = λ _. it.accept_cause.rose refl; same = λ other. absurd (other refl) };
      succeeds = λ steady _. it.succeeds (first_true old.steady nothing steady) refl;
      onward = port_onward old new nothing it.onward;
    }
