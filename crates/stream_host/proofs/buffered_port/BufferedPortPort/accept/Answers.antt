use Rattle.std.proofs.Common.{refl}
use Rattle.std.proofs.lemmas.Bool.{false≢true}
use Rattle.stream_host.proofs.Accepting.{accepts-over, end≢failed, end≢link, failed≢end, failed≢link, link≢end, link≢failed, onward, rises, same-links}
use Rattle.stream_host.proofs.buffered_port.BufferedPortPort.accept.Goals as goal

pub returns-in-Link-clause-link : goal.returns-in-Link-clause-link
returns-in-Link-clause-link g c link is =
    accepts-over g.P.Link.Stream.talk _ _ c.in-Link.link c.new.result link _ _ is c.new.ensures.link c.new.ensures.ahead
    c.new.ensures.behind (g.met.P.Link.Sink.rooms c.in-Link.link) (c.in-Link.ensures.link c.in-Link.link refl)

pub returns-in-Link-clause-end : goal.returns-in-Link-clause-end
returns-in-Link-clause-end g c told =
    let x = c.in-Link.ensures.end told in
    ((λ e. absurd (link≢end e)), (λ none. absurd (link≢end (x.1 none))))

pub returns-in-Link-clause-deaf : goal.returns-in-Link-clause-deaf
returns-in-Link-clause-deaf g c none = absurd (link≢end (c.in-Link.ensures.deaf none))

pub returns-in-Link-clause-refused : goal.returns-in-Link-clause-refused
returns-in-Link-clause-refused g c other = absurd (other c.new.result refl)

pub returns-in-Link-clause-cause : goal.returns-in-Link-clause-cause
returns-in-Link-clause-cause g c = rises (λ e. absurd (link≢failed e)) (λ e. absurd (link≢failed e)) c.in-Link.ensures.cause

pub returns-in-Link-clause-accept_cause : goal.returns-in-Link-clause-accept_cause
returns-in-Link-clause-accept_cause g c = rises (λ e. absurd (link≢failed e)) (λ e. absurd (link≢failed e)) c.in-Link.ensures.accept_cause

pub returns-in-Link-clause-succeeds : goal.returns-in-Link-clause-succeeds
returns-in-Link-clause-succeeds g c steady = absurd (false≢true steady)

pub returns-in-Link-clause-onward : goal.returns-in-Link-clause-onward
returns-in-Link-clause-onward g c = onward _ _ c.in-Link.ensures.onward

pub returns-in-End-clause-link : goal.returns-in-End-clause-link
returns-in-End-clause-link g c link e = absurd (end≢link e)

pub returns-in-End-clause-end : goal.returns-in-End-clause-end
returns-in-End-clause-end g c told = ((λ e. (c.in-End.ensures.end told).0 refl), (λ none. refl))

pub returns-in-End-clause-deaf : goal.returns-in-End-clause-deaf
returns-in-End-clause-deaf g c none = refl

pub returns-in-End-clause-refused : goal.returns-in-End-clause-refused
returns-in-End-clause-refused g c other = same-links _ _ (c.in-End.ensures.refused (λ link e. end≢link e))

pub returns-in-End-clause-cause : goal.returns-in-End-clause-cause
returns-in-End-clause-cause g c = rises (λ e. absurd (end≢failed e)) (λ e. absurd (end≢failed e)) c.in-End.ensures.cause

pub returns-in-End-clause-accept_cause : goal.returns-in-End-clause-accept_cause
returns-in-End-clause-accept_cause g c = rises (λ e. absurd (end≢failed e)) (λ e. absurd (end≢failed e)) c.in-End.ensures.accept_cause

pub returns-in-End-clause-succeeds : goal.returns-in-End-clause-succeeds
returns-in-End-clause-succeeds g c steady = absurd (false≢true steady)

pub returns-in-End-clause-onward : goal.returns-in-End-clause-onward
returns-in-End-clause-onward g c = onward _ _ c.in-End.ensures.onward

pub returns-in-Failed-clause-link : goal.returns-in-Failed-clause-link
returns-in-Failed-clause-link g c link e = absurd (failed≢link e)

pub returns-in-Failed-clause-end : goal.returns-in-Failed-clause-end
returns-in-Failed-clause-end g c told =
    let x = c.in-Failed.ensures.end told in
    ((λ e. absurd (failed≢end e)), (λ none. absurd (failed≢end (x.1 none))))

pub returns-in-Failed-clause-deaf : goal.returns-in-Failed-clause-deaf
returns-in-Failed-clause-deaf g c none = absurd (failed≢end (c.in-Failed.ensures.deaf none))

pub returns-in-Failed-clause-refused : goal.returns-in-Failed-clause-refused
returns-in-Failed-clause-refused g c other = same-links _ _ (c.in-Failed.ensures.refused (λ link e. failed≢link e))

pub returns-in-Failed-clause-cause : goal.returns-in-Failed-clause-cause
returns-in-Failed-clause-cause g c = rises (λ e. refl) (λ e. refl) c.in-Failed.ensures.cause

pub returns-in-Failed-clause-accept_cause : goal.returns-in-Failed-clause-accept_cause
returns-in-Failed-clause-accept_cause g c = rises (λ e. refl) (λ e. refl) c.in-Failed.ensures.accept_cause

pub returns-in-Failed-clause-succeeds : goal.returns-in-Failed-clause-succeeds
returns-in-Failed-clause-succeeds g c steady = absurd (false≢true steady)

pub returns-in-Failed-clause-onward : goal.returns-in-Failed-clause-onward
returns-in-Failed-clause-onward g c = onward _ _ c.in-Failed.ensures.onward
