use Rattle.stream_host.specs.Buffered.{buffered_talk}
use Rattle.stream_host.proofs.Ended.{ended-of, ended-then}
use Rattle.stream_host.proofs.buffered_port.BufferedPortPort.hang_up.Goals as goal

pub returns-clause-kept : goal.returns-clause-kept
returns-clause-kept g c =
    let talk = g.P.Link.Stream.talk in
    let l = c.args.link in
    let below = c.end-below.result.0 in
    let h = c.hang_up.ensures.kept in
    record {
      last = h.last;
      ended = ended-then (buffered_talk (talk l.link) l.ahead l.behind) (talk below) h.last
          (ended-of (buffered_talk (talk l.link) l.ahead l.behind) (talk below) l.ahead c.end-below.result.1 c.end-below.ensures) h.ended;
      kept = record {
        count = h.kept.count;
        once = h.kept.once;
        accept_count = h.kept.accept_count;
        waiting = h.kept.waiting;
        reaches = h.kept.reaches;
        talks = h.kept.talks;
      };
    }
