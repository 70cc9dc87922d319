use Rattle.std.proofs.Common.{◌≡◌, ◌≤◌, ℕ, arith}
use Rattle.aggregator_node.proofs.worker.serve_link.Goals as goal

as-wide : {size told room : ℕ} → size ≤ told → told ≡ room → size ≤ room
as-wide fits same = omega (arith, fits, same)

pub returns-clause-served : goal.returns-clause-served
returns-clause-served g c =
    let s = c.answer_requests-served.ensures in
    let h = c.hang_up.ensures in
    let room = s.takes in
    record {
      talk = g.P.Link.Stream.talk c.answer_requests-served.new.link;
      requests = s.serves.requests;
      done = g.P.Port.state c.answer_requests-served.new.port;
      serves = s.serves.serves;
      ends = record {
        most = s.ends.most;
        full = s.ends.full;
        answers = s.ends.answers;
        writes = λ steady fits. s.ends.writes steady (as-wide fits room);
      };
      hung_up = h.kept;
      onward = h.onward;
    }

pub returns-clause-takes : goal.returns-clause-takes
returns-clause-takes g c = c.answer_requests-served.ensures.takes
