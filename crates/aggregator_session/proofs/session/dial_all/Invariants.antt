use Rattle.std.proofs.Common.{◌≡◌, ◌≤◌, length, map, drop}
use Rattle.aggregator_session.proofs.Rounds.{FirstFrom}
use Rattle.aggregator_session.specs.Runs.{first_frame}
use Rattle.aggregator_session.specs.Tasks.{AreAsked, OnlyDials}
use Rattle.session_core.specs.State.{SameAsk}
use Rattle.aggregator_session.proofs.session.dial_all.Given as goal

-- each member so far answered with masks
abbrev pub invariant-members : goal.invariant-members
invariant-members g l =
    let talk = g.P.Link.Stream.talk in
    let state = g.P.Port.state in
    record {
      run : FirstFrom l.task.desk.now.addresses.now (first_frame l.fn.session) (state l.fn.port) l.fn.session l.task.members.now
          (state l.port) l.session (drop l.i l.task.members.now) (map talk l.links.items);
      many : l.links.len ≡ l.i;
      room : length l.task.members.now ≤ l.links.cap;
      links : AreAsked g.P.Link.Faults.steady g.P.Link.Sink.room (state l.fn.port) l.links.items;
      port : OnlyDials (state l.fn.port) (state l.port);
      undialled : (state l.port).count ≤ (state l.fn.port).count;
      same : SameAsk l.fn.session l.session;
      cells : l.cells ≡ l.fn.cells;
    }
