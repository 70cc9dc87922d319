use Rattle.aggregator_session.specs.Desks.{desk_state}
use Rattle.std.proofs.Common.{◌≡◌, ◌+◌, ◌*◌, ◌≤◌, ℕ, List}
use Rattle.aggregator_node.specs.Clients.{HasServed, ReferenceState, Request, Serves, Stand, longest_reply}
use Rattle.aggregator_node.specs.Turns.{IsIdle}
use Rattle.reference_value.specs.Stay.{CellsStay}
use Rattle.node_workers.specs.declared.served.ServedEnd.{ServedEnd}
use Rattle.aggregator_node.proofs.client.answer_requests.Given as goal

-- whatever comes of the connection from here on comes of it from its start, with the replies so far
abbrev pub invariant-requests : goal.invariant-requests
invariant-requests g l =
    let reference : ReferenceState = record { told = g.R.Cells.told l.fn.cells; steady = g.R.Faults.steady l.fn.cells; leaves = g.R.Cells.leaves l.fn.cells } in
    record {
      goes : (requests : List Request) (replies : ℕ) (end : ServedEnd) (last : Stand)
          → Serves (desk_state l.desk) reference (record { pass = l.pass; port = g.P.Port.state l.port; faults = g.R.Faults.count l.cells; talk = g.L.Stream.talk l.link }) requests replies end last
          → HasServed (desk_state l.desk) reference (record { pass = l.fn.pass; port = g.P.Port.state l.fn.port; faults = g.R.Faults.count l.fn.cells; talk = g.L.Stream.talk l.fn.link }) last (l.frames + replies) end;
      pass : IsIdle l.lock l.desk.plan.now l.pass;
      frames : l.frames ≡ l.counter;
      stays : CellsStay g.R.Cells g.R.Faults l.fn.cells l.cells;
      room : g.L.Sink.room l.fn.link ≤ g.L.Sink.room l.link + l.counter * longest_reply l.desk.key.now.params;
      steady : g.L.Faults.steady l.link ≡ g.L.Faults.steady l.fn.link;
    }
