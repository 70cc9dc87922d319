use Rattle.std.proofs.Common.{◌≡◌, List, length}
use Rattle.std.specs.Option.{option_map}
use Rattle.trustee_core.specs.Approved.{ids_of}
use Rattle.trustee_node.specs.Connections.{clock_state}
use Rattle.trustee_node.specs.Turns.{IsIdle, Turn, with_code}
use Rattle.trustee_node.proofs.Asking.{Heard, Replied}
use Rattle.trustee_node.proofs.connection.answer_asks.Given as goal

-- each ask that was read had its turn and its whole reply
abbrev pub invariant-loop : goal.invariant-loop
invariant-loop g l =
    let talk = g.L.Stream.talk in
    let clock = g.C.Clock in
    record {
      turns : List Turn;
      heard : Heard l.share (option_map (λ b. ids_of b.now) l.book) (record { pass = l.fn.pass; clock = clock_state clock.told clock.answers l.fn.clock })
          (record { pass = l.pass; clock = clock_state clock.told clock.answers l.clock }) (talk l.fn.link) (talk l.link) turns;
      replied : Replied l.share (talk l.fn.link) (talk l.link) turns;
      pass : IsIdle l.lock l.share l.pass;
      fresh : with_code 11 turns ≡ 0;
      frames : l.frames ≡ l.counter;
      many : length turns ≡ l.counter;
      steady : g.L.Faults.steady l.link ≡ g.L.Faults.steady l.fn.link;
      clock_told : clock.told l.clock ≡ clock.told l.fn.clock;
    }
