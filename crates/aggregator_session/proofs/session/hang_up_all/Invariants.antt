use Rattle.std.proofs.Common.{◌≡◌, ◌+◌, ◌++◌, List, map}
use Rattle.aggregator_session.specs.Tasks.{HangsUpAll}
use Rattle.stream_io.specs.Talk.{Talk}
use Rattle.aggregator_session.proofs.session.hang_up_all.Given as goal

-- what is hung up and what is left are all links together
abbrev pub invariant-loop : goal.invariant-loop
invariant-loop g l =
    let talk = g.P.Link.Stream.talk in
    let state = g.P.Port.state in
    record {
      gone : List Talk;
      all : map talk l.fn.links.items ≡ gone ++ map talk l.links.items;
      hung_up : HangsUpAll (state l.fn.port) gone (state l.port);
      many : l.links.len + l.counter ≡ l.end;
    }
