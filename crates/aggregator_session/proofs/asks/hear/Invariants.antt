use Rattle.std.proofs.Common.{◌≡◌, ◌+◌, ◌++◌, ℕ, IsTrue}
use Rattle.aggregator_session.specs.Hearing.{hear}
use Rattle.stream_io.specs.Talk.{OnlyRead}
use Rattle.aggregator_session.proofs.asks.hear.Given as goal

-- what is heard from here on is heard of the link
abbrev pub invariant-loop : goal.invariant-loop
invariant-loop g l =
    let talk = g.L.Stream.talk in
    record {
      only : OnlyRead (talk l.fn.link) (talk l.link);
      all : IsTrue (talk l.fn.link).told → (talk l.link).taken ++ (talk l.link).left ≡ (talk l.fn.link).taken ++ (talk l.fn.link).left;
      heard : IsTrue (talk l.fn.link).told → (most : ℕ) → most + l.counter ≡ 8
          → hear l.fn.session l.member 8 (talk l.fn.link).left ≡ hear l.fn.session l.member most (talk l.link).left;
      quiet : (talk l.link).count ≡ (talk l.fn.link).count;
      session : l.session ≡ l.fn.session;
      steady : g.L.Faults.steady l.link ≡ g.L.Faults.steady l.fn.link;
    }
