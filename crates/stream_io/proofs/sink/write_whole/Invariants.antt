use Rattle.std.proofs.Common.{length, ◌-◌, ◌≡◌, ◌+◌, ◌≤◌, ◌++◌, take, IsTrue}
use Rattle.stream_io.specs.Talk.{OnlyWrote}
use Rattle.stream_io.proofs.sink.write_whole.Given as goal

-- the bytes before `at` were written
abbrev pub invariant-pieces : goal.invariant-pieces
invariant-pieces g l =
    let talk = g.K.Stream.talk in
    record {
      within : l.at ≤ length l.bytes;
      only : OnlyWrote (talk l.initial.sink) (talk l.sink);
      quiet : (talk l.sink).count ≡ (talk l.initial.sink).count;
      steady : g.K.Faults.steady l.sink ≡ g.K.Faults.steady l.initial.sink;
      room : g.K.Sink.room l.initial.sink ≤ g.K.Sink.room l.sink + l.at;
      wrote : IsTrue (talk l.initial.sink).told → (talk l.sink).written ≡ (talk l.initial.sink).written ++ take l.at l.bytes;
    }

abbrev pub decreases-pieces : goal.decreases-pieces
decreases-pieces g l = length l.bytes - l.at
