use Rattle.std.proofs.Common.{◌≡◌, ◌≤◌, ◌-◌, length, take, IsTrue}
use Rattle.stream_io.specs.Talk.{OnlyRead, Took}
use Rattle.stream_io.proofs.source.read_whole.Given as goal

-- the bytes before `at` were read
abbrev pub invariant-pieces : goal.invariant-pieces
invariant-pieces g l =
    let talk = g.S.Stream.talk in
    record {
      within : l.at ≤ length l.out;
      only : OnlyRead (talk l.initial.source) (talk l.source);
      quiet : (talk l.source).count ≡ (talk l.initial.source).count;
      steady : g.S.Faults.steady l.source ≡ g.S.Faults.steady l.initial.source;
      bytes : IsTrue (talk l.initial.source).told → take l.at l.out ≡ take l.at (talk l.initial.source).left;
      took : IsTrue (talk l.initial.source).told → Took (talk l.initial.source) (talk l.source) l.at;
    }

abbrev pub decreases-pieces : goal.decreases-pieces
decreases-pieces g l = length l.out - l.at
