use Rattle.std.proofs.Common.{◌≡◌, ◌≤◌, ◌-◌, length, take, IsTrue}
use Rattle.stream_io.specs.Talk.{OnlyRead, Took}
use Rattle.round_frames.proofs.fill.take_bytes.Given as goal

-- what was taken so far
abbrev pub invariant-pieces : goal.invariant-pieces
invariant-pieces g l =
    let talk = g.S.Stream.talk in
    record {
      within : length l.bytes.items ≤ l.size;
      only : OnlyRead (talk l.initial.source) (talk l.source);
      quiet : (talk l.source).count ≡ (talk l.initial.source).count;
      steady : g.S.Faults.steady l.source ≡ g.S.Faults.steady l.initial.source;
      bytes : IsTrue (talk l.initial.source).told → l.bytes.items ≡ take (length l.bytes.items) (talk l.initial.source).left;
      took : IsTrue (talk l.initial.source).told → Took (talk l.initial.source) (talk l.source) (length l.bytes.items);
    }

abbrev pub decreases-pieces : goal.decreases-pieces
decreases-pieces g l = l.size - length l.bytes.items
