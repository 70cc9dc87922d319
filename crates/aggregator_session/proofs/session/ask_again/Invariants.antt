use Rattle.std.proofs.Common.{◌≡◌, ◌+◌, ◌<◌, ◌≤◌, ℕ, IsTrue, All, get_or, length, map, take, drop}
use Rattle.aggregator_session.proofs.Frames.{frames-of}
use Rattle.aggregator_session.proofs.Rounds.{SecondFrom}
use Rattle.reference_value.specs.Stay.{CellsStay}
use Rattle.session_core.specs.State.{SameAsk}
use Rattle.aggregator_session.proofs.session.ask_again.Given as goal

-- each member so far answered with masks
abbrev pub invariant-members : goal.invariant-members
invariant-members g l =
    let talk = g.L.Stream.talk in
    let cells = g.R.Cells in
    let is_steady = λ (link : _). IsTrue (g.L.Faults.steady link) in
    let is_wide = λ (link : _). 92 + length l.task.message.now ≤ g.L.Sink.room link in
    record {
      run : SecondFrom (frames-of (cells.told l.fn.cells) (cells.leaves l.fn.cells) l.fn.session l.task.message.now) l.task.members.now (map talk l.fn.links.items) l.session
          (drop l.i l.task.members.now) (map talk (drop l.i l.links.items)) (map talk (take l.i l.links.items));
      many : length l.links.items ≡ length l.task.members.now;
      steady : All is_steady l.fn.links.items → All is_steady l.links.items;
      rooms : All is_wide l.fn.links.items → (k : ℕ) (other : _) → l.i ≤ k → k < length l.links.items → is_wide (get_or l.links.items k other);
      same : SameAsk l.fn.session l.session;
      count : g.R.Faults.count l.fn.cells ≤ g.R.Faults.count l.cells;
      stays : CellsStay cells g.R.Faults l.fn.cells l.cells;
    }
