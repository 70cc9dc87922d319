use Rattle.std.proofs.Common.{◌≡◌, length, take}
use Rattle.drill_schedule.specs.Draws.{bytes_of, state_at}
use Rattle.drill_schedule.proofs.draws.draw_entropy.Given as goal

-- that many draws were made, and they are written
abbrev pub invariant-bytes : goal.invariant-bytes
invariant-bytes l = record {
  size : length l.entropy ≡ 176;
  state : l.generator.state ≡ state_at l.fn.generator.state l.i;
  front : take l.i l.entropy ≡ bytes_of l.fn.generator.state l.i;
}
