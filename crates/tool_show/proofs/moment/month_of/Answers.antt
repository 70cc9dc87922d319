use Rattle.std.proofs.Common.{arith, ◌+◌, ◌-◌, ◌≡◌, ◌≤◌}
use Rattle.tool_show.proofs.Calendar.{months-more, no-months, not-last}
use Rattle.tool_show.specs.Moments.{month_length}
use Rattle.tool_show.proofs.moment.month_of.Goals as goal

pub loop-length-init : goal.loop-length-init
loop-length-init c = record {
  before = omega (arith, no-months c.args.year);
  length = c.month_length-length.ensures;
  first = omega arith;
  last = omega arith;
}

pub loop-length-preserved : goal.loop-length-preserved
loop-length-preserved c =
    let so_far = c.loop-length.invariant in
    let month = c.loop-length.month in
    let year = c.args.year in
    let e : month + 1 - 1 ≡ month = omega arith in
    let past : month_length year month ≤ c.loop-length.rest = omega (arith, so_far.length, c.loop-length-test.true) in
    let more = months-more year month so_far.first in
    record {
      before = rw e (omega (arith, so_far.before, more, so_far.length));
      length = c.month_length-length-in-loop-length.ensures;
      first = omega arith;
      last = not-last year month c.args.day c.loop-length.rest so_far.first so_far.last so_far.before c.requires past;
    }

pub loop-length-smaller : goal.loop-length-smaller
loop-length-smaller c =
    let so_far = c.loop-length.invariant in
    let month = c.loop-length.month in
    let year = c.args.year in
    let past : month_length year month ≤ c.loop-length.rest = omega (arith, so_far.length, c.loop-length-test.true) in
    omega (arith, not-last year month c.args.day c.loop-length.rest so_far.first so_far.last so_far.before c.requires past)
