use Rattle.std.proofs.Common.{◌/◌, ◌+◌, arith}
use Rattle.tool_show.proofs.Calendar.{cycles, length-least, years-least, years-more}
use Rattle.tool_show.proofs.moment.year_of.Goals as goal

pub loop-length-init : goal.loop-length-init
loop-length-init c = record {
  before = omega (arith, cycles (c.args.days / 146097));
  length = c.year_length-length.ensures;
}

pub overflow_add-count-in-loop-length : goal.overflow_add-count-in-loop-length
overflow_add-count-in-loop-length c = omega (arith, years-least c.loop-length.count)

pub overflow_add-count-in-loop-length-2 : goal.overflow_add-count-in-loop-length-2
overflow_add-count-in-loop-length-2 c = omega (arith, years-least c.loop-length.count)

pub loop-length-preserved : goal.loop-length-preserved
loop-length-preserved c = record {
  before = omega (arith, years-more c.loop-length.count);
  length = c.year_length-length-in-loop-length.ensures;
}

pub loop-length-smaller : goal.loop-length-smaller
loop-length-smaller c = omega (arith, length-least (1970 + c.loop-length.count))

pub overflow_add-result : goal.overflow_add-result
overflow_add-result c = omega (arith, years-least c.loop-length.count)
