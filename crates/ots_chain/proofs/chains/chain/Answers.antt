use Rattle.std.proofs.Common.{◌∙◌, arith}
use Rattle.ots_chain.proofs.Steps.{steps_none, steps_more}
use Rattle.ots_chain.proofs.chains.chain.Goals as goal

pub steps-init : goal.steps-init
steps-init c = record {
  place = c.fill_block.ensures.place;
  value = rw (steps_none c.args.params.now c.args.id.now c.args.q c.args.i c.args.from c.args.start.now) (rw c.requires.start at c.fill_block.ensures.value);
}

pub steps-preserved : goal.steps-preserved
steps-preserved c = record {
  place = c.step.ensures.place ∙ c.steps.invariant.place;
  value = rw (steps_more c.args.params.now c.args.id.now c.args.q c.args.i c.args.from c.steps.j c.args.start.now (omega arith), ← c.steps.invariant.value, ← c.steps.invariant.place) c.step.ensures.value;
}
