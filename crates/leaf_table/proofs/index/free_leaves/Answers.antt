use Rattle.std.proofs.Common.{◌∙◌, ◌<◌, length, arith}
use Rattle.std.proofs.lemmas.List.{length-set}
use Rattle.coalition_map.specs.Coalitions.{count_of}
use Rattle.slot_file.specs.Cache.{state_of}
use Rattle.leaf_table.proofs.Walking.{fewer-free, more-free}
use Rattle.leaf_table.proofs.index.free_leaves.Goals as goal

pub coalitions-preserved : goal.coalitions-preserved
coalitions-preserved g c =
    let plan = c.args.plan.now in
    let free = c.coalitions.free.items in
    let k = c.coalitions.c in
    let within : k < length free = omega (arith, c.coalitions-test.true, c.coalitions.invariant.0, c.count-c-end.ensures.value) in (
      length-set free k c.next_free.result ∙ c.coalitions.invariant.0,
      more-free plan (state_of c.args.slots.now).slots k free c.coalitions.invariant.1 within c.next_free.result c.next_free.ensures,
    )

pub returns-clause-free : goal.returns-clause-free
returns-clause-free g c =
    fewer-free c.args.plan.now (state_of c.args.slots.now).slots c.coalitions.c c.coalitions.free.items c.coalitions.invariant.1
    (count_of c.args.plan.now) (omega (arith, c.coalitions-test.false, c.count-c-end.ensures.value))
