use Rattle.tool_keys.specs.Deal.{no_threshold}
use Rattle.tool_keys.proofs.Plans.{threshold_byte, too_many}
use Rattle.tool_keys.proofs.deal.plan_of.Goals as goal

pub returns-in-Err-BadThreshold-clause-refused : goal.returns-in-Err-BadThreshold-clause-refused
returns-in-Err-BadThreshold-clause-refused c =
    let bad = c.in-Err-BadThreshold.ensures.threshold.0 (cc) in
    let n = c.byte_of.ensures in
    let k = c.byte_of-2.ensures in
    λ entropy. no_threshold c.args.params.now c.requires.set (λ t. bad (rw (n, k) (threshold_byte _ _ t)))

pub returns-in-Err-TooManyCoalitions-clause-refused : goal.returns-in-Err-TooManyCoalitions-clause-refused
returns-in-Err-TooManyCoalitions-clause-refused c =
    let many = (c.in-Err-TooManyCoalitions.ensures.leaves c.in-Err-TooManyCoalitions.count).0 (cc) in
    λ entropy. too_many _ entropy c.args.params.now _ c.requires.set (rw (c.byte_of.ensures, c.byte_of-2.ensures) at many.0) (rw (c.byte_of.ensures, c.byte_of-2.ensures) at many.1) many.2
