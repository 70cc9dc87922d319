use Rattle.std.proofs.Common.{◌∙◌, ap, length}
use Rattle.dealer.proofs.Sums.{sum-of-two, length-of-two}
use Rattle.dealer.proofs.masks.Keys.random_sum.Goals as goal

pub returns-clause-sum : goal.returns-clause-sum
returns-clause-sum c =
    let first = c.random_mask-first.ensures in
    let second = c.random_mask.ensures in
    rw (← first.mask, ← second.mask) (c.xor.ensures ∙ sum-of-two c.args.params.now.n c.random_mask-first.result c.random_mask.result first.length)

pub returns-clause-length : goal.returns-clause-length
returns-clause-length c =
    ap length c.xor.ensures
    ∙ length-of-two c.args.params.now.n c.random_mask-first.result c.random_mask.result c.random_mask-first.ensures.length c.random_mask.ensures.length
