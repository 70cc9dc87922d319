use Rattle.std.proofs.Common.{◌∙◌, ap, length}
use Rattle.dealer.proofs.Sums.{sum-of-two, length-of-two}
use Rattle.dealer.proofs.masks.Keys.chain_sum.Goals as goal

pub returns-clause-sum : goal.returns-clause-sum
returns-clause-sum c =
    let first = c.chain_mask-first.ensures in
    let second = c.chain_mask.ensures in
    rw (← first.mask, ← second.mask) (c.xor.ensures ∙ sum-of-two c.args.params.now.n c.chain_mask-first.result c.chain_mask.result first.length)

pub returns-clause-length : goal.returns-clause-length
returns-clause-length c =
    ap length c.xor.ensures
    ∙ length-of-two c.args.params.now.n c.chain_mask-first.result c.chain_mask.result c.chain_mask-first.ensures.length c.chain_mask.ensures.length
