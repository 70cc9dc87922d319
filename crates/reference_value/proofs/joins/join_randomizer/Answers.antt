use Rattle.std.proofs.Common.{◌∙◌, length, ap, arith}
use Rattle.reference_value.proofs.Xor.{length-xor}
use Rattle.reference_value.proofs.joins.join_randomizer.Goals as goal

pub returns-clause-length : goal.returns-clause-length
returns-clause-length g c =
    let size = c.in_ok-randomizer.ensures.length in
    let sum = c.requires.sum in
    ap length c.xor.ensures ∙ (length-xor c.in_ok-randomizer.field-0 c.args.sum.now (omega (arith, size, sum)) ∙ size)
