use Rattle.std.proofs.Common.{◌≤◌, sym, arith}
use Rattle.std.proofs.lemmas.Nat.{mul-le}
use Rattle.coalition_map.proofs.CoalitionLaws.{binomial-zero, binomial-quotient, binomial-small}
use Rattle.coalition_map.proofs.plan.binomial_of.Goals as goal

pub chosen-init : goal.chosen-init
chosen-init c = sym (binomial-zero c.args.n)

pub overflow_mul-ways : goal.overflow_mul-ways
overflow_mul-ways c =
    let small : c.chosen.ways ≤ 4096 = rw c.chosen.invariant (binomial-small c.args.n c.chosen.i c.requires.small) in
    omega (arith, mul-le c.chosen.ways c.from.result 4096 12 small (omega arith))

pub chosen-preserved : goal.chosen-preserved
chosen-preserved c = rw (c.chosen.invariant, c.from.ensures, c.from-in-chosen.ensures) (binomial-quotient c.args.n c.chosen.i (omega arith))
