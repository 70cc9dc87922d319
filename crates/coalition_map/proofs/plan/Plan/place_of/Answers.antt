use Rattle.std.proofs.Common.{◌≡◌, ◌+◌, ◌-◌, ◌%◌, ◌<◌, sym, ◌∙◌, arith}
use Rattle.std.proofs.lemmas.Nat.{and_mask}
use lib.Bits.{bit_and}
use Rattle.coalition_map.proofs.CoalitionLaws.{binomial-small}
use Rattle.coalition_map.proofs.Ranking.{start, turn, step_taken, step_passed, ended}
use Rattle.coalition_map.proofs.plan.Plan.place_of.Goals as goal
use Rattle.coalition_map.proofs.plan.Plan.place_of.Goals.{then-bits-eq1, else-bits-eq1}

pub trustees-init : goal.trustees-init
trustees-init c =
    let left : c.self.inside.n + 1 - 1 ≡ c.self.inside.n = omega arith in
    rw left (start _ _ _ (omega (arith, c.self.invariant.plan.threshold.n_within)) (rw (← c.self.view_is) at c.requires.within) (rw (← c.self.view_is) at c.requires.size))

pub overflow_sub-self-inside : goal.overflow_sub-self-inside
overflow_sub-self-inside c = (turn _ _ _ _ _ _ _ c.trustees-test.true c.trustees.invariant).t_within

pub binomial_of-number-requires-clause-order : goal.binomial_of-number-requires-clause-order
binomial_of-number-requires-clause-order c = (turn _ _ _ _ _ _ _ c.trustees-test.true c.trustees.invariant).fits

pub overflow_add-number : goal.overflow_add-number
overflow_add-number c =
    let below = (turn _ _ _ _ _ _ _ c.trustees-test.true c.trustees.invariant).below in
    omega (arith, below, c.binomial_of-number.ensures, binomial-small c.self.inside.n c.self.inside.k c.self.invariant.plan.threshold.n_within)

pub trustees-smaller : goal.trustees-smaller
trustees-smaller c =
    let now = turn _ _ _ _ _ _ _ c.trustees-test.true c.trustees.invariant in
    let smaller : c.self.inside.n + 1 - (c.trustees.trustee + 1) < c.self.inside.n + 1 - c.trustees.trustee = omega (arith, now.t_within) in
    smaller

pub trustees-preserved : goal.trustees-preserved
trustees-preserved c =
    let now = turn _ _ _ _ _ _ _ c.trustees-test.true c.trustees.invariant in
    let low : bit_and c.trustees.bits 1 ≡ c.trustees.bits % 2 = and_mask c.trustees.bits 1 in
    elim c.if-bits-eq1.branch [
      | then-bits-eq1 w ↦
          rw (w.number-is, w.wanted-is)
          (step_taken _ _ _ _ _ _ _ (sym low ∙ w.if-bits-eq1.true) c.trustees-test.true now.t_within c.trustees.invariant)
      | else-bits-eq1 w ↦
          rw (w.number-is, w.wanted-is, w.binomial_of-number.ensures)
          (step_passed _ _ _ _ _ _ _ (λ e. w.if-bits-eq1.false (low ∙ e)) c.trustees-test.true now.t_within c.trustees.invariant)
    ]

pub returns : goal.returns
returns c =
    let place = ended _ _ _ _ _ _ _ _ c.trustees-test.false c.trustees.invariant in
    rw (← c.self.view_is) (place.within, place.at)
