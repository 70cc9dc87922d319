use Rattle.std.proofs.Common.{◌≡◌, ◌+◌, ◌-◌, ◌<◌, ◌∙◌, arith}
use Rattle.coalition_map.proofs.CoalitionLaws.{IsSubset-coalition}
use Rattle.coalition_map.proofs.Unranking.{start, turn, step_taken, step_passed, ended}
use Rattle.coalition_map.proofs.plan.Plan.members.Goals as goal
use Rattle.coalition_map.proofs.plan.Plan.members.Goals.{then-rest-having, else-rest-having}

pub trustees-init : goal.trustees-init
trustees-init c =
    let left : c.self.inside.n + 1 - 1 ≡ c.self.inside.n = omega arith in
    rw left (start _ _ _ (rw (← c.self.view_is) at c.requires))

pub overflow_sub-self-inside : goal.overflow_sub-self-inside
overflow_sub-self-inside c = (turn _ _ _ _ _ _ _ c.trustees-test.true c.trustees.invariant).t_within

pub binomial_of-having-requires-clause-order : goal.binomial_of-having-requires-clause-order
binomial_of-having-requires-clause-order c = (turn _ _ _ _ _ _ _ c.trustees-test.true c.trustees.invariant).fits

pub trustees-smaller : goal.trustees-smaller
trustees-smaller c =
    let now = turn _ _ _ _ _ _ _ c.trustees-test.true c.trustees.invariant in
    let smaller : c.self.inside.n + 1 - (c.trustees.trustee + 1) < c.self.inside.n + 1 - c.trustees.trustee = omega (arith, now.t_within) in
    smaller

pub trustees-preserved : goal.trustees-preserved
trustees-preserved c =
    let now = turn _ _ _ _ _ _ _ c.trustees-test.true c.trustees.invariant in
    elim c.if-rest-having.branch [
      | then-rest-having w ↦
          rw (w.bits-is, w.wanted-is, w.rest-is)
          (step_taken _ _ _ _ _ _ _ c.self.invariant.plan.threshold.n_within c.trustees-test.true now.t_within
          (rw c.binomial_of-having.ensures at w.if-rest-having.true) c.trustees.invariant)
      | else-rest-having w ↦
          rw (w.bits-is, w.wanted-is, w.rest-is, c.binomial_of-having.ensures)
          (step_passed _ _ _ _ _ _ _ c.trustees-test.true now.t_within
          (rw c.binomial_of-having.ensures at w.if-rest-having.false) c.trustees.invariant)
    ]

pub returns-clause-members : goal.returns-clause-members
returns-clause-members c = rw (← c.self.view_is) (c.of_bits.ensures ∙ ended _ _ _ _ _ _ _ _ c.trustees-test.false c.trustees.invariant)

pub returns-clause-subset : goal.returns-clause-subset
returns-clause-subset c = rw (returns-clause-members c) (IsSubset-coalition c.args.self.now c.args.c c.requires)
