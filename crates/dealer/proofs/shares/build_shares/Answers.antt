use Rattle.std.proofs.Common.{◌≡◌, ◌+◌, ◌-◌, ◌<◌, length, refl, arith}
use Rattle.dealer.specs.Material.{dealing_with}
use Rattle.dealer.proofs.FirstShares.{all_shares, more_shares, no_shares, some_shares}
use Rattle.dealer.proofs.Mapped.{at_read}
use Rattle.dealer.proofs.shares.build_shares.Goals as goal

pub invariant_of-push-clause-plan_is : goal.invariant_of-push-clause-plan_is
invariant_of-push-clause-plan_is c = c.n.ensures.plan

pub invariant_of-push-clause-key_length : goal.invariant_of-push-clause-key_length
invariant_of-push-clause-key_length c = at_read (λ key. length key ≡ 32) _ _ _ c.args.material.now.key_lengths c.index-key.ensures (omega arith)

pub trustees-preserved : goal.trustees-preserved
trustees-preserved c =
    let d = dealing_with c.args.material.now in
    let next : c.trustees.t + 1 - 1 ≡ c.trustees.t - 1 + 1 = omega arith in
    rw next (more_shares d (c.trustees.t - 1) c.trustees.shares.items _ _ c.trustees.invariant (record {
      within = omega arith;
      member = omega arith;
      key = c.index-key.ensures;
      params = refl;
      plan = refl;
      id = refl;
    }) c.in_ok-push.ensures.items)

pub trustees-init : goal.trustees-init
trustees-init c = no_shares (dealing_with c.args.material.now) c.in_ok-shares.shares.items c.in_ok-shares.ensures.items

pub returns-clause-shares : goal.returns-clause-shares
returns-clause-shares c =
    let all : c.trustees.t - 1 ≡ c.args.material.now.plan.n = omega (arith, c.trustees-test.false, c.trustees.auto.t, c.trustees.auto.t-end, c.n-t-end.ensures.value) in
    all_shares (dealing_with c.args.material.now) (c.trustees.t - 1) c.trustees.shares.items c.trustees.invariant all c.args.material.now.key_count

pub returns-clause-some : goal.returns-clause-some
returns-clause-some c =
    let some : 0 < c.trustees.t - 1 = omega (arith, c.trustees-test.false, c.n-t-end.ensures.value, c.n-t-end.ensures.plan.threshold.two_or_more, c.n-t-end.ensures.plan.threshold.k_within) in
    some_shares (dealing_with c.args.material.now) (c.trustees.t - 1) c.trustees.shares.items c.trustees.invariant some
