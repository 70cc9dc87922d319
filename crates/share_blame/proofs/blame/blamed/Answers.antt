use Rattle.std.proofs.Common.{◌≤◌, ◌∙◌, ap, arith, drop, refl, sym}
use Rattle.coalition_map.specs.Coalitions.{PlanNumbers}
use Rattle.coalition_map.proofs.MemberLaws.{IsAscendingIn-trustees_from, IsStrictlyIncreasing-from_IsAscendingIn}
use Rattle.coalition_map.specs.Members.{member_numbers}
use Rattle.share_blame.specs.Blamed.{IsBlamed}
use Rattle.share_blame.specs.Commits.{PagesStay, leaves_on, pages_of}
use Rattle.share_blame.proofs.Naming.{below-more, below-none, below-other, named-all, named-more, named-none, named-other}
use Rattle.share_blame.proofs.blame.blamed.Goals as goal
use Rattle.share_blame.proofs.blame.blamed.Goals.{then-branch, else-branch}

pub trustees-init : goal.trustees-init
trustees-init g c = record {
  of = record { set = c.requires.commits.set ∙ sym c.requires.set; plan = c.requires.commits.plan };
  stays = record { same = λ _. refl; kind = record { told = refl; honest = refl; steady = refl; room = refl } };
  count = refl;
  below = below-none;
  named = λ _. named-none _;
}

pub trustees-preserved : goal.trustees-preserved
trustees-preserved g c =
    let before = c.trustees.invariant in
    let t = c.trustees.t in
    let call = c.in_ok-is_blamed.ensures in
    let plan = c.n-t-end.ensures.plan.threshold in
    let few : t ≤ 12 = omega (arith, c.n-t-end.ensures.value, plan.n_within) in
    let P = IsBlamed (leaves_on g.V.Pages (pages_of c.args.commits.now)) c.args.session.now c.args.digest.now in
    let stays : PagesStay g.V.Pages g.V.Faults (pages_of c.args.commits.now) (pages_of c.is_blamed.new.commits) = record {
      same = λ told. call.looks.stays.same (rw before.stays.kind.told told) ∙ before.stays.same told;
      kind = record {
        told = call.looks.stays.kind.told ∙ before.stays.kind.told;
        honest = call.looks.stays.kind.honest ∙ before.stays.kind.honest;
        steady = call.looks.stays.kind.steady ∙ before.stays.kind.steady;
        room = call.looks.stays.kind.room ∙ before.stays.kind.room;
      };
    } in
    let count = call.looks.cause.succeeded ∙ before.count in
    elim c.if-branch.branch [
      | then-branch w ↦
          record {
            of = call.looks.same;
            stays = stays;
            count = count;
            below = below-more t c.trustees.bits _ before.below few w.bits-is;
            named = λ told.
                let blame = rw (ap (drop 32) (before.stays.same told)) at (call.blamed (rw before.stays.kind.told told)) in
                let yes = w.if-branch.true in
                named-more P t c.trustees.bits _ before.below few w.bits-is (blame.0 (cc)) (before.named told);
          }
      | else-branch w ↦
          rw w.bits-is (record {
            of = call.looks.same;
            stays = stays;
            count = count;
            below = below-other t c.trustees.bits before.below few;
            named = λ told.
                let blame = rw (ap (drop 32) (before.stays.same told)) at (call.blamed (rw before.stays.kind.told told)) in
                let no = w.if-branch.false in
                named-other P t c.trustees.bits (λ is. let yes = blame.1 is in cc) (before.named told);
          })
    ]

pub returns-clause-blamed : goal.returns-clause-blamed
returns-clause-blamed g c = λ told.
    let numbers = ap (λ (p : PlanNumbers). p.n) c.requires.commits.plan in
    rw c.of_bits.ensures (named-all (leaves_on g.V.Pages (pages_of c.args.commits.now)) c.args.session.now c.args.digest.now c.trustees.t c.trustees.bits
    c.leaf-q.ensures.session (omega (arith, c.n-t-end.ensures.value, numbers, c.trustees.auto.t-end)) (c.trustees.invariant.named told))

pub returns-clause-ascending : goal.returns-clause-ascending
unfolding member_numbers
returns-clause-ascending g c =
    let ascending = IsStrictlyIncreasing-from_IsAscendingIn 1 17 (member_numbers c.trustees.bits) (IsAscendingIn-trustees_from 1 16 c.trustees.bits) in
    rw c.of_bits.ensures ascending
