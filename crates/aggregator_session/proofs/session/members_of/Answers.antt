use Rattle.std.proofs.Common.{◌∙◌, arith}
use Rattle.coalition_map.proofs.MemberLaws.{below-none, below-all, below-more_in, below-more_out}
use Rattle.aggregator_session.proofs.session.members_of.Goals as goal
use Rattle.aggregator_session.proofs.session.members_of.Goals.{then-has+in_ok-push, else-has}

pub trustees-init : goal.trustees-init
trustees-init c = rw (below-none 1 _ 1 c.members_of-members.result c.members_of-members.ensures.subset.ascending (omega arith)) c.in_ok-list.ensures.items

pub trustees-preserved : goal.trustees-preserved
trustees-preserved c =
    elim c.if-has.branch [
      | then-has+in_ok-push w ↦
          let next = below-more_in 1 _ c.trustees.t c.members_of-members.result c.members_of-members.ensures.subset.ascending (c.has.ensures.0 w.if-has.true) in
          rw (next, w.list-is, ← c.trustees.invariant) w.in_ok-push.ensures.items
      | else-has w ↦
          let same = below-more_out c.trustees.t c.members_of-members.result (λ m. let has = c.has.ensures.1 m in let not = w.if-has.false in cc) in
          rw (same, w.list-is) c.trustees.invariant
    ]

pub returns : goal.returns
returns c =
    let all = below-all 1 _ c.trustees.t c.members_of-members.result c.members_of-members.ensures.subset.ascending (omega arith) in
    rw all at c.trustees.invariant ∙ c.members_of-members.ensures.members
